use Rattle.std.proofs.Common.{◌∙◌, ap, is_ok}
use Rattle.statements.proofs.SearchFacts.{inserted_is}
use Rattle.statements.proofs.replacing.inserted.Goals as goal

pub returns : goal.returns
returns c =
    c.from_vec.ensures
    ∙ inserted_is (is_ok c.insert.result) c.insert.new.self.items _ c.args.conditions c.args.at c.args.condition
    c.insert.ensures.items (ap is_ok c.in_ok-insert.was) c.in_ok-moved.ensures
