use Rattle.table_model.proofs.TruthFacts.{nested_ands_are_one}
use Rattle.table_model.proofs.truths.nested_ands_are_one.Goals as goal

pub returns : goal.returns
returns c = nested_ands_are_one
