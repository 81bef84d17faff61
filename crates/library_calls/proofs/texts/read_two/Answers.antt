use Rattle.std.proofs.Common.{sym, ◌∙◌}
use Rattle.library_calls.proofs.Spelling.{spelled}
use Rattle.library_calls.proofs.texts.read_two.Goals as goal

pub returns-in-Ok-clause-second : goal.returns-in-Ok-clause-second
returns-in-Ok-clause-second c = spelled c.read_is_spelled.ensures c.args.second.now c.in-Ok.other (sym c.in_ok-other.ensures ∙ c.in-Ok.is)
