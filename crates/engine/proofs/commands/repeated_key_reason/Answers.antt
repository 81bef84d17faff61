-- The records of the text are all of it.
use Rattle.std.proofs.Common.{Some}
use Rattle.engine.proofs.commands.repeated_key_reason.Goals as goal

pub returns : goal.returns
returns c = c.same_key.ensures.reason (Some c.args.text.now) c.new-records.ensures.gives
