-- No byte was moved before this turn, and none where this one fails.
use Rattle.std.proofs.KnownBytes.{Keeps-trans}
use Rattle.streams.proofs.interruptions.write_again.Goals as goal

pub returns-in_default-clause-bytes : goal.returns-in_default-clause-bytes
returns-in_default-clause-bytes g c = Keeps-trans _ _ _ c.loop.invariant c.in-Err.ensures.bytes

pub loop-preserved : goal.loop-preserved
loop-preserved g c = Keeps-trans _ _ _ c.loop.invariant c.in-Err.ensures.bytes
