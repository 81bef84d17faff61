use Rattle.std.specs.Io.KnownBytes.{Keeps}
use Rattle.streams.proofs.interruptions.write_again.Given as goal

-- nothing was written so far
abbrev pub invariant-loop : goal.invariant-loop
invariant-loop g l = Keeps (g.W.Write.contents l.initial.stream) (g.W.Write.contents l.stream)
