use Rattle.std.specs.Io.KnownBytes.{Keeps}
use Rattle.streams.specs.Readers.{patient_under}
use Rattle.streams.proofs.interruptions.PatientReaderRead.read.Given as goal

-- nothing was read so far
abbrev pub invariant-loop : goal.invariant-loop
invariant-loop g l = Keeps (g.R.Read.remaining (patient_under l.fn.self)) (g.R.Read.remaining (patient_under l.self))
