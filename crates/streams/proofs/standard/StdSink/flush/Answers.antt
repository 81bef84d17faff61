use Rattle.std.proofs.Common.{rules}
use Rattle.streams.proofs.standard.StdSink.flush.Goals as goal

pub returns-then-is_err-clause-failures : goal.returns-then-is_err-clause-failures
returns-then-is_err-clause-failures g c = search rules
