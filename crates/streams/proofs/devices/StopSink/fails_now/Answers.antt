use Rattle.std.proofs.Common.{rules}
use Rattle.streams.proofs.devices.StopSink.fails_now.Goals as goal

pub returns-clause-fails : goal.returns-clause-fails
returns-clause-fails c = search rules
