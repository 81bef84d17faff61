use Rattle.std.proofs.Common.{rules}
use Rattle.streams.proofs.devices.StopReaderRead.read.Goals as goal

pub returns-clause-stops : goal.returns-clause-stops
returns-clause-stops c = search rules
