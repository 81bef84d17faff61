use Rattle.std.proofs.Common.{rules}
use Rattle.wkt.proofs.list_reader.Room.whole.Goals as goal

pub returns : goal.returns
returns c = search rules
