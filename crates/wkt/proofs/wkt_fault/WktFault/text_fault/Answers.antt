use Rattle.std.proofs.Common.{rules}
use Rattle.wkt.proofs.wkt_fault.WktFault.text_fault.Goals as goal

pub returns-in-OffGrid : goal.returns-in-OffGrid
returns-in-OffGrid c = search rules
