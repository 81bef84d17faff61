use Rattle.std.proofs.Common.{rules}
use Rattle.edge_boxes.proofs.rings.clash.Goals as goal

pub returns-then-j-count : goal.returns-then-j-count
returns-then-j-count c = search rules
