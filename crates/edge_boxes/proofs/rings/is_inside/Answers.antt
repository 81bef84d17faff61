use Rattle.std.proofs.Common.{rules}
use Rattle.edge_boxes.proofs.rings.is_inside.Goals as goal

pub returns : goal.returns
returns c = search rules
