use Rattle.std.proofs.Common.{rules}
use Rattle.edge_boxes.proofs.point_crossings.spans.Goals as goal

pub returns : goal.returns
returns c = search rules
