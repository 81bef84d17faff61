use Rattle.std.proofs.Common.{rules}
use Rattle.edge_boxes.proofs.bounds.Bounds.of.Goals as goal

pub returns : goal.returns
returns c = search rules
