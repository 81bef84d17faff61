use Rattle.std.proofs.Common.{rules}
use Rattle.edge_boxes.proofs.building.leaf_box.Goals as goal

pub returns-in-Ok : goal.returns-in-Ok
returns-in-Ok c = search rules
