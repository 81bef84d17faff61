use Rattle.std.proofs.Common.{refl}
use Rattle.edge_boxes.proofs.box_laws.crossings_of_lines.Goals as goal

pub returns : goal.returns
returns c = λ ls p. (refl, refl, refl)
