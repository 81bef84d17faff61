use Rattle.matrix_laws.proofs.GapTheorems.{sides_of_no_area}
use Rattle.matrix_laws.proofs.gap_sides.sides_of_no_area.Goals as goal

pub returns : goal.returns
returns _ = sides_of_no_area
