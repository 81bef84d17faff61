use Rattle.geometry_laws.proofs.PieceTheorems.{off_has_triangle}
use Rattle.geometry_laws.proofs.neighbourhoods.off_has_triangle.Goals as goal

pub returns : goal.returns
returns c = off_has_triangle
