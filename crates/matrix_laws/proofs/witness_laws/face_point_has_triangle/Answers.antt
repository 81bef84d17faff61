use Rattle.matrix_laws.proofs.Showing.{face_point_has_triangle}
use Rattle.matrix_laws.proofs.witness_laws.face_point_has_triangle.Goals as goal

pub returns : goal.returns
returns _ = face_point_has_triangle
