use Rattle.matrix_laws.proofs.Showing.{seen_above_is_face_point}
use Rattle.matrix_laws.proofs.witness_laws.seen_above_is_face_point.Goals as goal

pub returns : goal.returns
returns _ = seen_above_is_face_point
