use Rattle.matrix_laws.proofs.Showing.{seen_below_is_face_point}
use Rattle.matrix_laws.proofs.witness_laws.seen_below_is_face_point.Goals as goal

pub returns : goal.returns
returns _ = seen_below_is_face_point
