use Rattle.geometry_laws.proofs.Views.{face_point_above}
use Rattle.geometry_laws.proofs.face_laws.face_point_above.Goals as goal

pub returns : goal.returns
returns _ = face_point_above
