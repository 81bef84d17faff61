use Rattle.geometry_laws.proofs.Views.{face_point_below}
use Rattle.geometry_laws.proofs.face_laws.face_point_below.Goals as goal

pub returns : goal.returns
returns _ = face_point_below
