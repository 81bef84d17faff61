use Rattle.geometry_model.proofs.PointSetFacts.{parts_plane}
use Rattle.geometry_model.proofs.point_set_laws.parts_make_the_plane.Goals as goal

pub returns : goal.returns
returns c = parts_plane
