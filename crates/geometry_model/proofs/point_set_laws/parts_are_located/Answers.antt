use Rattle.geometry_model.proofs.PointSetFacts.{locates_interior, locates_boundary, locates_exterior}
use Rattle.geometry_model.proofs.point_set_laws.parts_are_located.Goals as goal

pub returns-clause-interior : goal.returns-clause-interior
returns-clause-interior c = locates_interior

pub returns-clause-boundary : goal.returns-clause-boundary
returns-clause-boundary c = locates_boundary

pub returns-clause-exterior : goal.returns-clause-exterior
returns-clause-exterior c = locates_exterior
