use Rattle.geometry_model.specs.Geometries.{rings}
use Rattle.geometry_laws.specs.RingLaws.{IsClosed}
use Rattle.geometry_laws.proofs.RingParity.{each_from_all}
use Rattle.matrix_laws.proofs.Closing.{valid_rings_are_closed}
use Rattle.matrix_laws.proofs.Labelled.{labelled_is_matrix}
use Rattle.matrix_laws.proofs.labels_are_point_sets.Goals as goal

pub returns : goal.returns
returns _ a b va vb = labelled_is_matrix a b (each_from_all IsClosed (rings a) (valid_rings_are_closed a va)) (each_from_all IsClosed (rings b) (valid_rings_are_closed b vb))
