use Rattle.geometry_model.specs.Geometries.{rings}
use Rattle.geometry_laws.specs.RingLaws.{IsClosed}
use Rattle.geometry_laws.proofs.RingParity.{each_from_all}
use Rattle.matrix_laws.proofs.Labelled.{labelled_is_matrix}
use Rattle.matrix_laws.proofs.labelled_is_matrix.Goals as goal

pub returns : goal.returns
returns _ a b ca cb = labelled_is_matrix a b (each_from_all IsClosed (rings a) ca) (each_from_all IsClosed (rings b) cb)
