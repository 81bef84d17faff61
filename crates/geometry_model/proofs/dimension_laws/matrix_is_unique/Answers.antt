use Rattle.geometry_model.proofs.DimensionFacts.{only_matrix}
use Rattle.geometry_model.proofs.dimension_laws.matrix_is_unique.Goals as goal

pub returns : goal.returns
returns c = only_matrix
