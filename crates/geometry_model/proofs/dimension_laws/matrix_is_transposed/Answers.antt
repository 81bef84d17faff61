use Rattle.geometry_model.proofs.DimensionFacts.{matrix-transposed}
use Rattle.geometry_model.proofs.dimension_laws.matrix_is_transposed.Goals as goal

pub returns : goal.returns
returns c = matrix-transposed
