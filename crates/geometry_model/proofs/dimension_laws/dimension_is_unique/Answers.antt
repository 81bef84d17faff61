use Rattle.std.proofs.Common.{IsTrue}
use Rattle.geometry_model.proofs.DimensionFacts.{only_dimension}
use Rattle.geometry_model.proofs.dimension_laws.dimension_is_unique.Goals as goal

pub returns : goal.returns
returns c = λ S d e h k. only_dimension (λ p. IsTrue (S p)) d e h k
