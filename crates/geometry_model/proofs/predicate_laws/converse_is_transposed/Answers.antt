use Rattle.geometry_model.proofs.PredicateFacts.{holds-transposed}
use Rattle.geometry_model.proofs.predicate_laws.converse_is_transposed.Goals as goal

pub returns : goal.returns
returns c = holds-transposed
