use Rattle.grammar_laws.proofs.BoundFacts.{geometry_queries_are_bound}
use Rattle.grammar_laws.proofs.bound_queries.geometry_queries_are_bound.Goals as goal

pub returns : goal.returns
returns c = geometry_queries_are_bound
