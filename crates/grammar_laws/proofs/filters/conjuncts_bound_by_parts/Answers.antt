use Rattle.grammar_laws.proofs.WrittenConjuncts.{by_written_parts}
use Rattle.grammar_laws.proofs.filters.conjuncts_bound_by_parts.Goals as goal

pub returns : goal.returns
returns g c = by_written_parts
