use Rattle.grammar_laws.proofs.Filtering.{conjuncts_by_parts}
use Rattle.grammar_laws.proofs.filters.conjuncts_by_parts.Goals as goal

pub returns : goal.returns
returns g c = conjuncts_by_parts g.row.A.Denot
