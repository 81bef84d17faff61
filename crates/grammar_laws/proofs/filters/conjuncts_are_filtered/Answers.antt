use Rattle.grammar_laws.proofs.Filtering.{conjuncts_are_filtered}
use Rattle.grammar_laws.proofs.filters.conjuncts_are_filtered.Goals as goal

pub returns : goal.returns
returns g c = conjuncts_are_filtered g.row.G.Denot g.row.A.Denot g.row.C.Denot
