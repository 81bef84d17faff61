use Rattle.grammar_laws.proofs.Filtering.{conjuncts_are_true}
use Rattle.grammar_laws.proofs.filters.conjuncts_are_true.Goals as goal

pub returns : goal.returns
returns g c = conjuncts_are_true g.row.G.Denot g.row.A.Denot
