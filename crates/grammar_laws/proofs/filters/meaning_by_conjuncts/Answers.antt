use Rattle.grammar_laws.proofs.Filtering.{meaning_by_conjuncts}
use Rattle.grammar_laws.proofs.filters.meaning_by_conjuncts.Goals as goal

pub returns : goal.returns
returns g c = meaning_by_conjuncts g.row.G.Denot g.row.A.Denot g.row.C.Denot
