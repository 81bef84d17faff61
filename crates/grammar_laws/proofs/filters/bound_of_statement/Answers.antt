use Rattle.grammar_laws.proofs.Filtering.{bound_of_statement}
use Rattle.grammar_laws.proofs.filters.bound_of_statement.Goals as goal

pub returns : goal.returns
returns g c = bound_of_statement g.row.T.Denot g.row.A.Denot g.row.B.Denot g.row.C.Denot g.row.D.Denot
