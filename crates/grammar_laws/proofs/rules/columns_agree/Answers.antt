use Rattle.grammar_laws.proofs.NameFacts.{columns_agree}
use Rattle.grammar_laws.proofs.rules.columns_agree.Goals as goal

pub returns : goal.returns
returns g c = columns_agree g.row.T.Denot
