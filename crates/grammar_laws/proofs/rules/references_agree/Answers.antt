use Rattle.grammar_laws.proofs.FromFacts.{references_agree}
use Rattle.grammar_laws.proofs.rules.references_agree.Goals as goal

pub returns : goal.returns
returns g c = references_agree g.row.T.Denot
