use Rattle.grammar_laws.proofs.QueryRuleFacts.{statements_agree}
use Rattle.grammar_laws.proofs.rules.statements_agree.Goals as goal

pub returns : goal.returns
returns c = statements_agree
