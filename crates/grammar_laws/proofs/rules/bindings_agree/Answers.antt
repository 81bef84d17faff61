use Rattle.grammar_laws.proofs.QueryRuleFacts.{bindings_agree}
use Rattle.grammar_laws.proofs.rules.bindings_agree.Goals as goal

pub returns : goal.returns
returns c = bindings_agree
