use Rattle.grammar_laws.proofs.GeometryRuleFacts.{conditions_agree}
use Rattle.grammar_laws.proofs.rules.conditions_agree.Goals as goal

pub returns : goal.returns
returns c = conditions_agree
