use Rattle.grammar_laws.proofs.QueryRefused.{query_of_applies}
use Rattle.grammar_laws.proofs.query_laws.refusal_applies.Goals as goal

pub returns : goal.returns
returns c = query_of_applies
