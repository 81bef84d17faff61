use Rattle.grammar_laws.proofs.QueryLaws.{references_are_few}
use Rattle.grammar_laws.proofs.query_laws.references_are_few.Goals as goal

pub returns : goal.returns
returns c = references_are_few
