use Rattle.grammar_laws.proofs.QueryLaws.{query_is_read}
use Rattle.grammar_laws.proofs.query_laws.query_is_read.Goals as goal

pub returns : goal.returns
returns c = query_is_read
