use Rattle.grammar_laws.proofs.QueryLaws.{read_is_query}
use Rattle.grammar_laws.proofs.query_laws.read_is_query.Goals as goal

pub returns : goal.returns
returns c = read_is_query
