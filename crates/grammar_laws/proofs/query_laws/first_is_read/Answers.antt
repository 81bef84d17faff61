use Rattle.grammar_laws.proofs.QueryFirst.{first_is_read}
use Rattle.grammar_laws.proofs.query_laws.first_is_read.Goals as goal

pub returns : goal.returns
returns c = first_is_read
