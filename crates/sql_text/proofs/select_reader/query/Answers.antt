use Rattle.std.proofs.Common.{rules}
use Rattle.sql_text.proofs.QueryParts.{query_is}
use Rattle.sql_text.proofs.select_reader.query.Goals as goal

pub returns-in_err-head : goal.returns-in_err-head
returns-in_err-head c = rw (query_is c.args.tokens.now) (search rules)

pub returns-in_err-sources : goal.returns-in_err-sources
returns-in_err-sources c = rw (query_is c.args.tokens.now) (search rules)

pub returns : goal.returns
returns c = rw (query_is c.args.tokens.now) (search rules)
