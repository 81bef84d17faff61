use Rattle.std.proofs.Common.{rules}
use Rattle.sql_text.proofs.QueryParts.{joined_on_is}
use Rattle.sql_text.proofs.reference_reader.joined_on.Goals as goal

pub returns-in_err-second : goal.returns-in_err-second
returns-in_err-second c = rw (joined_on_is c.args.tokens.now) (search rules)

pub returns-in-Ok : goal.returns-in-Ok
returns-in-Ok c = rw (joined_on_is c.args.tokens.now) (search rules)

pub returns : goal.returns
returns c = rw (joined_on_is c.args.tokens.now) (search rules)
