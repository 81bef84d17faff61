use Rattle.table_model.specs.QueryReading.{where_condition}
use Rattle.sql_text.specs.Queries.{with_limit}
use Rattle.sql_text.proofs.QueryParts.{goes_on}
use Rattle.sql_text.proofs.select_reader.ending.Goals as goal

pub returns : goal.returns
returns c =
    goes_on (where_condition c.args.tokens.now) with_limit c.where_condition.result c.with_limit.result c.where_condition.new.tokens _ c.where_condition.ensures c.with_limit.ensures.ok c.with_limit.ensures.err
