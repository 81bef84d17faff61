use Rattle.table_laws.proofs.Narrowing.{copied_columns_are_seen}
use Rattle.table_laws.proofs.narrow_queries.copied_columns_are_seen.Goals as goal

pub returns : goal.returns
returns c = copied_columns_are_seen
