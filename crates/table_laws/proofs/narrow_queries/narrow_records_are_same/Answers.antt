use Rattle.table_laws.proofs.Narrowing.{narrow_records_are_same}
use Rattle.table_laws.proofs.narrow_queries.narrow_records_are_same.Goals as goal

pub returns : goal.returns
returns c = narrow_records_are_same
