use Rattle.table_laws.proofs.Narrowing.{columns_can_be_left_out}
use Rattle.table_laws.proofs.narrow_queries.columns_can_be_left_out.Goals as goal

pub returns : goal.returns
returns c = columns_can_be_left_out
