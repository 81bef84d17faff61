use Rattle.table_laws.proofs.Loads.{ascend as law}
use Rattle.table_laws.proofs.loading_laws.rows_ascend.Goals as goal

pub returns : goal.returns
returns c c' = law _ _
