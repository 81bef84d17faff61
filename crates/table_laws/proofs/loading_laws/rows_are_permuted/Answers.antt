use Rattle.table_laws.proofs.Loads.{are_permuted as law}
use Rattle.table_laws.proofs.loading_laws.rows_are_permuted.Goals as goal

pub returns : goal.returns
returns c c' = law _ _
