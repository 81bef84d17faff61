use Rattle.table_laws.proofs.Fits.{rows_fit as law}
use Rattle.table_laws.proofs.loading_laws.rows_fit.Goals as goal

pub returns : goal.returns
returns c c' = law _ _
