use Rattle.table_laws.proofs.Fits.{required_are_filled as law}
use Rattle.table_laws.proofs.loading_laws.required_are_filled.Goals as goal

pub returns : goal.returns
returns c c' = law _ _
