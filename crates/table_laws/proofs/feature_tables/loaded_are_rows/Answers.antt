use Rattle.table_laws.proofs.ReadGeometries.{loaded_are_rows as law}
use Rattle.table_laws.proofs.feature_tables.loaded_are_rows.Goals as goal

pub returns : goal.returns
returns c = law
