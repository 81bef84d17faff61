use Rattle.kept_tables.proofs.NamedTables.{rows_are_of_named}
use Rattle.kept_tables.proofs.kept_laws.rows_are_of_named.Goals as goal

pub returns : goal.returns
returns c = rows_are_of_named
