use Rattle.kept_tables.proofs.NamedTables.{plans_are_of_named}
use Rattle.kept_tables.proofs.kept_laws.plans_are_of_named.Goals as goal

pub returns : goal.returns
returns c = plans_are_of_named
