use Rattle.kept_tables.proofs.NamedTables.{outcomes_are_of_named}
use Rattle.kept_tables.proofs.kept_laws.outcomes_are_of_named.Goals as goal

pub returns : goal.returns
returns c = outcomes_are_of_named
