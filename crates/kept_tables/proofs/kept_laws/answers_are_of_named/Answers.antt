use Rattle.kept_tables.proofs.NamedTables.{answers_are_of_named}
use Rattle.kept_tables.proofs.kept_laws.answers_are_of_named.Goals as goal

pub returns : goal.returns
returns c = answers_are_of_named
