use Rattle.kept_tables.proofs.LoadedTables.{kept_answers_are_the_wholes}
use Rattle.kept_tables.proofs.kept_laws.kept_answers_are_the_wholes.Goals as goal

pub returns : goal.returns
returns c = kept_answers_are_the_wholes
