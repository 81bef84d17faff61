use Rattle.kept_tables.proofs.LoadedTables.{kept_answers_are_runs}
use Rattle.kept_tables.proofs.kept_laws.kept_answers_are_runs.Goals as goal

pub returns : goal.returns
returns c = kept_answers_are_runs
