use Rattle.sfq_tables.proofs.SteppedRows as rows
use Rattle.sfq_tables.proofs.stepped_answers.steps_give_runs.Goals as goal

pub returns : goal.returns
returns c = rows.steps_give_runs c.answers_are_written.ensures c.kept_answers_are_runs.ensures
