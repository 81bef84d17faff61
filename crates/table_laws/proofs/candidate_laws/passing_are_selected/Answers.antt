use Rattle.table_laws.proofs.Candidates.{passing_are_selected}
use Rattle.table_laws.proofs.candidate_laws.passing_are_selected.Goals as goal

pub returns : goal.returns
returns c = passing_are_selected
