use Rattle.table_laws.proofs.Candidates.{ordered_are_selected}
use Rattle.table_laws.proofs.candidate_laws.ordered_are_selected.Goals as goal

pub returns : goal.returns
returns c = ordered_are_selected
