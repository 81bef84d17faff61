use Rattle.table_laws.proofs.Candidates.{selected_ascend}
use Rattle.table_laws.proofs.candidate_laws.selected_ascend.Goals as goal

pub returns : goal.returns
returns c = selected_ascend
