use Rattle.table_laws.proofs.Candidates.{first_rows_are_meant}
use Rattle.table_laws.proofs.candidate_laws.first_rows_are_meant.Goals as goal

pub returns : goal.returns
returns c = first_rows_are_meant
