use Rattle.table_laws.proofs.Candidates.{passing_are_permuted}
use Rattle.table_laws.proofs.candidate_laws.passing_are_permuted.Goals as goal

pub returns : goal.returns
returns c = passing_are_permuted
