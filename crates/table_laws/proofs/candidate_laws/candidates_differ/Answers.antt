use Rattle.table_laws.proofs.Candidates.{candidates_differ}
use Rattle.table_laws.proofs.candidate_laws.candidates_differ.Goals as goal

pub returns : goal.returns
returns c = candidates_differ
