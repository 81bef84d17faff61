use Rattle.table_laws.proofs.Candidates.{probes_lose_none}
use Rattle.table_laws.proofs.candidate_laws.probes_lose_none.Goals as goal

pub returns : goal.returns
returns c = probes_lose_none
