use Rattle.library_calls.proofs.BoundsFacts.{overlap_is_shared}
use Rattle.library_calls.proofs.index_laws.overlap_is_shared.Goals as goal

pub returns : goal.returns
returns c = overlap_is_shared
