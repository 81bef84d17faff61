use Rattle.tiles.proofs.CheckedLoads.{checked_is_loaded}
use Rattle.tiles.proofs.written_laws.checked_is_loaded.Goals as goal

pub returns : goal.returns
returns c = checked_is_loaded
