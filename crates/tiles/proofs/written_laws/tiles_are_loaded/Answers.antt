use Rattle.tiles.proofs.LoadedParts.{tiles_are_loaded as law}
use Rattle.tiles.proofs.written_laws.tiles_are_loaded.Goals as goal

pub returns : goal.returns
returns c = law
