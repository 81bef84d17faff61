use Rattle.tiles.proofs.LoadedParts.{stretches_are_loaded as law}
use Rattle.tiles.proofs.written_laws.stretches_are_loaded.Goals as goal

pub returns : goal.returns
returns c = law
