use Rattle.tiles.proofs.MadeTiles.{made_tiles_are_marked as law}
use Rattle.tiles.proofs.written_laws.made_tiles_are_marked.Goals as goal

pub returns : goal.returns
returns c = law
