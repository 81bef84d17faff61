use Rattle.tiles.proofs.WholeTables.{loaded_is_whole as law}
use Rattle.tiles.proofs.written_laws.loaded_is_whole.Goals as goal

pub returns : goal.returns
returns c = law
