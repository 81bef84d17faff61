use Rattle.tiles.proofs.WholeTables.{checked_is_whole as law}
use Rattle.tiles.proofs.written_laws.checked_is_whole.Goals as goal

pub returns : goal.returns
returns c = law
