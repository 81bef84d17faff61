use Rattle.tiles.proofs.TileRows.{tiles_are_read}
use Rattle.tiles.proofs.written_laws.tiles_are_read.Goals as goal

pub returns : goal.returns
returns c = tiles_are_read
