use Rattle.tiles.proofs.GridLemmas.{loaded_are_on_grid}
use Rattle.tiles.proofs.written_laws.loaded_are_on_grid.Goals as goal

pub returns : goal.returns
returns c = loaded_are_on_grid
