use Rattle.table_laws.proofs.KeyOrder.{sorted_tile_is_tile}
use Rattle.table_laws.proofs.tiled_queries.sorted_tile_is_tile.Goals as goal

pub returns : goal.returns
returns c = sorted_tile_is_tile
