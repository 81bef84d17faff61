use Rattle.table_laws.proofs.KeyOrder.{tile_is_keyed}
use Rattle.table_laws.proofs.tiled_queries.tile_is_keyed.Goals as goal

pub returns : goal.returns
returns c = tile_is_keyed
