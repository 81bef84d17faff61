use Rattle.table_laws.proofs.TwoTables.{tiles_give_rows}
use Rattle.table_laws.proofs.tiled_queries.tiles_give_rows.Goals as goal

pub returns : goal.returns
returns c = tiles_give_rows
