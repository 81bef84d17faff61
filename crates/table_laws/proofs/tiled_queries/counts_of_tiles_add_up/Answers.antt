use Rattle.table_laws.proofs.TwoTables.{counts_of_tiles_add_up}
use Rattle.table_laws.proofs.tiled_queries.counts_of_tiles_add_up.Goals as goal

pub returns : goal.returns
returns c = counts_of_tiles_add_up
