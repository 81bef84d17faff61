use Rattle.table_laws.proofs.TwoTables.{merged_tiles_are_meant}
use Rattle.table_laws.proofs.tiled_queries.merged_tiles_are_meant.Goals as goal

pub returns : goal.returns
returns c = merged_tiles_are_meant
