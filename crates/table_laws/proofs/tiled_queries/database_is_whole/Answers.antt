use Rattle.table_laws.proofs.KeyOrder.{database_is_whole}
use Rattle.table_laws.proofs.tiled_queries.database_is_whole.Goals as goal

pub returns : goal.returns
returns c = database_is_whole
