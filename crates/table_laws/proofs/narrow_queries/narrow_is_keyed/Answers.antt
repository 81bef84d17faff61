use Rattle.table_laws.proofs.NarrowTables.{narrow_is_keyed}
use Rattle.table_laws.proofs.narrow_queries.narrow_is_keyed.Goals as goal

pub returns : goal.returns
returns c = narrow_is_keyed
