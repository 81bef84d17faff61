use Rattle.table_laws.proofs.Blocks.{blocks_give_rows}
use Rattle.table_laws.proofs.stretched_queries.blocks_give_rows.Goals as goal

pub returns : goal.returns
returns c = blocks_give_rows
