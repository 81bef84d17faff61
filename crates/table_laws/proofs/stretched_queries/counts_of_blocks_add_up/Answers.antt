use Rattle.table_laws.proofs.Blocks.{counts_of_blocks_add_up}
use Rattle.table_laws.proofs.stretched_queries.counts_of_blocks_add_up.Goals as goal

pub returns : goal.returns
returns c = counts_of_blocks_add_up
