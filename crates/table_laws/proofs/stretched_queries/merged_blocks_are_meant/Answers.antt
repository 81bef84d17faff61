use Rattle.table_laws.proofs.Blocks.{merged_blocks_are_meant}
use Rattle.table_laws.proofs.stretched_queries.merged_blocks_are_meant.Goals as goal

pub returns : goal.returns
returns c = merged_blocks_are_meant
