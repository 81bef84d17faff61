use Rattle.std.proofs.Common.{rules}
use Rattle.spatial_sql.proofs.sides.operand_side.Goals as goal

pub returns-in-Null-clause-no_memory : goal.returns-in-Null-clause-no_memory
returns-in-Null-clause-no_memory c = search rules
