use Rattle.std.proofs.Common.{rules}
use Rattle.spatial_sql.proofs.logic.not.Goals as goal

pub returns-in-Unknown : goal.returns-in-Unknown
returns-in-Unknown c = search rules
