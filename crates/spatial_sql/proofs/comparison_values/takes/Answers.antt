use Rattle.std.proofs.Common.{rules}
use Rattle.spatial_sql.proofs.comparison_values.takes.Goals as goal

pub returns-in-Less : goal.returns-in-Less
returns-in-Less c = search rules
