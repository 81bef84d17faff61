use Rattle.std.proofs.Common.{rules}
use Rattle.spatial_sql.proofs.comparison_values.compared.Goals as goal

pub returns : goal.returns
returns c = search rules
