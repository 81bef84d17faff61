use Rattle.std.proofs.Common.{rules}
use Rattle.spatial_sql.proofs.argument_binding.literal.Goals as goal

pub returns : goal.returns
returns c = search rules
