use Rattle.std.proofs.Common.{rules}
use Rattle.spatial_sql.proofs.argument_binding.geometry_only.Goals as goal

pub returns-in-Geometry : goal.returns-in-Geometry
returns-in-Geometry c = search rules
