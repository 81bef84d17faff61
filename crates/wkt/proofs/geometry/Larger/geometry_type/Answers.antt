use Rattle.std.proofs.Common.{rules}
use Rattle.wkt.proofs.geometry.Larger.geometry_type.Goals as goal

pub returns-in-MultiPoint : goal.returns-in-MultiPoint
returns-in-MultiPoint c = search rules
