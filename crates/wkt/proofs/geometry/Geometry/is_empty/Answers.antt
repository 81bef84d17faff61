use Rattle.std.proofs.Common.{rules}
use Rattle.wkt.proofs.geometry.Geometry.is_empty.Goals as goal

pub returns-in-Point : goal.returns-in-Point
returns-in-Point c = search rules
