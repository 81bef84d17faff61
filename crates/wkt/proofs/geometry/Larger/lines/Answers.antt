use Rattle.std.proofs.Common.{rules}
use Rattle.wkt.proofs.geometry.Larger.lines.Goals as goal

pub returns-in-MultiPolygon : goal.returns-in-MultiPolygon
returns-in-MultiPolygon c = search rules
