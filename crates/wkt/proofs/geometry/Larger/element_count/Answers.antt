use Rattle.std.proofs.Common.{rules}
use Rattle.wkt.proofs.geometry.Larger.element_count.Goals as goal

pub returns-in-Polygon : goal.returns-in-Polygon
returns-in-Polygon c = search rules
