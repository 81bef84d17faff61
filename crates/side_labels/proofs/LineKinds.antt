-- The lines of a geometry of lines.
use Rattle.std.proofs.Common.{◌≡◌, refl}
use Rattle.geometry_model.specs.Geometries.{Geometry, kind, lines}
use Rattle.geometry_model.specs.declared.shapes.Kind.TheVariants as kinds
use Rattle.validity.specs.OddEnds.{ended_lines}

-- in a geometry of lines each line's ends may be a boundary, so these are all its lines
pub lines_end : (g : Geometry) → kind g ≡ kinds.Line → ended_lines g ≡ lines g
lines_end (Geometry.Point p) e = absurd cc
lines_end (Geometry.MultiPoint ps) e = absurd cc
lines_end (Geometry.LineString ps) e = refl
lines_end (Geometry.MultiLineString ls) e = refl
lines_end (Geometry.Polygon rs) e = absurd cc
lines_end (Geometry.MultiPolygon es) e = absurd cc
