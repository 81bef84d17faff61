-- Which geometry a content is.
use Rattle.geometry_model.specs.Geometries.{Geometry, Point, MultiPoint, LineString, MultiLineString, Polygon, MultiPolygon}
use Rattle.wkt.specs.declared.geometry.Larger.{Larger}
use Rattle.wkt.specs.declared.geometry.Larger.TheVariants as larger
use Rattle.wkt.specs.declared.geometry.Shape.{Shape}
use Rattle.wkt.specs.declared.geometry.Shape.TheVariants as shape

-- the geometry that a content is, type by type (06-103r4, 6.1.4 to 6.1.14)
abbrev pub larger_in : Larger → Geometry
larger_in (larger.MultiPoint positions) = MultiPoint positions.items
larger_in (larger.LineString line) = LineString line
larger_in (larger.MultiLineString lines) = MultiLineString lines.items
larger_in (larger.Polygon rings) = Polygon rings.items
larger_in (larger.MultiPolygon polygons) = MultiPolygon polygons

abbrev pub geometry_in : Shape → Geometry
geometry_in (shape.Point position) = Point position
geometry_in (shape.Larger content) = larger_in content.value
