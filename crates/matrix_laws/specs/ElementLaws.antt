-- Laws of a MULTIPOLYGON and its elements.
use Rattle.std.specs.Prelude.{◌≡◌, ◌≢◌, ◌↔◌, ℕ, List, Contains, Some, slice_get}
use Rattle.geometry_model.specs.Points.{Position, Point, IsPoint}
use Rattle.geometry_model.specs.Geometries.{Geometry, Polygon, MultiPolygon, elements}
use Rattle.geometry_model.specs.Locations.{locate}
use Rattle.geometry_model.specs.Validity.{IsValid}
use Rattle.geometry_model.specs.declared.point_sets.Location.TheVariants.{Interior, Boundary, Exterior}

-- each element of a valid area is a valid polygon (06-103r4, 6.1.14)
abbrev pub ElementsAreValid : Type 0
ElementsAreValid = (g : Geometry) → IsValid g → (rings : List (List Position)) → Contains (elements g) rings → IsValid (Polygon rings)

-- a point is in the interior of a valid MULTIPOLYGON exactly when it is in the interior of one of its elements (06-103r4, 6.1.14)
abbrev pub InteriorIsOfAnElement : Type 0
InteriorIsOfAnElement = (es : List (List (List Position))) → IsValid (MultiPolygon es) → (p : Point) → IsPoint p
    → (locate (MultiPolygon es) p ≡ Interior) ↔ ((rings : List (List Position)) × Contains es rings × (locate (Polygon rings) p ≡ Interior))

-- and it is never in two: what isn't in the exterior of one element is in the exterior of every other (06-103r4, 6.1.14)
abbrev pub NeverInTwo : Type 0
NeverInTwo = (es : List (List (List Position))) → IsValid (MultiPolygon es) → (i j : ℕ) (one other : List (List Position)) → i ≢ j → slice_get es i ≡ Some one → slice_get es j ≡ Some other
    → (p : Point) → IsPoint p → locate (Polygon one) p ≢ Exterior → locate (Polygon other) p ≡ Exterior

-- the boundary of a MULTIPOLYGON is the union of its elements' boundaries (06-103r4, 6.1.14)
abbrev pub BoundaryIsOfElements : Type 0
BoundaryIsOfElements = (es : List (List (List Position))) (p : Point) → (locate (MultiPolygon es) p ≡ Boundary) ↔ ((rings : List (List Position)) × Contains es rings × (locate (Polygon rings) p ≡ Boundary))
