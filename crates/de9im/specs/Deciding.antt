-- Whether a predicate holds of two geometries, and where that is known without their matrix.
use Rattle.std.specs.Prelude.{◌≡◌, ◌≢◌, Bool, true, false, Option, Some, None}
use Rattle.geometry_model.specs.Dimensions.{IsMatrix, Matrix}
use Rattle.geometry_model.specs.Envelopes.{envelope, meets}
use Rattle.geometry_model.specs.Geometries.{Edge, Geometry, kind}
use Rattle.geometry_model.specs.Locations.{locate}
use Rattle.geometry_model.specs.Points.{Point, IsPoint, point_at}
use Rattle.geometry_model.specs.Predicates.{holds}
use Rattle.geometry_model.specs.Labels.{labelled_matrix}
use Rattle.geometry_model.specs.Validity.{IsValid}
use Rattle.geometry_model.specs.declared.point_sets.Location.{Location}
use Rattle.geometry_model.specs.declared.point_sets.Location.TheVariants.{Exterior}
use Rattle.geometry_model.specs.declared.relations.Predicate.{Predicate}
use Rattle.geometry_model.specs.declared.relations.Predicate.TheVariants as predicates
use Rattle.geometry_model.specs.declared.shapes.Kind.{Kind}
use Rattle.geometry_model.specs.declared.shapes.Kind.TheVariants as kinds
use Rattle.de9im.specs.Raising.{beside_area}

-- this is whether the predicate holds of two geometries, by their matrix (06-103r4, 6.1.15.3)
pub record IsDecided (predicate : Predicate) (one other : Geometry) (answer : Bool) : Type 0 where
  pub matrix : Matrix
  pub is_matrix : IsMatrix one other matrix
  pub exact : answer ≡ holds predicate (kind one) (kind other) matrix

-- a point is in the exterior of neither (06-103r4, 6.1.15.2)
pub record GeometriesShare (one other : Geometry) : Type 0 where
  pub point : Point
  pub is_point : IsPoint point
  pub in_one : locate one point ≢ Exterior
  pub in_other : locate other point ≢ Exterior

-- a point is in the exterior of the second alone (06-103r4, 6.1.15.2)
pub record HasPointOutside (one other : Geometry) : Type 0 where
  pub point : Point
  pub is_point : IsPoint point
  pub in_one : locate one point ≢ Exterior
  pub outside : locate other point ≡ Exterior

-- a point lies in this part of an area, so their matrix is that of a point there (06-103r4, 6.1.15.2)
pub record LiesInPart (point area : Geometry) (part : Location) : Type 0 where
  pub is_point : kind point ≡ kinds.Point
  pub is_area : kind area ≡ kinds.Area
  pub point_valid : IsValid point
  pub area_valid : IsValid area
  pub labelled : beside_area part ≡ labelled_matrix point area

-- an edge's start isn't in a geometry's exterior (06-103r4, 6.1.15.2)
abbrev pub StartsInside : Geometry → Edge → Type 0
StartsInside other e = locate other (point_at e.start) ≢ Exterior

-- whether the predicate holds of every two geometries that share a point; absent where that depends on the parts which share it
abbrev pub where_shared : Predicate → Option Bool
where_shared predicates.Equals = None
where_shared predicates.Disjoint = Some false
where_shared predicates.Intersects = Some true
where_shared predicates.Touches = None
where_shared predicates.Crosses = None
where_shared predicates.Within = None
where_shared predicates.Contains = None
where_shared predicates.Overlaps = None
where_shared (predicates.Relate pattern) = None

-- every two valid geometries whose envelopes don't meet decide the predicate so (06-103r4, 6.1.15.3)
abbrev pub HoldsWhereFar : Predicate → Bool → Type 0
HoldsWhereFar p answer = (a b : Geometry) → IsValid a → IsValid b → meets (envelope a) (envelope b) ≡ false → IsDecided p a b answer

-- every matrix of two geometries of these kinds decides the predicate so (06-103r4, 6.1.15.3)
abbrev pub HoldsForKinds : Predicate → Kind → Kind → Bool → Type 0
HoldsForKinds p one other answer = (m : Matrix) → holds p one other m ≡ answer
