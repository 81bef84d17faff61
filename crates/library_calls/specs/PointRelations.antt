-- Which relations hold of a geometry and a point, by the place of the point: in the interior, on the boundary or in the exterior.
use Rattle.std.specs.Prelude.{◌≡◌, ℕ, ℤ, nat_lt, cond, ◌&&◌, Bool, true, false, Some}
use Rattle.std.specs.Option.{option_map_or}
use Rattle.geometry_model.specs.Dimensions.{IsMatrix, Matrix}
use Rattle.geometry_model.specs.Geometries.{Geometry, kind}
use Rattle.geometry_model.specs.Locations.{locate}
use Rattle.geometry_model.specs.Points.{Position, point_at}
use Rattle.geometry_model.specs.Validity.{IsValid}
use Rattle.geometry_model.specs.declared.point_sets.Location.{Location}
use Rattle.library_calls.specs.Kept.{HasRelation, LiesAt, position}
use Rattle.library_calls.specs.Refusals.{ok, unknown}
use Rattle.library_calls.specs.Relations.{relation_holds, relation_of}
use Rattle.library_calls.specs.declared.relations.Relation.{Relation}
use Rattle.library_calls.specs.declared.relations.Relation.TheVariants as relations

-- the geometry that is one point (06-103r4, 6.1.4)
abbrev pub one_point : Position → Geometry
one_point p = Geometry.Point (Some p)

-- this is whether the relation holds of each geometry and each point in this part of it, by their matrix
-- (06-103r4, 6.1.4 and 6.1.15.3)
abbrev pub IsHeldAt : Relation → Location → Bool → Type 0
IsHeldAt relation part answer =
    (g : Geometry) (p : Position) (m : Matrix) → locate g (point_at p) ≡ part → IsMatrix g (one_point p) m
    → answer ≡ relation_holds relation (kind g) (kind (one_point p)) m

-- this is whether the relation of this number holds of each valid geometry and each point that lies at this place of it
-- (06-103r4, 6.1.4 and 6.1.15.3)
abbrev pub HoldsAt : ℕ → ℕ → Bool → Type 0
HoldsAt number place answer = (g : Geometry) → IsValid g → (x y : ℤ) → LiesAt g x y place
    → HasRelation number g (one_point (position x y)) answer

-- the relations that are asked for by the place of a point; of the others, equals, within and covered by depend on more, crosses and
-- overlaps hold of no point, and disjoint needs no common point
abbrev pub is_by_place : Relation → Bool
is_by_place relations.Equals = false
is_by_place relations.Disjoint = false
is_by_place relations.Intersects = true
is_by_place relations.Touches = true
is_by_place relations.Crosses = false
is_by_place relations.Within = false
is_by_place relations.Contains = true
is_by_place relations.Overlaps = false
is_by_place relations.Covers = true
is_by_place relations.CoveredBy = false
is_by_place relations.ContainsProperly = true

-- the status of asking for a relation by a place: there is such a relation, and such a place
abbrev pub status_of_place : ℕ → ℕ → ℕ
status_of_place number place = cond (option_map_or is_by_place (relation_of number) false && nat_lt place 3) ok unknown
