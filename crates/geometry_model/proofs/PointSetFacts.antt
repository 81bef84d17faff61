-- The function that returns the part of a point, and the three parts as facts.
use Rattle.std.proofs.Common.{◌≡◌, ◌↔◌, Bool, true, false, List, [], ◌∷◌, refl, sym, if◌then◌else◌}
use Rattle.std.proofs.lemmas.List.Folds.{Any-from_list_any, list_any-from_Any}
use Rattle.std.specs.Prelude.{option_to_list}
use Rattle.std.specs.List.{list_any}
use Rattle.std.proofs.lemmas.Bool.{false≢true}
use Rattle.geometry_model.specs.Points.{Position, Point}
use Rattle.geometry_model.specs.Geometries.{Geometry, edges_of_lines, joined_rings}
use Rattle.geometry_model.specs.Sides.{on}
use Rattle.geometry_model.specs.Crossings.{odd_above}
use Rattle.geometry_model.specs.Locations.{locate, part, is_at, on_some, is_odd_end, in_lines, in_rings}
use Rattle.geometry_model.specs.PointSets.{IsListed, LiesOn, IsOddEnd, IsInterior, IsBoundary, IsExterior}
use Rattle.geometry_model.specs.declared.point_sets.Location.{Location}
use Rattle.geometry_model.specs.declared.point_sets.Location.TheVariants.{Interior, Boundary, Exterior}

-- the answer for points, and for lines and rings
abbrev one_of_two : Bool → Location
one_of_two t = if t then Interior else Exterior

abbrev one_of_three : Bool → Bool → Location
one_of_three b i = if b then Boundary else if i then Interior else Exterior

-- an answer is one of the three
not_interior : Boundary ≡ Interior → ⊥
not_interior e = cc

not_interior_off : Exterior ≡ Interior → ⊥
not_interior_off e = cc

not_boundary_off : Exterior ≡ Boundary → ⊥
not_boundary_off e = cc

-- points: interior exactly where the test passes
interior_of_two : (t : Bool) (I : Type 0) → (t ≡ true) ↔ I → (one_of_two t ≡ Interior) ↔ I
interior_of_two true I h = (λ e. h.0 refl, λ x. refl)
interior_of_two false I h = (λ e. absurd (not_interior_off e), λ x. absurd (false≢true (h.1 x)))

-- and never boundary
boundary_of_two : (t : Bool) → (one_of_two t ≡ Boundary) ↔ ⊥
boundary_of_two true = (λ e. not_interior (sym e), λ x. absurd x)
boundary_of_two false = (λ e. not_boundary_off e, λ x. absurd x)

-- lines and rings: interior where the second test passes and the first one doesn't
interior_of_three : (b i : Bool) (B I : Type 0) → (b ≡ true) ↔ B → (i ≡ true) ↔ I → (one_of_three b i ≡ Interior) ↔ (I × ¬ B)
interior_of_three true i B I h k = (λ e. absurd (not_interior e), λ x. absurd (x.1 (h.0 refl)))
interior_of_three false true B I h k = (λ e. (k.0 refl, λ y. false≢true (h.1 y)), λ x. refl)
interior_of_three false false B I h k = (λ e. absurd (not_interior_off e), λ x. absurd (false≢true (k.1 x.0)))

-- and boundary where the first test passes
boundary_of_three : (b i : Bool) (B : Type 0) → (b ≡ true) ↔ B → (one_of_three b i ≡ Boundary) ↔ B
boundary_of_three true i B h = (λ e. h.0 refl, λ x. refl)
boundary_of_three false true B h = (λ e. absurd (not_interior (sym e)), λ x. absurd (false≢true (h.1 x)))
boundary_of_three false false B h = (λ e. absurd (not_boundary_off e), λ x. absurd (false≢true (h.1 x)))

-- what is neither is exterior
exterior_of : (l : Location) (I B : Type 0) → (l ≡ Interior) ↔ I → (l ≡ Boundary) ↔ B → (l ≡ Exterior) ↔ (¬ I × ¬ B)
exterior_of Interior I B h k = (λ e. absurd (not_interior_off (sym e)), λ x. absurd (x.0 (h.0 refl)))
exterior_of Boundary I B h k = (λ e. absurd (not_boundary_off (sym e)), λ x. absurd (x.1 (k.0 refl)))
exterior_of Exterior I B h k = (λ e. (λ x. not_interior_off (h.1 x), λ y. not_boundary_off (k.1 y)), λ x. refl)

-- the tests and their facts
listed : (ps : List Position) (p : Point) → (list_any (is_at p) ps ≡ true) ↔ IsListed ps p
listed ps p = (Any-from_list_any (is_at p) ps, list_any-from_Any (is_at p) ps)

-- lying on an edge of lines or rings, as a test and as a fact
lies_on : (ls : List (List Position)) (p : Point) → (on_some ls p ≡ true) ↔ LiesOn ls p
lies_on ls p = (Any-from_list_any (λ e. on e p) (edges_of_lines ls), list_any-from_Any (λ e. on e p) (edges_of_lines ls))

itself : (b : Bool) → (b ≡ true) ↔ (b ≡ true)
itself b = (λ x. x, λ x. x)

-- lines: the interior is what lies on them and is no odd end
lines_interior : (ls : List (List Position)) (p : Point) → (in_lines ls p ≡ Interior) ↔ (LiesOn ls p × ¬ (IsOddEnd ls p))
lines_interior ls p = interior_of_three (is_odd_end ls p) (on_some ls p) (IsOddEnd ls p) (LiesOn ls p) (itself (is_odd_end ls p)) (lies_on ls p)

-- and the boundary is the odd ends (the mod 2 rule)
lines_boundary : (ls : List (List Position)) (p : Point) → (in_lines ls p ≡ Boundary) ↔ IsOddEnd ls p
lines_boundary ls p = boundary_of_three (is_odd_end ls p) (on_some ls p) (IsOddEnd ls p) (itself (is_odd_end ls p))

-- rings: the interior is what has an odd number of edges strictly above it and lies on none
rings_interior : (rs : List (List Position)) (p : Point) → (in_rings rs p ≡ Interior) ↔ ((odd_above rs p ≡ true) × ¬ (LiesOn rs p))
rings_interior rs p = interior_of_three (on_some rs p) (odd_above rs p) (LiesOn rs p) (odd_above rs p ≡ true) (lies_on rs p) (itself (odd_above rs p))

-- and the boundary is what lies on an edge
rings_boundary : (rs : List (List Position)) (p : Point) → (in_rings rs p ≡ Boundary) ↔ LiesOn rs p
rings_boundary rs p = boundary_of_three (on_some rs p) (odd_above rs p) (LiesOn rs p) (lies_on rs p)

-- the answer is interior exactly at the points of the interior, for each kind of geometry
pub locates_interior : (g : Geometry) (p : Point) → (locate g p ≡ Interior) ↔ IsInterior g p
locates_interior (Geometry.Point o) p = interior_of_two (list_any (is_at p) (option_to_list o)) _ (listed (option_to_list o) p)
locates_interior (Geometry.MultiPoint ps) p = interior_of_two (list_any (is_at p) ps) _ (listed ps p)
locates_interior (Geometry.LineString ps) p = lines_interior (ps ∷ []) p
locates_interior (Geometry.MultiLineString ls) p = lines_interior ls p
locates_interior (Geometry.Polygon rs) p = rings_interior rs p
locates_interior (Geometry.MultiPolygon es) p = rings_interior (joined_rings es) p

-- it is boundary exactly at the points of the boundary
pub locates_boundary : (g : Geometry) (p : Point) → (locate g p ≡ Boundary) ↔ IsBoundary g p
locates_boundary (Geometry.Point o) p = boundary_of_two (list_any (is_at p) (option_to_list o))
locates_boundary (Geometry.MultiPoint ps) p = boundary_of_two (list_any (is_at p) ps)
locates_boundary (Geometry.LineString ps) p = lines_boundary (ps ∷ []) p
locates_boundary (Geometry.MultiLineString ls) p = lines_boundary ls p
locates_boundary (Geometry.Polygon rs) p = rings_boundary rs p
locates_boundary (Geometry.MultiPolygon es) p = rings_boundary (joined_rings es) p

-- and exterior exactly at the points of neither
pub locates_exterior : (g : Geometry) (p : Point) → (locate g p ≡ Exterior) ↔ IsExterior g p
locates_exterior g p = exterior_of (locate g p) (IsInterior g p) (IsBoundary g p) (locates_interior g p) (locates_boundary g p)

-- each point is in exactly one of the three parts, the one that is returned
pub parts_plane : (g : Geometry) (p : Point) → (l : Location) × part g l p × ((k : Location) → part g k p → k ≡ l)
parts_plane g p = (locate g p, refl, λ k e. sym e)
