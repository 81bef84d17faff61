-- Where an odd end lies is shown by the ends of lines.
use Rattle.std.proofs.Common.{◌≡◌, Bool, true, false, if◌then◌else◌, sym, ap, ◌∙◌, List, [], ◌∷◌}
use Rattle.std.specs.List.{All, Contains}
use Rattle.std.proofs.lemmas.List.Elements.{All-contains, All-weaker, All-contains_itself}
use Rattle.geometry_model.specs.Points.{Position, Point, point_at}
use Rattle.geometry_model.specs.Geometries.{Geometry, kind, lines}
use Rattle.geometry_model.specs.Locations.{is_at, is_odd_end, on_some, locate}
use Rattle.geometry_model.specs.Dimensions.{Matrix}
use Rattle.geometry_model.specs.declared.shapes.Kind.TheVariants as kinds
use Rattle.geometry_model.specs.declared.point_sets.Location.TheVariants.{Interior, Boundary, Exterior}
use Rattle.geometry_model.specs.declared.point_sets.Dimension.TheVariants.{Zero}
use Rattle.geometry_laws.proofs.Each.{Passing, some_passed, one_passes}
use Rattle.geometry_laws.proofs.Respect.{locate_respects}
use Rattle.geometry_laws.proofs.RingParity.{position_is_point}
use Rattle.geometry_laws.proofs.Cuts.{among_from_contains, contains_of_among, same_end}
use Rattle.validity.specs.OddEnds.{AreOddEnds, ended_lines}
use Rattle.side_labels.proofs.LineKinds.{lines_end}
use Rattle.matrix_laws.specs.Cells.{Shows, IsPartOf, CoversPosition}
use Rattle.matrix_laws.proofs.Growing.{shows_at, still_shown}
use Rattle.de9im.specs.Raising.{LiesIn, ShowsOddEnds}

boundary_if : (s t : Bool) → s ≡ true → (if s then Boundary else if t then Interior else Exterior) ≡ Boundary
boundary_if s t e = ap (λ (u : Bool). if u then Boundary else if t then Interior else Exterior) e

-- geometries that are no lines have no ends
none_odd : {X : Type 0} (x : Point) → is_odd_end [] x ≡ true → X
none_odd x h = absurd (let z : false ≡ true = h in cc)

ended_is_boundary : (g : Geometry) (x : Point) → is_odd_end (ended_lines g) x ≡ true → locate g x ≡ Boundary
ended_is_boundary (Geometry.Point o) x h = none_odd x h
ended_is_boundary (Geometry.MultiPoint ps) x h = none_odd x h
ended_is_boundary (Geometry.LineString l) x h = boundary_if (is_odd_end (l ∷ []) x) (on_some (l ∷ []) x) h
ended_is_boundary (Geometry.MultiLineString ls) x h = boundary_if (is_odd_end ls x) (on_some ls x) h
ended_is_boundary (Geometry.Polygon rs) x h = none_odd x h
ended_is_boundary (Geometry.MultiPolygon es) x h = none_odd x h

pub odd_end_is_boundary : (g : Geometry) (x : Point) → kind g ≡ kinds.Line → is_odd_end (lines g) x ≡ true → locate g x ≡ Boundary
odd_end_is_boundary g x k h = ended_is_boundary g x (ap (λ ls. is_odd_end ls x) (lines_end g k) ∙ h)

-- ---- the list of odd ends
-- a position of the list is at itself, so an odd number of ends is there
listed_is_odd : (ps : List Position) (ls : List (List Position)) (p : Position) → AreOddEnds ps ls → Contains ps p → is_odd_end ls (point_at p) ≡ true
listed_is_odd ps ls p are c = sym (are.exact (point_at p) (position_is_point p)) ∙ one_passes (is_at (point_at p)) ps p (among_from_contains ps p c) (same_end p)

pub odd_ends_lie : (a : Geometry) (ps : List Position) → AreOddEnds ps (ended_lines a) → All (LiesIn Boundary a) ps
odd_ends_lie a ps are = All-weaker (Contains ps) (LiesIn Boundary a) (λ p c. ended_is_boundary a (point_at p) (listed_is_odd ps (ended_lines a) p are c)) ps (All-contains_itself ps)

-- so where the list is covered each odd end is shown
pub shows_odd_ends : (a b : Geometry) (m : Matrix) (ps : List Position) → AreOddEnds ps (ended_lines a) → All (CoversPosition a b m) ps → ShowsOddEnds a b m
shows_odd_ends a b m ps are all k x hx h = go (some_passed (is_at x) ps (are.exact x hx ∙ ap (λ ls. is_odd_end ls x) (lines_end a k) ∙ h))
  where
    go : Passing (is_at x) ps → Shows m (locate a x) (locate b x) Zero
    go s = shows_at m Zero _ _ _ _ (locate_respects a (point_at s.found) x (position_is_point s.found) hx s.passes)
        (locate_respects b (point_at s.found) x (position_is_point s.found) hx s.passes)
        (All-contains (CoversPosition a b m) ps s.found all (contains_of_among s.found ps s.among))

pub odd_ends_kept : (a b : Geometry) (m n : Matrix) → IsPartOf m n → ShowsOddEnds a b m → ShowsOddEnds a b n
odd_ends_kept a b m n part s k x hx h = still_shown m n part _ _ Zero (s k x hx h)
