-- What of a point of an edge a matrix has to show, by where the point and its sides lie.
use Rattle.std.proofs.Common.{◌≡◌, ◌≢◌, ◌⊎◌, inl, inr, Bool, true, false, if◌then◌else◌, refl, sym, ap, ◌∙◌, List, [], ◌∷◌, All, Contains}
use Rattle.std.specs.List.{list_any}
use Rattle.std.proofs.lemmas.List.Elements.{All-contains, Contains-append_right, Contains-append_left}
use Rattle.std.proofs.lemmas.Bool.{true_from_ne_false, false_from_ne_true}
use Rattle.geometry_model.specs.Points.{Position, Point, IsPoint, point_at}
use Rattle.geometry_model.specs.Geometries.{Edge, Geometry, kind, edges, lines, listed, rings}
use Rattle.geometry_model.specs.Sides.{on, on_one_line}
use Rattle.geometry_model.specs.Crossings.{odd_above, odd_at_or_above}
use Rattle.geometry_model.specs.CutPoints.{is_end}
use Rattle.geometry_model.specs.CutPoints.IsCut.{AtEnd, AtCrossing}
use Rattle.geometry_model.specs.Locations.{is_at, is_odd_end, locate}
use Rattle.geometry_model.specs.Dimensions.{Matrix}
use Rattle.geometry_model.specs.Labels.{below, above, edges_of_both}
use Rattle.geometry_model.specs.declared.shapes.Kind.{Kind}
use Rattle.geometry_model.specs.declared.shapes.Kind.TheVariants as kinds
use Rattle.geometry_model.specs.declared.point_sets.Location.{Location}
use Rattle.geometry_model.specs.declared.point_sets.Location.TheVariants.{Interior, Exterior}
use Rattle.geometry_model.specs.declared.point_sets.Dimension.TheVariants.{Zero, One, Two}
use Rattle.geometry_laws.proofs.Each.{Each, Among, Passing, each_at, some_passed, none_passed}
use Rattle.geometry_laws.proofs.RingParity.{each_from_all, position_is_point}
use Rattle.geometry_laws.proofs.Respect.{locate_respects}
use Rattle.geometry_laws.proofs.CoverTheorems.{all_from_each}
use Rattle.geometry_laws.proofs.Cuts.{among_from_contains}
use Rattle.matrix_laws.specs.Cells.{Shows, ShowsPoint, IsNoCut, CoversPosition}
use Rattle.matrix_laws.proofs.Growing.{shows_at, shows_less}
use Rattle.matrix_laws.specs.Gaps.{mostly, of_own_edges}
use Rattle.matrix_laws.specs.Covering.{IsOffEdges, ShowsOff, ShowsEnds}
use Rattle.matrix_laws.proofs.GapTheorems.{mostly_is_located, no_cut_is_mostly, own_edges_are_mostly, sides_off_edges, sides_of_no_area}

-- ---- of a list
-- ---- kinds
pub is_area : (k : Kind) → (k ≡ kinds.Area) ⊎ (k ≢ kinds.Area)
is_area kinds.Point = inr (λ e. let z : kinds.Point ≡ kinds.Area = e in absurd (cc))
is_area kinds.Line = inr (λ e. let z : kinds.Line ≡ kinds.Area = e in absurd (cc))
is_area kinds.Area = inl refl

is_line : (k : Kind) → (k ≡ kinds.Line) ⊎ (k ≢ kinds.Line)
is_line kinds.Point = inr (λ e. let z : kinds.Point ≡ kinds.Line = e in absurd (cc))
is_line kinds.Line = inl refl
is_line kinds.Area = inr (λ e. let z : kinds.Area ≡ kinds.Line = e in absurd (cc))

-- ---- the point is on an edge of the geometry, or off all of them
pub on_or_off : (b : Geometry) (x : Point) → Passing (λ f. on f x) (edges b) ⊎ IsOffEdges b x
on_or_off b x = go (list_any (λ f. on f x) (edges b)) refl
  where
    go : (t : Bool) → list_any (λ f. on f x) (edges b) ≡ t → Passing (λ f. on f x) (edges b) ⊎ IsOffEdges b x
    go true e = inl (some_passed (λ f. on f x) (edges b) e)
    go false e = inr (all_from_each (λ f. on f x ≡ false) (edges b) (none_passed (λ f. on f x) (edges b) e))

-- a point on an edge isn't off all of them
pub not_off : (b : Geometry) (f : Edge) → Contains (edges b) f → (y : Point) → on f y ≡ true → IsOffEdges b y → ⊥
not_off b f c y h o = let z : true ≡ false = sym h ∙ All-contains (λ g. on g y ≡ false) (edges b) f o c in absurd (cc)

-- ---- a side is exterior, or that of an area and interior
abbrev pub Side : Geometry → Location → Type 0
Side g l = (l ≡ Exterior) ⊎ ((kind g ≡ kinds.Area) × (l ≡ Interior))

-- the lower side of what is no area is exterior, and an area's is interior or exterior by parity
pub lower_side : (g : Geometry) (x : Point) → Side g (below g x)
lower_side g x = go (is_area (kind g)) (odd_at_or_above (rings g) x) refl
  where
    go : (kind g ≡ kinds.Area) ⊎ (kind g ≢ kinds.Area) → (t : Bool) → odd_at_or_above (rings g) x ≡ t → Side g (below g x)
    go (inr n) t e = inl ((sides_of_no_area g x n).0)
    go (inl k) true e = inr (k, ap (λ (t : Bool). if t then Interior else Exterior) e)
    go (inl k) false e = inl (ap (λ (t : Bool). if t then Interior else Exterior) e)

-- and so is the upper one
pub upper_side : (g : Geometry) (x : Point) → Side g (above g x)
upper_side g x = go (is_area (kind g)) (odd_above (rings g) x) refl
  where
    go : (kind g ≡ kinds.Area) ⊎ (kind g ≢ kinds.Area) → (t : Bool) → odd_above (rings g) x ≡ t → Side g (above g x)
    go (inr n) t e = inl ((sides_of_no_area g x n).1)
    go (inl k) true e = inr (k, ap (λ (t : Bool). if t then Interior else Exterior) e)
    go (inl k) false e = inl (ap (λ (t : Bool). if t then Interior else Exterior) e)

-- ---- a point of an edge of a is shown as an end, or lies where almost all points do
-- a geometry with an edge isn't of points, so it has no listed position
no_listed : (a : Geometry) (e : Edge) → Contains (edges a) e → (p : Position) → Among p (listed a) → ⊥
no_listed (Geometry.Point o) e c p m = among_from_contains [] e c
no_listed (Geometry.MultiPoint ps) e c p m = among_from_contains [] e c
no_listed (Geometry.LineString l) e c p m = m
no_listed (Geometry.MultiLineString ls) e c p m = m
no_listed (Geometry.Polygon rs) e c p m = m
no_listed (Geometry.MultiPolygon es) e c p m = m

-- so none is at the point
none_listed : (a : Geometry) (e : Edge) → Contains (edges a) e → (x : Point) → All (λ p. is_at x p ≡ false) (listed a)
none_listed a e c x = all_from_each (λ p. is_at x p ≡ false) (listed a) (each_none (listed a) (no_listed a e c))
  where
    each_none : (ps : List Position) → ((p : Position) → Among p ps → ⊥) → Each (λ p. is_at x p ≡ false) ps
    each_none [] f = tt
    each_none (p ∷ ps) f = absurd (f p (inl refl))

-- the point is an odd end of lines, or it isn't
odd_end_or_not : (g : Geometry) (x : Point) → ((kind g ≡ kinds.Line) × (is_odd_end (lines g) x ≡ true)) ⊎ (kind g ≡ kinds.Line → is_odd_end (lines g) x ≡ false)
odd_end_or_not g x = go (is_line (kind g)) (is_odd_end (lines g) x) refl
  where
    go : (kind g ≡ kinds.Line) ⊎ (kind g ≢ kinds.Line) → (t : Bool) → is_odd_end (lines g) x ≡ t → ((kind g ≡ kinds.Line) × (is_odd_end (lines g) x ≡ true)) ⊎ (kind g ≡ kinds.Line → is_odd_end (lines g) x ≡ false)
    go (inl k) true e = inl (k, e)
    go (inl k) false e = inr (λ l. e)
    go (inr n) t e = inr (λ l. absurd (n l))

-- a listed position is at the point, or none is
listed_or_not : (b : Geometry) (x : Point) → Passing (is_at x) (listed b) ⊎ All (λ p. is_at x p ≡ false) (listed b)
listed_or_not b x = go (list_any (is_at x) (listed b)) refl
  where
    go : (t : Bool) → list_any (is_at x) (listed b) ≡ t → Passing (is_at x) (listed b) ⊎ All (λ p. is_at x p ≡ false) (listed b)
    go true e = inl (some_passed (is_at x) (listed b) e)
    go false e = inr (all_from_each (λ p. is_at x p ≡ false) (listed b) (none_passed (is_at x) (listed b) e))

-- it lies on a's own edges, and in b where almost all points about it do
abbrev pub AppliesMostly : Geometry → Geometry → Point → Type 0
AppliesMostly a b x = (locate a x ≡ of_own_edges (kind a)) × (locate b x ≡ mostly b x)

-- an odd end or a listed position is among the ends that are shown, and any other point lies where almost all do
pub shown_or_mostly : (a b : Geometry) (m : Matrix) → ShowsEnds a b m → (e : Edge) → Contains (edges a) e → (x : Point) → IsPoint x → on e x ≡ true → Shows m (locate a x) (locate b x) Zero ⊎ AppliesMostly a b x
shown_or_mostly a b m s e c x hx h = go (odd_end_or_not a x) (odd_end_or_not b x) (listed_or_not b x)
  where
    at_listed : Passing (is_at x) (listed b) → Shows m (locate a x) (locate b x) Zero
    at_listed p = shows_at m Zero (locate a (point_at p.found)) (locate a x) (locate b (point_at p.found)) (locate b x)
        (locate_respects a (point_at p.found) x (position_is_point p.found) hx p.passes) (locate_respects b (point_at p.found) x (position_is_point p.found) hx p.passes)
        (each_at (CoversPosition a b m) (listed b) p.found (each_from_all (CoversPosition a b m) (listed b) s.positions) p.among)

    go : ((kind a ≡ kinds.Line) × (is_odd_end (lines a) x ≡ true)) ⊎ (kind a ≡ kinds.Line → is_odd_end (lines a) x ≡ false)
        → ((kind b ≡ kinds.Line) × (is_odd_end (lines b) x ≡ true)) ⊎ (kind b ≡ kinds.Line → is_odd_end (lines b) x ≡ false)
        → Passing (is_at x) (listed b) ⊎ All (λ p. is_at x p ≡ false) (listed b) → Shows m (locate a x) (locate b x) Zero ⊎ AppliesMostly a b x
    go (inl k) v w = inl (s.of_first k.0 x hx k.1)
    go (inr u) (inl k) w = inl (s.of_second k.0 x hx k.1)
    go (inr u) (inr v) (inl p) = inl (at_listed p)
    go (inr u) (inr v) (inr w) = inr (mostly_is_located a x hx u (none_listed a e c x) ∙ own_edges_are_mostly a e c x h, mostly_is_located b x hx v w)

-- a point that is no cut lies so
pub no_cut_applies : (a b : Geometry) (e : Edge) → Contains (edges a) e → (x : Point) → IsPoint x → on e x ≡ true → IsNoCut a b x → AppliesMostly a b x
no_cut_applies a b e c x hx h f = ((no_cut_is_mostly a b x hx f).0 ∙ own_edges_are_mostly a e c x h, (no_cut_is_mostly a b x hx f).1)

-- ---- a point of an edge of a that no edge of b holds
-- the gap's sides are shown as exterior and, of an area, as interior, so each side is shown
side_off : (a : Geometry) (m : Matrix) (e : Edge) (k l : Location) → e.start.x ≢ e.end.x → ShowsOff a m e k → Side a l → Shows m l k Two
side_off a m e k l n s (inl q) = shows_at m Two Exterior l k k (sym q) refl (s.outer n)
side_off a m e k l n s (inr q) = shows_at m Two Interior l k k (sym q.1) refl (s.inner q.0 n)

-- where the gap's piece and sides are shown the point is: it lies as the gap does, or it is an end that is shown
pub off_is_shown : (a b : Geometry) (m : Matrix) → ShowsEnds a b m → (e : Edge) → Contains (edges a) e → (x : Point) → IsPoint x → on e x ≡ true → IsOffEdges b x → ShowsOff a m e (mostly b x) → ShowsPoint a b m e x
off_is_shown a b m t e c x hx h o s = record {
  point = point (shown_or_mostly a b m t e c x hx h);
  piece = λ f. mostly_shown (no_cut_applies a b e c x hx h f);
  lower = λ f n. shows_at m Two (below a x) (below a x) (mostly b x) (below b x) refl (sym ((sides_off_edges b x hx o).0)) (side_off a m e (mostly b x) (below a x) n s (lower_side a x));
  upper = λ f n. shows_at m Two (above a x) (above a x) (mostly b x) (above b x) refl (sym ((sides_off_edges b x hx o).1)) (side_off a m e (mostly b x) (above a x) n s (upper_side a x));
}
  where
    mostly_shown : AppliesMostly a b x → Shows m (locate a x) (locate b x) One
    mostly_shown q = shows_at m One (of_own_edges (kind a)) (locate a x) (mostly b x) (locate b x) (sym q.0) (sym q.1) s.piece

    point : Shows m (locate a x) (locate b x) Zero ⊎ AppliesMostly a b x → Shows m (locate a x) (locate b x) Zero
    point (inl z) = z
    point (inr q) = shows_less m (locate a x) (locate b x) One Zero refl (mostly_shown q)

-- ---- a point that edges of both hold: what a matrix has to show of it
pub record ShowsShared (a b : Geometry) (m : Matrix) (e : Edge) (x : Point) : Type 0 where
  pub point : Shows m (locate a x) (locate b x) Zero ⊎ Shows m (of_own_edges (kind a)) (of_own_edges (kind b)) Zero
  pub piece : IsNoCut a b x → Shows m (of_own_edges (kind a)) (of_own_edges (kind b)) One
  pub lower : IsNoCut a b x → e.start.x ≢ e.end.x → Shows m (below a x) (below b x) Two
  pub upper : IsNoCut a b x → e.start.x ≢ e.end.x → Shows m (above a x) (above b x) Two

-- what is shown of the shared point is all that is to be shown, ends being shown by themselves
pub shared_is_shown : (a b : Geometry) (m : Matrix) → ShowsEnds a b m → (e : Edge) → Contains (edges a) e → (f : Edge) → Contains (edges b) f → (x : Point) → IsPoint x → on e x ≡ true → on f x ≡ true → ShowsShared a b m e x → ShowsPoint a b m e x
shared_is_shown a b m t e c f d x hx h k s = record {
  point = point (shown_or_mostly a b m t e c x hx h) s.point;
  piece = λ u. let q : AppliesMostly a b x = no_cut_applies a b e c x hx h u in shows_at m One (of_own_edges (kind a)) (locate a x) (of_own_edges (kind b)) (locate b x) (sym q.0) (sym (q.1 ∙ own_edges_are_mostly b f d x k)) (s.piece u);
  lower = s.lower;
  upper = s.upper;
}
  where
    point : Shows m (locate a x) (locate b x) Zero ⊎ AppliesMostly a b x → Shows m (locate a x) (locate b x) Zero ⊎ Shows m (of_own_edges (kind a)) (of_own_edges (kind b)) Zero → Shows m (locate a x) (locate b x) Zero
    point (inl z) w = z
    point (inr q) (inl z) = z
    point (inr q) (inr z) = shows_at m Zero (of_own_edges (kind a)) (locate a x) (of_own_edges (kind b)) (locate b x) (sym q.0) (sym (q.1 ∙ own_edges_are_mostly b f d x k)) z

-- ---- where a point that is no cut lies on edges of both, these are on one line and the point ends neither
pub record Overlaps (e f : Edge) (x : Point) : Type 0 where
  pub one_line : on_one_line e f ≡ true
  pub no_end : is_end e x ≡ false
  pub no_other_end : is_end f x ≡ false

-- otherwise one of the edges would end at the point or they would cross there, and it would be a cut
pub overlaps : (a b : Geometry) (e f : Edge) → Contains (edges a) e → Contains (edges b) f → (x : Point) → IsPoint x → on e x ≡ true → on f x ≡ true → IsNoCut a b x → Overlaps e f x
overlaps a b e f c d x hx h k u = record {
  one_line = true_from_ne_false (on_one_line e f) (λ n. u (AtCrossing hx e f first second n h k));
  no_end = false_from_ne_true (is_end e x) (λ n. u (AtEnd hx e first n));
  no_other_end = false_from_ne_true (is_end f x) (λ n. u (AtEnd hx f second n));
}
  where
    first : Contains (edges_of_both a b) e
    first = Contains-append_left (edges a) (edges b) e c

    second : Contains (edges_of_both a b) f
    second = Contains-append_right (edges a) (edges b) f d
