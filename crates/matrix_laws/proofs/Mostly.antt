-- Where a point mostly lies: on own edges, off all edges, and where it is no cut.
use Rattle.std.proofs.Common.{◌≡◌, ◌≢◌, ◌⊎◌, inl, inr, Bool, true, false, if◌then◌else◌, refl, sym, ap, ◌∙◌, List, [], ◌∷◌, ◌++◌, All, Contains, flat_map, option_to_list}
use Rattle.std.proofs.lemmas.Bool.{or_left, or_right}
use Rattle.basics.proofs.Bools.{by_contraries}
use Rattle.geometry_model.specs.Points.{Position, Point, IsPoint}
use Rattle.geometry_model.specs.Geometries.{Edge, Geometry, kind, edges, edges_of_lines, lines, listed, joined_rings}
use Rattle.geometry_model.specs.Sides.{on}
use Rattle.geometry_model.specs.Crossings.{exactly_one as xor, odd_above, odd_at_or_above}
use Rattle.geometry_model.specs.CutPoints.{IsCut}
use Rattle.geometry_model.specs.CutPoints.IsCut.{AtEnd, Listed}
use Rattle.geometry_model.specs.Locations.{is_at, ends, on_some, is_odd_end, in_points, in_rings, locate}
use Rattle.geometry_model.specs.Labels.{below, above, edges_of_both}
use Rattle.geometry_model.specs.declared.shapes.Kind.TheVariants as kinds
use Rattle.geometry_model.specs.declared.point_sets.Location.{Location}
use Rattle.geometry_model.specs.declared.point_sets.Location.TheVariants.{Interior, Boundary, Exterior}
use Rattle.geometry_laws.proofs.Each.{Among, each_of, each_map, none_passes, one_passes, odd_count, parity_none, among_left, among_right}
use Rattle.geometry_laws.proofs.Xor.{xor_false}
use Rattle.geometry_laws.proofs.RingParity.{each_from_all}
use Rattle.geometry_laws.proofs.Locating.{all_ends_even}
use Rattle.geometry_laws.proofs.Cuts.{among_from_contains, contains_of_among}
use Rattle.geometry_laws.proofs.WithinPiece.{touches, on_from_touch, parity_at_or_above}
use Rattle.geometry_laws.proofs.CoverTheorems.{all_from_each}
use Rattle.matrix_laws.specs.Gaps.{mostly, of_own_edges}

-- ---- on own edges
-- a point on one edge of the lines is on some
some_edge : (g : Edge) (ls : List (List Position)) (x : Point) → Contains (edges_of_lines ls) g → on g x ≡ true → on_some ls x ≡ true
some_edge g ls x c h = one_passes (λ e. on e x) (edges_of_lines ls) g (among_from_contains (edges_of_lines ls) g c) h

in_lines_of : (s : Bool) → s ≡ true → (if s then Interior else Exterior) ≡ Interior
in_lines_of s e = ap (λ (t : Bool). if t then Interior else Exterior) e

in_rings_of : (s t : Bool) → s ≡ true → (if s then Boundary else if t then Interior else Exterior) ≡ Boundary
in_rings_of s t e = ap (λ (u : Bool). if u then Boundary else if t then Interior else Exterior) e

-- on its own edges a geometry of lines is interior, odd ends set aside, and an area is boundary
pub own_edges_are_mostly : (g : Geometry) (e : Edge) → Contains (edges g) e → (x : Point) → on e x ≡ true → mostly g x ≡ of_own_edges (kind g)
own_edges_are_mostly (Geometry.Point o) e c x h = refl
own_edges_are_mostly (Geometry.MultiPoint qs) e c x h = refl
own_edges_are_mostly (Geometry.LineString l) e c x h = in_lines_of (on_some (l ∷ []) x) (some_edge e (l ∷ []) x c h)
own_edges_are_mostly (Geometry.MultiLineString ls) e c x h = in_lines_of (on_some ls x) (some_edge e ls x c h)
own_edges_are_mostly (Geometry.Polygon rs) e c x h = in_rings_of (on_some rs x) (odd_above rs x) (some_edge e rs x c h)
own_edges_are_mostly (Geometry.MultiPolygon es) e c x h = in_rings_of (on_some (joined_rings es) x) (odd_above (joined_rings es) x) (some_edge e (joined_rings es) x c h)

-- ---- where a point lies that isn't listed and no odd end
-- a point at which no listed position lies is exterior to points
unlisted : (ps : List Position) (x : Point) → All (λ a. is_at x a ≡ false) ps → in_points ps x ≡ Exterior
unlisted ps x h = ap (λ (t : Bool). if t then Interior else Exterior) (none_passes (is_at x) ps (each_from_all (λ a. is_at x a ≡ false) ps h))

in_lines_unless : (s t : Bool) → s ≡ false → (if s then Boundary else if t then Interior else Exterior) ≡ (if t then Interior else Exterior)
in_lines_unless s t e = ap (λ (u : Bool). if u then Boundary else if t then Interior else Exterior) e

-- in points only the listed ones differ, in lines only the odd ends, and in areas no point does
pub mostly_is_located : (g : Geometry) (x : Point) → IsPoint x → (kind g ≡ kinds.Line → is_odd_end (lines g) x ≡ false) → All (λ a. is_at x a ≡ false) (listed g) → locate g x ≡ mostly g x
mostly_is_located (Geometry.Point o) x hx f h = unlisted (option_to_list o) x h
mostly_is_located (Geometry.MultiPoint qs) x hx f h = unlisted qs x h
mostly_is_located (Geometry.LineString l) x hx f h = in_lines_unless (is_odd_end (l ∷ []) x) (on_some (l ∷ []) x) (f refl)
mostly_is_located (Geometry.MultiLineString ls) x hx f h = in_lines_unless (is_odd_end ls x) (on_some ls x) (f refl)
mostly_is_located (Geometry.Polygon rs) x hx f h = refl
mostly_is_located (Geometry.MultiPolygon es) x hx f h = refl

-- ---- where a point lies that is no cut
-- no cut of some edges and positions, a geometry's among them
no_odd_end : (es : List Edge) (ps : List Position) (x : Point) → IsPoint x → (IsCut es ps x → ⊥) → (ls : List (List Position)) → ((e : Edge) → Among e (edges_of_lines ls) → Among e es) → is_odd_end ls x ≡ false
no_odd_end es ps x hx f ls b = odd_count (is_at x) (flat_map ends ls) ∙ all_ends_even ls x (each_of (λ e. (is_at x e.start ≡ false) × (is_at x e.end ≡ false)) (edges_of_lines ls) (λ e m. (
  by_contraries (is_at x e.start) false (λ k. absurd (f (AtEnd hx e (contains_of_among e es (b e m)) (or_left (is_at x e.start) (is_at x e.end) k)))) refl,
  by_contraries (is_at x e.end) false (λ k. absurd (f (AtEnd hx e (contains_of_among e es (b e m)) (or_right (is_at x e.start) (is_at x e.end) k)))) refl,
)))

-- nor does a listed position
no_listed : (es : List Edge) (ps : List Position) (x : Point) → IsPoint x → (IsCut es ps x → ⊥) → (qs : List Position) → ((a : Position) → Among a qs → Among a ps) → All (λ a. is_at x a ≡ false) qs
no_listed es ps x hx f qs b = all_from_each (λ a. is_at x a ≡ false) qs (each_of (λ a. is_at x a ≡ false) qs (λ a m. by_contraries (is_at x a) false (λ k. absurd (f (Listed hx a (contains_of_among a ps (b a m)) k))) refl))

-- so it lies where almost all points do
no_cut_applies : (es : List Edge) (ps : List Position) (x : Point) → IsPoint x → (IsCut es ps x → ⊥) → (g : Geometry) → ((e : Edge) → Among e (edges g) → Among e es) → ((a : Position) → Among a (listed g) → Among a ps) → locate g x ≡ mostly g x
no_cut_applies es ps x hx f g b p = mostly_is_located g x hx (λ k. no_odd_end es ps x hx f (lines g) b) (no_listed es ps x hx f (listed g) p)

-- in both geometries, since the cuts are those of both
pub no_cut_is_mostly : (a b : Geometry) (x : Point) → IsPoint x → (IsCut (edges_of_both a b) (listed a ++ listed b) x → ⊥) → (locate a x ≡ mostly a x) × (locate b x ≡ mostly b x)
no_cut_is_mostly a b x hx f = (
  no_cut_applies (edges_of_both a b) (listed a ++ listed b) x hx f a (λ e m. among_left e (edges a) (edges b) m) (λ p m. among_left p (listed a) (listed b) m),
  no_cut_applies (edges_of_both a b) (listed a ++ listed b) x hx f b (λ e m. among_right e (edges a) (edges b) m) (λ p m. among_right p (listed a) (listed b) m),
)

-- ---- off all edges
-- a point off all edges of the lines is on none
off_some : (ls : List (List Position)) (x : Point) → All (λ f. on f x ≡ false) (edges_of_lines ls) → on_some ls x ≡ false
off_some ls x h = none_passes (λ e. on e x) (edges_of_lines ls) (each_from_all (λ e. on e x ≡ false) (edges_of_lines ls) h)

off_lines : (s : Bool) → s ≡ false → (if s then Interior else Exterior) ≡ Exterior
off_lines s e = ap (λ (t : Bool). if t then Interior else Exterior) e

off_rings : (s t : Bool) → s ≡ false → (if s then Boundary else if t then Interior else Exterior) ≡ (if t then Interior else Exterior)
off_rings s t e = ap (λ (u : Bool). if u then Boundary else if t then Interior else Exterior) e

either_part : (t : Bool) (l : Location) → l ≡ (if t then Interior else Exterior) → (l ≡ Exterior) ⊎ (l ≡ Interior)
either_part true l e = inr e
either_part false l e = inl e

-- an area's boundary is its rings, and lines have an interior on their edges alone
pub off_edges_is_no_boundary : (g : Geometry) (x : Point) → All (λ f. on f x ≡ false) (edges g) → (mostly g x ≡ Exterior) ⊎ ((kind g ≡ kinds.Area) × (mostly g x ≡ Interior))
off_edges_is_no_boundary (Geometry.Point o) x h = inl refl
off_edges_is_no_boundary (Geometry.MultiPoint qs) x h = inl refl
off_edges_is_no_boundary (Geometry.LineString l) x h = inl (off_lines (on_some (l ∷ []) x) (off_some (l ∷ []) x h))
off_edges_is_no_boundary (Geometry.MultiLineString ls) x h = inl (off_lines (on_some ls x) (off_some ls x h))
off_edges_is_no_boundary (Geometry.Polygon rs) x h = go (either_part (odd_above rs x) (in_rings rs x) (off_rings (on_some rs x) (odd_above rs x) (off_some rs x h)))
  where
    go : (in_rings rs x ≡ Exterior) ⊎ (in_rings rs x ≡ Interior) → (in_rings rs x ≡ Exterior) ⊎ ((kinds.Area ≡ kinds.Area) × (in_rings rs x ≡ Interior))
    go (inl e) = inl e
    go (inr e) = inr (refl, e)
off_edges_is_no_boundary (Geometry.MultiPolygon es) x h = go (either_part (odd_above (joined_rings es) x) (in_rings (joined_rings es) x) (off_rings (on_some (joined_rings es) x) (odd_above (joined_rings es) x) (off_some (joined_rings es) x h)))
  where
    go : (in_rings (joined_rings es) x ≡ Exterior) ⊎ (in_rings (joined_rings es) x ≡ Interior) → (in_rings (joined_rings es) x ≡ Exterior) ⊎ ((kinds.Area ≡ kinds.Area) × (in_rings (joined_rings es) x ≡ Interior))
    go (inl e) = inl e
    go (inr e) = inr (refl, e)

-- as many edges are strictly above as at or above
both_parities : (rs : List (List Position)) (x : Point) → IsPoint x → All (λ f. on f x ≡ false) (edges_of_lines rs) → odd_at_or_above rs x ≡ odd_above rs x
both_parities rs x hx h = parity_at_or_above rs x ∙ ap (xor (odd_above rs x)) (parity_none (λ e. touches e x) (edges_of_lines rs)
    (each_map (λ e. on e x ≡ false) (λ e. touches e x ≡ false) (edges_of_lines rs) (λ e n. by_contraries (touches e x) (on e x) (on_from_touch e x hx) n) (each_from_all (λ e. on e x ≡ false) (edges_of_lines rs) h)))
    ∙ xor_false (odd_above rs x)

-- off the rings both sides have the point's own parity, so they are where it is
rings_sides : (rs : List (List Position)) (x : Point) → IsPoint x → All (λ f. on f x ≡ false) (edges_of_lines rs)
    → ((if odd_at_or_above rs x then Interior else Exterior) ≡ in_rings rs x) × ((if odd_above rs x then Interior else Exterior) ≡ in_rings rs x)
rings_sides rs x hx h = (ap (λ (t : Bool). if t then Interior else Exterior) (both_parities rs x hx h) ∙ here, here)
  where
    here : (if odd_above rs x then Interior else Exterior) ≡ in_rings rs x
    here = sym (off_rings (on_some rs x) (odd_above rs x) (off_some rs x h))

-- so off its edges both sides of a point are where the point mostly is
pub sides_off_edges : (g : Geometry) (x : Point) → IsPoint x → All (λ f. on f x ≡ false) (edges g) → (below g x ≡ mostly g x) × (above g x ≡ mostly g x)
sides_off_edges (Geometry.Point o) x hx h = (refl, refl)
sides_off_edges (Geometry.MultiPoint qs) x hx h = (refl, refl)
sides_off_edges (Geometry.LineString l) x hx h = let e : Exterior ≡ mostly (Geometry.LineString l) x = sym (off_lines (on_some (l ∷ []) x) (off_some (l ∷ []) x h)) in (e, e)
sides_off_edges (Geometry.MultiLineString ls) x hx h = let e : Exterior ≡ mostly (Geometry.MultiLineString ls) x = sym (off_lines (on_some ls x) (off_some ls x h)) in (e, e)
sides_off_edges (Geometry.Polygon rs) x hx h = rings_sides rs x hx h
sides_off_edges (Geometry.MultiPolygon es) x hx h = rings_sides (joined_rings es) x hx h

-- ---- what is no area
-- only areas have sides in the interior
pub sides_of_no_area : (g : Geometry) (x : Point) → kind g ≢ kinds.Area → (below g x ≡ Exterior) × (above g x ≡ Exterior)
sides_of_no_area (Geometry.Point o) x n = (refl, refl)
sides_of_no_area (Geometry.MultiPoint qs) x n = (refl, refl)
sides_of_no_area (Geometry.LineString l) x n = (refl, refl)
sides_of_no_area (Geometry.MultiLineString ls) x n = (refl, refl)
sides_of_no_area (Geometry.Polygon rs) x n = absurd (n refl)
sides_of_no_area (Geometry.MultiPolygon es) x n = absurd (n refl)
