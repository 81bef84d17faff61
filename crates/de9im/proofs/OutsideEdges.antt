-- Edges outside the envelope of the other geometry: all of such an edge lies in the other's exterior, off its edges.
use Rattle.std.proofs.Common.{◌≡◌, ◌≢◌, ◌⊎◌, inl, inr, true, false, refl, sym, ◌∙◌, subst, ℕ, zero, suc, ◌-◌, ◌<◌, ◌≤◌, List, [], ◌∷◌, ◌++◌, Option, Some, Contains, length, drop, take, get_or, drop-cons, ap, arith}
use Rattle.std.specs.Prelude.{slice_range}
use Rattle.std.specs.List.{All, list_any}
use Rattle.std.proofs.lemmas.List.{take-append-drop}
use Rattle.std.proofs.lemmas.List.Elements.{All-nil, All-cons, All-append, All-same}
use Rattle.std.proofs.lemmas.List.Folds.{drop_split}
use Rattle.geometry_model.specs.Points.{Point, IsPoint}
use Rattle.geometry_model.specs.Geometries.{Edge, Geometry, kind, edges}
use Rattle.geometry_model.specs.Sides.{on}
use Rattle.geometry_model.specs.Locations.{locate}
use Rattle.geometry_model.specs.Dimensions.{Matrix}
use Rattle.geometry_model.specs.Envelopes.{Envelope, envelope, meets}
use Rattle.geometry_model.specs.Validity.{IsValid}
use Rattle.geometry_model.specs.declared.shapes.Kind.TheVariants as kinds
use Rattle.geometry_model.specs.declared.point_sets.Location.{Location}
use Rattle.geometry_model.specs.declared.point_sets.Location.TheVariants.{Interior, Boundary, Exterior}
use Rattle.geometry_model.specs.declared.point_sets.Dimension.TheVariants.{One}
use Rattle.geometry_laws.specs.RingLaws.{IsClosed}
use Rattle.geometry_laws.specs.PieceLaws.{HasClosedRings}
use Rattle.geometry_laws.proofs.Each.{Among, Passing, each_at, each_of, none_passed, among_left, among_right}
use Rattle.geometry_laws.proofs.Cuts.{contains_of_among}
use Rattle.geometry_laws.proofs.CoverTheorems.{all_from_each}
use Rattle.geometry_laws.proofs.RingParity.{each_from_all}
use Rattle.edge_boxes.specs.RunLaws.{box_of}
use Rattle.matrix_laws.specs.Cells.{Covers, Shows}
use Rattle.matrix_laws.proofs.Closing.{valid_rings_are_closed}
use Rattle.matrix_laws.proofs.Outside.{common_point_meets}
use Rattle.matrix_laws.specs.Gaps.{mostly, of_own_edges}
use Rattle.matrix_laws.specs.Covering.{IsOffEdges, ShowsOff, ShowsEnds}
use Rattle.matrix_laws.proofs.GapTheorems.{off_edges_is_no_boundary}
use Rattle.matrix_laws.proofs.Located.{on_or_off, off_is_shown}
use Rattle.edge_boxes.specs.NearEdges.{is_near}
use Rattle.de9im.proofs.EdgePoints.{Applies, no_edges, own_point}
use Rattle.de9im.proofs.OddEnds.{odd_end_is_boundary}
use Rattle.de9im.specs.Raising.{IsUprightOutside}

-- ---- a point on an edge of a geometry isn't in its exterior
own_is_not_exterior : (g : Geometry) (e : Edge) → Contains (edges g) e → of_own_edges (kind g) ≡ Exterior → ⊥
own_is_not_exterior (Geometry.Point o) e c k = no_edges e c
own_is_not_exterior (Geometry.MultiPoint ps) e c k = no_edges e c
own_is_not_exterior (Geometry.LineString l) e c k = let z : Interior ≡ Exterior = k in cc
own_is_not_exterior (Geometry.MultiLineString ls) e c k = let z : Interior ≡ Exterior = k in cc
own_is_not_exterior (Geometry.Polygon rs) e c k = let z : Boundary ≡ Exterior = k in cc
own_is_not_exterior (Geometry.MultiPolygon es) e c k = let z : Boundary ≡ Exterior = k in cc

on_is_not_exterior : (g : Geometry) (e : Edge) (x : Point) → Contains (edges g) e → on e x ≡ true → IsPoint x → locate g x ≡ Exterior → ⊥
on_is_not_exterior g e x c h hx k = go (own_point g e x c h hx)
  where
    go : Applies x g → ⊥
    go (inl q) = own_is_not_exterior g e c (sym q ∙ k)
    go (inr o) = let z : Boundary ≡ Exterior = sym (odd_end_is_boundary g x o.0 o.1) ∙ k in cc

-- ---- an edge whose rectangle doesn't overlap the envelope
-- were a point of it not in the exterior, the edge as a line would have a point in common with the geometry, and their envelopes would meet
outside_is_exterior : (b : Geometry) → HasClosedRings b → (around : Envelope) → envelope b ≡ Some around → (e : Edge) → is_near around e ≡ false → (x : Point) → IsPoint x → on e x ≡ true → locate b x ≡ Exterior
outside_is_exterior b closed around is e far x hx h = go (locate b x) refl
  where
    line : Geometry
    line = Geometry.LineString (e.start ∷ e.end ∷ [])

    common : locate b x ≢ Exterior → ⊥
    common n =
        let met = common_point_meets line b (All-nil IsClosed) closed x hx (on_is_not_exterior line e x (0, omega arith, refl) h hx) n in
        let y : true ≡ false = sym (subst (λ (o : Option Envelope). meets (Some (box_of e)) o ≡ true) is met) ∙ far in
        cc

    go : (l : Location) → locate b x ≡ l → locate b x ≡ Exterior
    go Exterior k = k
    go Interior k = absurd (common (λ m. let z : Interior ≡ Exterior = sym k ∙ m in cc))
    go Boundary k = absurd (common (λ m. let z : Boundary ≡ Exterior = sym k ∙ m in cc))

-- off an area's edges a point in its exterior mostly is there
area_mostly : (b : Geometry) (x : Point) → kind b ≡ kinds.Area → locate b x ≡ Exterior → mostly b x ≡ Exterior
area_mostly (Geometry.Point o) x k e = absurd (let z : kinds.Point ≡ kinds.Area = k in cc)
area_mostly (Geometry.MultiPoint ps) x k e = absurd (let z : kinds.Point ≡ kinds.Area = k in cc)
area_mostly (Geometry.LineString l) x k e = absurd (let z : kinds.Line ≡ kinds.Area = k in cc)
area_mostly (Geometry.MultiLineString ls) x k e = absurd (let z : kinds.Line ≡ kinds.Area = k in cc)
area_mostly (Geometry.Polygon rs) x k e = e
area_mostly (Geometry.MultiPolygon es) x k e = e

mostly_exterior : (b : Geometry) (x : Point) → IsOffEdges b x → locate b x ≡ Exterior → mostly b x ≡ Exterior
mostly_exterior b x o k = go (off_edges_is_no_boundary b x o)
  where
    go : (mostly b x ≡ Exterior) ⊎ ((kind b ≡ kinds.Area) × (mostly b x ≡ Interior)) → mostly b x ≡ Exterior
    go (inl q) = q
    go (inr q) = area_mostly b x q.0 k

-- so where the matrix shows all that the edge can show in the exterior, it covers the edge
outside_covers : (a b : Geometry) → IsValid b → (around : Envelope) → envelope b ≡ Some around → (m : Matrix) → ShowsEnds a b m → (e : Edge) → ShowsOff a m e Exterior → Contains (edges a) e → is_near around e ≡ false → Covers a b m e
outside_covers a b vb around is m t e shown c far x hx h =
    off_is_shown a b m t e c x hx h off (subst (ShowsOff a m e) (sym (mostly_exterior b x off there)) shown)
  where
    there : locate b x ≡ Exterior
    there = outside_is_exterior b (valid_rings_are_closed b vb) around is e far x hx h

    go : Passing (λ f. on f x) (edges b) ⊎ IsOffEdges b x → IsOffEdges b x
    go (inl p) = absurd (on_is_not_exterior b p.found x (contains_of_among p.found (edges b) p.among) p.passes hx there)
    go (inr o) = o

    off : IsOffEdges b x
    off = go (on_or_off b x)

-- ---- of a part of a list
pub from_part : {X : Type 0} (xs : List X) (first end : ℕ) (x : X) → Among x (slice_range xs first end) → Among x xs
from_part xs first end x m = subst (Among x) (take-append-drop first xs) (among_right x (take first xs) (drop first xs)
    (subst (Among x) (take-append-drop (end - first) (drop first xs)) (among_left x (take (end - first) (drop first xs)) (drop (end - first) (drop first xs)) m)))

-- edges from one place to before another, none of which is near
pub part_covered : (a b : Geometry) → IsValid b → (around : Envelope) → envelope b ≡ Some around → (m : Matrix) → ShowsEnds a b m → ((e : Edge) → ShowsOff a m e Exterior) → (first end : ℕ)
    → list_any (is_near around) (slice_range (edges a) first end) ≡ false → All (Covers a b m) (slice_range (edges a) first end)
part_covered a b vb around is m t full first end none = all_from_each (Covers a b m) part (each_of (Covers a b m) part
    (λ e own. outside_covers a b vb around is m t e (full e) (contains_of_among e (edges a) (from_part (edges a) first end e own)) (each_at (λ f. is_near around f ≡ false) part e (none_passed (is_near around) part none) own)))
  where
    part : List Edge
    part = slice_range (edges a) first end

-- vertical edges that are outside, once the matrix shows a gap of an edge there: they have no sides
pub upright_covered : (a b : Geometry) → IsValid b → (around : Envelope) → envelope b ≡ Some around → (m : Matrix) → ShowsEnds a b m → Shows m (of_own_edges (kind a)) Exterior One → (first end : ℕ)
    → All (IsUprightOutside around) (slice_range (edges a) first end) → All (Covers a b m) (slice_range (edges a) first end)
upright_covered a b vb around is m t s first end all = all_from_each (Covers a b m) part (each_of (Covers a b m) part
    (λ e own. covered e own (each_at (IsUprightOutside around) part e (each_from_all (IsUprightOutside around) part all) own)))
  where
    part : List Edge
    part = slice_range (edges a) first end

    covered : (e : Edge) → Among e part → IsUprightOutside around e → Covers a b m e
    covered e own u = outside_covers a b vb around is m t e (record { piece = s; outer = λ n. absurd (n u.0); inner = λ k n. absurd (n u.0) })
        (contains_of_among e (edges a) (from_part (edges a) first end e own)) u.1

-- one element more at the front of a part
pub one_more : {X : Type 0} (P : X → Type 0) (xs : List X) (left end : ℕ) (x : X) → 0 < left → left ≤ end → end ≤ length xs → x ≡ get_or xs (left - 1) x → P x → All P (slice_range xs left end) → All P (slice_range xs (left - 1) end)
one_more P xs zero end x h k l is px rest = absurd (omega (arith, h))
one_more P xs (suc i) end x h k l is px rest =
    let less : suc i - 1 ≡ i = omega arith in
    let count : end - i ≡ suc (end - suc i) = omega (arith, k) in
    subst (λ n. x ≡ get_or xs n x → All P (slice_range xs n end)) (sym less)
    (λ is'. All-same P (slice_range xs i end) (x ∷ slice_range xs (suc i) end)
    (ap (λ n. take n (drop i xs)) count ∙ ap (λ ys. take (suc (end - suc i)) ys) (drop-cons xs i x (omega (arith, k, l)) ∙ ap (λ y. y ∷ drop (suc i) xs) (sym is')))
    (All-cons P x (slice_range xs (suc i) end) px rest)) is

-- what holds of a part and of the rest
pub with_part : {X : Type 0} (P : X → Type 0) (xs : List X) (first end : ℕ) → first ≤ end → All P (slice_range xs first end) → All P (drop end xs) → All P (drop first xs)
with_part P xs first end h part rest = All-same P (drop first xs) (slice_range xs first end ++ drop end xs) (drop_split xs first end h) (All-append P (slice_range xs first end) (drop end xs) part rest)

-- what holds of the element before the rest, and of the rest
pub one_before : {X : Type 0} (P : X → Type 0) (xs : List X) (left : ℕ) (x : X) → 0 < left → left ≤ length xs → x ≡ get_or xs (left - 1) x → P x → All P (drop left xs) → All P (drop (left - 1) xs)
one_before P xs zero x h k is px rest = absurd (omega (arith, h))
one_before P xs (suc i) x h k is px rest =
    let less : suc i - 1 ≡ i = omega arith in
    subst (λ n. x ≡ get_or xs n x → All P (drop n xs)) (sym less)
    (λ is'. All-same P (drop i xs) (x ∷ drop (suc i) xs) (drop-cons xs i x (omega (arith, k)) ∙ ap (λ y. y ∷ drop (suc i) xs) (sym is')) (All-cons P x (drop (suc i) xs) px rest)) is

-- what holds of the rest from the start on
pub at_the_start : {X : Type 0} (P : X → Type 0) (xs : List X) (left : ℕ) → left ≡ 0 → All P (drop left xs) → All P xs
at_the_start P xs left e all = subst (λ n. All P (drop n xs)) e all

-- the element before the rest, read from an equal list
pub same_there : {X : Type 0} (xs ys : List X) (left : ℕ) (x : X) → ys ≡ xs → x ≡ get_or ys (left - 1) x → x ≡ get_or xs (left - 1) x
same_there xs ys left x e is = is ∙ ap (λ l. get_or l (left - 1) x) e
