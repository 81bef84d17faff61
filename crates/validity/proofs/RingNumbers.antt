-- The rings of a polygon among all rings, by their numbers.
use Rattle.std.proofs.Common.{◌≡◌, refl, sym, ap, ap₂, subst, ◌∙◌, ℕ, zero, suc, ◌+◌, ◌-◌, ◌<◌, ◌≤◌, Bool, true, false, not, ◌&&◌, ◌||◌, cond, nat_lt, List, [], ◌∷◌, ◌++◌, length, Option, Some, None, slice_get, arith, append-nil, length-append, lt-ltb, le-leb}
use Rattle.std.specs.List.{list_any}
use Rattle.geometry_model.specs.Points.{Position}
use Rattle.geometry_model.specs.Geometries.{Geometry, lines, elements, joined_rings}
use Rattle.geometry_model.specs.Validity.{Element, elements_from, numbered_elements, inside}
use Rattle.geometry_model.specs.FirstFaults.{has_fault, ring_of, rings_end, rings_share, elements_share, test_of_both}
use Rattle.geometry_model.specs.declared.validity_faults.ValidityFault.TheVariants.{RingsMeet, HoleOutside, HolesNested, ElementsMeet}
use Rattle.std.proofs.lemmas.Option.{slice_get_past, same_Some}
use Rattle.std.proofs.Math.Bool.{and-false}
use Rattle.std.proofs.lemmas.Bool.{lt-leb}
use Rattle.basics.proofs.Lists.{in_front}
use Rattle.validity.specs.Outlines.{AreRings}

-- .. and the other one those behind them
behind : {A : Type 0} (xs ys : List A) (p : ℕ) → length xs ≤ p → slice_get (xs ++ ys) p ≡ slice_get ys (p - length xs)
behind [] ys p h = let e : p ≡ p - 0 = omega arith in ap (slice_get ys) e
behind (x ∷ xs) ys zero h = absurd (omega (arith, h))
behind (x ∷ xs) ys (suc p) h = let e : p - length xs ≡ suc p - length (x ∷ xs) = omega arith in behind xs ys p (omega (arith, h)) ∙ ap (slice_get ys) e

-- no ring of the polygon has a number before its first or from its end on
before_first : (e : Element) (i : ℕ) → i < e.first → ring_of e i ≡ None
before_first e i h = ap (λ (b : Bool). cond b (slice_get e.rings (i - e.first)) None) (lt-leb e.first i h)

-- from the end of its rings on the numbers belong to later polygons
from_end : (e : Element) (i : ℕ) → rings_end e ≤ i → ring_of e i ≡ None
from_end e i h = ap (λ (b : Bool). cond b (slice_get e.rings (i - e.first)) None) (le-leb e.first i (omega (arith, h))) ∙ slice_get_past e.rings (i - e.first) (omega (arith, h))

-- a polygon's first number isn't before the number from which all are counted
pub counted_from : (start : ℕ) (polygons : List (List (List Position))) (m : ℕ) (e : Element) → slice_get (elements_from start polygons) m ≡ Some e → start ≤ e.first
counted_from start [] m e is = absurd cc
counted_from start (x ∷ xs) zero e is = let same : start ≡ e.first = ap (λ (f : Element). f.first) (same_Some (record { first = start; rings = x }) e is) in omega (arith, same)
counted_from start (x ∷ xs) (suc m) e is = let h = counted_from (start + length x) xs m e is in omega (arith, h)

-- polygons after a number have no ring with it
later_have_none : (t : Element → Bool) (i start : ℕ) (polygons : List (List (List Position))) → i < start → ((e : Element) → ring_of e i ≡ None → t e ≡ false) → list_any t (elements_from start polygons) ≡ false
later_have_none t i start [] h fails = refl
later_have_none t i start (x ∷ xs) h fails =
    ap (λ (b : Bool). b || list_any t (elements_from (start + length x) xs)) (fails (record { first = start; rings = x }) (before_first (record { first = start; rings = x }) i h))
    ∙ later_have_none t i (start + length x) xs (omega (arith, h)) fails

or_none : (a b : Bool) → b ≡ false → a || b ≡ a
or_none true b h = refl
or_none false b h = h

-- a test that fails where a number is no ring's asks the polygon that has it
pub one_decides : (t : Element → Bool) (i start : ℕ) (polygons : List (List (List Position))) (m : ℕ) (e : Element) → slice_get (elements_from start polygons) m ≡ Some e
    → e.first ≤ i → i < rings_end e → ((d : Element) → ring_of d i ≡ None → t d ≡ false) → list_any t (elements_from start polygons) ≡ t e
one_decides t i start [] m e is low high fails = absurd cc
one_decides t i start (x ∷ xs) zero e is low high fails =
    let first : Element = record { first = start; rings = x } in
    let rest = list_any t (elements_from (start + length x) xs) in
    subst (λ (d : Element). d.first ≤ i → i < rings_end d → t first || rest ≡ t d) (same_Some first e is)
    (λ low high. or_none (t first) rest (later_have_none t i (start + length x) xs high fails)) low high
one_decides t i start (x ∷ xs) (suc m) e is low high fails =
    let from = counted_from (start + length x) xs m e is in
    ap (λ (b : Bool). b || list_any t (elements_from (start + length x) xs)) (fails (record { first = start; rings = x }) (from_end (record { first = start; rings = x }) i (omega (arith, from, low))))
    ∙ one_decides t i (start + length x) xs m e is low high fails

-- its ring with the number is at that number among all rings
pub ring_is_there : (i start : ℕ) (polygons : List (List (List Position))) (m : ℕ) (e : Element) → slice_get (elements_from start polygons) m ≡ Some e
    → e.first ≤ i → i < rings_end e → ring_of e i ≡ slice_get (joined_rings polygons) (i - start)
ring_is_there i start [] m e is low high = absurd cc
ring_is_there i start (x ∷ xs) zero e is low high =
    subst (λ (d : Element). d.first ≤ i → i < rings_end d → ring_of d i ≡ slice_get (x ++ joined_rings xs) (i - start)) (same_Some (record { first = start; rings = x }) e is)
    (λ low high. ap (λ (b : Bool). cond b (slice_get x (i - start)) None) (le-leb start i low) ∙ sym (in_front x (joined_rings xs) (i - start) (omega (arith, low, high)))) low high
ring_is_there i start (x ∷ xs) (suc m) e is low high =
    let from = counted_from (start + length x) xs m e is in
    let less : (i - start) - length x ≡ i - (start + length x) = omega arith in
    ring_is_there i (start + length x) xs m e is low high
    ∙ sym (behind x (joined_rings xs) (i - start) (omega (arith, from, low)) ∙ ap (slice_get (joined_rings xs)) less)

-- ---- the rings and polygons of a geometry
-- all rings of the polygons are the lines, where there is a polygon
pub joined_are_lines : (g : Geometry) (m : ℕ) (e : Element) → slice_get (numbered_elements g) m ≡ Some e → joined_rings (elements g) ≡ lines g
joined_are_lines (Geometry.Point p) m e is = absurd cc
joined_are_lines (Geometry.MultiPoint ps) m e is = absurd cc
joined_are_lines (Geometry.LineString ps) m e is = absurd cc
joined_are_lines (Geometry.MultiLineString ls) m e is = absurd cc
joined_are_lines (Geometry.Polygon rs) m e is = append-nil rs
joined_are_lines (Geometry.MultiPolygon es) m e is = refl

-- a polygon's rings end among all
ends_within : (start : ℕ) (polygons : List (List (List Position))) (m : ℕ) (e : Element) → slice_get (elements_from start polygons) m ≡ Some e → rings_end e ≤ start + length (joined_rings polygons)
ends_within start [] m e is = absurd cc
ends_within start (x ∷ xs) zero e is = subst (λ (d : Element). rings_end d ≤ start + length (joined_rings (x ∷ xs))) (same_Some (record { first = start; rings = x }) e is)
    (omega (arith, length-append x (joined_rings xs)))
ends_within start (x ∷ xs) (suc m) e is = omega (arith, ends_within (start + length x) xs m e is, length-append x (joined_rings xs))

-- the numbers of a polygon's rings are numbers of lines
pub lines_cover : (g : Geometry) (first end : ℕ) → AreRings g first end → end ≤ length (lines g)
lines_cover g first end are =
    let all : length (joined_rings (elements g)) ≡ length (lines g) = ap (length {A = List Position}) (joined_are_lines g are.place are.element are.numbered) in
    omega (arith, ends_within 0 (elements g) are.place are.element are.numbered, all, are.ends)

-- a polygon's first number isn't above the one behind its last
pub first_below : (g : Geometry) (first end : ℕ) → AreRings g first end → first ≤ end
first_below g first end are = omega (arith, are.starts, are.ends)

-- a ring of the polygon is the line with its number
ring_is_line : (g : Geometry) (first end : ℕ) (are : AreRings g first end) (i : ℕ) → first ≤ i → i < end → ring_of are.element i ≡ slice_get (lines g) i
ring_is_line g first end are i low high = ring_is_there i 0 (elements g) are.place are.element are.numbered (omega (arith, are.starts, low)) (omega (arith, are.ends, high))
    ∙ ap₂ (λ (l : List (List Position)) (k : ℕ). slice_get l k) (joined_are_lines g are.place are.element are.numbered) from_zero
  where
    from_zero : i - 0 ≡ i
    from_zero = omega arith

-- a test that fails where a number is no ring's asks this polygon alone
asks_it : (g : Geometry) (first end : ℕ) (are : AreRings g first end) (t : Element → Bool) (i : ℕ) → first ≤ i → i < end → ((d : Element) → ring_of d i ≡ None → t d ≡ false)
    → list_any t (numbered_elements g) ≡ t are.element
asks_it g first end are t i low high fails = one_decides t i 0 (elements g) are.place are.element are.numbered (omega (arith, are.starts, low)) (omega (arith, are.ends, high)) fails

pub second_none : (test : List Position → List Position → Bool) (r : Option (List Position)) → test_of_both test r None ≡ false
second_none test None = refl
second_none test (Some r) = refl

-- two rings of one polygon meet
pub rings_meet_at : (g : Geometry) (first end i j : ℕ) → AreRings g first end → first ≤ i → i < j → j < end
    → has_fault g (RingsMeet i j) ≡ test_of_both rings_share (slice_get (lines g) i) (slice_get (lines g) j)
rings_meet_at g first end i j are low later high =
    asks_it g first end are (λ (e : Element). nat_lt i j && test_of_both rings_share (ring_of e i) (ring_of e j)) i low (omega (arith, later, high))
    (λ d none. ap (λ (r : Option (List Position)). nat_lt i j && test_of_both rings_share r (ring_of d j)) none ∙ and-false (nat_lt i j))
    ∙ (ap (λ (b : Bool). b && test_of_both rings_share (ring_of are.element i) (ring_of are.element j)) (lt-ltb i j later)
    ∙ ap₂ (λ (r s : Option (List Position)). test_of_both rings_share r s) (ring_is_line g first end are i low (omega (arith, later, high))) (ring_is_line g first end are j (omega (arith, low, later)) high))

abbrev pub is_out : List Position → List Position → Bool
is_out outer hole = not (inside outer hole)

-- a hole isn't inside the outer ring
pub hole_outside_at : (g : Geometry) (first end i : ℕ) → AreRings g first end → first < i → i < end
    → has_fault g (HoleOutside i) ≡ test_of_both is_out (slice_get (lines g) first) (slice_get (lines g) i)
hole_outside_at g first end i are low high =
    asks_it g first end are (λ (e : Element). nat_lt e.first i && test_of_both is_out (ring_of e e.first) (ring_of e i)) i (omega (arith, low)) high
    (λ d none. ap (λ (r : Option (List Position)). nat_lt d.first i && test_of_both is_out (ring_of d d.first) r) none
    ∙ (ap (λ (b : Bool). nat_lt d.first i && b) (second_none is_out (ring_of d d.first)) ∙ and-false (nat_lt d.first i)))
    ∙ (ap (λ (b : Bool). b && test_of_both is_out (ring_of are.element are.element.first) (ring_of are.element i)) (lt-ltb are.element.first i (omega (arith, low, are.starts)))
    ∙ ap₂ (λ (r s : Option (List Position)). test_of_both is_out r s)
    (ap (ring_of are.element) are.starts ∙ ring_is_line g first end are first (omega arith) (omega (arith, low, high))) (ring_is_line g first end are i (omega (arith, low)) high))

-- one of two holes is inside the other
pub holes_nested_at : (g : Geometry) (first end i j : ℕ) → AreRings g first end → first < i → i < j → j < end
    → has_fault g (HolesNested i j) ≡ test_of_both (λ r s. inside r s || inside s r) (slice_get (lines g) i) (slice_get (lines g) j)
holes_nested_at g first end i j are low later high =
    let nested = λ (r s : List Position). inside r s || inside s r in
    asks_it g first end are (λ (e : Element). nat_lt e.first i && nat_lt i j && test_of_both nested (ring_of e i) (ring_of e j)) i (omega (arith, low)) (omega (arith, later, high))
    (λ d none. ap (λ (r : Option (List Position)). nat_lt d.first i && nat_lt i j && test_of_both nested r (ring_of d j)) none ∙ and-false (nat_lt d.first i && nat_lt i j))
    ∙ (ap₂ (λ (a b : Bool). a && b && test_of_both nested (ring_of are.element i) (ring_of are.element j)) (lt-ltb are.element.first i (omega (arith, low, are.starts))) (lt-ltb i j later)
    ∙ ap₂ (λ (r s : Option (List Position)). test_of_both nested r s) (ring_is_line g first end are i (omega (arith, low)) (omega (arith, later, high)))
    (ring_is_line g first end are j (omega (arith, low, later)) high))

-- the rings of two polygons meet
pub elements_meet_at : (g : Geometry) (i j : ℕ) → i < j → has_fault g (ElementsMeet i j) ≡ test_of_both elements_share (slice_get (elements g) i) (slice_get (elements g) j)
elements_meet_at g i j later = ap (λ (b : Bool). b && test_of_both elements_share (slice_get (elements g) i) (slice_get (elements g) j)) (lt-ltb i j later)
