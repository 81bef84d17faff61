-- The first fault of a geometry, computed in whole numbers. `geometry_laws` proves that each test agrees with its fact in `Validity`.
use Rattle.std.specs.Prelude.{ℕ, ◌+◌, ◌-◌, ◌==◌, ℤ, pos, int_lt, Bool, false, not, ◌&&◌, ◌||◌, List, [], ◌∷◌, ◌++◌, length, map, flat_map, find, Option, Some, None, nat_lt, nat_le, slice_get, if◌then◌else◌}
use Rattle.std.specs.List.{list_any, range_with_len, enumerate_from}
use Rattle.geometry_model.specs.Points.{Position, point_at}
use Rattle.geometry_model.specs.WellKnownText.{same_position}
use Rattle.geometry_model.specs.Geometries.{Geometry, Edge, lines, edges_of_line, rings, elements}
use Rattle.geometry_model.specs.Sides.{side, on}
use Rattle.geometry_model.specs.Locations.{last_after}
use Rattle.geometry_model.specs.Validity.{is_short, inside, inside_element, Element, numbered_elements}
use Rattle.geometry_model.specs.declared.validity_faults.ValidityFault.{ValidityFault}
use Rattle.geometry_model.specs.declared.validity_faults.ValidityFault.TheVariants.{TooFewPoints, RingNotClosed, RingNotSimple, RingsMeet, HoleOutside, HolesNested, ElementsMeet, ElementInside}

-- one number is above 0 and the other below 0
abbrev pub opposite : ℤ → ℤ → Bool
opposite x y = (int_lt x (pos 0) && int_lt (pos 0) y) || (int_lt (pos 0) x && int_lt y (pos 0))

-- the ends of each edge lie on opposite sides of the other
abbrev pub cross : Edge → Edge → Bool
cross e f = opposite (side e.start e.end (point_at f.start)) (side e.start e.end (point_at f.end))
    && opposite (side f.start f.end (point_at e.start)) (side f.start f.end (point_at e.end))

-- two edges share a point: an end of one is on the other, or they cross
abbrev pub share_point : Edge → Edge → Bool
share_point e f = on e (point_at f.start) || on e (point_at f.end) || on f (point_at e.start) || on f (point_at e.end) || cross e f

-- q is on the edge and isn't the position
abbrev pub other_on : Position → Edge → Position → Bool
other_on shared_end e q = on e (point_at q) && not (same_position q shared_end)

-- two edges with a common end share another point: an end other than it is on both
abbrev pub share_other : Position → Edge → Edge → Bool
share_other shared_end e f = other_on shared_end e f.start || other_on shared_end e f.end || other_on shared_end f e.start || other_on shared_end f e.end

-- two of the n edges of a ring clash: the earlier and the later one, each with its number
abbrev pub clash : ℕ → ℕ × Edge → ℕ × Edge → Bool
clash n a b =
    if b.0 == a.0 + 1 then share_other a.1.end a.1 b.1
    else if a.0 == 0 && b.0 + 1 == n then share_other a.1.start a.1 b.1
    else share_point a.1 b.1

-- some element and some later one pass the test
abbrev pub any_pair : {A : Type 0} → (A → A → Bool) → List A → Bool
any_pair test [] = false
any_pair test (x ∷ xs) = list_any (test x) xs || any_pair test xs

-- the ring touches, crosses or covers itself (06-103r4, 6.1.7: a LinearRing is simple)
abbrev pub is_not_simple : List Position → Bool
is_not_simple ring = any_pair (clash (length (edges_of_line ring))) (enumerate_from 0 (edges_of_line ring))

-- two rings share a point (06-103r4, 6.1.11.1)
abbrev pub rings_share : List Position → List Position → Bool
rings_share r s = list_any (λ e. list_any (share_point e) (edges_of_line s)) (edges_of_line r)

-- a ring of one polygon and one of the other share a point (06-103r4, 6.1.14)
abbrev pub elements_share : List (List Position) → List (List Position) → Bool
elements_share d e = list_any (λ r. list_any (rings_share r) e) d

-- the last position isn't the first (06-103r4, 6.1.7: a LinearRing is closed)
abbrev pub is_not_closed : List Position → Bool
is_not_closed [] = false
is_not_closed (p ∷ ps) = not (same_position (last_after p ps) p)

-- there is a list and it passes the test
abbrev pub test_of : (List Position → Bool) → Option (List Position) → Bool
test_of test None = false
test_of test (Some ps) = test ps

-- the ring of a polygon with this number, or none
abbrev pub ring_of : Element → ℕ → Option (List Position)
ring_of e number = if nat_le e.first number then slice_get e.rings (number - e.first) else None

-- there are two values and they pass the test
abbrev pub test_of_both : {A : Type 0} → (A → A → Bool) → Option A → Option A → Bool
test_of_both test None s = false
test_of_both test (Some r) None = false
test_of_both test (Some r) (Some s) = test r s

-- the geometry has the fault
abbrev pub has_fault : Geometry → ValidityFault → Bool
has_fault g (TooFewPoints i) = test_of (is_short g) (slice_get (lines g) i)
has_fault g (RingNotClosed i) = test_of is_not_closed (slice_get (rings g) i)
has_fault g (RingNotSimple i) = test_of is_not_simple (slice_get (rings g) i)
has_fault g (RingsMeet i j) = list_any (λ e. nat_lt i j && test_of_both rings_share (ring_of e i) (ring_of e j)) (numbered_elements g)
has_fault g (HoleOutside i) = list_any (λ e. nat_lt e.first i && test_of_both (λ outer hole. not (inside outer hole)) (ring_of e e.first) (ring_of e i)) (numbered_elements g)
has_fault g (HolesNested i j) =
    list_any (λ e. nat_lt e.first i && nat_lt i j && test_of_both (λ r s. inside r s || inside s r) (ring_of e i) (ring_of e j)) (numbered_elements g)
has_fault g (ElementsMeet i j) = nat_lt i j && test_of_both elements_share (slice_get (elements g) i) (slice_get (elements g) j)
has_fault g (ElementInside i j) = not (i == j) && test_of_both (λ d e. inside_element e d) (slice_get (elements g) i) (slice_get (elements g) j)

-- the numbers from `first` on that are less than n
abbrev pub numbers : ℕ → ℕ → List ℕ
numbers first n = range_with_len first (n - first)

-- the faults of the pairs i < j of numbers from `first` on that are less than n, by i, then by j
abbrev pub of_pairs : (ℕ → ℕ → ValidityFault) → ℕ → ℕ → List ValidityFault
of_pairs fault first n = flat_map (λ i. map (fault i) (numbers (i + 1) n)) (numbers first n)

-- one more than the number of a polygon's last ring
abbrev pub rings_end : Element → ℕ
rings_end e = e.first + length e.rings

-- the faults of all pairs i, j of numbers less than n, by i, then by j
abbrev pub of_every_two : (ℕ → ℕ → ValidityFault) → ℕ → List ValidityFault
of_every_two fault n = flat_map (λ i. map (fault i) (numbers 0 n)) (numbers 0 n)

-- the faults of the polygons one by one, in the order of their rings' numbers
abbrev pub of_elements : (Element → List ValidityFault) → Geometry → List ValidityFault
of_elements faults g = flat_map faults (numbered_elements g)

-- the faults in the order in which they are tested: V1 to V8, within each the least numbers first
abbrev pub in_order : Geometry → List ValidityFault
in_order g = let n = length (rings g) in
    map TooFewPoints (numbers 0 (length (lines g))) ++ map RingNotClosed (numbers 0 n) ++ map RingNotSimple (numbers 0 n)
    ++ of_elements (λ e. of_pairs RingsMeet e.first (rings_end e)) g
    ++ of_elements (λ e. map HoleOutside (numbers (e.first + 1) (rings_end e))) g
    ++ of_elements (λ e. of_pairs HolesNested (e.first + 1) (rings_end e)) g
    ++ of_pairs ElementsMeet 0 (length (elements g)) ++ of_every_two ElementInside (length (elements g))

-- the first fault of a geometry, or none (06-103r4, 6.1.7, 6.1.11.1 and 6.1.14; the order is this project's)
abbrev pub validity_fault : Geometry → Option ValidityFault
validity_fault g = find (has_fault g) (in_order g)
