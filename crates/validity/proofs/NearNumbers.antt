-- The first fault that applies is among those of near numbers.
use Rattle.std.proofs.Common.{◌≡◌, refl, sym, ap, ap₂, ◌∙◌, subst, ℕ, zero, suc, ◌+◌, ◌-◌, ◌<◌, ◌≤◌, ◌==◌, ◌⊎◌, inl, inr, not, Bool, true, false, ◌&&◌, ◌||◌, cond, int_le, nat_le, nat_lt, List, [], ◌∷◌, map, drop, length, get_or, Option, Some, None, slice_get, arith, All, le-ltb, lt-ltb, le-leb, ltb-true, ltb-false}
use Rattle.std.specs.Prelude.{filter}
use Rattle.std.specs.List.{find, enumerate_from}
use Rattle.std.proofs.lemmas.List.{length-map, drop_all}
use Rattle.std.proofs.lemmas.Option.{get_or_from_slice_get, slice_get_within}
use Rattle.std.proofs.lemmas.Bool.{or_cases, lt-leb}
use Rattle.std.proofs.Math.Nat.{sub-zero}
use Rattle.basics.proofs.Bools.{and_second, and_middle}
use Rattle.basics.proofs.Lists.{element_at, unmapped}
use Rattle.geometry_model.specs.Points.{Position}
use Rattle.geometry_model.specs.Geometries.{Geometry, lines, rings, elements, joined_rings}
use Rattle.geometry_model.specs.Envelopes.{Envelope, envelope_of_positions, meets, overlap}
use Rattle.geometry_model.specs.Validity.{Element, numbered_elements, inside, inside_element}
use Rattle.geometry_model.specs.FirstFaults.{has_fault, numbers, rings_share, elements_share, test_of_both}
use Rattle.geometry_model.specs.declared.validity_faults.ValidityFault.{ValidityFault}
use Rattle.geometry_model.specs.declared.validity_faults.ValidityFault.TheVariants.{RingsMeet, HolesNested, ElementsMeet, ElementInside}
use Rattle.geometry_laws.specs.RingLaws.{IsClosed}
use Rattle.geometry_laws.specs.PieceLaws.{HasClosedRings}
use Rattle.geometry_laws.proofs.Each.{Each, each_left, each_right}
use Rattle.geometry_laws.proofs.RingParity.{each_from_all}
use Rattle.geometry_laws.proofs.CoverTheorems.{all_from_each}
use Rattle.rtree.specs.Found.{placed_meets, meeting_places}
use Rattle.validity.specs.Neighbours.{first_near, ring_envelopes, element_envelope, element_envelopes}
use Rattle.validity.specs.Outlines.{AreRings}
use Rattle.validity.proofs.Envelopes.{rings_are_lines, sharing_meet, inside_meet, sharing_rings_meet, inside_rings_meet}
use Rattle.validity.proofs.Finding.{none_left, found_here, passed_here}
use Rattle.edge_boxes.proofs.Rests.{at_index}
use Rattle.validity.proofs.RingNumbers.{rings_meet_at, holes_nested_at, elements_meet_at, lines_cover}

-- ---- of all numbers the near ones
-- what applies of a number has an envelope that meets the one asked for, where envelopes from a place on are these
abbrev pub AreNear : Geometry → (ℕ → ValidityFault) → ℕ → ℕ → Option Envelope → ℕ → List (Option Envelope) → Type 0
AreNear g fault from end asked n envelopes = (j : ℕ) (o : Option Envelope) → n ≤ j → slice_get envelopes (j - n) ≡ Some o → from ≤ j → j < end → has_fault g (fault j) ≡ true → meets o asked ≡ true

-- the places from n on at which an envelope meets the one asked for
abbrev pub places : Option Envelope → ℕ → List (Option Envelope) → List ℕ
places asked n envelopes = map (λ (p : ℕ × Option Envelope). p.0) (filter (placed_meets asked) (enumerate_from n envelopes))

-- the first of these envelopes gives its place exactly where it meets the one asked for
pub one_place : (asked : Option Envelope) (n : ℕ) (o : Option Envelope) (envelopes : List (Option Envelope)) → places asked n (o ∷ envelopes) ≡ cond (meets o asked) (n ∷ places asked (n + 1) envelopes) (places asked (n + 1) envelopes)
one_place asked n o envelopes = go (meets o asked) refl
  where
    go : (b : Bool) → meets o asked ≡ b → places asked n (o ∷ envelopes) ≡ cond b (n ∷ places asked (n + 1) envelopes) (places asked (n + 1) envelopes)
    go true e = ap (λ (b : Bool). map (λ (p : ℕ × Option Envelope). p.0) (cond b ((n, o) ∷ filter (placed_meets asked) (enumerate_from (n + 1) envelopes)) (filter (placed_meets asked) (enumerate_from (n + 1) envelopes)))) e
    go false e = ap (λ (b : Bool). map (λ (p : ℕ × Option Envelope). p.0) (cond b ((n, o) ∷ filter (placed_meets asked) (enumerate_from (n + 1) envelopes)) (filter (placed_meets asked) (enumerate_from (n + 1) envelopes)))) e

-- what is near from a place on is near from the next on
next_near : (g : Geometry) (fault : ℕ → ValidityFault) (from end : ℕ) (asked : Option Envelope) (n : ℕ) (o : Option Envelope) (envelopes : List (Option Envelope)) → AreNear g fault from end asked n (o ∷ envelopes) → AreNear g fault from end asked (n + 1) envelopes
next_near g fault from end asked n o envelopes near j p h is = let less : j - n ≡ suc (j - (n + 1)) = omega (arith, h) in near j p (omega (arith, h)) (ap (slice_get (o ∷ envelopes)) less ∙ is)

-- where the fault of the first number applies its envelope meets the one asked for
first_is : (g : Geometry) (fault : ℕ → ValidityFault) (from end : ℕ) (asked : Option Envelope) (n : ℕ) (o : Option Envelope) (envelopes : List (Option Envelope)) → AreNear g fault from end asked n (o ∷ envelopes) → from ≤ n → n < end → has_fault g (fault n) ≡ true → meets o asked ≡ true
first_is g fault from end asked n o envelopes near = let none : n - n ≡ 0 = omega arith in near n o (omega arith) (ap (slice_get (o ∷ envelopes)) none)

-- a number that isn't counted may be left out
left_out : (g : Geometry) (fault : ℕ → ValidityFault) (from end n : ℕ) (meet : Bool) (rest : List ℕ) → nat_le from n && nat_lt n end && has_fault g (fault n) ≡ false
    → first_near g fault from end (cond meet (n ∷ rest) rest) ≡ first_near g fault from end rest
left_out g fault from end n true rest fails = ap (λ (b : Bool). cond b (Some (fault n)) (first_near g fault from end rest)) fails
left_out g fault from end n false rest fails = refl

-- a number whose fault applies, and whose envelope meets, is the first
taken_first : (g : Geometry) (fault : ℕ → ValidityFault) (from end n : ℕ) (meet : Bool) (rest : List ℕ) → meet ≡ true → nat_le from n && nat_lt n end && has_fault g (fault n) ≡ true
    → first_near g fault from end (cond meet (n ∷ rest) rest) ≡ Some (fault n)
taken_first g fault from end n true rest m passes = ap (λ (b : Bool). cond b (Some (fault n)) (first_near g fault from end rest)) passes
taken_first g fault from end n false rest m passes = absurd cc

three : (a b c : Bool) → a ≡ true → b ≡ true → a && b && c ≡ c
three true true c e f = refl
three false b c e f = absurd cc
three true false c e f = absurd cc

first_no : (a b c : Bool) → a ≡ false → a && b && c ≡ false
first_no true b c e = absurd cc
first_no false b c e = refl

third_no : (a b c : Bool) → c ≡ false → a && b && c ≡ false
third_no true true c e = e
third_no true false c e = refl
third_no false b c e = refl

-- of the numbers from one on the first whose fault applies is found among the near ones,
-- since a number that isn't near has no fault that applies
near_after : (g : Geometry) (fault : ℕ → ValidityFault) (from end : ℕ) (asked : Option Envelope) (n : ℕ) (envelopes : List (Option Envelope)) → from ≤ n → end ≤ n + length envelopes
    → AreNear g fault from end asked n envelopes → find (has_fault g) (map fault (numbers n end)) ≡ first_near g fault from end (places asked n envelopes)
near_after g fault from end asked n [] h k near = none_left (has_fault g) fault n end (omega (arith, k))
near_after g fault from end asked n (o ∷ envelopes) h k near =
    go (nat_lt n end) refl (has_fault g (fault n)) refl (near_after g fault from end asked (n + 1) envelopes (omega (arith, h)) (omega (arith, k)) (next_near g fault from end asked n o envelopes near))
    ∙ sym (ap (first_near g fault from end) (one_place asked n o envelopes))
  where
    go : (b : Bool) → nat_lt n end ≡ b → (t : Bool) → has_fault g (fault n) ≡ t → find (has_fault g) (map fault (numbers (n + 1) end)) ≡ first_near g fault from end (places asked (n + 1) envelopes)
        → find (has_fault g) (map fault (numbers n end)) ≡ first_near g fault from end (cond (meets o asked) (n ∷ places asked (n + 1) envelopes) (places asked (n + 1) envelopes))
    go true within true applies rest =
        found_here (has_fault g) fault n end (ltb-true n end within) applies
        ∙ sym (taken_first g fault from end n (meets o asked) (places asked (n + 1) envelopes) (first_is g fault from end asked n o envelopes near h (ltb-true n end within) applies)
        (three (nat_le from n) (nat_lt n end) (has_fault g (fault n)) (le-leb from n h) within ∙ applies))
    go true within false applies rest =
        passed_here (has_fault g) fault n end (ltb-true n end within) applies ∙ rest
        ∙ sym (left_out g fault from end n (meets o asked) (places asked (n + 1) envelopes) (third_no (nat_le from n) (nat_lt n end) (has_fault g (fault n)) applies))
    go false past t applies rest =
        none_left (has_fault g) fault n end (ltb-false n end past) ∙ (sym (none_left (has_fault g) fault (n + 1) end (omega (arith, ltb-false n end past))) ∙ rest)
        ∙ sym (left_out g fault from end n (meets o asked) (places asked (n + 1) envelopes) (and_middle (nat_le from n) (nat_lt n end) (has_fault g (fault n)) past))

-- the same where some envelopes come before the first number asked for: their numbers aren't counted
near_from : (g : Geometry) (fault : ℕ → ValidityFault) (from end : ℕ) (asked : Option Envelope) (m n : ℕ) (envelopes : List (Option Envelope)) → n + m ≡ from → end ≤ n + length envelopes
    → AreNear g fault from end asked n envelopes → find (has_fault g) (map fault (numbers from end)) ≡ first_near g fault from end (places asked n envelopes)
near_from g fault from end asked zero n envelopes h k near = let same : from ≡ n = omega (arith, h) in
    ap (λ i. find (has_fault g) (map fault (numbers i end))) same ∙ near_after g fault from end asked n envelopes (omega (arith, h)) k near
near_from g fault from end asked (suc m) n [] h k near = none_left (has_fault g) fault from end (omega (arith, h, k))
near_from g fault from end asked (suc m) n (o ∷ envelopes) h k near =
    near_from g fault from end asked m (n + 1) envelopes (omega (arith, h)) (omega (arith, k)) (next_near g fault from end asked n o envelopes near)
    ∙ sym (ap (first_near g fault from end) (one_place asked n o envelopes)
    ∙ left_out g fault from end n (meets o asked) (places asked (n + 1) envelopes) (first_no (nat_le from n) (nat_lt n end) (has_fault g (fault n)) (lt-leb from n (omega (arith, h)))))

-- the first fault that applies of a range of numbers is found by looking only at those whose envelopes meet
pub near_found : (g : Geometry) (fault : ℕ → ValidityFault) (from end : ℕ) (asked : Option Envelope) (envelopes : List (Option Envelope)) → end ≤ length envelopes
    → AreNear g fault from end asked 0 envelopes → find (has_fault g) (map fault (numbers from end)) ≡ first_near g fault from end (meeting_places envelopes asked)
near_found g fault from end asked envelopes h near = near_from g fault from end asked from 0 envelopes (omega arith) (omega (arith, h)) near

-- ---- one near number after another
-- one step over the near numbers: one in the range whose fault applies is the first ..
pub found_near : (g : Geometry) (fault : ℕ → ValidityFault) (from end : ℕ) (near : List ℕ) (k j d : ℕ) → k < length near → j ≡ get_or near k d → from ≤ j → j < end → has_fault g (fault j) ≡ true
    → first_near g fault from end (drop k near) ≡ Some (fault j)
found_near g fault from end near k j d within is low high applies = ap (first_near g fault from end) (at_index near k d j within is)
    ∙ ap (λ (b : Bool). cond b (Some (fault j)) (first_near g fault from end (drop (k + 1) near))) (three (nat_le from j) (nat_lt j end) (has_fault g (fault j)) (le-leb from j low) (lt-ltb j end high) ∙ applies)

-- .. and one that isn't counted is passed: the search goes on behind it
passed_number : (g : Geometry) (fault : ℕ → ValidityFault) (from end : ℕ) (near : List ℕ) (k j d : ℕ) → k < length near → j ≡ get_or near k d → nat_le from j && nat_lt j end && has_fault g (fault j) ≡ false
    → first_near g fault from end (drop k near) ≡ first_near g fault from end (drop (k + 1) near)
passed_number g fault from end near k j d within is fails = ap (first_near g fault from end) (at_index near k d j within is) ∙ ap (λ (b : Bool). cond b (Some (fault j)) (first_near g fault from end (drop (k + 1) near))) fails

-- a near number before the range is passed
pub passed_early : (g : Geometry) (fault : ℕ → ValidityFault) (from end : ℕ) (near : List ℕ) (k j d : ℕ) → k < length near → j ≡ get_or near k d → j < from
    → first_near g fault from end (drop k near) ≡ first_near g fault from end (drop (k + 1) near)
passed_early g fault from end near k j d within is early = passed_number g fault from end near k j d within is (first_no (nat_le from j) (nat_lt j end) (has_fault g (fault j)) (lt-leb from j early))

-- a near number behind the range is passed
pub passed_late : (g : Geometry) (fault : ℕ → ValidityFault) (from end : ℕ) (near : List ℕ) (k j d : ℕ) → k < length near → j ≡ get_or near k d → end ≤ j
    → first_near g fault from end (drop k near) ≡ first_near g fault from end (drop (k + 1) near)
passed_late g fault from end near k j d within is late = passed_number g fault from end near k j d within is (and_middle (nat_le from j) (nat_lt j end) (has_fault g (fault j)) (le-ltb j end late))

-- a near number whose fault doesn't apply is passed
pub passed_near : (g : Geometry) (fault : ℕ → ValidityFault) (from end : ℕ) (near : List ℕ) (k j d : ℕ) → k < length near → j ≡ get_or near k d → has_fault g (fault j) ≡ false
    → first_near g fault from end (drop k near) ≡ first_near g fault from end (drop (k + 1) near)
passed_near g fault from end near k j d within is fails = passed_number g fault from end near k j d within is (third_no (nat_le from j) (nat_lt j end) (has_fault g (fault j)) fails)

-- where all near numbers are passed no fault applies
pub none_near : (g : Geometry) (fault : ℕ → ValidityFault) (from end : ℕ) (near : List ℕ) (k : ℕ) → length near ≤ k → first_near g fault from end (drop k near) ≡ None
none_near g fault from end near k h = ap (first_near g fault from end) (drop_all k near h)

-- ---- what a test of two says
-- a test of two numbers that is passed is passed by the rings or polygons that have these numbers
both_there : {A : Type 0} (test : A → A → Bool) (o p : Option A) (r s : A) → o ≡ Some r → p ≡ Some s → test_of_both test o p ≡ true → test r s ≡ true
both_there test o p r s e f h = sym (ap₂ (test_of_both test) e f) ∙ h

-- where all rings are closed, so is the one with this number
pub closed_at : (rs : List (List Position)) (i : ℕ) (r : List Position) → All IsClosed rs → slice_get rs i ≡ Some r → (i < length rs) × IsClosed r
closed_at rs i r closed is = let within = slice_get_within rs i r is in (within, subst IsClosed (get_or_from_slice_get rs i r r is) (closed i r within))

-- the envelope asked for is that of the ring or polygon with the number
asked_envelope : {A : Type 0} (f : A → Option Envelope) (xs : List A) (i : ℕ) (x : A) → slice_get xs i ≡ Some x → get_or (map f xs) i None ≡ f x
asked_envelope f [] i x h = absurd cc
asked_envelope f (y ∷ ys) zero x h = let same : y ≡ x = cc in ap f same
asked_envelope f (y ∷ ys) (suc i) x h = asked_envelope f ys i x h

-- envelopes that meet meet the other way round
pub overlap_turned : (a b : Envelope) → overlap a b ≡ true → overlap b a ≡ true
overlap_turned a b h = go (int_le a.least_x b.greatest_x) (int_le b.least_x a.greatest_x) (int_le a.least_y b.greatest_y) (int_le b.least_y a.greatest_y) h
  where
    go : (p q r s : Bool) → p && q && r && s ≡ true → q && p && s && r ≡ true
    go true true true true h = refl
    go true true true false h = h
    go true true false s h = absurd cc
    go true false r s h = absurd cc
    go false q r s h = absurd cc

meets_turned : (o p : Option Envelope) → meets o p ≡ true → meets p o ≡ true
meets_turned None None h = refl
meets_turned None (Some f) h = absurd cc
meets_turned (Some e) None h = absurd cc
meets_turned (Some e) (Some f) h = overlap_turned e f h

-- ---- rings of one polygon that share a point, or of which one is inside the other
-- a later ring of the polygon that meets this one has an envelope that meets its own
pub rings_near : (g : Geometry) (first end ring : ℕ) → HasClosedRings g → AreRings g first end → first ≤ ring → ring < end → AreNear g (RingsMeet ring) (ring + 1) end (get_or (ring_envelopes g) ring None) 0 (ring_envelopes g)
rings_near g first end ring closed are low high j o h is later before applies =
    let m = unmapped envelope_of_positions (rings g) j o (ap (slice_get (ring_envelopes g)) (sym (sub-zero j)) ∙ is) in
    let s = closed_at (rings g) j m.0 closed m.1 in
    let same = rings_are_lines g j s.0 in
    let own = element_at (rings g) ring (omega (arith, s.0, later)) in
    let r = closed_at (rings g) ring own.0 closed own.1 in
    let share = both_there rings_share (slice_get (lines g) ring) (slice_get (lines g) j) own.0 m.0 (ap (λ l. slice_get l ring) (sym same) ∙ own.1) (ap (λ l. slice_get l j) (sym same) ∙ m.1)
    (sym (rings_meet_at g first end ring j are low (omega (arith, later)) before) ∙ applies) in
    ap₂ meets (sym m.2) (asked_envelope envelope_of_positions (rings g) ring own.0 own.1) ∙ sharing_rings_meet own.0 m.0 r.1 s.1 share

-- of two holes of which one is inside the other the envelopes meet, whichever is the inner one
pub holes_near : (g : Geometry) (first end hole : ℕ) → HasClosedRings g → AreRings g first end → first < hole → hole < end → AreNear g (HolesNested hole) (hole + 1) end (get_or (ring_envelopes g) hole None) 0 (ring_envelopes g)
holes_near g first end hole closed are low high j o h is later before applies =
    let m = unmapped envelope_of_positions (rings g) j o (ap (slice_get (ring_envelopes g)) (sym (sub-zero j)) ∙ is) in
    let s = closed_at (rings g) j m.0 closed m.1 in
    let same = rings_are_lines g j s.0 in
    let own = element_at (rings g) hole (omega (arith, s.0, later)) in
    let r = closed_at (rings g) hole own.0 closed own.1 in
    let nested = both_there (λ a b. inside a b || inside b a) (slice_get (lines g) hole) (slice_get (lines g) j) own.0 m.0 (ap (λ l. slice_get l hole) (sym same) ∙ own.1) (ap (λ l. slice_get l j) (sym same) ∙ m.1)
    (sym (holes_nested_at g first end hole j are low (omega (arith, later)) before) ∙ applies) in
    ap₂ meets (sym m.2) (asked_envelope envelope_of_positions (rings g) hole own.0 own.1) ∙ either_way own.0 m.0 r.1 s.1 (or_cases (inside own.0 m.0) (inside m.0 own.0) nested)
  where
    either_way : (r s : List Position) → IsClosed r → IsClosed s → (inside r s ≡ true) ⊎ (inside s r ≡ true) → meets (envelope_of_positions s) (envelope_of_positions r) ≡ true
    either_way r s c d (inl e) = meets_turned (envelope_of_positions r) (envelope_of_positions s) (inside_rings_meet r s c e)
    either_way r s c d (inr e) = inside_rings_meet s r d e

-- ---- polygons that share a point, or of which one is inside the other
-- where all rings of all polygons are closed, so are those of each
part_of : (es : List (List (List Position))) (i : ℕ) (d : List (List Position)) → Each IsClosed (joined_rings es) → slice_get es i ≡ Some d → Each IsClosed d
part_of [] i d h is = absurd cc
part_of (e ∷ es) zero d h is = let same : e ≡ d = cc in subst (Each IsClosed) same (each_left IsClosed e (joined_rings es) h)
part_of (e ∷ es) (suc i) d h is = part_of es i d (each_right IsClosed e (joined_rings es) h) is

-- where a geometry's rings are closed, so are those of each of its polygons
pub element_closed : (g : Geometry) (i : ℕ) (d : List (List Position)) → HasClosedRings g → slice_get (elements g) i ≡ Some d → All IsClosed d
element_closed (Geometry.Point p) i d closed is = absurd cc
element_closed (Geometry.MultiPoint ps) i d closed is = absurd cc
element_closed (Geometry.LineString ps) i d closed is = absurd cc
element_closed (Geometry.MultiLineString ls) i d closed is = absurd cc
element_closed (Geometry.Polygon rs) zero d closed is = let same : rs ≡ d = cc in subst (All IsClosed) same closed
element_closed (Geometry.Polygon rs) (suc i) d closed is = absurd cc
element_closed (Geometry.MultiPolygon es) i d closed is = all_from_each IsClosed d (part_of es i d (each_from_all IsClosed (joined_rings es) closed) is)

-- a later polygon that meets this one has an envelope that meets its own
pub elements_near : (g : Geometry) (element : ℕ) → HasClosedRings g → AreNear g (ElementsMeet element) (element + 1) (length (elements g)) (get_or (element_envelopes g) element None) 0 (element_envelopes g)
elements_near g element closed j o h is later before applies =
    let m = unmapped element_envelope (elements g) j o (ap (slice_get (element_envelopes g)) (sym (sub-zero j)) ∙ is) in
    let own = element_at (elements g) element (omega (arith, before, later)) in
    let share = both_there elements_share (slice_get (elements g) element) (slice_get (elements g) j) own.0 m.0 own.1 m.1 (sym (elements_meet_at g element j (omega (arith, later))) ∙ applies) in
    ap₂ meets (sym m.2) (asked_envelope element_envelope (elements g) element own.0 own.1)
    ∙ sharing_meet own.0 m.0 (element_closed g element own.0 closed own.1) (element_closed g j m.0 closed m.1) share

-- a polygon in which this one lies has an envelope that meets its own
pub insides_near : (g : Geometry) (element : ℕ) → HasClosedRings g → element < length (elements g) → AreNear g (ElementInside element) 0 (length (elements g)) (get_or (element_envelopes g) element None) 0 (element_envelopes g)
insides_near g element closed there_is j o h is later before applies =
    let m = unmapped element_envelope (elements g) j o (ap (slice_get (element_envelopes g)) (sym (sub-zero j)) ∙ is) in
    let own = element_at (elements g) element there_is in
    let within = both_there (λ d e. inside_element e d) (slice_get (elements g) element) (slice_get (elements g) j) own.0 m.0 own.1 m.1
    (and_second (not (element == j)) (test_of_both (λ d e. inside_element e d) (slice_get (elements g) element) (slice_get (elements g) j)) applies) in
    ap₂ meets (sym m.2) (asked_envelope element_envelope (elements g) element own.0 own.1)
    ∙ inside_meet own.0 m.0 (element_closed g j m.0 closed m.1) within

-- ---- numbers within the lists
-- a geometry that has a polygon is an area, so its lines are its rings
pub rings_of_elements : (g : Geometry) (m : ℕ) (e : Element) → slice_get (numbered_elements g) m ≡ Some e → rings g ≡ lines g
rings_of_elements (Geometry.Point p) m e is = absurd cc
rings_of_elements (Geometry.MultiPoint ps) m e is = absurd cc
rings_of_elements (Geometry.LineString ps) m e is = absurd cc
rings_of_elements (Geometry.MultiLineString ls) m e is = absurd cc
rings_of_elements (Geometry.Polygon rs) m e is = refl
rings_of_elements (Geometry.MultiPolygon es) m e is = refl

-- each number of a polygon's ring has an envelope
pub rings_cover : (g : Geometry) (first end : ℕ) → AreRings g first end → end ≤ length (ring_envelopes g)
rings_cover g first end are =
    let same : length (rings g) ≡ length (lines g) = ap (length {A = List Position}) (rings_of_elements g are.place are.element are.numbered) in
    omega (arith, lines_cover g first end are, same, length-map (rings g) envelope_of_positions)

-- each polygon has an envelope
pub elements_cover : (g : Geometry) → length (elements g) ≤ length (element_envelopes g)
elements_cover g = omega (arith, length-map (elements g) element_envelope)
