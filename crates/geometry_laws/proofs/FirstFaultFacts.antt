-- The first fault that is found applies, and none is found exactly where the geometry is valid.
use Rattle.std.proofs.Common.{◌≡◌, ◌⊎◌, inl, inr, ℕ, zero, suc, ◌+◌, ◌-◌, ◌<◌, ◌≤◌, Bool, true, false, List, [], ◌∷◌, ◌++◌, length, map, flat_map, find, cond, Option, Some, None, Contains, slice_index_or, refl, sym, ap, ◌∙◌, subst, zero-add, arith, add-zero}
use Rattle.std.specs.List.{range_with_len}
use Rattle.std.proofs.lemmas.Bool.{true≢false}
use Rattle.std.proofs.lemmas.List.{append_assoc}
use Rattle.std.proofs.lemmas.Option.{slice_get_within}
use Rattle.geometry_model.specs.Geometries.{Geometry, lines, rings, elements}
use Rattle.geometry_model.specs.Validity.{Element, numbered_elements, HasFault, IsValid}
use Rattle.geometry_model.specs.FirstFaults.{has_fault, numbers, of_pairs, rings_end, of_every_two, of_elements, in_order, validity_fault}
use Rattle.geometry_model.specs.declared.validity_faults.ValidityFault.{ValidityFault}
use Rattle.geometry_model.specs.declared.validity_faults.ValidityFault.TheVariants.{TooFewPoints, RingNotClosed, RingNotSimple, RingsMeet, HoleOutside, HolesNested, ElementsMeet, ElementInside}
use Rattle.geometry_laws.specs.FaultLaws.{AreClosed, FirstFaultApplies, NoneIsFoundWhereValid}
use Rattle.geometry_laws.proofs.ElementFacts.{greater_number}
use Rattle.geometry_laws.proofs.FaultFacts.{NeedsClosed, fault_decided}

-- ---- finding in a list
-- what is found passes the test
found_passes : (p : ValidityFault → Bool) (xs : List ValidityFault) (x : ValidityFault) → find p xs ≡ Some x → p x ≡ true
found_passes p [] x e = absurd cc
found_passes p (y ∷ ys) x e = go (p y) refl e (found_passes p ys x)
  where
    go : (b : Bool) → p y ≡ b → cond b (Some y) (find p ys) ≡ Some x → (find p ys ≡ Some x → p x ≡ true) → p x ≡ true
    go true is e later = let same : y ≡ x = cc in sym (ap p same) ∙ is
    go false is e later = later e

-- the first in the one list, or, where that has none, the first in the other
pub found_in_two : (p : ValidityFault → Bool) (xs ys : List ValidityFault) (o : Option ValidityFault) → find p (xs ++ ys) ≡ o
    → (find p xs ≡ o) ⊎ ((find p xs ≡ None) × (find p ys ≡ o))
found_in_two p [] ys o e = inr (refl, e)
found_in_two p (x ∷ xs) ys o e = go (p x) e (found_in_two p xs ys o)
  where
    go : (b : Bool) → cond b (Some x) (find p (xs ++ ys)) ≡ o → (find p (xs ++ ys) ≡ o → (find p xs ≡ o) ⊎ ((find p xs ≡ None) × (find p ys ≡ o)))
        → (cond b (Some x) (find p xs) ≡ o) ⊎ ((cond b (Some x) (find p xs) ≡ None) × (find p ys ≡ o))
    go true e later = inl e
    go false e later = later e

pub none_in_two : (p : ValidityFault → Bool) (xs ys : List ValidityFault) → find p (xs ++ ys) ≡ None → (find p xs ≡ None) × (find p ys ≡ None)
none_in_two p [] ys e = (refl, e)
none_in_two p (x ∷ xs) ys e = go (p x) e (none_in_two p xs ys)
  where
    go : (b : Bool) → cond b (Some x) (find p (xs ++ ys)) ≡ None → (find p (xs ++ ys) ≡ None → (find p xs ≡ None) × (find p ys ≡ None))
        → (cond b (Some x) (find p xs) ≡ None) × (find p ys ≡ None)
    go true e later = absurd cc
    go false e later = later e

-- a fault that is found among faults of one kind is of that kind
kind_of : (p : ValidityFault → Bool) (f : ℕ → ValidityFault) (ns : List ℕ) (x : ValidityFault) → find p (map f ns) ≡ Some x → (k : ℕ) × (x ≡ f k)
kind_of p f [] x e = absurd cc
kind_of p f (n ∷ ns) x e = go (p (f n)) e (kind_of p f ns x)
  where
    go : (b : Bool) → cond b (Some (f n)) (find p (map f ns)) ≡ Some x → (find p (map f ns) ≡ Some x → (k : ℕ) × (x ≡ f k)) → (k : ℕ) × (x ≡ f k)
    go true e later = let same : f n ≡ x = cc in (n, sym same)
    go false e later = later e

pub head_fails : (p : ValidityFault → Bool) (x : ValidityFault) (xs : List ValidityFault) → find p (x ∷ xs) ≡ None → (p x ≡ false) × (find p xs ≡ None)
head_fails p x xs e = go (p x) refl e
  where
    go : (b : Bool) → p x ≡ b → cond b (Some x) (find p xs) ≡ None → (p x ≡ false) × (find p xs ≡ None)
    go true is e = absurd cc
    go false is e = (is, e)

-- each number of the range fails where none is found
fails_at : (p : ValidityFault → Bool) (f : ℕ → ValidityFault) (count start d : ℕ) → find p (map f (range_with_len start count)) ≡ None → d < count → p (f (start + d)) ≡ false
fails_at p f zero start d e h = absurd (omega (arith, h))
fails_at p f (suc count) start zero e h = ap (λ m. p (f m)) (omega arith) ∙ (head_fails p (f start) (map f (range_with_len (start + 1) count)) e).0
fails_at p f (suc count) start (suc d) e h = ap (λ m. p (f m)) (moved start d)
    ∙ fails_at p f count (start + 1) d (head_fails p (f start) (map f (range_with_len (start + 1) count)) e).1 (omega (arith, h))
  where
    moved : (start d : ℕ) → start + suc d ≡ (start + 1) + d
    moved start d = omega arith

-- so each number from the first on and below the end fails
fails_from : (p : ValidityFault → Bool) (f : ℕ → ValidityFault) (start n i : ℕ) → find p (map f (numbers start n)) ≡ None → start ≤ i → i < n → p (f i) ≡ false
fails_from p f start n i e low high = ap (λ m. p (f m)) (omega (arith, low)) ∙ fails_at p f (n - start) start (i - start) e (omega (arith, low, high))

-- each pair of the range fails, the second number going from one that the first settles
pair_fails_at : (p : ValidityFault → Bool) (f : ℕ → ℕ → ValidityFault) (from : ℕ → ℕ) (count start n d j : ℕ) → find p (flat_map (λ i. map (f i) (numbers (from i) n)) (range_with_len start count)) ≡ None
    → d < count → from (start + d) ≤ j → j < n → p (f (start + d) j) ≡ false
pair_fails_at p f from zero start n d j e h low high = absurd (omega (arith, h))
pair_fails_at p f from (suc count) start n zero j e h low high = ap (λ m. p (f m j)) (add-zero start)
    ∙ fails_from p (f start) (from start) n j (none_in_two p (map (f start) (numbers (from start) n)) (flat_map (λ i. map (f i) (numbers (from i) n)) (range_with_len (start + 1) count)) e).0
    (subst (λ m. from m ≤ j) (add-zero start) low) high
pair_fails_at p f from (suc count) start n (suc d) j e h low high = ap (λ m. p (f m j)) (moved start d)
    ∙ pair_fails_at p f from count (start + 1) n d j (none_in_two p (map (f start) (numbers (from start) n)) (flat_map (λ i. map (f i) (numbers (from i) n)) (range_with_len (start + 1) count)) e).1
    (omega (arith, h)) (subst (λ m. from m ≤ j) (moved start d) low) high
  where
    moved : (start d : ℕ) → start + suc d ≡ (start + 1) + d
    moved start d = omega arith

-- so where none of the pairs i < j is found, each of them fails
pair_fails : (p : ValidityFault → Bool) (f : ℕ → ℕ → ValidityFault) (start n i j : ℕ) → find p (of_pairs f start n) ≡ None → start ≤ i → i < j → j < n → p (f i j) ≡ false
pair_fails p f start n i j e low mid high = ap (λ m. p (f m j)) (omega (arith, low))
    ∙ pair_fails_at p f (λ m. m + 1) (n - start) start n (i - start) j e (omega (arith, low, mid, high)) (omega (arith, low, mid)) high

-- and likewise of every two numbers, in either order
every_two_fail : (p : ValidityFault → Bool) (f : ℕ → ℕ → ValidityFault) (n i j : ℕ) → find p (of_every_two f n) ≡ None → i < n → j < n → p (f i j) ≡ false
every_two_fail p f n i j e low high = ap (λ m. p (f m j)) (sym (zero-add i)) ∙ pair_fails_at p f (λ m. 0) (n - 0) 0 n i j e (omega (arith, low)) (omega arith) high

-- none is found among the faults of each element
none_at : (p : ValidityFault → Bool) (faults : Element → List ValidityFault) (es : List Element) (e : Element) (k : ℕ) → find p (flat_map faults es) ≡ None → k < length es → slice_index_or es k e ≡ e
    → find p (faults e) ≡ None
none_at p faults [] e k none h same = absurd (omega (arith, h))
none_at p faults (x ∷ xs) e zero none h same = ap (λ y. find p (faults y)) (sym same) ∙ (none_in_two p (faults x) (flat_map faults xs) none).0
none_at p faults (x ∷ xs) e (suc k) none h same = none_at p faults xs e k (none_in_two p (faults x) (flat_map faults xs) none).1 (omega (arith, h)) same

none_of : (p : ValidityFault → Bool) (faults : Element → List ValidityFault) (es : List Element) (e : Element) → find p (flat_map faults es) ≡ None → Contains es e → find p (faults e) ≡ None
none_of p faults es e none c = none_at p faults es e c.0 none c.1 c.2

-- ---- the laws
abbrev pub short_ones : Geometry → List ValidityFault
short_ones g = map TooFewPoints (numbers 0 (length (lines g)))

abbrev pub open_ones : Geometry → List ValidityFault
open_ones g = map RingNotClosed (numbers 0 (length (rings g)))

abbrev pub crossed_ones : Geometry → List ValidityFault
crossed_ones g = map RingNotSimple (numbers 0 (length (rings g)))

abbrev pub meeting_ones : Geometry → List ValidityFault
meeting_ones g = of_elements (λ e. of_pairs RingsMeet e.first (rings_end e)) g

abbrev pub outside_ones : Geometry → List ValidityFault
outside_ones g = of_elements (λ e. map HoleOutside (numbers (e.first + 1) (rings_end e))) g

abbrev pub nested_ones : Geometry → List ValidityFault
nested_ones g = of_elements (λ e. of_pairs HolesNested (e.first + 1) (rings_end e)) g

abbrev pub touching_ones : Geometry → List ValidityFault
touching_ones g = of_pairs ElementsMeet 0 (length (elements g))

abbrev pub swallowed_ones : Geometry → List ValidityFault
swallowed_ones g = of_every_two ElementInside (length (elements g))

-- the faults that are tested before rings are known to be closed, and the later ones
abbrev pub early_ones : Geometry → List ValidityFault
early_ones g = short_ones g ++ open_ones g

abbrev pub late_ones : Geometry → List ValidityFault
late_ones g = crossed_ones g ++ (meeting_ones g ++ (outside_ones g ++ (nested_ones g ++ (touching_ones g ++ swallowed_ones g))))

regrouped : (a b c d e f g h : List ValidityFault) → a ++ b ++ c ++ d ++ e ++ f ++ g ++ h ≡ (a ++ b) ++ (c ++ (d ++ (e ++ (f ++ (g ++ h)))))
regrouped a b c d e f g h = simp append_assoc

-- the order of tests: first whether parts are too short and rings closed, then the rest
pub in_two : (g : Geometry) → in_order g ≡ early_ones g ++ late_ones g
in_two g = regrouped (short_ones g) (open_ones g) (crossed_ones g) (meeting_ones g) (outside_ones g) (nested_ones g) (touching_ones g) (swallowed_ones g)

-- where no ring is found that isn't closed, all rings are closed
pub are_closed : (g : Geometry) → find (has_fault g) (open_ones g) ≡ None → AreClosed g
are_closed g none i h = true≢false (sym ((fault_decided g (RingNotClosed i) tt).1 h) ∙ fails_from (has_fault g) RingNotClosed 0 (length (rings g)) i none (omega arith) (slice_get_within (rings g) i h.0 h.1))

record NoneFound (g : Geometry) : Type 0 where
  short : find (has_fault g) (short_ones g) ≡ None
  opened : find (has_fault g) (open_ones g) ≡ None
  crossed : find (has_fault g) (crossed_ones g) ≡ None
  meeting : find (has_fault g) (meeting_ones g) ≡ None
  outside : find (has_fault g) (outside_ones g) ≡ None
  nested : find (has_fault g) (nested_ones g) ≡ None
  touching : find (has_fault g) (touching_ones g) ≡ None
  swallowed : find (has_fault g) (swallowed_ones g) ≡ None

-- where no fault is found, none of any of the eight kinds is
none_found : (g : Geometry) → validity_fault g ≡ None → NoneFound g
none_found g e = let p = has_fault g in
    let a = none_in_two p (early_ones g) (late_ones g) (ap (find (has_fault g)) (sym (in_two g)) ∙ e) in
    let b = none_in_two p (short_ones g) (open_ones g) a.0 in
    let c = none_in_two p (crossed_ones g) (meeting_ones g ++ (outside_ones g ++ (nested_ones g ++ (touching_ones g ++ swallowed_ones g)))) a.1 in
    let d = none_in_two p (meeting_ones g) (outside_ones g ++ (nested_ones g ++ (touching_ones g ++ swallowed_ones g))) c.1 in
    let f = none_in_two p (outside_ones g) (nested_ones g ++ (touching_ones g ++ swallowed_ones g)) d.1 in
    let h = none_in_two p (nested_ones g) (touching_ones g ++ swallowed_ones g) f.1 in
    let k = none_in_two p (touching_ones g) (swallowed_ones g) h.1 in
    record { short = b.0; opened = b.1; crossed = c.0; meeting = d.0; outside = f.0; nested = h.0; touching = k.0; swallowed = k.1 }

-- a fault whose test fails doesn't apply, since the test decides it
pub applies_not : (g : Geometry) (fault : ValidityFault) → NeedsClosed g fault → has_fault g fault ≡ false → HasFault g fault → ⊥
applies_not g fault needs none h = true≢false (sym ((fault_decided g fault needs).1 h) ∙ none)

from_first : (first k i : ℕ) → i ≡ first + k → first ≤ i
from_first first k i e = omega (arith, e)

past_first : (first k i : ℕ) → i ≡ first + k → 0 < k → first + 1 ≤ i
past_first first k i e h = omega (arith, e, h)

to_end : (first k i n : ℕ) → i ≡ first + k → k < n → i < first + n
to_end first k i n e h = omega (arith, e, h)

-- a fault that applied would have its place in the order of tests, but there each test fails
valid_of : (g : Geometry) → NoneFound g → IsValid g
valid_of g none (TooFewPoints i) h = applies_not g (TooFewPoints i) tt (fails_from (has_fault g) TooFewPoints 0 (length (lines g)) i none.short (omega arith) (slice_get_within (lines g) i h.0 h.1)) h
valid_of g none (RingNotClosed i) h = are_closed g none.opened i h
valid_of g none (RingNotSimple i) h = applies_not g (RingNotSimple i) (are_closed g none.opened)
    (fails_from (has_fault g) RingNotSimple 0 (length (rings g)) i none.crossed (omega arith) (slice_get_within (rings g) i h.0 h.1)) h
valid_of g none (RingsMeet i j) h = applies_not g (RingsMeet i j) tt
    (pair_fails (has_fault g) RingsMeet h.0.first (rings_end h.0) i j (none_of (has_fault g) (λ e. of_pairs RingsMeet e.first (rings_end e)) (numbered_elements g) h.0 none.meeting h.5)
    (from_first h.0.first h.1 i h.7.0) (greater_number h.0.first h.1 h.2 i j h.7.0 h.8.0 h.6) (to_end h.0.first h.2 j (length h.0.rings) h.8.0 (slice_get_within h.0.rings h.2 h.4 h.8.1))) h
valid_of g none (HoleOutside i) h = applies_not g (HoleOutside i) tt
    (fails_from (has_fault g) HoleOutside (h.0.first + 1) (rings_end h.0) i (none_of (has_fault g) (λ e. map HoleOutside (numbers (e.first + 1) (rings_end e))) (numbered_elements g) h.0 none.outside h.4)
    (past_first h.0.first h.1 i h.7.0 h.5) (to_end h.0.first h.1 i (length h.0.rings) h.7.0 (slice_get_within h.0.rings h.1 h.3 h.7.1))) h
valid_of g none (HolesNested i j) h = applies_not g (HolesNested i j) tt
    (pair_fails (has_fault g) HolesNested (h.0.first + 1) (rings_end h.0) i j (none_of (has_fault g) (λ e. of_pairs HolesNested (e.first + 1) (rings_end e)) (numbered_elements g) h.0 none.nested h.5)
    (past_first h.0.first h.1 i h.8.0 h.6) (greater_number h.0.first h.1 h.2 i j h.8.0 h.9.0 h.7) (to_end h.0.first h.2 j (length h.0.rings) h.9.0 (slice_get_within h.0.rings h.2 h.4 h.9.1))) h
valid_of g none (ElementsMeet i j) h = applies_not g (ElementsMeet i j) tt
    (pair_fails (has_fault g) ElementsMeet 0 (length (elements g)) i j none.touching (omega arith) h.2 (slice_get_within (elements g) j h.1 h.4)) h
valid_of g none (ElementInside i j) h = applies_not g (ElementInside i j) tt
    (every_two_fail (has_fault g) ElementInside (length (elements g)) i j none.swallowed (slice_get_within (elements g) i h.0 h.3) (slice_get_within (elements g) j h.1 h.4)) h

-- a fault of a ring that isn't simple is found only where the rings are closed
closed_before : (g : Geometry) (i : ℕ) → validity_fault g ≡ Some (RingNotSimple i) → AreClosed g
closed_before g i e = late (found_in_two (has_fault g) (early_ones g) (late_ones g) (Some (RingNotSimple i)) (ap (find (has_fault g)) (sym (in_two g)) ∙ e))
  where
    not_early : (find (has_fault g) (short_ones g) ≡ Some (RingNotSimple i)) ⊎ ((find (has_fault g) (short_ones g) ≡ None) × (find (has_fault g) (open_ones g) ≡ Some (RingNotSimple i))) → ⊥
    not_early (inl f) = let k = kind_of (has_fault g) TooFewPoints (numbers 0 (length (lines g))) (RingNotSimple i) f in let same = k.1 in cc
    not_early (inr f) = let k = kind_of (has_fault g) RingNotClosed (numbers 0 (length (rings g))) (RingNotSimple i) f.1 in let same = k.1 in cc

    late : (find (has_fault g) (early_ones g) ≡ Some (RingNotSimple i)) ⊎ ((find (has_fault g) (early_ones g) ≡ None) × (find (has_fault g) (late_ones g) ≡ Some (RingNotSimple i))) → AreClosed g
    late (inl f) = absurd (not_early (found_in_two (has_fault g) (short_ones g) (open_ones g) (Some (RingNotSimple i)) f))
    late (inr f) = are_closed g (none_in_two (has_fault g) (short_ones g) (open_ones g) f.0).1

-- where a fault is found, the rings are closed if its test asks for that
needs : (g : Geometry) (fault : ValidityFault) → validity_fault g ≡ Some fault → NeedsClosed g fault
needs g (TooFewPoints i) e = tt
needs g (RingNotClosed i) e = tt
needs g (RingNotSimple i) e = closed_before g i e
needs g (RingsMeet i j) e = tt
needs g (HoleOutside i) e = tt
needs g (HolesNested i j) e = tt
needs g (ElementsMeet i j) e = tt
needs g (ElementInside i j) e = tt

-- the fault that is found passes its test, which decides whether it applies
pub first_fault_applies : FirstFaultApplies
first_fault_applies g fault e = (fault_decided g fault (needs g fault e)).0 (found_passes (has_fault g) (in_order g) fault e)

-- in a valid geometry none is found, since what is found applies
none_of_valid : (g : Geometry) → IsValid g → (o : Option ValidityFault) → validity_fault g ≡ o → validity_fault g ≡ None
none_of_valid g valid None e = e
none_of_valid g valid (Some fault) e = absurd (valid fault (first_fault_applies g fault e))

-- so none is found exactly where the geometry is valid
pub none_is_found_where_valid : NoneIsFoundWhereValid
none_is_found_where_valid g = ((λ e. valid_of g (none_found g e)), (λ valid. none_of_valid g valid _ refl))
