-- In the order of tests each fault applies once, so the fault that is found has one place there.
use Rattle.std.proofs.Common.{◌≡◌, ◌≢◌, ℕ, zero, suc, ◌+◌, ◌-◌, ◌<◌, ◌≤◌, List, [], ◌∷◌, ◌++◌, length, map, flat_map, Contains, refl, sym, ap, ◌∙◌, subst, zero-lt-suc, arith}
use Rattle.std.specs.List.{range_with_len}
use Rattle.geometry_model.specs.Geometries.{Geometry, lines, rings, elements}
use Rattle.geometry_model.specs.FirstFaults.{numbers, of_pairs, rings_end, in_order}
use Rattle.geometry_model.specs.Points.{Position}
use Rattle.geometry_model.specs.Validity.{Element, elements_from, numbered_elements}
use Rattle.geometry_model.specs.declared.validity_faults.ValidityFault.{ValidityFault}
use Rattle.geometry_model.specs.declared.validity_faults.ValidityFault.TheVariants.{TooFewPoints, RingNotClosed, RingNotSimple, RingsMeet, HoleOutside, HolesNested, ElementsMeet, ElementInside}
use Rattle.geometry_laws.proofs.Each.{Each, each_map, each_append, each_right}
use Rattle.geometry_laws.specs.FaultLaws.{NoEarlierFaultApplies}
use Rattle.geometry_laws.proofs.FirstFaultFacts.{short_ones, open_ones, crossed_ones, meeting_ones, outside_ones, nested_ones, touching_ones, swallowed_ones}
use Rattle.geometry_laws.proofs.FirstPlace.{each_mapped, first_fault_is_first}

-- ---- lists without doubles
abbrev Distinct : List ValidityFault → Type 0
Distinct [] = Unit {0}
Distinct (x ∷ xs) = Each (λ y. x ≢ y) xs × Distinct xs

-- two such lists, a number parting the faults of the one from those of the other
distinct_join : (m : ValidityFault → ℕ) (k : ℕ) (xs ys : List ValidityFault) → Distinct xs → Each (λ x. m x < k) xs → Distinct ys → Each (λ y. k ≤ m y) ys → Distinct (xs ++ ys)
distinct_join m k [] ys dx low dy high = dy
distinct_join m k (x ∷ xs) ys dx low dy high = (
  each_append (λ y. x ≢ y) xs ys dx.0 (each_map (λ y. k ≤ m y) (λ y. x ≢ y) ys (λ y h e. apart (m x) (m y) low.0 h (ap m e)) high),
  distinct_join m k xs ys dx.1 low.1 dy high,
)
  where
    apart : (s t : ℕ) → s < k → k ≤ t → s ≡ t → ⊥
    apart s t h g e = omega (arith, h, g, e)

-- one place alone splits such a list at x
one_split : (x : ValidityFault) (xs ys after rest : List ValidityFault) → xs ++ x ∷ after ≡ ys ++ x ∷ rest → Distinct (xs ++ x ∷ after) → xs ≡ ys
one_split x [] [] after rest e d = refl
one_split x [] (y ∷ ys) after rest e d = let tails : after ≡ ys ++ x ∷ rest = cc in
    absurd ((each_right (λ z. x ≢ z) ys (x ∷ rest) (subst (Each (λ z. x ≢ z)) tails d.0)).0 refl)
one_split x (z ∷ xs) [] after rest e d = let heads : z ≡ x = cc in absurd ((each_right (λ y. z ≢ y) xs (x ∷ after) d.0).0 heads)
one_split x (z ∷ xs) (y ∷ ys) after rest e d = let heads : z ≡ y = cc in let tails : xs ++ x ∷ after ≡ ys ++ x ∷ rest = cc in
    ap (λ (t : ValidityFault). t ∷ xs) heads ∙ ap (λ (l : List ValidityFault). y ∷ l) (one_split x xs ys after rest tails d.1)

-- ---- the kind and the numbers of a fault
-- the number of a fault's kind, in the order of tests
kind_number : ValidityFault → ℕ
kind_number (TooFewPoints i) = 0
kind_number (RingNotClosed i) = 1
kind_number (RingNotSimple i) = 2
kind_number (RingsMeet i j) = 3
kind_number (HoleOutside i) = 4
kind_number (HolesNested i j) = 5
kind_number (ElementsMeet i j) = 6
kind_number (ElementInside i j) = 7

-- the first number of a fault
first_number : ValidityFault → ℕ
first_number (TooFewPoints i) = i
first_number (RingNotClosed i) = i
first_number (RingNotSimple i) = i
first_number (RingsMeet i j) = i
first_number (HoleOutside i) = i
first_number (HolesNested i j) = i
first_number (ElementsMeet i j) = i
first_number (ElementInside i j) = i

-- its second number, or 0 where it has one alone
second_number : ValidityFault → ℕ
second_number (TooFewPoints i) = 0
second_number (RingNotClosed i) = 0
second_number (RingNotSimple i) = 0
second_number (RingsMeet i j) = j
second_number (HoleOutside i) = 0
second_number (HolesNested i j) = j
second_number (ElementsMeet i j) = j
second_number (ElementInside i j) = j

at_least : (low s t : ℕ) → t ≡ s → low ≤ s → low ≤ t
at_least low s t e h = omega (arith, e, h)

below_next : (s t : ℕ) → t ≡ s → t < s + 1
below_next s t e = omega (arith, e)

-- the faults of numbers from a start on have no number below it
numbers_after : (f : ℕ → ValidityFault) (m : ValidityFault → ℕ) → ((k : ℕ) → m (f k) ≡ k) → (count start low : ℕ) → low ≤ start → Each (λ y. low ≤ m y) (map f (range_with_len start count))
numbers_after f m is zero start low h = tt
numbers_after f m is (suc count) start low h = (at_least low start (m (f start)) (is start) h, numbers_after f m is count (start + 1) low (omega (arith, h)))

-- so the faults of one kind with successive numbers have no doubles
distinct_numbers : (f : ℕ → ValidityFault) (m : ValidityFault → ℕ) → ((k : ℕ) → m (f k) ≡ k) → (count start : ℕ) → Distinct (map f (range_with_len start count))
distinct_numbers f m is zero start = tt
distinct_numbers f m is (suc count) start = (
  each_map (λ y. start + 1 ≤ m y) (λ y. f start ≢ y) (map f (range_with_len (start + 1) count)) (λ y h e. larger start (m (f start)) (m y) (is start) h (ap m e))
      (numbers_after f m is count (start + 1) (start + 1) (omega arith)),
  distinct_numbers f m is count (start + 1),
)
  where
    larger : (s t u : ℕ) → t ≡ s → s + 1 ≤ u → t ≡ u → ⊥
    larger s t u e h g = omega (arith, e, h, g)

each_paired : (P : ValidityFault → Type 0) (f : ℕ → ℕ → ValidityFault) → ((i j : ℕ) → P (f i j)) → (from : ℕ → ℕ) (n : ℕ) (ns : List ℕ) → Each P (flat_map (λ i. map (f i) (numbers (from i) n)) ns)
each_paired P f h from n [] = tt
each_paired P f h from n (i ∷ ns) = each_append P (map (f i) (numbers (from i) n)) (flat_map (λ i. map (f i) (numbers (from i) n)) ns)
    (each_mapped P (f i) (h i) (numbers (from i) n)) (each_paired P f h from n ns)

-- the first numbers lie from a low one on and before a high one
abbrev Between : ℕ → ℕ → ValidityFault → Type 0
Between low high x = (low ≤ first_number x) × (first_number x < high)

-- the first numbers of pairs stay in their range
pairs_between : (f : ℕ → ℕ → ValidityFault) → ((i j : ℕ) → first_number (f i j) ≡ i) → (from : ℕ → ℕ) (n count start low high : ℕ) → low ≤ start → (0 < count → start + count ≤ high)
    → Each (Between low high) (flat_map (λ i. map (f i) (numbers (from i) n)) (range_with_len start count))
pairs_between f is from n zero start low high h g = tt
pairs_between f is from n (suc count) start low high h g = each_append (Between low high) (map (f start) (numbers (from start) n)) (flat_map (λ i. map (f i) (numbers (from i) n)) (range_with_len (start + 1) count))
    (each_mapped (Between low high) (f start) (λ j. between (first_number (f start j)) (is start j)) (numbers (from start) n))
    (pairs_between f is from n count (start + 1) low high (omega (arith, h)) (λ p. omega (arith, g (zero-lt-suc count))))
  where
    between : (t : ℕ) → t ≡ start → (low ≤ t) × (t < high)
    between t e = (omega (arith, h, e), omega (arith, g (zero-lt-suc count), e))

-- pairs have no doubles: they differ in the first number, or of one first number in the second
distinct_pairs : (f : ℕ → ℕ → ValidityFault) → ((i j : ℕ) → first_number (f i j) ≡ i) → ((i j : ℕ) → second_number (f i j) ≡ j) → (from : ℕ → ℕ) (n count start : ℕ)
    → Distinct (flat_map (λ i. map (f i) (numbers (from i) n)) (range_with_len start count))
distinct_pairs f is also from n zero start = tt
distinct_pairs f is also from n (suc count) start = distinct_join first_number (start + 1) (map (f start) (numbers (from start) n)) (flat_map (λ i. map (f i) (numbers (from i) n)) (range_with_len (start + 1) count))
    (distinct_numbers (f start) second_number (also start) (n - from start) (from start))
    (each_mapped (λ x. first_number x < start + 1) (f start) (λ j. below_next start (first_number (f start j)) (is start j)) (numbers (from start) n))
    (distinct_pairs f is also from n count (start + 1))
    (each_map (Between (start + 1) (start + 1 + count)) (λ y. start + 1 ≤ first_number y) (flat_map (λ i. map (f i) (numbers (from i) n)) (range_with_len (start + 1) count)) (λ y h. h.0)
    (pairs_between f is from n count (start + 1) (start + 1) (start + 1 + count) (omega arith) (λ p. omega arith)))

-- the numbers of a range stay in it
numbers_between : (f : ℕ → ValidityFault) → ((k : ℕ) → first_number (f k) ≡ k) → (count start low high : ℕ) → low ≤ start → (0 < count → start + count ≤ high) → Each (Between low high) (map f (range_with_len start count))
numbers_between f is zero start low high h g = tt
numbers_between f is (suc count) start low high h g = (between (first_number (f start)) (is start), numbers_between f is count (start + 1) low high (omega (arith, h)) (λ p. omega (arith, g (zero-lt-suc count))))
  where
    between : (t : ℕ) → t ≡ start → (low ≤ t) × (t < high)
    between t e = (omega (arith, h, e), omega (arith, g (zero-lt-suc count), e))

-- ---- polygon by polygon
each_flat : (P : ValidityFault → Type 0) (faults : Element → List ValidityFault) → ((e : Element) → Each P (faults e)) → (es : List Element) → Each P (flat_map faults es)
each_flat P faults h [] = tt
each_flat P faults h (e ∷ es) = each_append P (faults e) (flat_map faults es) (h e) (each_flat P faults h es)

-- the faults of a polygon have no first number but that of one of its rings
abbrev AreOwn : (Element → List ValidityFault) → Type 0
AreOwn faults = (e : Element) → Each (Between e.first (rings_end e)) (faults e)

-- the faults of polygons whose rings are numbered from here on have no first number below it
elements_after : (faults : Element → List ValidityFault) → AreOwn faults → (first low : ℕ) (es : List (List (List Position))) → low ≤ first → Each (λ y. low ≤ first_number y) (flat_map faults (elements_from first es))
elements_after faults own first low [] h = tt
elements_after faults own first low (rings ∷ es) h = let e : Element = record { first = first; rings = rings } in
    each_append (λ y. low ≤ first_number y) (faults e) (flat_map faults (elements_from (first + length rings) es))
    (each_map (Between first (rings_end e)) (λ y. low ≤ first_number y) (faults e) (λ y b. reached (first_number y) b.0) (own e))
    (elements_after faults own (first + length rings) low es (omega (arith, h)))
  where
    reached : (t : ℕ) → first ≤ t → low ≤ t
    reached t k = omega (arith, h, k)

-- so faults listed polygon by polygon have no doubles, where those of each polygon have none
distinct_elements : (faults : Element → List ValidityFault) → AreOwn faults → ((e : Element) → Distinct (faults e)) → (first : ℕ) (es : List (List (List Position))) → Distinct (flat_map faults (elements_from first es))
distinct_elements faults own d first [] = tt
distinct_elements faults own d first (rings ∷ es) = let e : Element = record { first = first; rings = rings } in
    distinct_join first_number (first + length rings) (faults e) (flat_map faults (elements_from (first + length rings) es)) (d e)
    (each_map (Between first (rings_end e)) (λ y. first_number y < first + length rings) (faults e) (λ y b. b.1) (own e))
    (distinct_elements faults own d (first + length rings) es)
    (elements_after faults own (first + length rings) (first + length rings) es (omega arith))

abbrev meeting : Element → List ValidityFault
meeting e = of_pairs RingsMeet e.first (rings_end e)

abbrev outside : Element → List ValidityFault
outside e = map HoleOutside (numbers (e.first + 1) (rings_end e))

abbrev nested : Element → List ValidityFault
nested e = of_pairs HolesNested (e.first + 1) (rings_end e)

-- the first number of a fault within a polygon is that of one of its rings: where two rings meet
own_meeting : AreOwn meeting
unfolding first_number
own_meeting e = pairs_between RingsMeet (λ i j. refl) (λ m. m + 1) (rings_end e) (rings_end e - e.first) e.first e.first (rings_end e) (omega arith) (λ p. omega (arith, p))

-- where a hole is outside
own_outside : AreOwn outside
unfolding first_number
own_outside e = numbers_between HoleOutside (λ i. refl) (rings_end e - (e.first + 1)) (e.first + 1) e.first (rings_end e) (omega arith) (λ p. omega (arith, p))

-- where one of two holes is inside the other
own_nested : AreOwn nested
unfolding first_number
own_nested e = pairs_between HolesNested (λ i j. refl) (λ m. m + 1) (rings_end e) (rings_end e - (e.first + 1)) (e.first + 1) e.first (rings_end e) (omega arith) (λ p. omega (arith, p))

-- ---- the order of tests, kind by kind
record Stage (k : ℕ) (xs : List ValidityFault) : Type 0 where
  distinct : Distinct xs
  kinds : Each (λ x. kind_number x < k) xs

-- faults of a kind behind those of the kinds before it leave the list without doubles
grown : (k : ℕ) (xs ys : List ValidityFault) → Stage k xs → Distinct ys → Each (λ y. kind_number y ≡ k) ys → Stage (k + 1) (xs ++ ys)
grown k xs ys s d e = record {
  distinct = distinct_join kind_number k xs ys s.distinct s.kinds d (each_map (λ y. kind_number y ≡ k) (λ y. k ≤ kind_number y) ys (λ y h. reached (kind_number y) h) e);
  kinds = each_append (λ x. kind_number x < k + 1) xs ys
      (each_map (λ x. kind_number x < k) (λ x. kind_number x < k + 1) xs (λ x h. wider (kind_number x) h) s.kinds)
      (each_map (λ y. kind_number y ≡ k) (λ x. kind_number x < k + 1) ys (λ y h. below_next k (kind_number y) h) e);
}
  where
    reached : (t : ℕ) → t ≡ k → k ≤ t
    reached t e = omega (arith, e)

    wider : (t : ℕ) → t < k → t < k + 1
    wider t h = omega (arith, h)

-- kind by kind, so the whole order of tests has no doubles
distinct_in_order : (g : Geometry) → Distinct (in_order g)
unfolding kind_number first_number second_number
distinct_in_order g = (grown 7 (short_ones g ++ open_ones g ++ crossed_ones g ++ meeting_ones g ++ outside_ones g ++ nested_ones g ++ touching_ones g) (swallowed_ones g)
    (grown 6 (short_ones g ++ open_ones g ++ crossed_ones g ++ meeting_ones g ++ outside_ones g ++ nested_ones g) (touching_ones g)
    (grown 5 (short_ones g ++ open_ones g ++ crossed_ones g ++ meeting_ones g ++ outside_ones g) (nested_ones g)
    (grown 4 (short_ones g ++ open_ones g ++ crossed_ones g ++ meeting_ones g) (outside_ones g)
    (grown 3 (short_ones g ++ open_ones g ++ crossed_ones g) (meeting_ones g)
    (grown 2 (short_ones g ++ open_ones g) (crossed_ones g)
    (grown 1 (short_ones g) (open_ones g)
    (record {
      distinct = distinct_numbers TooFewPoints first_number (λ i. refl) (length (lines g) - 0) 0;
      kinds = each_mapped (λ x. kind_number x < 1) TooFewPoints (λ i. omega arith) (numbers 0 (length (lines g)));
    })
    (distinct_numbers RingNotClosed first_number (λ i. refl) (n - 0) 0) (each_mapped (λ y. kind_number y ≡ 1) RingNotClosed (λ i. refl) (numbers 0 n)))
    (distinct_numbers RingNotSimple first_number (λ i. refl) (n - 0) 0) (each_mapped (λ y. kind_number y ≡ 2) RingNotSimple (λ i. refl) (numbers 0 n)))
    (distinct_elements meeting own_meeting (λ e. distinct_pairs RingsMeet (λ i j. refl) (λ i j. refl) (λ m. m + 1) (rings_end e) (rings_end e - e.first) e.first) 0 (elements g))
    (each_flat (λ y. kind_number y ≡ 3) meeting (λ e. each_paired (λ y. kind_number y ≡ 3) RingsMeet (λ i j. refl) (λ m. m + 1) (rings_end e) (numbers e.first (rings_end e))) (numbered_elements g)))
    (distinct_elements outside own_outside (λ e. distinct_numbers HoleOutside first_number (λ i. refl) (rings_end e - (e.first + 1)) (e.first + 1)) 0 (elements g))
    (each_flat (λ y. kind_number y ≡ 4) outside (λ e. each_mapped (λ y. kind_number y ≡ 4) HoleOutside (λ i. refl) (numbers (e.first + 1) (rings_end e))) (numbered_elements g)))
    (distinct_elements nested own_nested (λ e. distinct_pairs HolesNested (λ i j. refl) (λ i j. refl) (λ m. m + 1) (rings_end e) (rings_end e - (e.first + 1)) (e.first + 1)) 0 (elements g))
    (each_flat (λ y. kind_number y ≡ 5) nested (λ e. each_paired (λ y. kind_number y ≡ 5) HolesNested (λ i j. refl) (λ m. m + 1) (rings_end e) (numbers (e.first + 1) (rings_end e))) (numbered_elements g)))
    (distinct_pairs ElementsMeet (λ i j. refl) (λ i j. refl) (λ m. m + 1) k (k - 0) 0) (each_paired (λ y. kind_number y ≡ 6) ElementsMeet (λ i j. refl) (λ m. m + 1) k (numbers 0 k)))
    (distinct_pairs ElementInside (λ i j. refl) (λ i j. refl) (λ m. 0) k (k - 0) 0) (each_paired (λ y. kind_number y ≡ 7) ElementInside (λ i j. refl) (λ m. 0) k (numbers 0 k))).distinct
  where
    n : ℕ
    n = length (rings g)

    k : ℕ
    k = length (elements g)

-- the found fault has one place in the order of tests, so each split at it is the one of the search,
-- before which none applies
pub no_earlier_fault_applies : NoEarlierFaultApplies
no_earlier_fault_applies g fault before after found placed earlier c h = let f = first_fault_is_first g fault found in
    f.none_before earlier (subst (λ l. Contains l earlier) (one_split fault before f.before after f.after (sym placed ∙ f.placed) (subst Distinct placed (distinct_in_order g))) c) h
