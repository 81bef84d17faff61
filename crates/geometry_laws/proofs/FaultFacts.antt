-- The tests of faults say what the faults say of rational points.
use Rattle.std.proofs.Common.{◌≡◌, ◌≢◌, ◌↔◌, ◌⊎◌, inl, inr, ℕ, zero, suc, ◌+◌, ◌-◌, ◌<◌, ◌==◌, Bool, true, false, not, ◌&&◌, ◌||◌, List, [], ◌∷◌, length, Option, Some, None, nat_lt, slice_get, if◌then◌else◌, refl, sym, ap, ◌∙◌, subst, ltb-true, lt-ltb, zero-add, add-zero, add-one, suc-le-suc, zero-lt-suc, le_of_suc-le-suc, arith}
use Rattle.std.specs.List.{list_any, enumerate_from}
use Rattle.std.specs.Ordering.{int_eq}
use Rattle.std.proofs.lemmas.Bool.{true≢false, false_from_ne_true, not-true, and_parts, and_from, or_cases}
use Rattle.std.proofs.lemmas.Bool.Decides.{Decides-eqb}
use Rattle.geometry_model.specs.Points.{Position, same_point, point_at}
use Rattle.geometry_model.specs.Sides.{on}
use Rattle.geometry_model.specs.Geometries.{Geometry, Edge, lines, edges_of_line, rings, elements}
use Rattle.geometry_model.specs.Locations.{last_after}
use Rattle.geometry_model.specs.WellKnownText.{same_position}
use Rattle.geometry_model.specs.Validity.{is_short, ShareOther, Clash, IsNotSimple, RingsShare, inside, IsNotClosed, inside_element, Element, numbered_elements, ElementsShare, HasFault}
use Rattle.geometry_model.specs.FirstFaults.{share_point, share_other, clash, any_pair, is_not_simple, rings_share, is_not_closed, elements_share, test_of, test_of_both, ring_of, has_fault}
use Rattle.geometry_model.specs.declared.validity_faults.ValidityFault.{ValidityFault}
use Rattle.geometry_model.specs.declared.validity_faults.ValidityFault.TheVariants.{TooFewPoints, RingNotClosed, RingNotSimple, RingsMeet, HoleOutside, HolesNested, ElementsMeet, ElementInside}
use Rattle.basics.proofs.Orders.{one_above, gap_none}
use Rattle.geometry_laws.specs.FaultLaws.{FaultIsDecided, AreClosed}
use Rattle.geometry_laws.proofs.SharedPoints.{shared_point_is_decided, start_on, end_on, at_both}
use Rattle.geometry_laws.proofs.ElementFacts.{or_true, some_from, some_yes, ring_from, ring_yes, later_ring, greater_number}
use Rattle.geometry_laws.proofs.OtherPoints.{other_point_is_decided, same_from, same_self, same_yes}

-- ---- the test of one list, and of two
-- a test of a list passes exactly where the list is there and passes it
one_is : (test : List Position → Bool) (o : Option (List Position)) → (test_of test o ≡ true) ↔ ((ps : List Position) × (o ≡ Some ps) × (test ps ≡ true))
one_is test None = ((λ h. absurd (true≢false (sym h))), (λ t. absurd (let e = t.1 in cc)))
one_is test (Some ps) = ((λ h. (ps, refl, h)), (λ t. let e : ps ≡ t.0 = (let f = t.1 in cc) in ap test e ∙ t.2))

abbrev Two : {A : Type 0} → (A → A → Bool) → Option A → Option A → Type 0
Two {A} test o p = (r s : A) × (o ≡ Some r) × (p ≡ Some s) × (test r s ≡ true)

-- and a test of two things exactly where both are there and pass it
two_are : {A : Type 0} (test : A → A → Bool) (o p : Option A) → (test_of_both test o p ≡ true) ↔ Two test o p
two_are test None p = ((λ h. absurd (true≢false (sym h))), (λ t. absurd (let e = t.2 in cc)))
two_are test (Some r) None = ((λ h. absurd (true≢false (sym h))), (λ t. absurd (let e = t.3 in cc)))
two_are test (Some r) (Some s) = (
  (λ h. (r, s, refl, refl, h)),
  (λ t. let e : r ≡ t.0 = (let k = t.2 in cc) in let f : s ≡ t.1 = (let k = t.3 in cc) in ap (λ x. test x s) e ∙ (ap (test t.0) f ∙ t.4)),
)

-- ---- closed
-- the test compares the last position of a ring with its first
closed_is : (ring : List Position) → (is_not_closed ring ≡ true) ↔ IsNotClosed ring
closed_is [] = ((λ h. absurd (true≢false (sym h))), (λ b. absurd b))
closed_is (p ∷ ps) = (
  (λ h e. true≢false (sym h ∙ ap not (same_self (last_after p ps) p e))),
  (λ other. ap not (false_from_ne_true (same_position (last_after p ps) p) (λ e. other (same_from (last_after p ps) p e)))),
)

-- ---- elements of a list that pass, with their numbers
abbrev Found : (ℕ × Edge → Bool) → ℕ → List Edge → Type 0
Found t n es = (j : ℕ) × (f : Edge) × (slice_get es j ≡ Some f) × (t (n + j, f) ≡ true)

moved : (n j : ℕ) → (n + 1) + j ≡ n + suc j
moved n j = omega arith

-- where a test of numbered edges passes for some, there is an edge that passes it with its number
found_from : (t : ℕ × Edge → Bool) (n : ℕ) (es : List Edge) → list_any t (enumerate_from n es) ≡ true → Found t n es
found_from t n [] h = absurd (true≢false (sym h))
found_from t n (x ∷ xs) h = go (or_cases (t (n, x)) (list_any t (enumerate_from (n + 1) xs)) h) (found_from t (n + 1) xs)
  where
    go : (t (n, x) ≡ true) ⊎ (list_any t (enumerate_from (n + 1) xs) ≡ true) → (list_any t (enumerate_from (n + 1) xs) ≡ true → Found t (n + 1) xs) → Found t n (x ∷ xs)
    go (inl e) later = (0, x, refl, subst (λ m. t (m, x) ≡ true) (sym (add-zero n)) e)
    go (inr e) later = let k = later e in (suc k.0, k.1, k.2, subst (λ m. t (m, k.1) ≡ true) (moved n k.0) k.3)

-- and the other way round
found_yes : (t : ℕ × Edge → Bool) (n : ℕ) (es : List Edge) (j : ℕ) (f : Edge) → slice_get es j ≡ Some f → t (n + j, f) ≡ true → list_any t (enumerate_from n es) ≡ true
found_yes t n [] j f e h = absurd cc
found_yes t n (x ∷ xs) zero f e h = let same : x ≡ f = cc in or_true (t (n, x)) (list_any t (enumerate_from (n + 1) xs))
    (inl (ap (λ y. t (n, y)) same ∙ subst (λ m. t (m, f) ≡ true) (add-zero n) h))
found_yes t n (x ∷ xs) (suc j) f e h = or_true (t (n, x)) (list_any t (enumerate_from (n + 1) xs))
    (inr (found_yes t (n + 1) xs j f e (subst (λ m. t (m, f) ≡ true) (sym (moved n j)) h)))

abbrev Pair : (ℕ × Edge → ℕ × Edge → Bool) → ℕ → List Edge → Type 0
Pair t n es = (i j : ℕ) × (e f : Edge) × (i < j) × (slice_get es i ≡ Some e) × (slice_get es j ≡ Some f) × (t (n + i, e) (n + j, f) ≡ true)

-- where a test of pairs passes for some, there are an edge and a later one that pass it with their numbers
pair_from : (t : ℕ × Edge → ℕ × Edge → Bool) (n : ℕ) (es : List Edge) → any_pair t (enumerate_from n es) ≡ true → Pair t n es
pair_from t n [] h = absurd (true≢false (sym h))
pair_from t n (x ∷ xs) h = go (or_cases (list_any (t (n, x)) (enumerate_from (n + 1) xs)) (any_pair t (enumerate_from (n + 1) xs)) h) (pair_from t (n + 1) xs)
  where
    go : (list_any (t (n, x)) (enumerate_from (n + 1) xs) ≡ true) ⊎ (any_pair t (enumerate_from (n + 1) xs) ≡ true) → (any_pair t (enumerate_from (n + 1) xs) ≡ true → Pair t (n + 1) xs) → Pair t n (x ∷ xs)
    go (inl e) later = let k = found_from (t (n, x)) (n + 1) xs e in
        (0, suc k.0, x, k.1, zero-lt-suc k.0, refl, k.2, subst (λ m. t (m, x) (n + suc k.0, k.1) ≡ true) (sym (add-zero n)) (subst (λ m. t (n, x) (m, k.1) ≡ true) (moved n k.0) k.3))
    go (inr e) later = let k = later e in
        (suc k.0, suc k.1, k.2, k.3, suc-le-suc k.4, k.5, k.6, subst (λ m. t (m, k.2) (n + suc k.1, k.3) ≡ true) (moved n k.0) (subst (λ m. t ((n + 1) + k.0, k.2) (m, k.3) ≡ true) (moved n k.1) k.7))

-- and the other way round
pair_yes : (t : ℕ × Edge → ℕ × Edge → Bool) (n : ℕ) (es : List Edge) (i j : ℕ) (e f : Edge) → i < j → slice_get es i ≡ Some e → slice_get es j ≡ Some f → t (n + i, e) (n + j, f) ≡ true
    → any_pair t (enumerate_from n es) ≡ true
pair_yes t n [] i j e f later k l h = absurd cc
pair_yes t n (x ∷ xs) i zero e f later k l h = absurd (omega (arith, later))
pair_yes t n (x ∷ xs) zero (suc j) e f later k l h = let same : x ≡ e = cc in or_true (list_any (t (n, x)) (enumerate_from (n + 1) xs)) (any_pair t (enumerate_from (n + 1) xs))
    (inl (found_yes (t (n, x)) (n + 1) xs j f l
    (ap (λ y. t (n, y) ((n + 1) + j, f)) same ∙ subst (λ m. t (m, e) ((n + 1) + j, f) ≡ true) (add-zero n) (subst (λ m. t (n + 0, e) (m, f) ≡ true) (sym (moved n j)) h))))
pair_yes t n (x ∷ xs) (suc i) (suc j) e f later k l h = or_true (list_any (t (n, x)) (enumerate_from (n + 1) xs)) (any_pair t (enumerate_from (n + 1) xs))
    (inr (pair_yes t (n + 1) xs i j e f (le_of_suc-le-suc later) k l
    (subst (λ m. t (m, e) ((n + 1) + j, f) ≡ true) (sym (moved n i)) (subst (λ m. t (n + suc i, e) (m, f) ≡ true) (sym (moved n j)) h))))

-- ---- the edges of a ring follow each other
-- an edge starts where the one before it ends
consecutive : (ring : List Position) (i : ℕ) (e f : Edge) → slice_get (edges_of_line ring) i ≡ Some e → slice_get (edges_of_line ring) (suc i) ≡ Some f → f.start ≡ e.end
consecutive [] i e f k l = absurd cc
consecutive (a ∷ []) i e f k l = absurd cc
consecutive (a ∷ b ∷ []) i e f k l = absurd cc
consecutive (a ∷ b ∷ c ∷ rest) zero e f k l = let first : record { start = a; end = b } ≡ e = cc in let second : record { start = b; end = c } ≡ f = cc in
    sym (ap (λ (g : Edge). g.start) second) ∙ ap (λ (g : Edge). g.end) first
consecutive (a ∷ b ∷ c ∷ rest) (suc i) e f k l = consecutive (b ∷ c ∷ rest) i e f k l

-- the first edge starts at the first position
first_start : (a : Position) (rest : List Position) (e : Edge) → slice_get (edges_of_line (a ∷ rest)) 0 ≡ Some e → e.start ≡ a
first_start a [] e k = absurd cc
first_start a (b ∷ rest) e k = let same : record { start = a; end = b } ≡ e = cc in sym (ap (λ (g : Edge). g.start) same)

-- and the last edge ends at the last position
last_end : (a : Position) (rest : List Position) (j : ℕ) (f : Edge) → slice_get (edges_of_line (a ∷ rest)) j ≡ Some f → j + 1 ≡ length (edges_of_line (a ∷ rest)) → f.end ≡ last_after a rest
last_end a [] j f k l = absurd cc
last_end a (b ∷ []) zero f k l = let same : record { start = a; end = b } ≡ f = cc in sym (ap (λ (g : Edge). g.end) same)
last_end a (b ∷ c ∷ more) zero f k l = absurd (omega (arith, l))
last_end a (b ∷ more) (suc j) f k l = last_end b more j f k (omega (arith, l))

-- of a closed ring the last position is the first
closed_eq : (p : Position) (ps : List Position) → (IsNotClosed (p ∷ ps) → ⊥) → last_after p ps ≡ p
closed_eq p ps closed = go (same_position (last_after p ps) p) refl
  where
    go : (b : Bool) → same_position (last_after p ps) p ≡ b → last_after p ps ≡ p
    go true e = same_from (last_after p ps) p e
    go false e = absurd (closed ((closed_is (p ∷ ps)).0 (ap not e)))

-- so the last edge of a closed ring ends where the first starts
around : (ring : List Position) → (IsNotClosed ring → ⊥) → (j : ℕ) (e f : Edge) → slice_get (edges_of_line ring) 0 ≡ Some e → slice_get (edges_of_line ring) j ≡ Some f
    → j + 1 ≡ length (edges_of_line ring) → f.end ≡ e.start
around [] closed j e f k l m = absurd cc
around (p ∷ ps) closed j e f k l m = last_end p ps j f l m ∙ (closed_eq p ps closed ∙ sym (first_start p ps e k))

-- of two edges that go to and fro the first's start is on both
to_and_fro : (e f : Edge) → f.end ≡ e.start → ShareOther e.start e f → ShareOther e.end e f
to_and_fro e f back s = record {
  at = point_at e.start;
  is_point = one_above;
  on_first = start_on e;
  on_second = subst (λ (q : Position). on f (point_at q) ≡ true) back (end_on f);
  other = false_from_ne_true (same_point (point_at e.start) (point_at e.end)) (λ same. let q : e.start ≡ e.end = same_from e.start e.end (same_yes e.start e.end same) in
      true≢false (sym (at_both e s.at s.is_point s.on_first (gap_none e.start.x e.end.x (ap (λ (a : Position). a.x) q)) (gap_none e.start.y e.end.y (ap (λ (a : Position). a.y) q))) ∙ s.other));
}

abbrev AtNumbers : List Position → ℕ → ℕ → Edge → Edge → Type 0
AtNumbers ring i j e f = (slice_get (edges_of_line ring) i ≡ Some e) × (slice_get (edges_of_line ring) j ≡ Some f)

-- neighbouring edges have the end of the earlier one in common
next_start : (ring : List Position) (i j : ℕ) (e f : Edge) → AtNumbers ring i j e f → j ≡ i + 1 → f.start ≡ e.end
next_start ring i j e f k next = consecutive ring i e f k.0 (subst (λ m. slice_get (edges_of_line ring) m ≡ Some f) (next ∙ add-one i) k.1)

-- and the last edge has the start of the first in common with it
closing : (ring : List Position) → (IsNotClosed ring → ⊥) → (i j : ℕ) (e f : Edge) → AtNumbers ring i j e f → i ≡ 0 → j + 1 ≡ length (edges_of_line ring) → f.end ≡ e.start
closing ring closed i j e f k zero_is end_is = around ring closed j e f (subst (λ m. slice_get (edges_of_line ring) m ≡ Some e) zero_is k.0) k.1 end_is

next_false : (i j : ℕ) → (j == i + 1) ≡ false → j ≢ i + 1
next_false i j is e = true≢false (sym ((Decides-eqb j (i + 1)).1 e) ∙ is)

ends_true : (i j n : ℕ) → (i == 0 && j + 1 == n) ≡ true → (i ≡ 0) × (j + 1 ≡ n)
ends_true i j n is = let parts = and_parts (i == 0) (j + 1 == n) is in ((Decides-eqb i 0).0 parts.0, (Decides-eqb (j + 1) n).0 parts.1)

ends_false : (i j n : ℕ) → (i == 0 && j + 1 == n) ≡ false → (i ≡ 0) × (j + 1 ≡ n) → ⊥
ends_false i j n is e = true≢false (sym (and_from (i == 0) (j + 1 == n) ((Decides-eqb i 0).1 e.0) ((Decides-eqb (j + 1) n).1 e.1)) ∙ is)

-- the test of two edges of a closed ring says whether they clash: neighbours have a common end, and what else they
-- share is decided; of others it is decided whether they share a point
clash_is : (ring : List Position) → (IsNotClosed ring → ⊥) → (i j : ℕ) (e f : Edge) → AtNumbers ring i j e f → (next ends : Bool) → (j == i + 1) ≡ next → (i == 0 && j + 1 == length (edges_of_line ring)) ≡ ends
    → ((if next then share_other e.end e f else if ends then share_other e.start e f else share_point e f) ≡ true) ↔ Clash (length (edges_of_line ring)) i j e f
clash_is ring closed i j e f k true ends is_next is_ends = let next : j ≡ i + 1 = (Decides-eqb j (i + 1)).0 is_next in
    let decided = other_point_is_decided e.end e f (inr refl) (inl (next_start ring i j e f k next)) in (
      (λ h. inl (next, decided.0 h)),
      (λ c. elim c [
        | inl s ↦ decided.1 s.1
        | inr more ↦ elim more [
          | inl s ↦ decided.1 (to_and_fro e f (closing ring closed i j e f k s.0 s.1) s.2)
          | inr s ↦ absurd (s.0 next)
        ]
      ]),
    )
clash_is ring closed i j e f k false true is_next is_ends = let parts = ends_true i j (length (edges_of_line ring)) is_ends in
    let decided = other_point_is_decided e.start e f (inl refl) (inr (closing ring closed i j e f k parts.0 parts.1)) in (
      (λ h. inr (inl (parts.0, parts.1, decided.0 h))),
      (λ c. elim c [
        | inl s ↦ absurd (next_false i j is_next s.0)
        | inr more ↦ elim more [
          | inl s ↦ decided.1 s.2
          | inr s ↦ absurd (s.1 parts)
        ]
      ]),
    )
clash_is ring closed i j e f k false false is_next is_ends = let decided = shared_point_is_decided e f in (
  (λ h. inr (inr (next_false i j is_next, ends_false i j (length (edges_of_line ring)) is_ends, decided.0 h))),
  (λ c. elim c [
    | inl s ↦ absurd (next_false i j is_next s.0)
    | inr more ↦ elim more [
      | inl s ↦ absurd (ends_false i j (length (edges_of_line ring)) is_ends (s.0, s.1))
      | inr s ↦ decided.1 s.2
    ]
  ]),
)

-- so it is decided whether a closed ring meets or covers itself
simple_is : (ring : List Position) → (IsNotClosed ring → ⊥) → (is_not_simple ring ≡ true) ↔ IsNotSimple ring
simple_is ring closed = let es = edges_of_line ring in let n = length (edges_of_line ring) in (
  (λ h. let k = pair_from (clash n) 0 es h in
      record {
        i = k.0;
        j = k.1;
        e = k.2;
        f = k.3;
        later = k.4;
        first = k.5;
        second = k.6;
        clash = (clash_is ring closed k.0 k.1 k.2 k.3 (k.5, k.6) (k.1 == k.0 + 1) (k.0 == 0 && k.1 + 1 == n) refl refl).0
            (subst (λ m. clash n (m, k.2) (k.1, k.3) ≡ true) (zero-add k.0) (subst (λ m. clash n (0 + k.0, k.2) (m, k.3) ≡ true) (zero-add k.1) k.7));
      }),
  (λ s. pair_yes (clash n) 0 es s.i s.j s.e s.f s.later s.first s.second
      (subst (λ m. clash n (m, s.e) (0 + s.j, s.f) ≡ true) (sym (zero-add s.i)) (subst (λ m. clash n (s.i, s.e) (m, s.f) ≡ true) (sym (zero-add s.j))
      ((clash_is ring closed s.i s.j s.e s.f (s.first, s.second) (s.j == s.i + 1) (s.i == 0 && s.j + 1 == n) refl refl).1 s.clash)))),
)

-- ---- some edge of a list
any_from : (t : Edge → Bool) (es : List Edge) → list_any t es ≡ true → (i : ℕ) × (e : Edge) × (slice_get es i ≡ Some e) × (t e ≡ true)
any_from t [] h = absurd (true≢false (sym h))
any_from t (x ∷ xs) h = go (or_cases (t x) (list_any t xs) h) (any_from t xs)
  where
    go : (t x ≡ true) ⊎ (list_any t xs ≡ true) → (list_any t xs ≡ true → (i : ℕ) × (e : Edge) × (slice_get xs i ≡ Some e) × (t e ≡ true)) → (i : ℕ) × (e : Edge) × (slice_get (x ∷ xs) i ≡ Some e) × (t e ≡ true)
    go (inl e) later = (0, x, refl, e)
    go (inr e) later = let k = later e in (suc k.0, k.1, k.2, k.3)

any_yes : (t : Edge → Bool) (es : List Edge) (i : ℕ) (e : Edge) → slice_get es i ≡ Some e → t e ≡ true → list_any t es ≡ true
any_yes t [] i e k h = absurd cc
any_yes t (x ∷ xs) zero e k h = let same : x ≡ e = cc in or_true (t x) (list_any t xs) (inl (ap t same ∙ h))
any_yes t (x ∷ xs) (suc i) e k h = or_true (t x) (list_any t xs) (inr (any_yes t xs i e k h))

-- two rings share a point where an edge of the one and an edge of the other do, and that is decided
rings_share_is : (r s : List Position) → (rings_share r s ≡ true) ↔ RingsShare r s
rings_share_is r s = (
  (λ h. let k = any_from (λ e. list_any (share_point e) (edges_of_line s)) (edges_of_line r) h in let l = any_from (share_point k.1) (edges_of_line s) k.3 in
      record { i = k.0; j = l.0; e = k.1; f = l.1; first = k.2; second = l.2; share = (shared_point_is_decided k.1 l.1).0 l.3 }),
  (λ w. any_yes (λ e. list_any (share_point e) (edges_of_line s)) (edges_of_line r) w.i w.e w.first
      (any_yes (share_point w.e) (edges_of_line s) w.j w.f w.second ((shared_point_is_decided w.e w.f).1 w.share))),
)

-- two polygons do where a ring of the one and a ring of the other do
elements_share_is : (d e : List (List Position)) → (elements_share d e ≡ true) ↔ ElementsShare d e
elements_share_is d e = (
  (λ h. let k = some_from (λ r. list_any (rings_share r) e) d h in let l = some_from (rings_share k.0) e k.2 in
      record { r = k.0; s = l.0; first = k.1; second = l.1; share = (rings_share_is k.0 l.0).0 l.2 }),
  (λ w. some_yes (λ r. list_any (rings_share r) e) d w.r w.first (some_yes (rings_share w.r) e w.s w.second ((rings_share_is w.r w.s).1 w.share))),
)

-- ---- faults of two rings of one polygon
abbrev meeting_test : ℕ → ℕ → Element → Bool
meeting_test i j e = nat_lt i j && test_of_both rings_share (ring_of e i) (ring_of e j)

-- the test of each fault says what the fault says: that two rings of a polygon share a point
meeting_is : (g : Geometry) (i j : ℕ) → (has_fault g (RingsMeet i j) ≡ true) ↔ HasFault g (RingsMeet i j)
meeting_is g i j = (
  (λ h. let k = some_from (meeting_test i j) (numbered_elements g) h in
      let parts = and_parts (nat_lt i j) (test_of_both rings_share (ring_of k.0 i) (ring_of k.0 j)) k.2 in
      let t = (two_are rings_share (ring_of k.0 i) (ring_of k.0 j)).0 parts.1 in
      let r = ring_from k.0 i t.0 t.2 in let s = ring_from k.0 j t.1 t.3 in
      (k.0, i - k.0.first, j - k.0.first, t.0, t.1, k.1, later_ring k.0.first (i - k.0.first) (j - k.0.first) i j r.0 s.0 (ltb-true i j parts.0), r, s, (rings_share_is t.0 t.1).0 t.4)),
  (λ t. some_yes (meeting_test i j) (numbered_elements g) t.0 t.5
      (and_from (nat_lt i j) (test_of_both rings_share (ring_of t.0 i) (ring_of t.0 j)) (lt-ltb i j (greater_number t.0.first t.1 t.2 i j t.7.0 t.8.0 t.6))
      ((two_are rings_share (ring_of t.0 i) (ring_of t.0 j)).1 (t.3, t.4, ring_yes t.0 t.1 i t.3 t.7, ring_yes t.0 t.2 j t.4 t.8, (rings_share_is t.3 t.4).1 t.9)))),
)

abbrev off : List Position → List Position → Bool
off outer hole = not (inside outer hole)

abbrev outside_test : ℕ → Element → Bool
outside_test i e = nat_lt e.first i && test_of_both off (ring_of e e.first) (ring_of e i)

-- that a hole isn't inside the outer ring
outside_is : (g : Geometry) (i : ℕ) → (has_fault g (HoleOutside i) ≡ true) ↔ HasFault g (HoleOutside i)
outside_is g i = (
  (λ h. let k = some_from (outside_test i) (numbered_elements g) h in
      let parts = and_parts (nat_lt k.0.first i) (test_of_both off (ring_of k.0 k.0.first) (ring_of k.0 i)) k.2 in
      let t = (two_are off (ring_of k.0 k.0.first) (ring_of k.0 i)).0 parts.1 in
      let r = ring_from k.0 k.0.first t.0 t.2 in let s = ring_from k.0 i t.1 t.3 in
      (k.0, i - k.0.first, t.0, t.1, k.1, behind k.0.first i (ltb-true k.0.first i parts.0), ap (slice_get k.0.rings) (nothing k.0.first) ∙ r.1, s, not-true (inside t.0 t.1) t.4)),
  (λ t. some_yes (outside_test i) (numbered_elements g) t.0 t.4
      (and_from (nat_lt t.0.first i) (test_of_both off (ring_of t.0 t.0.first) (ring_of t.0 i)) (lt-ltb t.0.first i (past t.0.first t.1 i t.7.0 t.5))
      ((two_are off (ring_of t.0 t.0.first) (ring_of t.0 i)).1
      (t.2, t.3, ring_yes t.0 0 t.0.first t.2 (sym (add-zero t.0.first), t.6), ring_yes t.0 t.1 i t.3 t.7, ap not t.8)))),
)
  where
    behind : (first i : ℕ) → first < i → 0 < i - first
    behind first i h = omega (arith, h)

    nothing : (first : ℕ) → 0 ≡ first - first
    nothing first = omega arith

    past : (first k i : ℕ) → i ≡ first + k → 0 < k → first < i
    past first k i e h = omega (arith, e, h)

abbrev one_in_the_other : List Position → List Position → Bool
one_in_the_other r s = inside r s || inside s r

abbrev nested_test : ℕ → ℕ → Element → Bool
nested_test i j e = nat_lt e.first i && nat_lt i j && test_of_both one_in_the_other (ring_of e i) (ring_of e j)

-- that one of two holes is inside the other
nested_is : (g : Geometry) (i j : ℕ) → (has_fault g (HolesNested i j) ≡ true) ↔ HasFault g (HolesNested i j)
nested_is g i j = (
  (λ h. let k = some_from (nested_test i j) (numbered_elements g) h in
      let parts = and_parts (nat_lt k.0.first i && nat_lt i j) (test_of_both one_in_the_other (ring_of k.0 i) (ring_of k.0 j)) k.2 in
      let orders = and_parts (nat_lt k.0.first i) (nat_lt i j) parts.0 in
      let t = (two_are one_in_the_other (ring_of k.0 i) (ring_of k.0 j)).0 parts.1 in
      let r = ring_from k.0 i t.0 t.2 in let s = ring_from k.0 j t.1 t.3 in (
        k.0,
        i - k.0.first,
        j - k.0.first,
        t.0,
        t.1,
        k.1,
        behind k.0.first i (ltb-true k.0.first i orders.0),
        later_ring k.0.first (i - k.0.first) (j - k.0.first) i j r.0 s.0 (ltb-true i j orders.1),
        r,
        s,
        or_cases (inside t.0 t.1) (inside t.1 t.0) t.4,
      )),
  (λ t. some_yes (nested_test i j) (numbered_elements g) t.0 t.5
      (and_from (nat_lt t.0.first i && nat_lt i j) (test_of_both one_in_the_other (ring_of t.0 i) (ring_of t.0 j))
      (and_from (nat_lt t.0.first i) (nat_lt i j) (lt-ltb t.0.first i (past t.0.first t.1 i t.8.0 t.6)) (lt-ltb i j (greater_number t.0.first t.1 t.2 i j t.8.0 t.9.0 t.7)))
      ((two_are one_in_the_other (ring_of t.0 i) (ring_of t.0 j)).1
      (t.3, t.4, ring_yes t.0 t.1 i t.3 t.8, ring_yes t.0 t.2 j t.4 t.9, or_true (inside t.3 t.4) (inside t.4 t.3) t.10)))),
)
  where
    behind : (first i : ℕ) → first < i → 0 < i - first
    behind first i h = omega (arith, h)

    past : (first k i : ℕ) → i ≡ first + k → 0 < k → first < i
    past first k i e h = omega (arith, e, h)

-- ---- faults of two polygons
-- that two polygons share a point of their rings
touching_is : (g : Geometry) (i j : ℕ) → (has_fault g (ElementsMeet i j) ≡ true) ↔ HasFault g (ElementsMeet i j)
touching_is g i j = let k = two_are elements_share (slice_get (elements g) i) (slice_get (elements g) j) in (
  (λ h. let parts = and_parts (nat_lt i j) (test_of_both elements_share (slice_get (elements g) i) (slice_get (elements g) j)) h in let t = k.0 parts.1 in
      (t.0, t.1, ltb-true i j parts.0, t.2, t.3, (elements_share_is t.0 t.1).0 t.4)),
  (λ t. and_from (nat_lt i j) (test_of_both elements_share (slice_get (elements g) i) (slice_get (elements g) j)) (lt-ltb i j t.2) (k.1 (t.0, t.1, t.3, t.4, (elements_share_is t.0 t.1).1 t.5))),
)

abbrev swallowed : List (List Position) → List (List Position) → Bool
swallowed d e = inside_element e d

-- that a polygon is inside another
swallowed_is : (g : Geometry) (i j : ℕ) → (has_fault g (ElementInside i j) ≡ true) ↔ HasFault g (ElementInside i j)
swallowed_is g i j = let k = two_are swallowed (slice_get (elements g) i) (slice_get (elements g) j) in (
  (λ h. let parts = and_parts (not (i == j)) (test_of_both swallowed (slice_get (elements g) i) (slice_get (elements g) j)) h in let t = k.0 parts.1 in
      (t.0, t.1, (λ same. true≢false (sym ((Decides-eqb i j).1 same) ∙ not-true (i == j) parts.0)), t.2, t.3, t.4)),
  (λ t. and_from (not (i == j)) (test_of_both swallowed (slice_get (elements g) i) (slice_get (elements g) j))
      (ap not (false_from_ne_true (i == j) (λ same. t.2 ((Decides-eqb i j).0 same)))) (k.1 (t.0, t.1, t.3, t.4, t.5))),
)

-- what the test of a fault asks of the rings
abbrev pub NeedsClosed : Geometry → ValidityFault → Type 0
NeedsClosed g (TooFewPoints i) = Unit {0}
NeedsClosed g (RingNotClosed i) = Unit {0}
NeedsClosed g (RingNotSimple i) = AreClosed g
NeedsClosed g (RingsMeet i j) = Unit {0}
NeedsClosed g (HoleOutside i) = Unit {0}
NeedsClosed g (HolesNested i j) = Unit {0}
NeedsClosed g (ElementsMeet i j) = Unit {0}
NeedsClosed g (ElementInside i j) = Unit {0}

-- so each fault is decided; that a ring isn't simple, where all rings are closed
pub fault_decided : (g : Geometry) (fault : ValidityFault) → NeedsClosed g fault → (has_fault g fault ≡ true) ↔ HasFault g fault
fault_decided g (TooFewPoints i) closed = one_is (is_short g) (slice_get (lines g) i)
fault_decided g (RingNotClosed i) closed = let k = one_is is_not_closed (slice_get (rings g) i) in
    ((λ h. let t = k.0 h in (t.0, t.1, (closed_is t.0).0 t.2)), (λ t. k.1 (t.0, t.1, (closed_is t.0).1 t.2)))
fault_decided g (RingNotSimple i) closed = let k = one_is is_not_simple (slice_get (rings g) i) in (
  (λ h. let t = k.0 h in (t.0, t.1, (simple_is t.0 (λ open_ring. closed i (t.0, t.1, open_ring))).0 t.2)),
  (λ t. k.1 (t.0, t.1, (simple_is t.0 (λ open_ring. closed i (t.0, t.1, open_ring))).1 t.2)),
)
fault_decided g (RingsMeet i j) closed = meeting_is g i j
fault_decided g (HoleOutside i) closed = outside_is g i
fault_decided g (HolesNested i j) closed = nested_is g i j
fault_decided g (ElementsMeet i j) closed = touching_is g i j
fault_decided g (ElementInside i j) closed = swallowed_is g i j

-- where all rings are closed, each test has what it asks for
pub fault_is_decided : FaultIsDecided
fault_is_decided g (TooFewPoints i) closed = fault_decided g (TooFewPoints i) tt
fault_is_decided g (RingNotClosed i) closed = fault_decided g (RingNotClosed i) tt
fault_is_decided g (RingNotSimple i) closed = fault_decided g (RingNotSimple i) closed
fault_is_decided g (RingsMeet i j) closed = fault_decided g (RingsMeet i j) tt
fault_is_decided g (HoleOutside i) closed = fault_decided g (HoleOutside i) tt
fault_is_decided g (HolesNested i j) closed = fault_decided g (HolesNested i j) tt
fault_is_decided g (ElementsMeet i j) closed = fault_decided g (ElementsMeet i j) tt
fault_is_decided g (ElementInside i j) closed = fault_decided g (ElementInside i j) tt
