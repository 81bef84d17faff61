-- Samples in order, and the line at the median of one.
use Rattle.std.proofs.Common.{◌≡◌, inl, inr, ◌∙◌, ◌+◌, ◌-◌, ◌*◌, ◌<◌, ◌≤◌, min, ℕ, zero, suc, Bool, true, false, cond, List, [], ◌∷◌, length, take, drop, get_or, ℤ, pos, ◌≤ℤ◌, ◌<ℤ◌, refl, sym, ap, subst, arith, add-zero}
use Rattle.std.specs.Prelude.{int_le, int_lt, count_by}
use Rattle.std.specs.Ordering.{int_cmp, is_lt}
use Rattle.std.specs.List.{All}
use Rattle.std.specs.List.Sorted.{IsPermutation, IsSortedByKey, IsPartitionedBy, IsPartitionPoint}
use Rattle.std.proofs.lemmas.Bool.{cases_lt, false≢true}
use Rattle.std.proofs.lemmas.Int.{ints}
use Rattle.std.proofs.lemmas.Cmp.{int_cmp_total}
use Rattle.std.proofs.lemmas.List.{length-take, length-take-le, length-drop, get_or-take, get_or-drop, get_or_default}
use Rattle.std.proofs.lemmas.List.Sorted.{All-permutation}
use Rattle.std.proofs.lemmas.List.Sums.{sum_by-cons, sum_by-take-drop, count_by-le-length}
use Rattle.std.proofs.lemmas.List.Sorted.{sorted_far, ranks_by, IsPermutation-sym}
use lib.Signed.{≤ℤ_refl}
use Rattle.basics.proofs.Orders.{at_most_at_most, still_at_most, still_less, cmp_not_less, at_most_less, less_weak}
use Rattle.basics.proofs.Signs.{less_no, not_at_most_from, at_most_from, not_less_from, less_from, less_yes}
use Rattle.geometry_model.specs.Points.{Position}
use Rattle.fraction.specs.Ranges.{IsOnGrid}
use Rattle.tiles.specs.Cuts.{HasBothSides, HasOneCoordinate, IsMedian, other}
use Rattle.tiles.specs.Lines.{coordinate}
use Rattle.tiles.specs.declared.lines.Axis.{Axis}
use Rattle.tiles.specs.declared.lines.Axis.TheVariants.{X, Y}
use Rattle.tiles.specs.declared.lines.Line.{Line}

-- positions whose coordinates along an axis don't fall
pub record Ascend (axis : Axis) (ps : List Position) : Type 0 where
  pub up : (i j : ℕ) (d : Position) → i ≤ j → j < length ps → coordinate axis (get_or ps i d) ≤ℤ coordinate axis (get_or ps j d)

pub ascends : (axis : Axis) (ps : List Position) → IsSortedByKey (coordinate axis) int_cmp ps → Ascend axis ps
ascends axis ps h = record {
  up = λ i j d l m. cmp_not_less (coordinate axis (get_or ps i d)) (coordinate axis (get_or ps j d))
      (sorted_far (λ (a b : Position). is_lt (int_cmp (coordinate axis a) (coordinate axis b))) (ranks_by int_cmp_total (coordinate axis)) ps h i j d l m);
}

pub less_first : (axis : Axis) (ps : List Position) (z : ℤ) → Ascend axis ps → IsPartitionedBy (λ p. int_lt (coordinate axis p) z) ps
less_first axis ps z h i j d l m = still_less (coordinate axis (get_or ps i d)) (coordinate axis (get_or ps j d)) z (h.up i j d l m)

pub most_first : (axis : Axis) (ps : List Position) (z : ℤ) → Ascend axis ps → IsPartitionedBy (λ p. int_le (coordinate axis p) z) ps
most_first axis ps z h i j d l m = still_at_most (coordinate axis (get_or ps i d)) (coordinate axis (get_or ps j d)) z (h.up i j d l m)

-- ---- tests and orders

same : (a b : ℤ) → a ≤ℤ b → b ≤ℤ a → a ≡ b
same a b h k = omega (arith, ints)

-- ---- counts

abbrev once : Bool → ℕ
once b = cond b 1 0

none_counted : (f : Position → Bool) (ps : List Position) → All (λ p. f p ≡ false) ps → count_by f ps ≡ 0
none_counted f [] h = refl
none_counted f (p ∷ ps) h =
    let here : f p ≡ false = h 0 p (omega (arith)) in
    let rest : count_by f ps ≡ 0 = none_counted f ps (λ k d l. h (suc k) d (omega (arith))) in
    let one : once (f p) ≡ 0 = ap once here in
    let both : count_by f (p ∷ ps) ≡ once (f p) + count_by f ps = sum_by-cons (λ q. once (f q)) p ps in
    omega (arith, both, one, rest)

-- where no more than the places from k on are counted, they are as few as these places
few_counted : (f : Position → Bool) (ps : List Position) (k : ℕ) → k ≤ length ps → ((i : ℕ) (d : Position) → i < k → f (get_or ps i d) ≡ false)
    → count_by f ps ≤ length ps - k
few_counted f ps k within h =
    let none : count_by f (take k ps) ≡ 0 = none_counted f (take k ps) (λ i d l.
    let below : i < k = omega (arith, length-take-le k ps within) in
    ap f (get_or-take k ps i d below) ∙ h i d below) in
    omega (arith, none, sum_by-take-drop (λ p. cond (f p) 1 0) ps k, count_by-le-length f (drop k ps), length-drop k ps)

-- what is at a place, at any default
at_place : (ps : List Position) (i : ℕ) (p d : Position) → i < length ps → get_or ps i p ≡ p → get_or ps i d ≡ p
at_place ps i p d within here = get_or_default ps i d p within ∙ here

-- how many are before a place and behind it
counted_both : (ps : List Position) (i : ℕ) → i ≤ length ps → length (take i ps) + length (drop i ps) ≡ length ps
counted_both ps i within = omega (arith, length-take-le i ps within, length-drop i ps)

-- those past the coordinate of the one at a place are behind this place
few_past : (axis : Axis) (ps : List Position) (mid i : ℕ) (p : Position) (z : ℤ) → Ascend axis ps → mid < length ps → get_or ps mid p ≡ p
    → coordinate axis p ≤ℤ z → i ≤ length ps → length ps < 2 * mid + 2
    → 2 * count_by (λ q. int_lt z (coordinate axis q)) (drop i ps) < length (take i ps) + length (drop i ps)
few_past axis ps mid i p z up within here most below half =
    let past : Position → Bool = λ q. int_lt z (coordinate axis q) in
    let few : count_by past (drop i ps) ≤ count_by past ps = omega (arith, sum_by-take-drop (λ q. cond (past q) 1 0) ps i) in
    let counted : count_by past ps ≤ length ps - suc mid = few_counted past ps (suc mid) (omega arith) (λ k d l.
    less_no z (coordinate axis (get_or ps k d)) (at_most_at_most (coordinate axis (get_or ps k d)) (coordinate axis p) z
    (subst (λ q. coordinate axis (get_or ps k d) ≤ℤ coordinate axis q) (at_place ps mid p d within here) (up.up k mid d (omega arith) within)) most)) in
    omega (arith, few, counted, counted_both ps i below)

-- a line at the coordinate of the middle one, where some are less
pub median_at : (line : Line) (ps : List Position) (mid i : ℕ) (p : Position) → Ascend line.axis ps → mid < length ps → length ps < 2 * mid + 2 → 2 * mid ≤ length ps
    → get_or ps mid p ≡ p → line.at ≡ coordinate line.axis p → i ≤ length ps
    → IsPartitionPoint (λ q. int_lt (coordinate line.axis q) line.at ≡ true) (λ q. int_lt (coordinate line.axis q) line.at ≡ false) ps i → 0 < i
    → IsMedian line (take i ps) (drop i ps)
median_at line ps mid i p up within half half2 here at below part some = record {
  less = λ k d l.
      let k_below : k < i = omega (arith, size) in
      subst (λ q. coordinate line.axis q <ℤ line.at) (sym (get_or-take i ps k d k_below)) (less_from (coordinate line.axis (get_or ps k d)) line.at (part.0 k d (omega arith) k_below));
  not_less = λ k d l.
      let k_below : i + k < length ps = omega (arith, rest) in
      subst (λ q. line.at ≤ℤ coordinate line.axis q) (sym (get_or-drop i ps k d)) (not_less_from (coordinate line.axis (get_or ps (i + k) d)) line.at (part.1 (i + k) d (omega arith) k_below));
  some = omega (arith, size);
  reached = (mid - i, p, omega (arith, rest, first), get_or-drop i ps (mid - i) p ∙ ap (λ k. get_or ps k p) back ∙ here, sym at);
  few_past = few_past line.axis ps mid i p line.at up within here (subst (λ z. coordinate line.axis p ≤ℤ z) (sym at) (≤ℤ_refl (coordinate line.axis p))) below half;
  few_before = inl (omega (arith, size, rest, first));
}
  where
    size : length (take i ps) ≡ i
    size = length-take-le i ps below

    rest : length (drop i ps) ≡ length ps - i
    rest = length-drop i ps

    not_itself : (z : ℤ) → int_lt z z ≡ false
    not_itself z = less_no z z (≤ℤ_refl z)

    first : i ≤ mid
    first = elim (cases_lt mid i) [
      | inr h ↦ h
      | inl h ↦
          let less : int_lt (coordinate line.axis p) (coordinate line.axis p) ≡ true =
          ap (λ q. int_lt (coordinate line.axis q) (coordinate line.axis p)) (sym here)
          ∙ ap (λ z. int_lt (coordinate line.axis (get_or ps mid p)) z) (sym at) ∙ part.0 mid p (omega arith) h in
          absurd (false≢true (sym (not_itself (coordinate line.axis p)) ∙ less))
    ]

    back : i + (mid - i) ≡ mid
    back = omega (arith, first)

-- where the first one isn't less than another, none is
none_less : (axis : Axis) (ps : List Position) (p o : Position) → Ascend axis ps → get_or ps 0 o ≡ o → coordinate axis p ≤ℤ coordinate axis o
    → (k : ℕ) (d : Position) → k < length ps → coordinate axis p ≤ℤ coordinate axis (get_or ps k d)
none_less axis ps p o up first least k d l =
    at_most_at_most (coordinate axis p) (coordinate axis o) (coordinate axis (get_or ps k d)) least
    (subst (λ r. coordinate axis r ≤ℤ coordinate axis (get_or ps k d)) (at_place ps 0 o d (omega arith) first) (up.up 0 k d (omega arith) l))

-- a line at the coordinate of the first one past the least, where the middle one has the least
pub next_at : (line : Line) (ps : List Position) (mid j : ℕ) (o p q : Position) → Ascend line.axis ps → mid < length ps → length ps < 2 * mid + 2
    → get_or ps 0 o ≡ o → coordinate line.axis p ≤ℤ coordinate line.axis o → get_or ps mid p ≡ p
    → j < length ps → get_or ps j q ≡ q → line.at ≡ coordinate line.axis q
    → IsPartitionPoint (λ r. int_le (coordinate line.axis r) (coordinate line.axis p) ≡ true) (λ r. int_le (coordinate line.axis r) (coordinate line.axis p) ≡ false) ps j
    → IsMedian line (take j ps) (drop j ps)
next_at line ps mid j o p q up within half start least here within2 here2 at part = record {
  less = λ k d l.
      let k_below : k < j = omega (arith, size) in
      subst (λ r. coordinate line.axis r <ℤ line.at) (sym (get_or-take j ps k d k_below))
      (subst (λ z. coordinate line.axis (get_or ps k d) <ℤ z) (sym at) (at_most_less (coordinate line.axis (get_or ps k d)) (coordinate line.axis p) (coordinate line.axis q) (most k d k_below) past));
  not_less = λ k d l.
      let k_below : j + k < length ps = omega (arith, rest) in
      subst (λ r. line.at ≤ℤ coordinate line.axis r) (sym (get_or-drop j ps k d))
      (subst (λ z. z ≤ℤ coordinate line.axis (get_or ps (j + k) d)) (sym at)
      (subst (λ r. coordinate line.axis r ≤ℤ coordinate line.axis (get_or ps (j + k) d)) (at_place ps j q d within2 here2) (up.up j (j + k) d (omega arith) k_below)));
  some = omega (arith, size, first);
  reached = (0, q, omega (arith, rest), get_or-drop j ps 0 q ∙ ap (λ k. get_or ps k q) (add-zero j) ∙ here2, sym at);
  few_past = few_past line.axis ps mid j p line.at up within here
      (subst (λ z. coordinate line.axis p ≤ℤ z) (sym at) (less_weak (coordinate line.axis p) (coordinate line.axis q) past)) (omega arith) half;
  few_before = inr (
    coordinate line.axis p,
    λ k d l.
        let k_below : k < j = omega (arith, size) in
        ap (coordinate line.axis) (get_or-take j ps k d k_below)
        ∙ same (coordinate line.axis (get_or ps k d)) (coordinate line.axis p) (most k d k_below)
        (none_less line.axis ps p o up start least k d (omega arith)),
  );
}
  where
    size : length (take j ps) ≡ j
    size = length-take-le j ps (omega arith)

    rest : length (drop j ps) ≡ length ps - j
    rest = length-drop j ps

    itself : (z : ℤ) → int_le z z ≡ true
    itself z = grind (arith, ints)

    most : (k : ℕ) (d : Position) → k < j → coordinate line.axis (get_or ps k d) ≤ℤ coordinate line.axis p
    most k d l = at_most_from (coordinate line.axis (get_or ps k d)) (coordinate line.axis p) (part.0 k d (omega arith) l)

    past : coordinate line.axis p <ℤ coordinate line.axis q
    past = subst (λ r. coordinate line.axis p <ℤ coordinate line.axis r) here2
        (not_at_most_from (coordinate line.axis (get_or ps j q)) (coordinate line.axis p) (part.1 j q (omega arith) within2))

    first : mid < j
    first = elim (cases_lt mid j) [
      | inl h ↦ h
      | inr h ↦
          let more : int_le (coordinate line.axis p) (coordinate line.axis p) ≡ false =
          ap (λ r. int_le (coordinate line.axis r) (coordinate line.axis p)) (sym here) ∙ part.1 mid p h within in
          absurd (false≢true (sym more ∙ itself (coordinate line.axis p)))
    ]

-- where no one is past the middle one, and none is less, all have its coordinate
pub all_at : (axis : Axis) (ps : List Position) (j : ℕ) (o p : Position) → Ascend axis ps → get_or ps 0 o ≡ o → coordinate axis p ≤ℤ coordinate axis o
    → length ps ≤ j → IsPartitionPoint (λ r. int_le (coordinate axis r) (coordinate axis p) ≡ true) (λ r. int_le (coordinate axis r) (coordinate axis p) ≡ false) ps j
    → HasOneCoordinate axis ps
all_at axis ps j o p up start least end part = (
  coordinate axis p,
  λ k d l.
      same (coordinate axis (get_or ps k d)) (coordinate axis p) (at_most_from (coordinate axis (get_or ps k d)) (coordinate axis p) (part.0 k d (omega arith) (omega arith)))
      (none_less axis ps p o up start least k d l),
)

-- where the first one is less, some are
pub some_less : (axis : Axis) (ps : List Position) (i : ℕ) (o : Position) (z : ℤ) → 0 < length ps → get_or ps 0 o ≡ o → coordinate axis o <ℤ z
    → IsPartitionPoint (λ r. int_lt (coordinate axis r) z ≡ true) (λ r. int_lt (coordinate axis r) z ≡ false) ps i → 0 < i
some_less axis ps zero o z within first less part =
    let no : int_lt (coordinate axis o) z ≡ false = ap (λ r. int_lt (coordinate axis r) z) (sym first) ∙ part.1 0 o (omega arith) within in
    absurd (false≢true (sym no ∙ less_yes (coordinate axis o) z less))
some_less axis ps (suc i) o z within first less part = omega arith

-- the first one is before the line, and one is at it
pub with_sides : (line : Line) (ps : List Position) (n k : ℕ) (o q : Position) → get_or ps 0 o ≡ o → IsOnGrid o → k < length ps → get_or ps k q ≡ q → IsOnGrid q
    → line.at ≡ coordinate line.axis q → IsMedian line (take n ps) (drop n ps) → IsMedian line (take n ps) (drop n ps) × HasBothSides line ps
with_sides line ps n k o q first on within there on2 at median =
    let size : length (take n ps) ≡ min n (length ps) = length-take n ps in
    let some : 0 < length (take n ps) = median.some in
    let n_some : 0 < n = omega (arith, size, some) in (
      median,
      (
        (
          0,
          o,
          omega arith,
          first,
          (on, subst (λ r. coordinate line.axis r <ℤ line.at) (get_or-take n ps 0 o n_some ∙ first) (median.less 0 o some)),
        ),
        (k, q, within, there, (on2, sym at)),
      ),
    )

-- none has one coordinate
pub none_at : (axis : Axis) (ps : List Position) → length ps ≤ 0 → HasOneCoordinate axis ps
none_at axis ps h = (pos 0, λ k d l. absurd (omega arith))

-- the order of a sample doesn't matter
pub one_coordinate : (axis : Axis) (ps qs : List Position) → IsPermutation ps qs → HasOneCoordinate axis qs → HasOneCoordinate axis ps
one_coordinate axis ps qs moved (z, h) = (z, All-permutation (λ p. coordinate axis p ≡ z) qs ps (IsPermutation-sym ps qs moved) h)

-- along one axis and along the other is along each
pub along_both : (axis : Axis) (ps : List Position) → HasOneCoordinate axis ps → HasOneCoordinate (other axis) ps → (a : Axis) → HasOneCoordinate a ps
along_both X ps h k X = h
along_both X ps h k Y = k
along_both Y ps h k X = k
along_both Y ps h k Y = h
