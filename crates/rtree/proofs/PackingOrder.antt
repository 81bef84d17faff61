-- A list in order is the only list in order of its elements.
use Rattle.std.proofs.Common.{◌≡◌, ◌∙◌, ◌<◌, ◌+◌, ℕ, ℤ, suc, Bool, true, false, cond, List, [], ◌∷◌, ap, refl, sym, subst, arith}
use Rattle.std.specs.Prelude.{IsSortedBy, sum_by}
use Rattle.std.specs.Cmp.{IsStrictWeakOrder, IsTotalOrder, int_cmp_total, nat_cmp_total, on_total, then_total, ranks}
use Rattle.std.specs.List.{AllByRecursion}
use Rattle.std.specs.Ordering.{MatchOrdering, is_lt, nat_cmp, ordering_reverse}
use Rattle.std.specs.declared.cmp.Ordering.{Ordering}
use Rattle.std.specs.declared.cmp.Ordering.TheVariants.{Less, Equal, Greater}
use Rattle.std.proofs.lemmas.List.Elements.{recursion_from_All}
use Rattle.std.proofs.lemmas.List.Sorted.{ranks_by, sorted_far}
use Rattle.std.proofs.lemmas.List.Sums.{sum_by-cons}
use Rattle.basics.proofs.Orders.{then_equal}
use Rattle.rtree.specs.Packing.{Entry, comes_before, in_order, key_order, packing_key, with_entry}

-- each element comes before none of those ahead of it
abbrev pub Ascends : {X : Type 0} → (X → X → Bool) → List X → Type 0
Ascends lt [] = Unit {0}
Ascends lt (x ∷ xs) = AllByRecursion (λ z. lt z x ≡ false) xs × Ascends lt xs

module _ {X : Type 0} (lt : X → X → Bool) (o : IsStrictWeakOrder lt) where
  pub ascends-sorted : (xs : List X) → IsSortedBy lt xs → Ascends lt xs
  ascends-sorted [] up = tt
  ascends-sorted (x ∷ xs) up = (
    recursion_from_All (λ z. lt z x ≡ false) xs (λ k d m. sorted_far lt o (x ∷ xs) up 0 (suc k) d (omega arith) (omega arith)),
    ascends-sorted xs (λ k d low high. let n : suc k + 1 ≡ suc (k + 1) = omega arith in rw n at (up (suc k) d (omega arith) (omega arith))),
  )

  not-itself : (x : X) → lt x x ≡ false
  not-itself x = go (lt x x) refl
    where
      go : (b : Bool) → lt x x ≡ b → lt x x ≡ false
      go true h = o.one_way x x h
      go false h = h

  sum-none : (f : X → ℕ) (xs : List X) → AllByRecursion (λ z. f z ≡ 0) xs → sum_by f xs ≡ 0
  sum-none f [] h = refl
  sum-none f (x ∷ xs) h = let first = sum_by-cons f x xs in let rest = sum-none f xs h.1 in omega (arith, first, rest, h.0)

  -- the first element of a list in order is no later than that of another list of the same elements
  first-least : (x y : X) (xs ys : List X) → AllByRecursion (λ z. lt z y ≡ false) ys → ((f : X → ℕ) → sum_by f (x ∷ xs) ≡ sum_by f (y ∷ ys)) → lt x y ≡ false
  first-least x y xs ys later sums = go (lt x y) refl
    where
      late : X → ℕ
      late z = cond (lt x z) 0 1

      each : lt x y ≡ true → (zs : List X) → AllByRecursion (λ z. lt z y ≡ false) zs → AllByRecursion (λ z. late z ≡ 0) zs
      each h [] l = tt
      each h (z ∷ zs) l = (one (lt x z) refl, each h zs l.1)
        where
          one : (b : Bool) → lt x z ≡ b → ◌≡◌ {A = ℕ} (cond b 0 1) 0
          one true e = refl
          one false e = let no_less = o.chain x z y e l.0 in let y : true ≡ false = sym h ∙ no_less in cc

      go : (b : Bool) → lt x y ≡ b → lt x y ≡ false
      go false h = h
      go true h =
          let some = sum_by-cons late x xs in
          let itself : late x ≡ 1 = ap (λ b. cond b 0 1) (not-itself x) in
          let none : late y ≡ 0 = ap (λ b. cond b 0 1) h in
          let first = sum_by-cons late y ys in
          let rest = sum-none late ys (each h ys later) in
          absurd (omega (arith, sums late, some, itself, none, first, rest))

  -- two lists in order of the same elements are the same
  pub only-order : (P : X → Type 0) (ties : (a b : X) → P a → P b → lt a b ≡ false → lt b a ≡ false → a ≡ b) (xs ys : List X)
      → Ascends lt xs → Ascends lt ys → AllByRecursion P xs → AllByRecursion P ys → ((f : X → ℕ) → sum_by f xs ≡ sum_by f ys) → xs ≡ ys
  only-order P ties [] [] a b p q sums = refl
  only-order P ties [] (y ∷ ys) a b p q sums = let some = sum_by-cons (λ (z : X). 1) y ys in absurd (omega (arith, sums (λ z. 1), some))
  only-order P ties (x ∷ xs) [] a b p q sums = let some = sum_by-cons (λ (z : X). 1) x xs in absurd (omega (arith, sums (λ z. 1), some))
  only-order P ties (x ∷ xs) (y ∷ ys) a b p q sums =
      let same : x ≡ y = ties x y p.0 q.0 (first-least x y xs ys b.0 sums) (first-least y x ys xs a.0 (λ f. sym (sums f))) in
      let rest : (f : X → ℕ) → sum_by f xs ≡ sum_by f ys = λ f.
      let left = sum_by-cons f x xs in let right = sum_by-cons f y ys in let heads = ap f same in omega (arith, sums f, left, right, heads) in
      ap (λ z. z ∷ xs) same ∙ ap (λ zs. y ∷ zs) (only-order P ties xs ys a.1 b.1 p.1 q.1 rest)

-- ---- what is level in an order

-- two of which none is less are equal in it
pub level_keys : (r s : Ordering) → r ≡ ordering_reverse s → is_lt r ≡ false → is_lt s ≡ false → r ≡ Equal
level_keys Less s e a b = cc
level_keys Equal s e a b = refl
level_keys Greater Less e a b = cc
level_keys Greater Equal e a b = cc
level_keys Greater Greater e a b = cc

-- numbers that are level are equal
pub same_number : (a b : ℕ) → nat_cmp a b ≡ Equal → a ≡ b
same_number a b e = subst (λ r. MatchOrdering r (a < b) (a ≡ b) (b < a)) e (ranks a b)

-- ---- entries in order

-- entries are ordered totally by the sums of their x, the sums of their y, and their position
key_total : IsTotalOrder key_order
key_total = then_total (then_total (on_total (λ (t : ℤ × ℤ × ℕ). t.0) int_cmp_total) (on_total (λ (t : ℤ × ℤ × ℕ). t.1) int_cmp_total)) (on_total (λ (t : ℤ × ℤ × ℕ). t.2) nat_cmp_total)

-- so being before is a lawful order of entries
pub entry_order : IsStrictWeakOrder comes_before
entry_order = ranks_by key_total packing_key

-- what holds of an entry and of all in a list holds of all when it is put in its place
all-with_entry : (P : Entry → Type 0) (e : Entry) (zs : List Entry) → P e → AllByRecursion P zs → AllByRecursion P (with_entry e zs)
all-with_entry P e [] p all = (p, tt)
all-with_entry P e (z ∷ zs) p all = go (comes_before e z) (all-with_entry P e zs p all.1)
  where
    go : (b : Bool) → AllByRecursion P (with_entry e zs) → AllByRecursion P (cond b (e ∷ z ∷ zs) (z ∷ with_entry e zs))
    go true more = (p, all)
    go false more = (all.0, more)

-- and of all when each is put in its place
pub all-in_order : (P : Entry → Type 0) (es : List Entry) → AllByRecursion P es → AllByRecursion P (in_order es)
all-in_order P [] all = tt
all-in_order P (e ∷ es) all = all-with_entry P e (in_order es) all.0 (all-in_order P es all.1)

-- an entry put in its place leaves the list in order
ascends-with_entry : (e : Entry) (zs : List Entry) → Ascends comes_before zs → Ascends comes_before (with_entry e zs)
ascends-with_entry e [] up = (tt, tt)
ascends-with_entry e (z ∷ zs) up = go (comes_before e z) refl (ascends-with_entry e zs up.1)
  where
    chained : comes_before z e ≡ false → (ws : List Entry) → AllByRecursion (λ w. comes_before w z ≡ false) ws → AllByRecursion (λ w. comes_before w e ≡ false) ws
    chained h [] all = tt
    chained h (w ∷ ws) all = (entry_order.chain w z e all.0 h, chained h ws all.1)

    go : (b : Bool) → comes_before e z ≡ b → Ascends comes_before (with_entry e zs) → Ascends comes_before (cond b (e ∷ z ∷ zs) (z ∷ with_entry e zs))
    go true h more = let back = entry_order.one_way e z h in ((back, chained back zs up.0), up)
    go false h more = (all-with_entry (λ w. comes_before w z ≡ false) e zs h up.0, more)

-- so entries put in order are in order
pub ascends-in_order : (es : List Entry) → Ascends comes_before (in_order es)
ascends-in_order [] = tt
ascends-in_order (e ∷ es) = ascends-with_entry e (in_order es) (ascends-in_order es)

-- putting an entry in its place adds it once
sum-with_entry : (f : Entry → ℕ) (e : Entry) (zs : List Entry) → sum_by f (with_entry e zs) ≡ f e + sum_by f zs
sum-with_entry f e [] = sum_by-cons f e []
sum-with_entry f e (z ∷ zs) = go (comes_before e z) (sum-with_entry f e zs)
  where
    go : (b : Bool) → sum_by f (with_entry e zs) ≡ f e + sum_by f zs → sum_by f (cond b (e ∷ z ∷ zs) (z ∷ with_entry e zs)) ≡ f e + sum_by f (z ∷ zs)
    go true more = sum_by-cons f e (z ∷ zs)
    go false more = let left = sum_by-cons f z (with_entry e zs) in let right = sum_by-cons f z zs in omega (arith, left, right, more)

-- so putting in order neither adds nor loses an entry
pub sum-in_order : (f : Entry → ℕ) (es : List Entry) → sum_by f (in_order es) ≡ sum_by f es
sum-in_order f [] = refl
sum-in_order f (e ∷ es) = sum-with_entry f e (in_order es) ∙ ap (λ n. f e + n) (sum-in_order f es) ∙ sym (sum_by-cons f e es)

-- entries of which none comes before the other have the same position
pub same_place : (a b : Entry) → comes_before a b ≡ false → comes_before b a ≡ false → a.0 ≡ b.0
same_place a b h k =
    let level = level_keys (key_order (packing_key a) (packing_key b)) (key_order (packing_key b) (packing_key a)) (key_total.antisymm (packing_key a) (packing_key b)) h k in
    same_number a.0 b.0 (then_equal _ (nat_cmp a.0 b.0) level).1

-- ---- numbers in order

-- being less is a lawful order of numbers
pub number_order : IsStrictWeakOrder (λ (a b : ℕ). is_lt (nat_cmp a b))
number_order = ranks_by nat_cmp_total (λ a. a)

-- of two different numbers one is less
pub numbers_apart : (a b : ℕ) → is_lt (nat_cmp a b) ≡ false → is_lt (nat_cmp b a) ≡ false → a ≡ b
numbers_apart a b h k = same_number a b (level_keys (nat_cmp a b) (nat_cmp b a) (nat_cmp_total.antisymm a b) h k)
