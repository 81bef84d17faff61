-- Lists in a strict order: the merge of ascending parts is the whole, and the first n of the merge of the first n of each are the first n.
use Rattle.std.specs.Prelude.{◌≡◌, refl, ◌⊎◌, ℕ, zero, suc, Bool, true, false, if◌then◌else◌, List, [], ◌∷◌, ◌++◌, take, flat_map, All, Contains, IsPermutation, Option, Some, None}
use Rattle.std.specs.List.{AllPairs}
use Rattle.std.proofs.Common.{arith, ap, ap₂, ◌∙◌, sym, inl, inr}
use Rattle.std.proofs.lemmas.List.Elements.{All-head, All-tail, All-contains, Contains-append_left, Contains-append_right, Contains-append_cases}
use Rattle.std.proofs.lemmas.List.Sorted.{IsPermutation-sym, Contains-permutation}
use Rattle.basics.proofs.Lists.{contains_later}
use Rattle.table_laws.proofs.PlanLists.{member_cases, no_member}
use Rattle.table_laws.proofs.Orders.{pairs_head, pairs_tail, same_in_order}
use Rattle.table_model.specs.Meanings.{up_to}

-- ---- members

-- one of the first n is a member
taken_member : {X : Type 0} (n : ℕ) (xs : List X) (z : X) → Contains (take n xs) z → Contains xs z
taken_member zero xs z c = absurd (no_member z c)
taken_member (suc n) [] z c = c
taken_member {X = X} (suc n) (x ∷ xs) z c = go (member_cases x (take n xs) z c) (taken_member n xs z)
  where
    go : (x ≡ z) ⊎ Contains (take n xs) z → (Contains (take n xs) z → Contains xs z) → Contains (x ∷ xs) z
    go (inl e) rest = (0, omega arith, e)
    go (inr m) rest = contains_later x xs z (rest m)

-- what is in the first n of some lists is in the lists
taken_of_any : {C X : Type 0} (n : ℕ) (f : C → List X) (cs : List C) (z : X) → Contains (flat_map (λ c. take n (f c)) cs) z → Contains (flat_map f cs) z
taken_of_any n f [] z m = m
taken_of_any {C = C} n f (c ∷ cs) z m = go (Contains-append_cases (take n (f c)) (flat_map (λ d. take n (f d)) cs) z m) (taken_of_any n f cs z)
  where
    go : Contains (take n (f c)) z ⊎ Contains (flat_map (λ d. take n (f d)) cs) z → (Contains (flat_map (λ d. take n (f d)) cs) z → Contains (flat_map f cs) z) → Contains (f c ++ flat_map f cs) z
    go (inl h) rest = Contains-append_left (f c) (flat_map f cs) z (taken_member n (f c) z h)
    go (inr h) rest = Contains-append_right (f c) (flat_map f cs) z (rest h)

-- ---- a strict order

module _ {X : Type 0} (R : X → X → Type 0) (once : (a b : X) → R a b → R b a → ⊥) where
  not_itself : (x y : X) → x ≡ y → R x y → ⊥
  not_itself x y e r = let s : R y y = rw e at r in once y y s s

  -- what comes before a first element isn't in the list
  none_before : (x : X) (xs : List X) → AllPairs R (x ∷ xs) → (y : X) → Contains (x ∷ xs) y → R y x → ⊥
  none_before x xs h y c r = go (member_cases x xs y c)
    where
      go : (x ≡ y) ⊎ Contains xs y → ⊥
      go (inl e) = not_itself y x (sym e) r
      go (inr m) = once x y (All-contains (R x) xs y (pairs_head R x xs h) m) r

  -- a part that ascends and has members of a list has none but its own first element before the list's first
  rest_within : (x y : X) (xs ys : List X) → AllPairs R (x ∷ xs) → AllPairs R (y ∷ ys) → ((z : X) → Contains (y ∷ ys) z → Contains (x ∷ xs) z) → (z : X) → Contains ys z → Contains xs z
  rest_within x y xs ys h k within z m = go (member_cases x xs z (within z (contains_later y ys z m)))
    where
      go : (x ≡ z) ⊎ Contains xs z → Contains xs z
      go (inr c) = c
      go (inl e) = absurd (none_before x xs h y (within y (0, omega arith, refl)) (rw e (All-contains (R y) ys z (pairs_head R y ys k) m)))

  -- one of the first n of a list is one of the first n of each ascending part that has it
  early : (n : ℕ) (whole part : List X) → AllPairs R whole → AllPairs R part → ((z : X) → Contains part z → Contains whole z) → (z : X) → Contains part z → Contains (take n whole) z → Contains (take n part) z
  early zero whole part h k within z c d = absurd (no_member z d)
  early (suc n) [] part h k within z c d = absurd (no_member z d)
  early (suc n) (x ∷ xs) [] h k within z c d = absurd (no_member z c)
  early (suc n) (x ∷ xs) (y ∷ ys) h k within z c d = go (member_cases y ys z c) (member_cases x (take n xs) z d)
      (λ m l. early n xs ys (pairs_tail R x xs h) (pairs_tail R y ys k) (rest_within x y xs ys h k within) z m l)
    where
      go : (y ≡ z) ⊎ Contains ys z → (x ≡ z) ⊎ Contains (take n xs) z → (Contains ys z → Contains (take n xs) z → Contains (take n ys) z) → Contains (y ∷ take n ys) z
      go (inl e) l rest = (0, omega arith, e)
      go (inr m) (inl e) rest = absurd (none_before x xs h y (within y (0, omega arith, refl)) (rw e (All-contains (R y) ys z (pairs_head R y ys k) m)))
      go (inr m) (inr l) rest = contains_later y (take n ys) z (rest m l)

  -- an ascending list of members of another, with the first n of it, has the same first n
  first_are_first : (n : ℕ) (whole ordered : List X) → AllPairs R whole → AllPairs R ordered → ((z : X) → Contains ordered z → Contains whole z) → ((z : X) → Contains (take n whole) z → Contains ordered z)
      → take n ordered ≡ take n whole
  first_are_first zero whole ordered h k within has = refl
  first_are_first (suc n) [] [] h k within has = refl
  first_are_first (suc n) [] (y ∷ ys) h k within has = absurd (no_member y (within y (0, omega arith, refl)))
  first_are_first (suc n) (x ∷ xs) [] h k within has = absurd (no_member x (has x (0, omega arith, refl)))
  first_are_first (suc n) (x ∷ xs) (y ∷ ys) h k within has =
      ap₂ (λ a rest. a ∷ rest) (sym heads) (first_are_first n xs ys (pairs_tail R x xs h) (pairs_tail R y ys k) (rest_within x y xs ys h k within) rest_has)
    where
      first : (y ≡ x) ⊎ Contains ys x → x ≡ y
      first (inl e) = sym e
      first (inr m) = absurd (none_before x xs h y (within y (0, omega arith, refl)) (All-contains (R y) ys x (pairs_head R y ys k) m))

      heads : x ≡ y
      heads = first (member_cases y ys x (has x (0, omega arith, refl)))

      rest_case : (z : X) → Contains (take n xs) z → (y ≡ z) ⊎ Contains ys z → Contains ys z
      rest_case z m (inr c) = c
      rest_case z m (inl e) = absurd (not_itself x z (heads ∙ e) (All-contains (R x) xs z (pairs_head R x xs h) (taken_member n xs z m)))

      rest_has : (z : X) → Contains (take n xs) z → Contains ys z
      rest_has z m = rest_case z m (member_cases y ys z (has z (contains_later x (take n xs) z m)))

  -- ---- parts

  -- what one of the parts has is in one of their first n, if it is in the first n of the whole
  early_in_any : {C : Type 0} (n : ℕ) (f : C → List X) (whole : List X) → AllPairs R whole → (cs : List C) → All (λ c. AllPairs R (f c)) cs → ((z : X) → Contains (flat_map f cs) z → Contains whole z)
      → (z : X) → Contains (flat_map f cs) z → Contains (take n whole) z → Contains (flat_map (λ c. take n (f c)) cs) z
  early_in_any n f whole h [] k within z m d = m
  early_in_any {C = C} n f whole h (c ∷ cs) k within z m d =
      go (Contains-append_cases (f c) (flat_map f cs) z m)
      (λ i. early_in_any n f whole h cs (All-tail (λ e. AllPairs R (f e)) c cs k) (λ w j. within w (Contains-append_right (f c) (flat_map f cs) w j)) z i d)
    where
      go : Contains (f c) z ⊎ Contains (flat_map f cs) z → (Contains (flat_map f cs) z → Contains (flat_map (λ e. take n (f e)) cs) z) → Contains (take n (f c) ++ flat_map (λ e. take n (f e)) cs) z
      go (inl i) rest =
          Contains-append_left (take n (f c)) (flat_map (λ e. take n (f e)) cs) z
          (early n whole (f c) h (All-head (λ e. AllPairs R (f e)) c cs k) (λ w j. within w (Contains-append_left (f c) (flat_map f cs) w j)) z i d)
      go (inr i) rest = Contains-append_right (take n (f c)) (flat_map (λ e. take n (f e)) cs) z (rest i)

  -- the merge of ascending parts of a whole, each cut at a limit, is the whole up to the limit
  pub merged : {C : Type 0} (limit : Option ℕ) (f : C → List X) (cs : List C) (whole : List X) → AllPairs R whole → All (λ c. AllPairs R (f c)) cs → IsPermutation (flat_map f cs) whole
      → (ordered : List X) → IsPermutation (flat_map (λ c. up_to limit (f c)) cs) ordered → AllPairs R ordered → up_to limit ordered ≡ up_to limit whole
  merged None f cs whole h k p ordered q l =
      same_in_order R once ordered whole l h
      (λ z m. Contains-permutation (flat_map f cs) whole z p (Contains-permutation ordered (flat_map f cs) z (IsPermutation-sym (flat_map f cs) ordered q) m))
      (λ z m. Contains-permutation (flat_map f cs) ordered z q (Contains-permutation whole (flat_map f cs) z (IsPermutation-sym (flat_map f cs) whole p) m))
  merged {C = C} (Some n) f cs whole h k p ordered q l =
      first_are_first n whole ordered h l
      (λ z m. Contains-permutation (flat_map f cs) whole z p (taken_of_any n f cs z (Contains-permutation ordered (flat_map (λ c. take n (f c)) cs) z (IsPermutation-sym (flat_map (λ c. take n (f c)) cs) ordered q) m)))
      (λ z m. Contains-permutation (flat_map (λ c. take n (f c)) cs) ordered z q
      (early_in_any n f whole h cs k (λ w j. Contains-permutation (flat_map f cs) whole w p j) z (Contains-permutation whole (flat_map f cs) z (IsPermutation-sym (flat_map f cs) whole p) (taken_member n whole z m)) m))

-- ---- COUNT(*) and LIMIT

-- without COUNT(*) what is meant is what is filtered, up to the limit
pub uncounted : {X : Type 0} (rows : List X) (limit : Option ℕ) (counts : Bool) → counts ≡ false → (if counts then rows else up_to limit rows) ≡ up_to limit rows
uncounted rows limit counts e = ap (λ b. if b then rows else up_to limit rows) e

-- under COUNT(*) it is all that is filtered
pub counted : {X : Type 0} (rows : List X) (limit : Option ℕ) (counts : Bool) → counts ≡ true → (if counts then rows else up_to limit rows) ≡ rows
counted rows limit counts e = ap (λ b. if b then rows else up_to limit rows) e
