-- Lists, beyond what std has.
use Rattle.std.proofs.Common.{◌≡◌, refl, sym, ap, ap₂, ◌∙◌, ℕ, zero, suc, ◌+◌, ◌<◌, ◌≤◌, true, false, Bool, cond, List, [], ◌∷◌, ◌++◌, append_assoc, length, map, drop, take, drop-cons, get_or, add-one, zero-add, suc-add, suc-le-suc, slice_get, Some, Contains, IsPermutation, flat_map, sum_by, arith}
use Rattle.std.specs.List.{list_all, list_any, prefix_len, refill, take_while}
use Rattle.std.proofs.lemmas.Bool.{and_from, or_right}
use Rattle.std.proofs.lemmas.List.Sums.{take_while-cons}
use Rattle.std.proofs.Math.Seq.{take-append_seam}
use mathlib.Core.Path.{fun_ext}
use Rattle.std.proofs.lemmas.List.Sorted.{IsPermutation-append_comm, IsPermutation-append_left, IsPermutation-append_right, IsPermutation-refl, IsPermutation-trans}
use Rattle.std.proofs.lemmas.Option.{get_or_from_slice_get, same_Some, slice_get-get_or, slice_get_read, slice_get_within}

-- ---- what is at a place
-- each place of a list has an element
pub element_at : {X : Type 0} (xs : List X) (k : ℕ) → k < length xs → (x : X) × (slice_get xs k ≡ Some x)
element_at [] k l = absurd (omega (arith, l))
element_at (x ∷ xs) zero l = (x, refl)
element_at (x ∷ xs) (suc k) l = element_at xs k (omega (arith, l))

-- the element that a default at its place shows
pub read_at : {X : Type 0} (xs : List X) (i : ℕ) (x : X) → i < length xs → x ≡ get_or xs i x → slice_get xs i ≡ Some x
read_at xs i x = slice_get_read xs (length xs) i x refl

-- places of the first of two lists
pub in_front : {X : Type 0} (xs ys : List X) (k : ℕ) → k < length xs → slice_get (xs ++ ys) k ≡ slice_get xs k
in_front [] ys k h = absurd (omega (arith, h))
in_front (x ∷ xs) ys zero h = refl
in_front (x ∷ xs) ys (suc k) h = in_front xs ys k (omega (arith, h))

-- and what is at one
pub found_in_front : {X : Type 0} (xs ys : List X) (k : ℕ) (x : X) → slice_get xs k ≡ Some x → slice_get (xs ++ ys) k ≡ Some x
found_in_front xs ys k x e = in_front xs ys k (slice_get_within xs k x e) ∙ e

-- places of the second of two lists
pub behind : {X : Type 0} (xs ys : List X) (k : ℕ) → slice_get (xs ++ ys) (length xs + k) ≡ slice_get ys k
behind [] ys k = ap (slice_get ys) (zero-add k)
behind (x ∷ xs) ys k = ap (slice_get (x ∷ (xs ++ ys))) (suc-add (length xs) k) ∙ behind xs ys k

-- what a map has at a place
pub mapped : {X Y : Type 0} (f : X → Y) (xs : List X) (i : ℕ) (x : X) → slice_get xs i ≡ Some x → slice_get (map f xs) i ≡ Some (f x)
mapped f [] i x e = cc e
mapped f (y ∷ xs) zero x e = ap (λ z. Some (f z)) (same_Some y x e)
mapped f (y ∷ xs) (suc i) x e = mapped f xs i x e

-- and of what that is the image
pub unmapped : {X Y : Type 0} (f : X → Y) (xs : List X) (i : ℕ) (y : Y) → slice_get (map f xs) i ≡ Some y → (x : X) × (slice_get xs i ≡ Some x) × (f x ≡ y)
unmapped f [] i y e = cc e
unmapped f (x ∷ xs) zero y e = (x, refl, same_Some (f x) y e)
unmapped f (x ∷ xs) (suc i) y e = unmapped f xs i y e

-- ---- elements
-- an element has a place
pub place_of : {X : Type 0} (xs : List X) (x : X) → Contains xs x → (k : ℕ) × (slice_get xs k ≡ Some x)
place_of xs x c = (c.0, slice_get-get_or xs c.0 x c.1 ∙ ap Some c.2)

-- what is at a place is an element
pub contains_at : {X : Type 0} (xs : List X) (k : ℕ) (x : X) → slice_get xs k ≡ Some x → Contains xs x
contains_at xs k x e = (k, slice_get_within xs k x e, get_or_from_slice_get xs k x x e)

-- an element is one also behind another
pub contains_later : {X : Type 0} (y : X) (xs : List X) (x : X) → Contains xs x → Contains (y ∷ xs) x
contains_later y xs x c = (suc c.0, suc-le-suc c.1, c.2)

-- a test that some element of the second of two lists passes
pub any_behind : {X : Type 0} (test : X → Bool) (xs ys : List X) → list_any test ys ≡ true → list_any test (xs ++ ys) ≡ true
any_behind test [] ys e = e
any_behind test (x ∷ xs) ys e = or_right (test x) (list_any test (xs ++ ys)) (any_behind test xs ys e)

-- functions that are the same at each element have the same sum
pub same_sums : {X : Type 0} (f g : X → ℕ) (xs : List X) → ((x : X) → f x ≡ g x) → sum_by f xs ≡ sum_by g xs
same_sums f g xs h = ap (λ k. sum_by k xs) (fun_ext h)

-- ---- fronts and rests
-- what is left from a place on begins with what is there
pub drop_here : {X : Type 0} (xs : List X) (i : ℕ) (x : X) → slice_get xs i ≡ Some x → drop i xs ≡ x ∷ drop (i + 1) xs
drop_here xs i x e = drop-cons xs i x (slice_get_within xs i x e) ∙ ap₂ (λ y n. y ∷ drop n xs) (get_or_from_slice_get xs i x x e) (sym (add-one i))

-- the front that passes a test passes it
pub front_passes : {X : Type 0} (p : X → Bool) (xs : List X) → list_all p (take (prefix_len p xs) xs) ≡ true
front_passes p [] = refl
front_passes p (x ∷ xs) = ap (list_all p) (take_while-cons p x xs) ∙ go (p x) refl (front_passes p xs)
  where
    go : (b : Bool) → p x ≡ b → list_all p (take_while p xs) ≡ true → list_all p (cond b (x ∷ take_while p xs) []) ≡ true
    go true e rest = and_from (p x) (list_all p (take_while p xs)) e rest
    go false e rest = refl

-- a whole list written over another
pub refilled : {X : Type 0} (n : ℕ) (xs ys : List X) → length ys ≡ n → refill n xs ys ≡ ys
refilled n xs ys e = ap (λ k. take k (ys ++ drop (length ys) xs)) (sym e) ∙ take-append_seam ys (drop (length ys) xs)

-- where nothing is left, the list has ended
pub past_end : {X : Type 0} (xs : List X) (i : ℕ) → drop i xs ≡ [] → length xs ≤ i
past_end [] i h = omega arith
past_end (z ∷ zs) zero h = cc h
past_end (z ∷ zs) (suc i) h = let more = past_end zs i h in omega (arith, more)

-- ---- lists in another order
-- a list is itself in an order
pub equal_is_permuted : {X : Type 0} {xs ys : List X} → xs ≡ ys → IsPermutation xs ys
equal_is_permuted {ys = ys} e = rw e (IsPermutation-refl ys)

-- of four lists the two in the middle change places
pub exchange : {X : Type 0} (a b c d : List X) → IsPermutation ((a ++ b) ++ (c ++ d)) ((a ++ c) ++ (b ++ d))
exchange a b c d =
    let inner : IsPermutation (b ++ (c ++ d)) (c ++ (b ++ d)) = rw (sym (append_assoc b c d), sym (append_assoc c b d)) (IsPermutation-append_left d (b ++ c) (c ++ b) (IsPermutation-append_comm b c)) in
    rw (append_assoc a b (c ++ d), append_assoc a c (b ++ d)) (IsPermutation-append_right a (b ++ (c ++ d)) (c ++ (b ++ d)) inner)

-- two lists made for each element, one after another or apart
pub flat_both : {X Y : Type 0} (f g : X → List Y) (xs : List X) → IsPermutation (flat_map (λ x. f x ++ g x) xs) (flat_map f xs ++ flat_map g xs)
flat_both f g [] = IsPermutation-refl []
flat_both f g (x ∷ xs) =
    IsPermutation-trans ((f x ++ g x) ++ flat_map (λ y. f y ++ g y) xs) ((f x ++ g x) ++ (flat_map f xs ++ flat_map g xs)) ((f x ++ flat_map f xs) ++ (g x ++ flat_map g xs))
    (IsPermutation-append_right (f x ++ g x) (flat_map (λ y. f y ++ g y) xs) (flat_map f xs ++ flat_map g xs) (flat_both f g xs))
    (exchange (f x) (g x) (flat_map f xs) (flat_map g xs))

-- nothing for each element is nothing
pub flat_nothing : {X Y : Type 0} (xs : List X) → flat_map {A = Y} (λ x. []) xs ≡ []
flat_nothing [] = refl
flat_nothing (x ∷ xs) = flat_nothing xs
