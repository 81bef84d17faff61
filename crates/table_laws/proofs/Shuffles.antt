-- Lists in another order: what is made of each element, what a filter keeps, and products.
use Rattle.std.specs.Prelude.{◌≡◌, refl, ◌<◌, ℕ, zero, suc, Bool, true, false, cond, List, [], ◌∷◌, ◌++◌, map, length, filter, flat_map, set, swap, slice_index_or, IsPermutation}
use Rattle.std.specs.List.{AllZip}
use Rattle.std.proofs.Common.{arith, ap, ◌∙◌, sym, append_assoc}
use Rattle.std.proofs.lemmas.List.{map-append}
use Rattle.std.proofs.lemmas.List.Concat.{flat_map-append}
use Rattle.std.proofs.lemmas.List.Edits.{swap_is}
use Rattle.std.proofs.lemmas.List.Folds.{flat_map-map}
use Rattle.std.proofs.lemmas.List.Sorted.{IsPermutation-refl, IsPermutation-trans, IsPermutation-keeps, IsPermutation-append_comm, IsPermutation-append_left, IsPermutation-append_right, IsPermutation-append, IsPermutation-map}
use Rattle.basics.proofs.Lists.{flat_both, flat_nothing}
use Rattle.table_model.specs.Meanings.{product}

-- of three lists the first two change places
turned : {X : Type 0} (a b c : List X) → IsPermutation (a ++ (b ++ c)) (b ++ (a ++ c))
turned a b c = rw (sym (append_assoc a b c), sym (append_assoc b a c)) (IsPermutation-append_left c (a ++ b) (b ++ a) (IsPermutation-append_comm a b))

-- ---- what is made of each element

-- an element in front and one further back change places
put : {X Y : Type 0} (f : X → List Y) (x : X) (l : List X) (k : ℕ) (d : X) → k < length l → IsPermutation (f x ++ flat_map f l) (f (slice_index_or l k d) ++ flat_map f (set l k x))
put f x [] k d h = absurd (omega (arith, h))
put f x (y ∷ l) zero d h = turned (f x) (f y) (flat_map f l)
put f x (y ∷ l) (suc k) d h =
    IsPermutation-trans (f x ++ (f y ++ flat_map f l)) (f y ++ (f x ++ flat_map f l)) (f (slice_index_or l k d) ++ (f y ++ flat_map f (set l k x)))
    (turned (f x) (f y) (flat_map f l))
    (IsPermutation-trans (f y ++ (f x ++ flat_map f l)) (f y ++ (f (slice_index_or l k d) ++ flat_map f (set l k x))) (f (slice_index_or l k d) ++ (f y ++ flat_map f (set l k x)))
    (IsPermutation-append_right (f y) (f x ++ flat_map f l) (f (slice_index_or l k d) ++ flat_map f (set l k x)) (put f x l k d (omega (arith, h))))
    (turned (f y) (f (slice_index_or l k d)) (flat_map f (set l k x))))

-- two elements change places
exchanged : {X Y : Type 0} (f : X → List Y) (l : List X) (i j : ℕ) (d : X) → i < length l → j < length l → IsPermutation (flat_map f l) (flat_map f (set (set l i (slice_index_or l j d)) j (slice_index_or l i d)))
exchanged f [] i j d h k = absurd (omega (arith, k))
exchanged f (x ∷ l) zero zero d h k = IsPermutation-refl (f x ++ flat_map f l)
exchanged f (x ∷ l) zero (suc j) d h k = put f x l j d (omega (arith, k))
exchanged f (x ∷ l) (suc i) zero d h k = put f x l i d (omega (arith, h))
exchanged f (x ∷ l) (suc i) (suc j) d h k =
    IsPermutation-append_right (f x) (flat_map f l) (flat_map f (set (set l i (slice_index_or l j d)) j (slice_index_or l i d))) (exchanged f l i j d (omega (arith, h)) (omega (arith, k)))

first_of : {X : Type 0} (l : List X) (i : ℕ) → i < length l → X
first_of [] i h = absurd (omega (arith, h))
first_of (x ∷ l) i h = x

-- what is made of each element of a list in another order is in another order
pub flat_shuffled : {X Y : Type 0} (f : X → List Y) (xs ys : List X) → IsPermutation xs ys → IsPermutation (flat_map f xs) (flat_map f ys)
flat_shuffled {X = X} f xs ys p =
    IsPermutation-keeps xs (λ l. IsPermutation (flat_map f xs) (flat_map f l)) (IsPermutation-refl (flat_map f xs))
    (λ l i j h k s. let d : X = first_of l i h in
    IsPermutation-trans (flat_map f xs) (flat_map f l) (flat_map f (swap l i j)) s (rw (sym (swap_is l i j d h k)) (exchanged f l i j d h k))) ys p

filter_is : {X : Type 0} (test : X → Bool) (xs : List X) → filter test xs ≡ flat_map (λ x. cond (test x) (x ∷ []) []) xs
filter_is test [] = refl
filter_is {X = X} test (x ∷ xs) = go (test x) (filter_is test xs)
  where
    go : (b : Bool) → filter test xs ≡ flat_map (λ y. cond (test y) (y ∷ []) []) xs → cond b (x ∷ filter test xs) (filter test xs) ≡ cond b (x ∷ []) [] ++ flat_map (λ y. cond (test y) (y ∷ []) []) xs
    go true h = ap (λ ys. x ∷ ys) h
    go false h = h

-- what a filter keeps of a list in another order is in another order
pub filter_shuffled : {X : Type 0} (test : X → Bool) (xs ys : List X) → IsPermutation xs ys → IsPermutation (filter test xs) (filter test ys)
filter_shuffled test xs ys p = rw (filter_is test xs, filter_is test ys) (flat_shuffled (λ x. cond (test x) (x ∷ []) []) xs ys p)

-- lists made for each element, each in another order
flat_each : {X Y : Type 0} (f g : X → List Y) (xs : List X) → ((x : X) → IsPermutation (f x) (g x)) → IsPermutation (flat_map f xs) (flat_map g xs)
flat_each f g [] h = IsPermutation-refl []
flat_each f g (x ∷ xs) h = IsPermutation-append (f x) (g x) (flat_map f xs) (flat_map g xs) (h x) (flat_each f g xs h)

-- lists made for each two elements, by the one or by the other first
flat_crossed : {C X Y : Type 0} (g : C → X → List Y) (cs : List C) (xs : List X) → IsPermutation (flat_map (λ c. flat_map (g c) xs) cs) (flat_map (λ x. flat_map (λ c. g c x) cs) xs)
flat_crossed g cs [] = rw (flat_nothing cs) (IsPermutation-refl [])
flat_crossed g cs (x ∷ xs) =
    IsPermutation-trans (flat_map (λ c. g c x ++ flat_map (g c) xs) cs) (flat_map (λ c. g c x) cs ++ flat_map (λ c. flat_map (g c) xs) cs) (flat_map (λ c. g c x) cs ++ flat_map (λ y. flat_map (λ c. g c y) cs) xs)
    (flat_both (λ c. g c x) (λ c. flat_map (g c) xs) cs)
    (IsPermutation-append_right (flat_map (λ c. g c x) cs) (flat_map (λ c. flat_map (g c) xs) cs) (flat_map (λ y. flat_map (λ c. g c y) cs) xs) (flat_crossed g cs xs))

-- ---- products

-- lists made of the elements of lists, all at once or list by list
flat_of_flat : {X Y Z : Type 0} (f : Y → List Z) (g : X → List Y) (xs : List X) → flat_map f (flat_map g xs) ≡ flat_map (λ x. flat_map f (g x)) xs
flat_of_flat f g [] = refl
flat_of_flat f g (x ∷ xs) = flat_map-append f (g x) (flat_map g xs) ∙ ap (λ l. flat_map f (g x) ++ l) (flat_of_flat f g xs)

map_of_flat : {X Y Z : Type 0} (f : Y → Z) (g : X → List Y) (xs : List X) → flat_map (λ x. map f (g x)) xs ≡ map f (flat_map g xs)
map_of_flat f g [] = refl
map_of_flat f g (x ∷ xs) = ap (λ l. map f (g x) ++ l) (map_of_flat f g xs) ∙ sym (map-append f (g x) (flat_map g xs))

-- the rows of one part with those of the products of the others
with_part : {X : Type 0} (part : List X) (others : List (List (List X))) (rest : List (List X)) → IsPermutation (flat_map product others) (product rest)
    → IsPermutation (flat_map (λ c. product (part ∷ c)) others) (flat_map (λ x. map (λ choice. x ∷ choice) (product rest)) part)
with_part part others rest h =
    IsPermutation-trans (flat_map (λ c. product (part ∷ c)) others) (flat_map (λ x. flat_map (λ c. map (λ choice. x ∷ choice) (product c)) others) part) (flat_map (λ x. map (λ choice. x ∷ choice) (product rest)) part)
    (flat_crossed (λ c x. map (λ choice. x ∷ choice) (product c)) others part)
    (flat_each (λ x. flat_map (λ c. map (λ choice. x ∷ choice) (product c)) others) (λ x. map (λ choice. x ∷ choice) (product rest)) part
    (λ x. rw (map_of_flat (λ choice. x ∷ choice) product others) (IsPermutation-map (λ choice. x ∷ choice) (flat_map product others) (product rest) h)))

-- the products of parts, each of one list with each of another, are the product of the lists, in another order
pub parts_give_product : {X : Type 0} (lists : List (List X)) (parts : List (List (List X))) → AllZip (λ list own. IsPermutation (flat_map (λ part. part) own) list) lists parts
    → IsPermutation (flat_map product (product parts)) (product lists)
parts_give_product [] [] h = IsPermutation-refl ([] ∷ [])
parts_give_product [] (own ∷ parts) h = absurd h
parts_give_product (list ∷ lists) [] h = absurd h
parts_give_product (list ∷ lists) (own ∷ parts) h =
    rw (flat_of_flat product (λ part. map (λ c. part ∷ c) (product parts)) own)
    (IsPermutation-trans (flat_map (λ part. flat_map product (map (λ c. part ∷ c) (product parts))) own) (flat_map (λ part. flat_map (λ x. map (λ choice. x ∷ choice) (product lists)) part) own)
    (flat_map (λ x. map (λ choice. x ∷ choice) (product lists)) list)
    (flat_each (λ part. flat_map product (map (λ c. part ∷ c) (product parts))) (λ part. flat_map (λ x. map (λ choice. x ∷ choice) (product lists)) part) own
    (λ part. rw (flat_map-map product (λ c. part ∷ c) (product parts)) (with_part part (product parts) lists (parts_give_product lists parts h.1))))
    (rw (sym (flat_of_flat (λ x. map (λ choice. x ∷ choice) (product lists)) (λ part. part) own))
    (flat_shuffled (λ x. map (λ choice. x ∷ choice) (product lists)) (flat_map (λ part. part) own) list h.0)))
