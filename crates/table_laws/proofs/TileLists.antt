-- Lists cut into parts: pairs of tiles are pairs of the whole that a test keeps, and what exactly one cell keeps is kept once.
use Rattle.std.specs.Prelude.{◌≡◌, refl, ℕ, suc, ◌+◌, Bool, true, false, cond, ◌&&◌, List, [], ◌∷◌, ◌++◌, map, filter, flat_map, replicate, slice_index_or, All, count_by, IsPermutation}
use Rattle.std.proofs.Common.{arith, ap, ap₂, ◌∙◌, sym, zero-add}
use Rattle.std.proofs.lemmas.List.{map-append}
use Rattle.std.proofs.lemmas.List.Elements.{All-nil, All-head, All-tail, All-append, All-map, filter-append}
use Rattle.std.proofs.lemmas.List.Sorted.{IsPermutation-refl, IsPermutation-trans, IsPermutation-append_right}
use Rattle.std.proofs.lemmas.List.Sums.{sum_by-cons}
use Rattle.std.proofs.lemmas.List.Concat.{flat_map_single}
use mathlib.Core.List.{map-map}
use mathlib.Core.Path.{fun_ext}
use Rattle.basics.proofs.Lists.{flat_nothing, flat_both}
use Rattle.table_model.specs.Meanings.{product}

-- ---- pairs

-- each element of a list with each of another
abbrev pub pairs : {X : Type 0} → List X → List X → List (List X)
pairs xs ys = flat_map (λ x. map (λ y. x ∷ y ∷ []) ys) xs

-- the product of one list has each element alone
pub product_of_one : {X : Type 0} (xs : List X) → product (xs ∷ []) ≡ map (λ x. x ∷ []) xs
product_of_one xs = flat_map_single (λ x. x ∷ []) xs

-- the product of two lists are their pairs
pub product_of_two : {X : Type 0} (xs ys : List X) → product (xs ∷ ys ∷ []) ≡ pairs xs ys
product_of_two xs ys = ap (λ f. flat_map f xs) (fun_ext (λ x. ap (map (λ choice. x ∷ choice)) (product_of_one ys) ∙ map-map (λ choice. x ∷ choice) (λ y. y ∷ []) ys))

-- what pairs of elements have, the list of pairs has
pub all_pairs : {X : Type 0} (P Q : X → Type 0) (R : List X → Type 0) (xs ys : List X) → ((x y : X) → P x → Q y → R (x ∷ y ∷ [])) → All P xs → All Q ys → All R (pairs xs ys)
all_pairs P Q R [] ys h p q = All-nil R
all_pairs P Q R (x ∷ xs) ys h p q =
    All-append R (map (λ y. x ∷ y ∷ []) ys) (pairs xs ys) (All-map R (λ y. x ∷ y ∷ []) ys (λ k d l. h x (slice_index_or ys k d) (All-head P x xs p) (q k d l)))
    (all_pairs P Q R xs ys h (All-tail P x xs p) q)

-- ---- pairs of tiles

-- the test on pairs of the whole that stands for two filters, a map and a test on the pairs of two tiles
abbrev pub tested : {X : Type 0} → X → (X → Bool) → (X → Bool) → (X → X) → (X → X) → (List X → Bool) → List X → Bool
tested d p q m n test z = (p (slice_index_or z 0 d) && q (slice_index_or z 1 d)) && test (m (slice_index_or z 0 d) ∷ n (slice_index_or z 1 d) ∷ [])

module _ {X : Type 0} (d : X) (p q : X → Bool) (m n u : X → X) (test : List X → Bool) (um : (x : X) → u (m x) ≡ x) (un : (x : X) → u (n x) ≡ x) where
  -- the pairs of one row of the first tile with those of the second
  with_row : (x : X) → p x ≡ true → (ys : List X)
      → map (map u) (filter test (map (λ y. m x ∷ y ∷ []) (map n (filter q ys)))) ≡ filter (tested d p q m n test) (map (λ y. x ∷ y ∷ []) ys)
  with_row x e [] = refl
  with_row x e (y ∷ ys) =
      go (q y) (with_row x e ys)
      ∙ sym (ap (λ b. cond ((b && q y) && test (m x ∷ n y ∷ [])) ((x ∷ y ∷ []) ∷ filter (tested d p q m n test) (map (λ z. x ∷ z ∷ []) ys)) (filter (tested d p q m n test) (map (λ z. x ∷ z ∷ []) ys))) e)
    where
      kept : (c : Bool) → map (map u) (filter test (map (λ z. m x ∷ z ∷ []) (map n (filter q ys)))) ≡ filter (tested d p q m n test) (map (λ z. x ∷ z ∷ []) ys)
          → map (map u) (cond c ((m x ∷ n y ∷ []) ∷ filter test (map (λ z. m x ∷ z ∷ []) (map n (filter q ys)))) (filter test (map (λ z. m x ∷ z ∷ []) (map n (filter q ys)))))
          ≡ cond c ((x ∷ y ∷ []) ∷ filter (tested d p q m n test) (map (λ z. x ∷ z ∷ []) ys)) (filter (tested d p q m n test) (map (λ z. x ∷ z ∷ []) ys))
      kept true h = ap₂ (λ a rest. a ∷ rest) (ap₂ (λ a b. a ∷ b ∷ []) (um x) (un y)) h
      kept false h = h

      go : (b : Bool) → map (map u) (filter test (map (λ z. m x ∷ z ∷ []) (map n (filter q ys)))) ≡ filter (tested d p q m n test) (map (λ z. x ∷ z ∷ []) ys)
          → map (map u) (filter test (map (λ z. m x ∷ z ∷ []) (map n (cond b (y ∷ filter q ys) (filter q ys)))))
          ≡ cond ((true && b) && test (m x ∷ n y ∷ [])) ((x ∷ y ∷ []) ∷ filter (tested d p q m n test) (map (λ z. x ∷ z ∷ []) ys)) (filter (tested d p q m n test) (map (λ z. x ∷ z ∷ []) ys))
      go false h = h
      go true h = kept (test (m x ∷ n y ∷ [])) h

  -- a row that isn't in the first tile has none
  without_row : (x : X) → p x ≡ false → (ys : List X) → filter (tested d p q m n test) (map (λ y. x ∷ y ∷ []) ys) ≡ []
  without_row x e [] = refl
  without_row x e (y ∷ ys) =
      ap (λ b. cond ((b && q y) && test (m x ∷ n y ∷ [])) ((x ∷ y ∷ []) ∷ filter (tested d p q m n test) (map (λ z. x ∷ z ∷ []) ys)) (filter (tested d p q m n test) (map (λ z. x ∷ z ∷ []) ys))) e
      ∙ without_row x e ys

  -- so the pairs of two tiles that pass, with the map undone, are pairs of the whole, in their order
  pub pairs_of_tiles : (xs ys : List X) → map (map u) (filter test (pairs (map m (filter p xs)) (map n (filter q ys)))) ≡ filter (tested d p q m n test) (pairs xs ys)
  pairs_of_tiles [] ys = refl
  pairs_of_tiles (x ∷ xs) ys =
      go (p x) refl (pairs_of_tiles xs ys)
      ∙ sym (filter-append (tested d p q m n test) (map (λ y. x ∷ y ∷ []) ys) (pairs xs ys))
    where
      go : (b : Bool) → p x ≡ b → map (map u) (filter test (pairs (map m (filter p xs)) (map n (filter q ys)))) ≡ filter (tested d p q m n test) (pairs xs ys)
          → map (map u) (filter test (pairs (map m (cond b (x ∷ filter p xs) (filter p xs))) (map n (filter q ys))))
          ≡ filter (tested d p q m n test) (map (λ y. x ∷ y ∷ []) ys) ++ filter (tested d p q m n test) (pairs xs ys)
      go false e h = h ∙ ap (λ l. l ++ filter (tested d p q m n test) (pairs xs ys)) (sym (without_row x e ys))
      go true e h =
          ap (map (map u)) (filter-append test (map (λ y. m x ∷ y ∷ []) (map n (filter q ys))) (pairs (map m (filter p xs)) (map n (filter q ys))))
          ∙ map-append (map u) (filter test (map (λ y. m x ∷ y ∷ []) (map n (filter q ys)))) (filter test (pairs (map m (filter p xs)) (map n (filter q ys))))
          ∙ ap₂ (λ a b. a ++ b) (with_row x e ys) h

-- ---- cells

-- an element is there as often as cells keep it
copies : {C X : Type 0} (keep : C → Bool) (z : X) (cells : List C) → flat_map (λ c. cond (keep c) (z ∷ []) []) cells ≡ replicate (count_by keep cells) z
copies keep z [] = refl
copies {C = C} keep z (c ∷ cells) = go (keep c) (copies keep z cells) ∙ sym (ap (λ n. replicate n z) (sum_by-cons (λ e. cond (keep e) 1 0) c cells))
  where
    more : (n : ℕ) → 1 + n ≡ suc n
    more n = omega arith

    go : (b : Bool) → flat_map (λ e. cond (keep e) (z ∷ []) []) cells ≡ replicate (count_by keep cells) z
        → cond b (z ∷ []) [] ++ flat_map (λ e. cond (keep e) (z ∷ []) []) cells ≡ replicate (cond b 1 0 + count_by keep cells) z
    go true h = ap (λ zs. z ∷ zs) h ∙ sym (ap (λ n. replicate n z) (more (count_by keep cells)))
    go false h = h ∙ sym (ap (λ n. replicate n z) (zero-add (count_by keep cells)))

-- what each cell keeps of a list is, in some order, what passes, where exactly one cell keeps what passes and none what doesn't
pub kept_once : {C X : Type 0} (keep : C → X → Bool) (test : X → Bool) (cells : List C) (zs : List X) → All (λ z. count_by (λ c. keep c z) cells ≡ cond (test z) 1 0) zs
    → IsPermutation (flat_map (λ c. filter (keep c) zs) cells) (filter test zs)
kept_once keep test cells [] h = rw (flat_nothing cells) (IsPermutation-refl [])
kept_once {C = C} {X = X} keep test cells (z ∷ zs) h =
    let parted : flat_map (λ c. filter (keep c) (z ∷ zs)) cells ≡ flat_map (λ c. cond (keep c z) (z ∷ []) [] ++ filter (keep c) zs) cells = ap (λ f. flat_map f cells) (fun_ext (λ c. part (keep c z) (filter (keep c) zs))) in
    let own : flat_map (λ c. cond (keep c z) (z ∷ []) []) cells ≡ cond (test z) (z ∷ []) [] =
    copies (λ c. keep c z) z cells ∙ ap (λ n. replicate n z) (All-head (λ y. count_by (λ c. keep c y) cells ≡ cond (test y) 1 0) z zs h) ∙ once (test z) in
    rw (parted, part (test z) (filter test zs))
    (IsPermutation-trans (flat_map (λ c. cond (keep c z) (z ∷ []) [] ++ filter (keep c) zs) cells)
    (flat_map (λ c. cond (keep c z) (z ∷ []) []) cells ++ flat_map (λ c. filter (keep c) zs) cells)
    (cond (test z) (z ∷ []) [] ++ filter test zs)
    (flat_both (λ c. cond (keep c z) (z ∷ []) []) (λ c. filter (keep c) zs) cells)
    (rw own (IsPermutation-append_right (cond (test z) (z ∷ []) []) (flat_map (λ c. filter (keep c) zs) cells) (filter test zs) (kept_once keep test cells zs (All-tail (λ y. count_by (λ c. keep c y) cells ≡ cond (test y) 1 0) z zs h)))))
  where
    part : (b : Bool) (xs : List X) → cond b (z ∷ xs) xs ≡ cond b (z ∷ []) [] ++ xs
    part true xs = refl
    part false xs = refl

    once : (b : Bool) → replicate (cond b 1 0) z ≡ cond b (z ∷ []) []
    once true = refl
    once false = refl
