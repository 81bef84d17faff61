-- Lists cut into parts of given sizes.
use Rattle.std.proofs.Common.{◌≡◌, refl, sym, ap, ap₂, ◌∙◌, subst, ℕ, zero, suc, ◌+◌, ◌-◌, ◌<◌, ◌≤◌, ◌==◌, true, ◌&&◌, List, [], ◌∷◌, ◌++◌, length, map, take, drop, drop-cons, get_or, sum, nat_le, nat_lt, arith, zero-lt-suc, append_assoc}
use Rattle.std.specs.List.{All, flat_map}
use Rattle.std.proofs.lemmas.Bool.{and_parts}
use Rattle.std.proofs.lemmas.List.{drop-drop, length-drop, length-take-le, take-append-drop}
use Rattle.std.proofs.lemmas.List.Elements.{All-nil, All-cons}
use Rattle.std.proofs.lemmas.List.Sums.{sum_by-cons, sum_by-take-drop}
use Rattle.geometry_model.specs.Points.{Position}
use Rattle.geometry_model.specs.WellKnownText.{without_repeats}
use Rattle.wkt.proofs.KeptLines.{first_kept}
use Rattle.library_calls.specs.Written.{parts_of, use_up}

-- the sum of sizes with one ahead
pub sum_ahead : (x : ℕ) (xs : List ℕ) → sum (x ∷ xs) ≡ x + sum xs
sum_ahead x xs = sum_by-cons (λ n. n) x xs

-- sizes that use up a number of items: the first fits, has an item, and the others use up what it leaves
pub record UsesUp (size : ℕ) (sizes : List ℕ) (count : ℕ) : Type 0 where
  pub some : 0 < size
  pub within : size ≤ count
  pub others : use_up sizes (count - size) ≡ true

pub first_used : (size : ℕ) (sizes : List ℕ) (count : ℕ) → use_up (size ∷ sizes) count ≡ true → UsesUp size sizes count
first_used size sizes count is =
    let both = and_parts (nat_lt 0 size && nat_le size count) (use_up sizes (count - size)) is in
    let first = and_parts (nat_lt 0 size) (nat_le size count) both.0 in
    let some : nat_lt 0 size ≡ true = first.0 in
    let within : nat_le size count ≡ true = first.1 in
    record { some = grind (arith, some); within = grind (arith, within); others = both.1 }

-- sizes that use up a number have it as their sum
pub sum_used : (sizes : List ℕ) (count : ℕ) → use_up sizes count ≡ true → sum sizes ≡ count
sum_used [] count is = let none : (count == 0) ≡ true = is in grind (arith, none)
sum_used (size ∷ sizes) count is =
    let used = first_used size sizes count is in
    omega (arith, sum_ahead size sizes, used.within, sum_used sizes (count - size) used.others)

-- there is a part of each size
pub as_many : {A : Type 0} (sizes : List ℕ) (items : List A) → length (parts_of sizes items) ≡ length sizes
as_many [] items = refl
as_many (size ∷ sizes) items = ap suc (as_many sizes (drop size items))

-- parts that use up all items have these items, in order
pub joined : {A : Type 0} (sizes : List ℕ) (items : List A) → use_up sizes (length items) ≡ true → flat_map (λ part. part) (parts_of sizes items) ≡ items
joined [] [] is = refl
joined [] (x ∷ items) is = let none : (suc (length items) == 0) ≡ true = is in absurd (grind (arith, none))
joined (size ∷ sizes) items is =
    let used = first_used size sizes (length items) is in
    ap (λ rest. take size items ++ rest) (joined sizes (drop size items) (subst (λ n. use_up sizes n ≡ true) (sym (length-drop size items)) used.others))
    ∙ take-append-drop size items

-- a line or ring with positions has some without its repeats
still_some : (ps : List Position) → 0 < length ps → 0 < length (without_repeats ps)
still_some [] some = absurd (omega (arith, some))
still_some (p ∷ ps) some = subst (λ l. 0 < length l) (sym (first_kept p ps).1) (zero-lt-suc (length (first_kept p ps).0))

-- no line or ring is empty, also without its repeats
pub some_in_each : (sizes : List ℕ) (ps : List Position) → use_up sizes (length ps) ≡ true → All (λ part. 0 < length part) (map without_repeats (parts_of sizes ps))
some_in_each [] ps is = All-nil (λ part. 0 < length part)
some_in_each (size ∷ sizes) ps is =
    let used = first_used size sizes (length ps) is in
    All-cons (λ part. 0 < length part) (without_repeats (take size ps)) (map without_repeats (parts_of sizes (drop size ps)))
    (still_some (take size ps) (subst (λ n. 0 < n) (sym (length-take-le size ps used.within)) used.some))
    (some_in_each sizes (drop size ps) (subst (λ n. use_up sizes n ≡ true) (sym (length-drop size ps)) used.others))

-- the first parts are those of the first sizes
pub first_parts : {A : Type 0} (count : ℕ) (sizes : List ℕ) (items : List A) → take count (parts_of sizes items) ≡ parts_of (take count sizes) items
first_parts zero sizes items = refl
first_parts (suc count) [] items = refl
first_parts (suc count) (size ∷ sizes) items = ap (λ parts. take size items ∷ parts) (first_parts count sizes (drop size items))

-- the parts behind them are those of the other sizes, behind what the first ones use up
pub other_parts : {A : Type 0} (count : ℕ) (sizes : List ℕ) (items : List A) → drop count (parts_of sizes items) ≡ parts_of (drop count sizes) (drop (sum (take count sizes)) items)
other_parts zero sizes items = refl
other_parts (suc count) [] items = refl
other_parts (suc count) (size ∷ sizes) items =
    other_parts count sizes (drop size items)
    ∙ ap (parts_of (drop count sizes)) (drop-drop (sum (take count sizes)) size items ∙ ap (λ n. drop n items) (sym (sum_ahead size (take count sizes))))

-- ---- loops over the sizes

-- what is left of them is the next one and the others
pub next_size : (sizes : List ℕ) (at : ℕ) → at < length sizes → drop at sizes ≡ get_or sizes at 0 ∷ drop (at + 1) sizes
next_size sizes at within = let next : suc at ≡ at + 1 = omega arith in drop-cons sizes at 0 within ∙ ap (λ n. get_or sizes at 0 ∷ drop n sizes) next

-- one line or ring more is made of the first size that is left
pub line_more : (all made : List (List Position)) (sizes more : List ℕ) (size : ℕ) (left : List Position) → sizes ≡ size ∷ more
    → all ≡ made ++ map without_repeats (parts_of sizes left)
    → all ≡ (made ++ without_repeats (take size left) ∷ []) ++ map without_repeats (parts_of more (drop size left))
line_more all made sizes more size left is so_far =
    so_far ∙ (ap (λ s. made ++ map without_repeats (parts_of s left)) is
    ∙ sym (append_assoc made (without_repeats (take size left) ∷ []) (map without_repeats (parts_of more (drop size left)))))

-- it takes its positions from those that are left
pub rest_more : (all : List Position) (sizes more : List ℕ) (size : ℕ) (left : List Position) → sizes ≡ size ∷ more
    → all ≡ drop (sum sizes) left → all ≡ drop (sum more) (drop size left)
rest_more all sizes more size left is so_far =
    so_far ∙ (ap (λ s. drop (sum s) left) is ∙ (ap (λ n. drop n left) (sum_ahead size more) ∙ sym (drop-drop (sum more) size left)))

-- so there are enough for the others
pub enough_more : {A : Type 0} (sizes more : List ℕ) (size : ℕ) (left : List A) → sizes ≡ size ∷ more → sum sizes ≤ length left
    → (size ≤ length left) × (sum more ≤ length (drop size left))
enough_more sizes more size left is enough =
    let whole : sum sizes ≡ size + sum more = ap sum is ∙ sum_ahead size more in
    (omega (arith, whole, enough), omega (arith, whole, enough, length-drop size left))

-- one polygon more is made of the first count that is left
pub polygon_more : (all made : List (List (List Position))) (counts more : List ℕ) (count : ℕ) (sizes : List ℕ) (left : List Position) → counts ≡ count ∷ more
    → all ≡ made ++ map (map without_repeats) (parts_of counts (parts_of sizes left))
    → all ≡ (made ++ map without_repeats (parts_of (take count sizes) left) ∷ [])
    ++ map (map without_repeats) (parts_of more (parts_of (drop count sizes) (drop (sum (take count sizes)) left)))
polygon_more all made counts more count sizes left is so_far =
    so_far ∙ (ap (λ s. made ++ map (map without_repeats) (parts_of s (parts_of sizes left))) is
    ∙ (ap₂ (λ (first : List (List Position)) (others : List (List Position)). made ++ map without_repeats first ∷ map (map without_repeats) (parts_of more others))
    (first_parts count sizes left) (other_parts count sizes left)
    ∙ sym (append_assoc made (map without_repeats (parts_of (take count sizes) left) ∷ [])
    (map (map without_repeats) (parts_of more (parts_of (drop count sizes) (drop (sum (take count sizes)) left)))))))

-- the sizes of a polygon's rings are some of those that are left, and the others are enough for what is left
pub sizes_parted : (count : ℕ) (sizes : List ℕ) → sum (take count sizes) + sum (drop count sizes) ≡ sum sizes
sizes_parted count sizes = sum_by-take-drop (λ n. n) sizes count
