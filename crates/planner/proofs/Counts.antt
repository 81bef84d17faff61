-- Numbers of predicates.
use Rattle.std.specs.Prelude.{◌≡◌, refl, ℕ, ◌+◌, ◌-◌, ◌<◌, Bool, true, false, cond, if◌then◌else◌, nat_le, List, [], ◌∷◌, ◌++◌, map, sum_by, length, get_or, drop, Some, None, option_and_then}
use Rattle.std.proofs.Common.{append_assoc, arith, ap, ◌∙◌, sym}
use Rattle.std.specs.List.{cons_option, enumerate_from, filter_map, flat_map, fold, range_with_len}
use Rattle.std.proofs.lemmas.List.{append-nil, drop_more, map-id}
use Rattle.std.proofs.lemmas.List.Concat.{flat_map-append}
use Rattle.std.proofs.lemmas.List.FromFn.{map-range_with_len_more}
use Rattle.std.proofs.lemmas.List.Sums.{sum_by-cons}
use Rattle.table_model.proofs.CondFolds.{fold-Or, fold-And}
use Rattle.table_model.specs.Plans.{predicate_count, predicates_by_parts}
use Rattle.table_model.specs.declared.conditions.Cond.{Cond}
use Rattle.table_model.specs.declared.conditions.Cond.TheVariants as conds
use Rattle.planner.specs.Nestings.{left_after}

-- what is left after a sum is what is left after its parts, one after the other
pub left_after_sum : (a b n : ℕ) → left_after (a + b) n ≡ option_and_then (left_after b) (left_after a n)
left_after_sum a b n = go (nat_le a n) refl
  where
    go : (t : Bool) → nat_le a n ≡ t → cond (nat_le (a + b) n) (Some (n - (a + b))) None ≡ option_and_then (left_after b) (cond t (Some (n - a)) None)
    go true e = grind arith
    go false e = grind arith

-- numbers mapped and then added up, or added up as they are mapped
gathered : {X : Type 0} (f : X → ℕ) (xs : List X) (n : ℕ) → fold (λ a x. a + x) n (map f xs) ≡ fold (λ a x. a + f x) n xs
gathered f [] n = refl
gathered f (x ∷ xs) n = gathered f xs (n + f x)

-- an OR has as many predicates as its parts together
pub count_or : {A : Type 0} (parts : List (Cond A)) → predicate_count (conds.Or parts) ≡ sum_by predicate_count parts
count_or {A = A} parts = fold-Or A ℕ predicates_by_parts parts ∙ gathered predicate_count parts 0

-- and so has an AND
pub count_and : {A : Type 0} (parts : List (Cond A)) → predicate_count (conds.And parts) ≡ sum_by predicate_count parts
count_and {A = A} parts = fold-And A ℕ predicates_by_parts parts ∙ gathered predicate_count parts 0

-- one condition more
pub left_after_next : {A : Type 0} (xs : List (Cond A)) (i n : ℕ) (x : Cond A) → i < length xs → x ≡ get_or xs i x
    → left_after (sum_by predicate_count (drop i xs)) n ≡ option_and_then (left_after (sum_by predicate_count (drop (i + 1) xs))) (left_after (predicate_count x) n)
left_after_next xs i n x l e =
    ap (λ t. left_after (sum_by predicate_count t) n) (drop_more xs i x l ∙ ap (λ y. y ∷ drop (i + 1) xs) (sym e))
    ∙ ap (λ t. left_after t n) (sum_by-cons predicate_count x (drop (i + 1) xs))
    ∙ left_after_sum (predicate_count x) (sum_by predicate_count (drop (i + 1) xs)) n

-- one number more
pub one_more_count : {X : Type 0} (f : ℕ → List X) (n : ℕ) → flat_map f (range_with_len 0 (n + 1)) ≡ flat_map f (range_with_len 0 n) ++ f n
one_more_count f n =
    ap (flat_map f) (sym (map-id (range_with_len 0 (n + 1))) ∙ map-range_with_len_more (λ x. x) 0 n n (omega arith) ∙ ap (λ t. t ++ n ∷ []) (map-id (range_with_len 0 n)))
    ∙ flat_map-append f (range_with_len 0 n) (n ∷ [])
    ∙ ap (λ t. flat_map f (range_with_len 0 n) ++ t) (append-nil (f n))

-- the place of an element that is wanted, before others
placed : (wanted : Bool) (i : ℕ) (others : List ℕ) → cons_option (if wanted then Some i else None) others ≡ (if wanted then i ∷ [] else []) ++ others
placed true i others = refl
placed false i others = refl

-- the place of one element more, where that is wanted
pub one_more_place : {X : Type 0} (wanted : X → Bool) (xs : List X) (i : ℕ) (x : X) (old new whole : List ℕ) → i < length xs → x ≡ get_or xs i x
    → new ≡ old ++ (if wanted x then i ∷ [] else [])
    → old ++ filter_map (λ p. if wanted p.1 then Some p.0 else None) (enumerate_from i (drop i xs)) ≡ whole
    → new ++ filter_map (λ p. if wanted p.1 then Some p.0 else None) (enumerate_from (i + 1) (drop (i + 1) xs)) ≡ whole
one_more_place {X} wanted xs i x old new whole within is added before =
    let places : List X → ℕ → List ℕ = λ ys n. filter_map (λ p. if wanted p.1 then Some p.0 else None) (enumerate_from n ys) in
    let others = places (drop (i + 1) xs) (i + 1) in
    ap (λ l. l ++ others) added
    ∙ append_assoc old (if wanted x then i ∷ [] else []) others
    ∙ ap (λ l. old ++ l) (sym (placed (wanted x) i others))
    ∙ ap (λ l. old ++ places l i) (sym (drop_more xs i x within ∙ ap (λ y. y ∷ drop (i + 1) xs) (sym is)))
    ∙ before
