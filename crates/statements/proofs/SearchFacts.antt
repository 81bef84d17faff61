-- The search for a constant.
use Rattle.std.proofs.Common.{Option, ◌≡◌, ◌<◌, ◌≤◌, ◌-◌, ◌+◌, ◌++◌, ◌∙◌, ℕ, zero, suc, List, [], ◌∷◌, length, take, drop, get_or}
use Rattle.std.proofs.Common.{Bool, true, if◌then◌else◌, slice_get, refl, sym, ap, arith, add-one, append_assoc, Some, None, min, subst, reverse}
use Rattle.std.specs.List.{insert, remove}
use Rattle.std.proofs.lemmas.List.{append-nil, drop_all, take_all}
use Rattle.std.specs.Prelude.{MatchOption}
use Rattle.std.specs.Option.{option_map}
use Rattle.std.proofs.lemmas.List.{reverse-append, length-reverse}
use Rattle.basics.proofs.Lists.{drop_here, read_at}
use Rattle.statements.specs.Constants.{Argument, Constant, condition_with, conditions_with, of_condition, of_conditions, type_of}
use Rattle.statements.proofs.ConstantFacts.{in_first, in_others}
use Rattle.statements.specs.Searching.{IsPlaceOf, IsThere, sought, sought_one, behind}
use Rattle.statements.specs.declared.places_of_constants.Sought.TheVariants.{Found, After}
use Rattle.table_model.specs.declared.conditions.Cond.{Cond}
use Rattle.table_model.specs.declared.typing.OperandType.{OperandType}

-- of two lists the first is searched first
pub sought-append : (xs ys : List Constant) (k : ℕ) → sought (xs ++ ys) k ≡ behind (sought xs k) ys
sought-append [] ys k = refl
sought-append (x ∷ xs) ys zero = refl
sought-append (x ∷ xs) ys (suc k) = sought-append xs ys k

pub found_first : (xs ys : List Constant) (k : ℕ) (t : OperandType) → sought xs k ≡ Found t → sought (xs ++ ys) k ≡ Found t
found_first xs ys k t e = sought-append xs ys k ∙ ap (λ s. behind s ys) e

pub found_later : (xs ys : List Constant) (k next : ℕ) → sought xs k ≡ After next → sought (xs ++ ys) k ≡ sought ys next
found_later xs ys k next e = sought-append xs ys k ∙ ap (λ s. behind s ys) e

-- of one constant only the first is found
pub one_constant : (v : Constant) (k : ℕ) → sought (v ∷ []) k ≡ sought_one (type_of v) k
one_constant v zero = refl
one_constant v (suc k) = refl

pub is_first : (t : OperandType) (k : ℕ) → k ≡ 0 → sought_one t k ≡ Found t
is_first t k e = ap (sought_one t) e

pub is_later : (t : OperandType) (k : ℕ) → (k ≡ 0 → ⊥) → sought_one t k ≡ After (k - 1)
is_later t zero h = absurd (h refl)
is_later t (suc k) h = ap After (omega arith)

pub found_within : (xs : List Constant) (k : ℕ) (t : OperandType) → sought xs k ≡ Found t → k < length xs
found_within [] k t e = cc
found_within (x ∷ xs) zero t e = omega arith
found_within (x ∷ xs) (suc k) t e = let h = found_within xs k t e in omega arith

pub record IsPast (n k left : ℕ) : Type 0 where
  pub past : n ≤ k
  pub left_is : left ≡ k - n

pub after_past : (xs : List Constant) (k left : ℕ) → sought xs k ≡ After left → IsPast (length xs) k left
after_past [] k left e = let same : k ≡ left = cc in record { past = omega arith; left_is = omega arith }
after_past (x ∷ xs) zero left e = cc
after_past (x ∷ xs) (suc k) left e = let h =
    after_past xs k left e in record { past = omega (arith, h.past); left_is = omega (arith, h.left_is, h.past) }

-- ---- places

-- a list with another element in place of one
put_back : (xs : List (Cond Argument)) (i : ℕ) (y : Cond Argument) → i < length xs
    → insert (remove xs i) i y ≡ take i xs ++ y ∷ drop (suc i) xs
put_back [] i y l = absurd (omega (arith, l))
put_back (x ∷ xs) zero y l = refl
put_back (x ∷ xs) (suc i) y l = ap (λ ys. x ∷ ys) (put_back xs i y (omega (arith, l)))

next_front : (xs : List (Cond Argument)) (i : ℕ) (x : Cond Argument) (ys : List (Cond Argument)) → slice_get xs i ≡ Some x
    → take i xs ++ x ∷ ys ≡ take (suc i) xs ++ ys
next_front [] i x ys e = cc
next_front (z ∷ xs) zero x ys e = let is : z ≡ x = cc in ap (λ w. w ∷ ys) (sym is)
next_front (z ∷ xs) (suc i) x ys e = ap (λ zs. z ∷ zs) (next_front xs i x ys e)

-- the conditions before a place stay, and the search goes on among the others
abbrev pub IsBefore : List (Cond Argument) → ℕ → ℕ → ℕ → Type 0
IsBefore conditions k i left = (value : Constant)
    → conditions_with k value conditions ≡ take i conditions ++ conditions_with left value (drop i conditions)

pub goes_on : (conditions : List (Cond Argument)) (k i left next : ℕ) (c : Cond Argument) → i < length conditions
    → c ≡ get_or conditions i c
    → sought (of_condition c) left ≡ After next → IsBefore conditions k i left → IsBefore conditions k (i + 1) next
goes_on conditions k i left next c l is e before = λ value.
    let at = read_at conditions i c l is in
    let past = after_past (of_condition c) left next e in
    before value
    ∙ ap (λ cs. take i conditions ++ conditions_with left value cs) (drop_here conditions i c at)
    ∙ ap (λ cs. take i conditions ++ cs) (in_others left value c (drop (i + 1) conditions) past.past)
    ∙ ap (λ n. take i conditions ++ c ∷ conditions_with n value (drop (i + 1) conditions)) (sym past.left_is)
    ∙ next_front conditions i c (conditions_with next value (drop (i + 1) conditions)) at
    ∙ ap (λ n. take n conditions ++ conditions_with next value (drop (i + 1) conditions)) (sym (add-one i))

pub is_there : (conditions : List (Cond Argument)) (k i left : ℕ) (c : Cond Argument) (t : OperandType) → i < length conditions
    → c ≡ get_or conditions i c
    → sought (of_condition c) left ≡ Found t → IsBefore conditions k i left
    → IsThere conditions k (record { condition = i; constant = left })
is_there conditions k i left c t l is e before = record {
  within = l;
  replaced = λ value condition there.
      let at = read_at conditions i c l is in
      let same : c ≡ condition = some_same c condition (sym at ∙ there) in
      before value
      ∙ ap (λ cs. take i conditions ++ conditions_with left value cs) (drop_here conditions i c at)
      ∙ ap (λ cs. take i conditions ++ cs)
      (in_first left value c (drop (i + 1) conditions) (found_within (of_condition c) left t e))
      ∙ ap (λ n. take i conditions ++ condition_with left value c ∷ drop n conditions) (add-one i)
      ∙ ap (λ x. take i conditions ++ condition_with left value x ∷ drop (suc i) conditions) same
      ∙ sym (put_back conditions i (condition_with left value condition) l);
}
  where
    some_same : (a b : Cond Argument) → Some a ≡ Some b → a ≡ b
    some_same a b e = cc

pub is_nowhere : (conditions : List (Cond Argument)) (k i left : ℕ) → length conditions ≤ i → IsBefore conditions k i left
    → IsPlaceOf conditions k None
is_nowhere conditions k i left l before = λ value.
    before value
    ∙ ap (λ cs. take i conditions ++ conditions_with left value cs) (drop_all i conditions l)
    ∙ append-nil (take i conditions)
    ∙ take_all i conditions l

-- ---- the loop

pub next_after : (conditions : List (Cond Argument)) (i left next : ℕ) (c : Cond Argument) → i < length conditions
    → c ≡ get_or conditions i c
    → sought (of_condition c) left ≡ After next
    → sought (of_conditions (drop i conditions)) left ≡ sought (of_conditions (drop (i + 1) conditions)) next
next_after conditions i left next c l is e =
    ap (λ cs. sought (of_conditions cs) left) (drop_here conditions i c (read_at conditions i c l is))
    ∙ found_later (of_condition c) (of_conditions (drop (i + 1) conditions)) left next e

pub next_found : (conditions : List (Cond Argument)) (i left : ℕ) (t : OperandType) (c : Cond Argument) → i < length conditions
    → c ≡ get_or conditions i c
    → sought (of_condition c) left ≡ Found t → sought (of_conditions (drop i conditions)) left ≡ Found t
next_found conditions i left t c l is e =
    ap (λ cs. sought (of_conditions cs) left) (drop_here conditions i c (read_at conditions i c l is))
    ∙ found_first (of_condition c) (of_conditions (drop (i + 1) conditions)) left t e

pub none_left : (conditions : List (Cond Argument)) (i left : ℕ) → length conditions ≤ i
    → sought (of_conditions (drop i conditions)) left ≡ After left
none_left conditions i left l = ap (λ cs. sought (of_conditions cs) left) (drop_all i conditions l)

-- ---- what a search says

pub at_most : (xs : List Constant) (most : ℕ) (t : OperandType) → sought xs most ≡ Found t → most ≡ min (length xs) most
at_most xs most t e = let h = found_within xs most t e in omega (arith, h)

pub counted : (xs : List Constant) (most left : ℕ) → sought xs most ≡ After left → most - left ≡ min (length xs) most
counted xs most left e = let h = after_past xs most left e in omega (arith, h.past, h.left_is)

pub found_type : (xs : List Constant) (k : ℕ) (t : OperandType) → sought xs k ≡ Found t
    → Some t ≡ option_map type_of (slice_get xs k)
found_type [] k t e = cc
found_type (x ∷ xs) zero t e = let h : type_of x ≡ t = same_found (type_of x) t e in ap Some (sym h)
  where
    same_found : (a b : OperandType) → Found a ≡ Found b → a ≡ b
    same_found a b e = cc
found_type (x ∷ xs) (suc k) t e = found_type xs k t e

pub no_type : (xs : List Constant) (k next : ℕ) → sought xs k ≡ After next → None ≡ option_map type_of (slice_get xs k)
no_type [] k next e = refl
no_type (x ∷ xs) zero next e = cc
no_type (x ∷ xs) (suc k) next e = no_type xs k next e

-- ---- moving

pub moved_on : (old left moved whole : List (Cond Argument)) (last : Cond Argument) → old ≡ left ++ last ∷ []
    → old ++ reverse moved ≡ whole → left ++ reverse (moved ++ last ∷ []) ≡ whole
moved_on old left moved whole last e h =
    ap (λ xs. left ++ xs) (reverse-append moved (last ∷ []))
    ∙ sym (append_assoc left (last ∷ []) (reverse moved))
    ∙ ap (λ xs. xs ++ reverse moved) (sym e) ∙ h

pub all_moved : (left moved whole : List (Cond Argument)) → left ≡ [] → left ++ reverse moved ≡ whole → reverse moved ≡ whole
all_moved left moved whole e h = ap (λ xs. xs ++ reverse moved) (sym e) ∙ h

pub ruleset moving = (moved_on, all_moved, append-nil, length-reverse)

-- ---- putting in

pub stays : (k : ℕ) (v : Constant) (cs ds : List (Cond Argument)) → IsPlaceOf cs k None → cs ≡ ds → ds ≡ conditions_with k v ds
stays k v cs ds h e = subst (λ xs. xs ≡ conditions_with k v xs) e (sym (h v))

-- once nothing comes, nothing was left
pub left_over : (r : Option (Cond Argument)) (old new : List (Cond Argument))
    → MatchOption r ((old ≡ []) × (new ≡ [])) (λ last. old ≡ new ++ last ∷ []) → r ≡ None → old ≡ []
left_over None old new h e = h.0
left_over (Some last) old new h e = cc

-- what an insertion that doesn't fail gives
pub inserted_is : (done : Bool) (now old whole : List (Cond Argument)) (at : ℕ) (x : Cond Argument)
    → now ≡ (if done then insert old at x else old) → done ≡ true → old ≡ whole → now ≡ insert whole at x
inserted_is done now old whole at x is e same =
    is ∙ ap (λ b. if b then insert old at x else old) e ∙ ap (λ it. insert it at x) same
