-- Conditions without a predicate.
use Rattle.std.specs.Prelude.{◌≡◌, ◌≤◌, ◌&&◌, ℕ, Bool, true, false, if◌then◌else◌, is_some, List, [], ◌∷◌, All, map, sum, sum_by}
use Rattle.std.proofs.Common.{arith, ◌∙◌, sym, eqb-true}
use Rattle.std.proofs.lemmas.List.Elements.{All-cons, All-nil}
use Rattle.std.proofs.lemmas.List.Sums.{sum-map, sum_by-cons}
use Rattle.spatial_sql.specs.FilterOrder.{Argument}
use Rattle.spatial_sql.specs.IdleRows.{is_free}
use Rattle.geometry_model.specs.Geometries.{Geometry}
use Rattle.table_model.proofs.CondFolds.{fold-And, fold-Compare, fold-IsEmpty, fold-IsNull, fold-Not, fold-Or, fold-Relates}
use Rattle.table_model.proofs.CondInduction.{Each, by_parts}
use Rattle.table_model.specs.Arguments.{denoted}
use Rattle.table_model.specs.Plans.{predicate_count, predicates_by_parts}
use Rattle.table_model.specs.Truths.{Rows}
use Rattle.table_model.specs.Work.{computed, computed_by_parts}
use Rattle.table_model.specs.declared.conditions.Cond.{Cond}
use Rattle.table_model.specs.declared.conditions.Cond.TheVariants as conds

-- an OR and an AND have the predicates of their parts
pub count_or : (parts : List (Cond Argument)) → predicate_count (conds.Or parts) ≡ sum_by predicate_count parts
count_or parts = fold-Or Argument ℕ predicates_by_parts parts ∙ sum-map predicate_count parts

pub count_and : (parts : List (Cond Argument)) → predicate_count (conds.And parts) ≡ sum_by predicate_count parts
count_and parts = fold-And Argument ℕ predicates_by_parts parts ∙ sum-map predicate_count parts

-- a condition computes at most as many matrices as it has predicates
module _ (rows : Rows Geometry) where
  at_most_all : (parts : List (Cond Argument)) → Each (λ c. computed denoted rows c ≤ predicate_count c) parts
      → sum_by (computed denoted rows) parts ≤ sum_by predicate_count parts
  at_most_all [] h = omega arith
  at_most_all (c ∷ parts) h =
      let first = h.0 in
      let rest = at_most_all parts h.1 in
      let left = sum_by-cons (computed denoted rows) c parts in
      let right = sum_by-cons predicate_count c parts in
      omega (arith, first, rest, left, right)

  of_parts : (whole count : ℕ) (parts : List (Cond Argument)) → Each (λ c. computed denoted rows c ≤ predicate_count c) parts
      → whole ≡ sum (map (computed denoted rows) parts) → count ≡ sum_by predicate_count parts → whole ≤ count
  of_parts whole count parts h is counted =
      let left : whole ≡ sum_by (computed denoted rows) parts = is ∙ sum-map (computed denoted rows) parts in
      let most = at_most_all parts h in
      omega (arith, left, counted, most)

  computed_at_most : (c : Cond Argument) → computed denoted rows c ≤ predicate_count c
  computed_at_most = by_parts (λ c. computed denoted rows c ≤ predicate_count c) (record {
    or = λ parts h. of_parts (computed denoted rows (conds.Or parts)) (predicate_count (conds.Or parts)) parts h
        (fold-Or Argument ℕ (computed_by_parts denoted rows) parts) (count_or parts);
    and = λ parts h. of_parts (computed denoted rows (conds.And parts)) (predicate_count (conds.And parts)) parts h
        (fold-And Argument ℕ (computed_by_parts denoted rows) parts) (count_and parts);
    not = λ part h.
        no_more (computed denoted rows (conds.Not part)) (predicate_count (conds.Not part)) (computed denoted rows part)
        (predicate_count part) h
        (fold-Not Argument ℕ (computed_by_parts denoted rows) part) (fold-Not Argument ℕ predicates_by_parts part);
    compare = λ sign a b.
        no_more (computed denoted rows (conds.Compare sign a b)) (predicate_count (conds.Compare sign a b)) 0 0 (omega arith)
        (fold-Compare Argument ℕ (computed_by_parts denoted rows) sign a b) (fold-Compare Argument ℕ predicates_by_parts sign a b);
    is_null = λ a.
        no_more (computed denoted rows (conds.IsNull a)) (predicate_count (conds.IsNull a)) 0 0 (omega arith)
        (fold-IsNull Argument ℕ (computed_by_parts denoted rows) a) (fold-IsNull Argument ℕ predicates_by_parts a);
    is_empty = λ a.
        no_more (computed denoted rows (conds.IsEmpty a)) (predicate_count (conds.IsEmpty a)) 0 0 (omega arith)
        (fold-IsEmpty Argument ℕ (computed_by_parts denoted rows) a) (fold-IsEmpty Argument ℕ predicates_by_parts a);
    relates = λ predicate a b.
        no_more (computed denoted rows (conds.Relates predicate a b)) (predicate_count (conds.Relates predicate a b))
        (if is_some (denoted rows a) && is_some (denoted rows b) then 1 else 0) 1
        (one (is_some (denoted rows a) && is_some (denoted rows b)))
        (fold-Relates Argument ℕ (computed_by_parts denoted rows) predicate a b)
        (fold-Relates Argument ℕ predicates_by_parts predicate a b);
  })
    where
      no_more : (whole count one counted : ℕ) → one ≤ counted → whole ≡ one → count ≡ counted → whole ≤ count
      no_more whole count one counted l e f = omega (arith, l, e, f)

      one : (b : Bool) → (if b then 1 else 0) ≤ 1
      one true = omega arith
      one false = omega arith

-- so one without a predicate computes none
pub free_none : (c : Cond Argument) (b : Bool) → b ≡ is_free c → b ≡ true → (rows : Rows Geometry) → computed denoted rows c ≡ 0
free_none c b is e = λ rows.
    let most = computed_at_most rows c in
    let none : predicate_count c ≡ 0 = eqb-true (predicate_count c) 0 (sym is ∙ e) in
    omega (arith, most, none)

-- conditions that have no predicate among them compute none
pub none_computed : (conditions : List (Cond Argument)) → sum_by predicate_count conditions ≡ 0
    → All (λ c. (rows : Rows Geometry) → computed denoted rows c ≡ 0) conditions
none_computed [] e = All-nil (λ c. (rows : Rows Geometry) → computed denoted rows c ≡ 0)
none_computed (c ∷ conditions) e =
    let parts = sum_by-cons predicate_count c conditions in
    let here : predicate_count c ≡ 0 = omega (arith, parts, e) in
    let rest : sum_by predicate_count conditions ≡ 0 = omega (arith, parts, e) in
    All-cons (λ d. (rows : Rows Geometry) → computed denoted rows d ≡ 0) c conditions
    (λ rows. (let most = computed_at_most rows c in omega (arith, most, here))) (none_computed conditions rest)
