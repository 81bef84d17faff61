-- The conjuncts of a condition, at each of its variants.
use Rattle.std.proofs.Common.{◌≡◌, List, [], ◌∷◌, map, refl, ap, ap₂, ◌∙◌}
use Rattle.std.specs.List.{flat_map}
use Rattle.std.proofs.lemmas.List.Folds.{flat_map-map}
use Rattle.geometry_model.specs.declared.relations.Predicate.{Predicate}
use Rattle.table_model.specs.Statements.{Split, conjuncts_of, split_by_parts, wholes}
use Rattle.table_model.specs.declared.conditions.Comparison.{Comparison}
use Rattle.table_model.specs.declared.conditions.Operand.{Operand}
use Rattle.table_model.specs.declared.conditions.Cond.{Cond}
use Rattle.table_model.specs.declared.conditions.Cond.TheVariants as conds
use Rattle.table_model.specs.declared.conditions.Cond.TheFolds.{fold-Cond}
use Rattle.table_model.proofs.CondFolds.{fold-Or, fold-And, fold-Not, fold-Compare, fold-IsNull, fold-IsEmpty, fold-Relates}
use Rattle.table_model.proofs.CondInduction.{Each, by_parts}

-- a condition with its conjuncts
abbrev split : {A : Type 0} → Cond A → Split A
split {A = A} = fold-Cond A (Split A) split_by_parts

abbrev IsWhole : {A : Type 0} → Cond A → Type 0
IsWhole c = (split c).whole ≡ c

-- parts that splitting keeps are kept in a list
all_whole : {A : Type 0} (parts : List (Cond A)) → Each IsWhole parts → wholes (map split parts) ≡ parts
all_whole [] each = refl
all_whole (c ∷ parts) each = ap₂ (λ x xs. x ∷ xs) each.0 (all_whole parts each.1)

-- splitting keeps the condition
pub kept : {A : Type 0} (c : Cond A) → (split c).whole ≡ c
kept {A = A} = by_parts IsWhole (record {
  or = λ parts each. ap (λ s. s.whole) (fold-Or A (Split A) split_by_parts parts) ∙ ap conds.Or (all_whole parts each);
  and = λ parts each. ap (λ s. s.whole) (fold-And A (Split A) split_by_parts parts) ∙ ap conds.And (all_whole parts each);
  not = λ part is. ap (λ s. s.whole) (fold-Not A (Split A) split_by_parts part) ∙ ap conds.Not is;
  compare = λ sign a b. ap (λ s. s.whole) (fold-Compare A (Split A) split_by_parts sign a b);
  is_null = λ a. ap (λ s. s.whole) (fold-IsNull A (Split A) split_by_parts a);
  is_empty = λ a. ap (λ s. s.whole) (fold-IsEmpty A (Split A) split_by_parts a);
  relates = λ p a b. ap (λ s. s.whole) (fold-Relates A (Split A) split_by_parts p a b);
})

-- so splitting keeps all parts of a list
all_kept : {A : Type 0} (parts : List (Cond A)) → wholes (map split parts) ≡ parts
all_kept [] = refl
all_kept (c ∷ parts) = ap₂ (λ x xs. x ∷ xs) (kept c) (all_kept parts)

-- the conjuncts gathered while splitting are those of the parts
flattened : {A : Type 0} (parts : List (Cond A)) → flat_map (λ part. part.conjuncts) (map split parts) ≡ flat_map conjuncts_of parts
flattened parts = flat_map-map (λ part. part.conjuncts) split parts

-- only an AND is taken apart: a condition of any other kind is its own one conjunct
pub conjuncts-Or : {A : Type 0} (parts : List (Cond A)) → conjuncts_of (conds.Or parts) ≡ conds.Or parts ∷ []
conjuncts-Or {A = A} parts = ap (λ s. s.conjuncts) (fold-Or A (Split A) split_by_parts parts) ∙ ap (λ cs. conds.Or cs ∷ []) (all_kept parts)

-- an AND has the conjuncts of its parts, one part after another
pub conjuncts-And : {A : Type 0} (parts : List (Cond A)) → conjuncts_of (conds.And parts) ≡ flat_map conjuncts_of parts
conjuncts-And {A = A} parts = ap (λ s. s.conjuncts) (fold-And A (Split A) split_by_parts parts) ∙ flattened parts

pub conjuncts-Not : {A : Type 0} (part : Cond A) → conjuncts_of (conds.Not part) ≡ conds.Not part ∷ []
conjuncts-Not {A = A} part = ap (λ s. s.conjuncts) (fold-Not A (Split A) split_by_parts part) ∙ ap (λ c. conds.Not c ∷ []) (kept part)

pub conjuncts-Compare : {A : Type 0} (sign : Comparison) (a b : Operand A) → conjuncts_of (conds.Compare sign a b) ≡ conds.Compare sign a b ∷ []
conjuncts-Compare {A = A} sign a b = ap (λ s. s.conjuncts) (fold-Compare A (Split A) split_by_parts sign a b)

pub conjuncts-IsNull : {A : Type 0} (a : Operand A) → conjuncts_of (conds.IsNull a) ≡ conds.IsNull a ∷ []
conjuncts-IsNull {A = A} a = ap (λ s. s.conjuncts) (fold-IsNull A (Split A) split_by_parts a)

pub conjuncts-IsEmpty : {A : Type 0} (a : A) → conjuncts_of (conds.IsEmpty a) ≡ conds.IsEmpty a ∷ []
conjuncts-IsEmpty {A = A} a = ap (λ s. s.conjuncts) (fold-IsEmpty A (Split A) split_by_parts a)

pub conjuncts-Relates : {A : Type 0} (predicate : Predicate) (a b : A) → conjuncts_of (conds.Relates predicate a b) ≡ conds.Relates predicate a b ∷ []
conjuncts-Relates {A = A} p a b = ap (λ s. s.conjuncts) (fold-Relates A (Split A) split_by_parts p a b)

-- all of these
pub ruleset conjunct_facts = (conjuncts-Or, conjuncts-And, conjuncts-Not, conjuncts-Compare, conjuncts-IsNull, conjuncts-IsEmpty, conjuncts-Relates)
