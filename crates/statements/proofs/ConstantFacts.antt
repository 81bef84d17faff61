-- What a condition comes to when a value replaces one of its constants.
use Rattle.std.proofs.Common.{◌≡◌, ◌<◌, ◌≤◌, ◌-◌, ◌+◌, ◌++◌, ◌∙◌, ℕ, if◌then◌else◌, List, [], ◌∷◌, length, map, refl, ap, ap₂}
use Rattle.std.proofs.Common.{lt-ltb}
use Rattle.std.proofs.lemmas.Bool.{lt-ltb, le-ltb}
use Rattle.std.proofs.lemmas.List.Folds.{flat_map-map}
use Rattle.geometry_model.specs.declared.relations.Predicate.{Predicate}
use Rattle.statements.specs.Constants.{Argument, Constant, Part, argument_with, comparison_with, condition_with, conditions_with}
use Rattle.statements.specs.Constants.{of_argument, of_condition, of_conditions, of_operand, operand_with, part_by_parts, part_of}
use Rattle.statements.specs.Constants.{relation_with, wholes}
use Rattle.table_model.specs.declared.conditions.Comparison.{Comparison}
use Rattle.table_model.specs.declared.conditions.Cond.{Cond}
use Rattle.table_model.specs.declared.conditions.Cond.TheVariants as conds
use Rattle.table_model.specs.declared.conditions.Operand.{Operand}
use Rattle.table_model.proofs.CondFolds.{fold-Or, fold-And, fold-Not, fold-Compare, fold-IsNull, fold-IsEmpty, fold-Relates}
use Rattle.table_model.proofs.CondInduction.{Each, by_parts}

-- ---- parts

abbrev IsWhole : Cond Argument → Type 0
IsWhole c = (part_of c).whole ≡ c

all_whole : (parts : List (Cond Argument)) → Each IsWhole parts → wholes (map part_of parts) ≡ parts
all_whole [] each = refl
all_whole (c ∷ parts) each = ap₂ (λ x xs. x ∷ xs) each.0 (all_whole parts each.1)

-- a condition is kept as it is
pub kept : (c : Cond Argument) → (part_of c).whole ≡ c
kept = by_parts IsWhole (record {
  or = λ parts each. ap (λ p. p.whole) (fold-Or Argument Part part_by_parts parts) ∙ ap conds.Or (all_whole parts each);
  and = λ parts each. ap (λ p. p.whole) (fold-And Argument Part part_by_parts parts) ∙ ap conds.And (all_whole parts each);
  not = λ part is. ap (λ p. p.whole) (fold-Not Argument Part part_by_parts part) ∙ ap conds.Not is;
  compare = λ sign a b. ap (λ p. p.whole) (fold-Compare Argument Part part_by_parts sign a b);
  is_null = λ a. ap (λ p. p.whole) (fold-IsNull Argument Part part_by_parts a);
  is_empty = λ a. ap (λ p. p.whole) (fold-IsEmpty Argument Part part_by_parts a);
  relates = λ p a b. ap (λ p. p.whole) (fold-Relates Argument Part part_by_parts p a b);
})

pub all_kept : (parts : List (Cond Argument)) → wholes (map part_of parts) ≡ parts
all_kept [] = refl
all_kept (c ∷ parts) = ap₂ (λ x xs. x ∷ xs) (kept c) (all_kept parts)

-- ---- each kind of condition

pub constants-Or : (parts : List (Cond Argument)) → of_condition (conds.Or parts) ≡ of_conditions parts
constants-Or parts = ap (λ p. p.constants) (fold-Or Argument Part part_by_parts parts)
    ∙ flat_map-map (λ p. p.constants) part_of parts

pub constants-And : (parts : List (Cond Argument)) → of_condition (conds.And parts) ≡ of_conditions parts
constants-And parts = ap (λ p. p.constants) (fold-And Argument Part part_by_parts parts)
    ∙ flat_map-map (λ p. p.constants) part_of parts

pub constants-Not : (c : Cond Argument) → of_condition (conds.Not c) ≡ of_condition c
constants-Not c = ap (λ p. p.constants) (fold-Not Argument Part part_by_parts c)

pub constants-Compare : (sign : Comparison) (a b : Operand Argument)
    → of_condition (conds.Compare sign a b) ≡ of_operand a ++ of_operand b
constants-Compare sign a b = ap (λ p. p.constants) (fold-Compare Argument Part part_by_parts sign a b)

pub constants-IsNull : (a : Operand Argument) → of_condition (conds.IsNull a) ≡ of_operand a
constants-IsNull a = ap (λ p. p.constants) (fold-IsNull Argument Part part_by_parts a)

pub constants-IsEmpty : (a : Argument) → of_condition (conds.IsEmpty a) ≡ of_argument a
constants-IsEmpty a = ap (λ p. p.constants) (fold-IsEmpty Argument Part part_by_parts a)

pub constants-Relates : (predicate : Predicate) (a b : Argument)
    → of_condition (conds.Relates predicate a b) ≡ of_argument a ++ of_argument b
constants-Relates p a b = ap (λ p. p.constants) (fold-Relates Argument Part part_by_parts p a b)

pub with-Or : (k : ℕ) (v : Constant) (parts : List (Cond Argument))
    → condition_with k v (conds.Or parts) ≡ conds.Or (conditions_with k v parts)
with-Or k v parts = ap (λ p. p.replaced k v) (fold-Or Argument Part part_by_parts parts)

pub with-And : (k : ℕ) (v : Constant) (parts : List (Cond Argument))
    → condition_with k v (conds.And parts) ≡ conds.And (conditions_with k v parts)
with-And k v parts = ap (λ p. p.replaced k v) (fold-And Argument Part part_by_parts parts)

pub with-Not : (k : ℕ) (v : Constant) (c : Cond Argument) → condition_with k v (conds.Not c) ≡ conds.Not (condition_with k v c)
with-Not k v c = ap (λ p. p.replaced k v) (fold-Not Argument Part part_by_parts c)

pub with-Compare : (k : ℕ) (v : Constant) (sign : Comparison) (a b : Operand Argument)
    → condition_with k v (conds.Compare sign a b) ≡ comparison_with k v sign a b
with-Compare k v sign a b = ap (λ p. p.replaced k v) (fold-Compare Argument Part part_by_parts sign a b)

pub with-IsNull : (k : ℕ) (v : Constant) (a : Operand Argument)
    → condition_with k v (conds.IsNull a) ≡ conds.IsNull (operand_with k v a)
with-IsNull k v a = ap (λ p. p.replaced k v) (fold-IsNull Argument Part part_by_parts a)

pub with-IsEmpty : (k : ℕ) (v : Constant) (a : Argument)
    → condition_with k v (conds.IsEmpty a) ≡ conds.IsEmpty (argument_with k v a)
with-IsEmpty k v a = ap (λ p. p.replaced k v) (fold-IsEmpty Argument Part part_by_parts a)

pub with-Relates : (k : ℕ) (v : Constant) (predicate : Predicate) (a b : Argument)
    → condition_with k v (conds.Relates predicate a b) ≡ relation_with k v predicate a b
with-Relates k v p a b = ap (λ p. p.replaced k v) (fold-Relates Argument Part part_by_parts p a b)

-- ---- one condition before others

pub in_first : (k : ℕ) (v : Constant) (c : Cond Argument) (more : List (Cond Argument)) → k < length (of_condition c)
    → conditions_with k v (c ∷ more) ≡ condition_with k v c ∷ more
in_first k v c more l =
    ap (λ b. if b then condition_with k v c ∷ wholes (map part_of more) else (part_of c).whole ∷ conditions_with
    (k - length (of_condition c)) v more) (lt-ltb k (length (of_condition c)) l)
    ∙ ap (λ cs. condition_with k v c ∷ cs) (all_kept more)

pub in_others : (k : ℕ) (v : Constant) (c : Cond Argument) (more : List (Cond Argument)) → length (of_condition c) ≤ k
    → conditions_with k v (c ∷ more) ≡ c ∷ conditions_with (k - length (of_condition c)) v more
in_others k v c more l =
    ap (λ b. if b then condition_with k v c ∷ wholes (map part_of more) else (part_of c).whole ∷ conditions_with
    (k - length (of_condition c)) v more) (le-ltb k (length (of_condition c)) l)
    ∙ ap (λ x. x ∷ conditions_with (k - length (of_condition c)) v more) (kept c)

-- ---- a condition of a known kind

pub at-Or : (c : Cond Argument) (parts : List (Cond Argument)) → c ≡ conds.Or parts → of_condition c ≡ of_conditions parts
at-Or c parts e = ap of_condition e ∙ constants-Or parts

pub at-And : (c : Cond Argument) (parts : List (Cond Argument)) → c ≡ conds.And parts → of_condition c ≡ of_conditions parts
at-And c parts e = ap of_condition e ∙ constants-And parts

pub at-Not : (c part : Cond Argument) → c ≡ conds.Not part → of_condition c ≡ of_condition part
at-Not c part e = ap of_condition e ∙ constants-Not part

pub at-Compare : (c : Cond Argument) (sign : Comparison) (a b : Operand Argument) → c ≡ conds.Compare sign a b
    → of_condition c ≡ of_operand a ++ of_operand b
at-Compare c sign a b e = ap of_condition e ∙ constants-Compare sign a b

pub at-IsNull : (c : Cond Argument) (a : Operand Argument) → c ≡ conds.IsNull a → of_condition c ≡ of_operand a
at-IsNull c a e = ap of_condition e ∙ constants-IsNull a

pub at-IsEmpty : (c : Cond Argument) (a : Argument) → c ≡ conds.IsEmpty a → of_condition c ≡ of_argument a
at-IsEmpty c a e = ap of_condition e ∙ constants-IsEmpty a

pub at-Relates : (c : Cond Argument) (predicate : Predicate) (a b : Argument) → c ≡ conds.Relates predicate a b
    → of_condition c ≡ of_argument a ++ of_argument b
at-Relates c predicate a b e = ap of_condition e ∙ constants-Relates predicate a b

pub put-Or : (k : ℕ) (v : Constant) (c : Cond Argument) (parts : List (Cond Argument)) → c ≡ conds.Or parts
    → condition_with k v c ≡ conds.Or (conditions_with k v parts)
put-Or k v c parts e = ap (condition_with k v) e ∙ with-Or k v parts

pub put-And : (k : ℕ) (v : Constant) (c : Cond Argument) (parts : List (Cond Argument)) → c ≡ conds.And parts
    → condition_with k v c ≡ conds.And (conditions_with k v parts)
put-And k v c parts e = ap (condition_with k v) e ∙ with-And k v parts

pub put-Not : (k : ℕ) (v : Constant) (c : Cond Argument) (part : Cond Argument) → c ≡ conds.Not part
    → condition_with k v c ≡ conds.Not (condition_with k v part)
put-Not k v c part e = ap (condition_with k v) e ∙ with-Not k v part

pub put-Compare : (k : ℕ) (v : Constant) (c : Cond Argument) (sign : Comparison) (a b : Operand Argument)
    → c ≡ conds.Compare sign a b → condition_with k v c ≡ comparison_with k v sign a b
put-Compare k v c sign a b e = ap (condition_with k v) e ∙ with-Compare k v sign a b

pub put-IsNull : (k : ℕ) (v : Constant) (c : Cond Argument) (a : Operand Argument) → c ≡ conds.IsNull a
    → condition_with k v c ≡ conds.IsNull (operand_with k v a)
put-IsNull k v c a e = ap (condition_with k v) e ∙ with-IsNull k v a

pub put-IsEmpty : (k : ℕ) (v : Constant) (c : Cond Argument) (a : Argument) → c ≡ conds.IsEmpty a
    → condition_with k v c ≡ conds.IsEmpty (argument_with k v a)
put-IsEmpty k v c a e = ap (condition_with k v) e ∙ with-IsEmpty k v a

pub put-Relates : (k : ℕ) (v : Constant) (c : Cond Argument) (predicate : Predicate) (a b : Argument)
    → c ≡ conds.Relates predicate a b → condition_with k v c ≡ relation_with k v predicate a b
put-Relates k v c predicate a b e = ap (condition_with k v) e ∙ with-Relates k v predicate a b
