-- The operands of a condition at each of its variants.
use Rattle.std.proofs.Common.{◌≡◌, ◌++◌, ◌∙◌, ℕ, List, [], ◌∷◌, ap, sym, append_assoc}
use Rattle.std.specs.List.{flat_map}
use Rattle.std.proofs.lemmas.List.Folds.{flat_map-map}
use Rattle.geometry_model.specs.declared.relations.Predicate.{Predicate}
use Rattle.statements.specs.Constants.{Argument}
use Rattle.sfq_tables.specs.QueryForms.{argument_form, comparison_number, operand_form}
use Rattle.sfq_tables.specs.QueryForms.{operands_by_parts, operands_in, predicate_number}
use Rattle.sfq_tables.specs.declared.operands.OperandForm.{OperandForm}
use Rattle.table_model.proofs.CondFolds.{fold-And, fold-Compare, fold-Or, fold-Relates}
use Rattle.table_model.specs.declared.conditions.Comparison.{Comparison}
use Rattle.table_model.specs.declared.conditions.Cond.{Cond}
use Rattle.table_model.specs.declared.conditions.Cond.TheVariants as conds
use Rattle.table_model.specs.declared.conditions.Operand.{Operand}

-- OR and AND have the operands of their parts
pub of_or : (n : ℕ) (c : Cond Argument) (parts these : List (Cond Argument)) → c ≡ conds.Or parts → these ≡ parts
    → flat_map (operands_in n) these ≡ operands_in n c
of_or n c parts these is same =
    ap (flat_map (operands_in n)) same
    ∙ sym (ap (operands_in n) is ∙ fold-Or Argument (List OperandForm) (operands_by_parts n) parts
    ∙ flat_map-map (λ part. part) (operands_in n) parts)

pub of_and : (n : ℕ) (c : Cond Argument) (parts these : List (Cond Argument)) → c ≡ conds.And parts → these ≡ parts
    → flat_map (operands_in n) these ≡ operands_in n c
of_and n c parts these is same =
    ap (flat_map (operands_in n)) same
    ∙ sym (ap (operands_in n) is ∙ fold-And Argument (List OperandForm) (operands_by_parts n) parts
    ∙ flat_map-map (λ part. part) (operands_in n) parts)

-- a comparison has two, and a predicate has two
pub of_compare : (n : ℕ) (c : Cond Argument) (sign : Comparison) (a b : Operand Argument) → c ≡ conds.Compare sign a b
    → operands_in n c ≡ operand_form n (comparison_number sign) a ∷ operand_form n (comparison_number sign) b ∷ []
of_compare n c sign a b is =
    ap (operands_in n) is ∙ fold-Compare Argument (List OperandForm) (operands_by_parts n) sign a b

pub of_relates : (n : ℕ) (c : Cond Argument) (predicate : Predicate) (a b : Argument) → c ≡ conds.Relates predicate a b
    → operands_in n c ≡ argument_form n (predicate_number predicate) 0 a ∷ argument_form n (predicate_number predicate) 0 b ∷ []
of_relates n c predicate a b is =
    ap (operands_in n) is ∙ fold-Relates Argument (List OperandForm) (operands_by_parts n) predicate a b

-- two operands are added one after the other
pub added : (old more all found : List OperandForm) (x y p q : OperandForm)
    → more ≡ old ++ x ∷ [] → all ≡ more ++ y ∷ [] → x ≡ p → y ≡ q → found ≡ p ∷ q ∷ [] → all ≡ old ++ found
added old more all found x y p q first second is_p is_q are =
    second ∙ ap (λ xs. xs ++ y ∷ []) first ∙ append_assoc old (x ∷ []) (y ∷ [])
    ∙ ap (λ z. old ++ z ∷ y ∷ []) is_p ∙ ap (λ z. old ++ p ∷ z ∷ []) is_q ∙ ap (λ xs. old ++ xs) (sym are)
