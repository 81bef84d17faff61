-- What conditions, items and queries are bound to agrees with the rules.
use Rattle.std.proofs.Common.{◌≡◌, ℕ, List, [], ◌∷◌, map, Ok, Err, IfOk, IfErr, refl, sym, ap, ap₂, subst, ◌∙◌}
use Rattle.geometry_model.specs.declared.relations.Predicate.TheVariants as predicates
use Rattle.table_model.specs.Binding.{GeometryBinding, Checked, ◌>>=◌, bound_column, bound_operand, geometry_only, comparable, bound_predicate, bound_comparison, bound_null_test, bound_emptiness, bound_relation, bound_by_parts, bound_cond, unquoted}
use Rattle.table_model.specs.BindingRules.{GeometryRules, Then, FirstFault, IsBoundColumn, IsRefusedColumn, IsGeometryPart, IsNoGeometry, IsBoundOperand, IsRefusedOperand, IsCompared, IsRefusedComparison, IsBoundPredicate, IsRefusedPredicate, IsRelated, IsRefusedRelation, IsCond, AreConds, IsRefusedCond, AreRefused}
use Rattle.table_model.specs.BindingRules as rule
use Rattle.table_model.specs.Loading.{and_then, each}
use Rattle.table_model.specs.declared.conditions.Comparison.{Comparison}
use Rattle.table_model.specs.declared.conditions.Cond.{Cond}
use Rattle.table_model.specs.declared.conditions.Cond.TheVariants as conds
use Rattle.table_model.specs.declared.conditions.Operand.TheVariants as operands
use Rattle.table_model.specs.declared.conditions.Reference.{Reference}
use Rattle.table_model.specs.declared.definitions.TableDef.{TableDef}
use Rattle.table_model.specs.declared.faults.QueryFault.{QueryFault}
use Rattle.table_model.specs.declared.queries.WrittenCond.{WrittenCond}
use Rattle.table_model.specs.declared.queries.WrittenCond.TheVariants as written
use Rattle.table_model.specs.declared.queries.WrittenOperand.{WrittenOperand}
use Rattle.table_model.specs.declared.queries.WrittenOperand.TheVariants as written_operand
use Rattle.table_model.specs.declared.queries.WrittenPredicate.{WrittenPredicate}
use Rattle.table_model.specs.declared.queries.WrittenPredicate.TheVariants as written_predicate
use Rattle.table_model.specs.declared.typing.OperandType.TheVariants as types
use Rattle.table_model.proofs.CondInduction.{Each}
use Rattle.table_model.proofs.WrittenFolds as folds
use Rattle.grammar_laws.specs.RuleLaws.{Agrees, GeometryAgrees}
use Rattle.grammar_laws.proofs.NameFacts.{columns_agree}
use Rattle.grammar_laws.proofs.RuleFacts.{pure, sequence, returned, types_tested, geometry_agrees}
use Rattle.grammar_laws.proofs.WrittenInduction.{by_written}

-- ---- operands and predicates

-- an operand is a column, a literal or a function, whose argument has to be a geometry
operand_agrees : {T A B C D : Type 0} (rules : GeometryRules T A B C D) (how : GeometryBinding T A B C D) → GeometryAgrees rules how → (schema : List (TableDef T)) (references : List Reference) (w : WrittenOperand A)
    → Agrees (IsBoundOperand rules schema references w) (IsRefusedOperand rules schema references w) (bound_operand how schema references w)
operand_agrees {T = T} rules how agrees schema references (written_operand.Column w) =
    returned (IsBoundColumn schema references w) (IsRefusedColumn schema references w) (bound_column schema references w) (λ found. record { part = operands.Column found.place; part_type = found.column_type }) (columns_agree T schema references w)
operand_agrees rules how agrees schema references (written_operand.Integer n) = pure (record { part = operands.Integer n; part_type = types.Integer })
operand_agrees rules how agrees schema references (written_operand.Text w) = pure (record { part = operands.Text (unquoted w.text); part_type = types.Text })
operand_agrees rules how agrees schema references written_operand.Null = pure (record { part = operands.Null; part_type = types.Null })
operand_agrees rules how agrees schema references (written_operand.AsText at a) =
    sequence (rules.IsArgument schema references a) (rules.IsRefusedArgument schema references a)
    (λ argument. Then (IsGeometryPart argument) (λ x typed. typed ≡ record { part = operands.AsText x; part_type = types.Text }))
    (λ argument. FirstFault (IsGeometryPart argument) (IsNoGeometry at argument) (λ x fault. ⊥))
    (how.argument schema references a) (λ argument. geometry_only at argument >>= (λ x. Ok (record { part = operands.AsText x; part_type = types.Text }))) (agrees.argument schema references a)
    (λ argument is. returned (IsGeometryPart argument) (IsNoGeometry at argument) (geometry_only at argument) (λ x. record { part = operands.AsText x; part_type = types.Text }) (geometry_agrees at argument))
operand_agrees rules how agrees schema references (written_operand.Dimension at a) =
    sequence (rules.IsArgument schema references a) (rules.IsRefusedArgument schema references a)
    (λ argument. Then (IsGeometryPart argument) (λ x typed. typed ≡ record { part = operands.Dimension x; part_type = types.Integer }))
    (λ argument. FirstFault (IsGeometryPart argument) (IsNoGeometry at argument) (λ x fault. ⊥))
    (how.argument schema references a) (λ argument. geometry_only at argument >>= (λ x. Ok (record { part = operands.Dimension x; part_type = types.Integer }))) (agrees.argument schema references a)
    (λ argument is. returned (IsGeometryPart argument) (IsNoGeometry at argument) (geometry_only at argument) (λ x. record { part = operands.Dimension x; part_type = types.Integer }) (geometry_agrees at argument))

-- a predicate is a named one, or Relate with a pattern, which is bound
predicate_agrees : {T A B C D : Type 0} (rules : GeometryRules T A B C D) (how : GeometryBinding T A B C D) → GeometryAgrees rules how → (w : WrittenPredicate)
    → Agrees (IsBoundPredicate rules w) (IsRefusedPredicate rules w) (bound_predicate how.pattern w)
predicate_agrees rules how agrees (written_predicate.Named p) = pure p
predicate_agrees rules how agrees (written_predicate.Relate string) =
    returned (rules.IsPattern string) (rules.IsRefusedPattern string) (how.pattern string) predicates.Relate (agrees.pattern string)

-- a comparison binds its left operand, then its right one, then tests whether their types compare
comparison_agrees : {T A B C D : Type 0} (rules : GeometryRules T A B C D) (how : GeometryBinding T A B C D) → GeometryAgrees rules how → (schema : List (TableDef T)) (references : List Reference) (at : ℕ) (sign : Comparison) (a b : WrittenOperand A)
    → Agrees (IsCompared rules schema references sign a b) (IsRefusedComparison rules schema references at a b) (bound_comparison how schema references at sign a b)
comparison_agrees rules how agrees schema references at sign a b =
    sequence (IsBoundOperand rules schema references a) (IsRefusedOperand rules schema references a) _ _ (bound_operand how schema references a) _ (operand_agrees rules how agrees schema references a)
    (λ left left_is. sequence (IsBoundOperand rules schema references b) (IsRefusedOperand rules schema references b) _ _ (bound_operand how schema references b) _ (operand_agrees rules how agrees schema references b)
    (λ right right_is. types_tested (comparable left.part_type right.part_type) at (conds.Compare sign left.part right.part)))

-- a test for NULL binds its operand, of whatever type
null_agrees : {T A B C D : Type 0} (rules : GeometryRules T A B C D) (how : GeometryBinding T A B C D) → GeometryAgrees rules how → (schema : List (TableDef T)) (references : List Reference) (a : WrittenOperand A)
    → Agrees (Then (IsBoundOperand rules schema references a) (λ operand cond. cond ≡ conds.IsNull operand.part)) (FirstFault (IsBoundOperand rules schema references a) (IsRefusedOperand rules schema references a) (λ operand f. ⊥)) (bound_null_test how schema references a)
null_agrees rules how agrees schema references a =
    returned (IsBoundOperand rules schema references a) (IsRefusedOperand rules schema references a) (bound_operand how schema references a) (λ operand. conds.IsNull operand.part) (operand_agrees rules how agrees schema references a)

-- a test for emptiness binds its argument, which has to be a geometry
emptiness_agrees : {T A B C D : Type 0} (rules : GeometryRules T A B C D) (how : GeometryBinding T A B C D) → GeometryAgrees rules how → (schema : List (TableDef T)) (references : List Reference) (at : ℕ) (a : A)
    → Agrees (Then (rules.IsArgument schema references a) (λ argument. Then (IsGeometryPart argument) (λ x cond. cond ≡ conds.IsEmpty x)))
    (FirstFault (rules.IsArgument schema references a) (rules.IsRefusedArgument schema references a) (λ argument. FirstFault (IsGeometryPart argument) (IsNoGeometry at argument) (λ x f. ⊥))) (bound_emptiness how schema references at a)
emptiness_agrees rules how agrees schema references at a =
    sequence (rules.IsArgument schema references a) (rules.IsRefusedArgument schema references a) _ _ (how.argument schema references a) _ (agrees.argument schema references a)
    (λ argument is. returned (IsGeometryPart argument) (IsNoGeometry at argument) (geometry_only at argument) conds.IsEmpty (geometry_agrees at argument))

-- a relation binds its arguments and its predicate, then tests that both arguments are geometries
relation_agrees : {T A B C D : Type 0} (rules : GeometryRules T A B C D) (how : GeometryBinding T A B C D) → GeometryAgrees rules how → (schema : List (TableDef T)) (references : List Reference) (at : ℕ) (w : WrittenPredicate) (a b : A)
    → Agrees (IsRelated rules schema references w a b) (IsRefusedRelation rules schema references at w a b) (bound_relation how schema references at w a b)
relation_agrees rules how agrees schema references at w a b =
    sequence (rules.IsArgument schema references a) (rules.IsRefusedArgument schema references a) _ _ (how.argument schema references a) _ (agrees.argument schema references a)
    (λ left left_is. sequence (rules.IsArgument schema references b) (rules.IsRefusedArgument schema references b) _ _ (how.argument schema references b) _ (agrees.argument schema references b)
    (λ right right_is. sequence (IsBoundPredicate rules w) (IsRefusedPredicate rules w) _ _ (bound_predicate how.pattern w) _ (predicate_agrees rules how agrees w)
    (λ p p_is. sequence (IsGeometryPart left) (IsNoGeometry at left) _ _ (geometry_only at left) _ (geometry_agrees at left)
    (λ x x_is. returned (IsGeometryPart right) (IsNoGeometry at right) (geometry_only at right) (λ y. conds.Relates p x y) (geometry_agrees at right)))))

-- ---- conditions: what is returned, the rules say

Forward : {T A B C D : Type 0} (rules : GeometryRules T A B C D) (how : GeometryBinding T A B C D) (schema : List (TableDef T)) (references : List Reference) → WrittenCond A → Checked (Cond B) → Type 0
Forward rules how schema references w r = IfOk r (IsCond rules schema references w) × IfErr r (IsRefusedCond rules schema references w)

weaker : {X : Type 0} (r : Checked X) (P Q : X → Type 0) (R S : QueryFault → Type 0) → ((x : X) → P x → Q x) → ((e : QueryFault) → R e → S e) → IfOk r P → IfErr r R → IfOk r Q × IfErr r S
weaker (Ok x) P Q R S to and_to is other = (to x is, tt)
weaker (Err e) P Q R S to and_to other is = (tt, and_to e is)

-- a condition and more: bound where all of them are, or refused for the first that is refused
one_more : {T A B C D : Type 0} (rules : GeometryRules T A B C D) (schema : List (TableDef T)) (references : List Reference) (p : WrittenCond A) (ps : List (WrittenCond A)) (r : Checked (Cond B)) (s : Checked (List (Cond B)))
    → IfOk r (IsCond rules schema references p) → IfErr r (IsRefusedCond rules schema references p) → IfOk s (AreConds rules schema references ps) → IfErr s (AreRefused rules schema references ps)
    → IfOk (and_then r (λ x. and_then s (λ xs. Ok (x ∷ xs)))) (AreConds rules schema references (p ∷ ps)) × IfErr (and_then r (λ x. and_then s (λ xs. Ok (x ∷ xs)))) (AreRefused rules schema references (p ∷ ps))
one_more rules schema references p ps (Ok c) (Ok cs) is a are b = (rule.Before p ps c cs is are, tt)
one_more rules schema references p ps (Ok c) (Err e) is a b refused = (tt, rule.InLater p ps c e is refused)
one_more rules schema references p ps (Err e) s a refused b d = (tt, rule.InFirst p ps e refused)

-- so what parts are bound to, or refused for, from left to right, the rules say
all_forward : {T A B C D : Type 0} (rules : GeometryRules T A B C D) (how : GeometryBinding T A B C D) (schema : List (TableDef T)) (references : List Reference) (parts : List (WrittenCond A))
    → Each (λ w. Forward rules how schema references w (bound_cond how schema references w)) parts
    → IfOk (each (map (bound_cond how schema references) parts)) (AreConds rules schema references parts) × IfErr (each (map (bound_cond how schema references) parts)) (AreRefused rules schema references parts)
unfolding Forward
all_forward rules how schema references [] are = (rule.NoCond, tt)
all_forward rules how schema references (p ∷ ps) are =
    one_more rules schema references p ps (bound_cond how schema references p) (each (map (bound_cond how schema references) ps)) are.0.0 are.0.1
    (all_forward rules how schema references ps are.1).0 (all_forward rules how schema references ps are.1).1

made : {X Y : Type 0} (r : Checked X) (v : X → Y) (P : X → Type 0) (Q : Y → Type 0) (R S : QueryFault → Type 0) → ((x : X) → P x → Q (v x)) → ((e : QueryFault) → R e → S e) → IfOk r P → IfErr r R
    → IfOk (r >>= (λ x. Ok (v x))) Q × IfErr (r >>= (λ x. Ok (v x))) S
made (Ok x) v P Q R S to and_to is other = (to x is, tt)
made (Err e) v P Q R S to and_to other is = (tt, and_to e is)

-- what a condition is bound to, or refused for, the rules say, where they say it of its parts
conds_forward : {T A B C D : Type 0} (rules : GeometryRules T A B C D) (how : GeometryBinding T A B C D) → GeometryAgrees rules how → (schema : List (TableDef T)) (references : List Reference) (w : WrittenCond A)
    → Forward rules how schema references w (bound_cond how schema references w)
unfolding Forward
conds_forward {T} {A} {B} {C} {D} rules how agrees schema references = by_written (λ w. Forward rules how schema references w (bound_cond how schema references w)) (record {
  or = λ parts are. subst (Forward rules how schema references (written.Or parts)) (sym (folds.fold-Or A (Checked (Cond B)) (bound_by_parts how schema references) parts))
      (made (each (map (bound_cond how schema references) parts)) conds.Or (AreConds rules schema references parts) _ (AreRefused rules schema references parts) _ (λ cs is. rule.Or parts cs is) (λ e is. rule.InOr parts e is)
      (all_forward rules how schema references parts are).0 (all_forward rules how schema references parts are).1);
  and = λ parts are. subst (Forward rules how schema references (written.And parts)) (sym (folds.fold-And A (Checked (Cond B)) (bound_by_parts how schema references) parts))
      (made (each (map (bound_cond how schema references) parts)) conds.And (AreConds rules schema references parts) _ (AreRefused rules schema references parts) _ (λ cs is. rule.And parts cs is) (λ e is. rule.InAnd parts e is)
      (all_forward rules how schema references parts are).0 (all_forward rules how schema references parts are).1);
  not = λ part is. subst (Forward rules how schema references (written.Not part)) (sym (folds.fold-Not A (Checked (Cond B)) (bound_by_parts how schema references) part))
      (made (bound_cond how schema references part) conds.Not (IsCond rules schema references part) _ (IsRefusedCond rules schema references part) _ (λ c is. rule.Not part c is) (λ e is. rule.InNot part e is) is.0 is.1);
  compare = λ at sign a b. subst (Forward rules how schema references (written.Compare at sign a b)) (sym (folds.fold-Compare A (Checked (Cond B)) (bound_by_parts how schema references) at sign a b))
      (weaker (bound_comparison how schema references at sign a b) _ _ _ _ (λ c is. rule.Compared at sign a b c is) (λ e is. rule.InComparison at sign a b e is)
      (comparison_agrees rules how agrees schema references at sign a b).applies (comparison_agrees rules how agrees schema references at sign a b).refused);
  is_null = λ a. subst (Forward rules how schema references (written.IsNull a)) (sym (folds.fold-IsNull A (Checked (Cond B)) (bound_by_parts how schema references) a))
      (weaker (bound_null_test how schema references a) _ _ _ _ (λ c is. rule.Null a c is) (λ e is. rule.InNull a e is) (null_agrees rules how agrees schema references a).applies (null_agrees rules how agrees schema references a).refused);
  is_empty = λ at a. subst (Forward rules how schema references (written.IsEmpty at a)) (sym (folds.fold-IsEmpty A (Checked (Cond B)) (bound_by_parts how schema references) at a))
      (weaker (bound_emptiness how schema references at a) _ _ _ _ (λ c is. rule.Empty at a c is) (λ e is. rule.InEmpty at a e is) (emptiness_agrees rules how agrees schema references at a).applies (emptiness_agrees rules how agrees schema references at a).refused);
  relates = λ at p a b. subst (Forward rules how schema references (written.Relates at p a b)) (sym (folds.fold-Relates A (Checked (Cond B)) (bound_by_parts how schema references) at p a b))
      (weaker (bound_relation how schema references at p a b) _ _ _ _ (λ c is. rule.Related at p a b c is) (λ e is. rule.InRelation at p a b e is)
      (relation_agrees rules how agrees schema references at p a b).applies (relation_agrees rules how agrees schema references at p a b).refused);
})

-- ---- what the rules say, is returned

-- by induction over the rules: the parts that they bind are returned so, and with them the condition
mutual
  cond_returns : {T A B C D : Type 0} (rules : GeometryRules T A B C D) (how : GeometryBinding T A B C D) (agrees : GeometryAgrees rules how) (schema : List (TableDef T)) (references : List Reference) (w : WrittenCond A) (c : Cond B)
      → IsCond rules schema references w c → bound_cond how schema references w ≡ Ok c
  cond_returns {A = A} {B = B} rules how agrees schema references w c (rule.Or parts bound are) =
      folds.fold-Or A (Checked (Cond B)) (bound_by_parts how schema references) parts ∙ ap (λ r. r >>= (λ cs. Ok (conds.Or cs))) (conds_answer rules how agrees schema references parts bound are)
  cond_returns {A = A} {B = B} rules how agrees schema references w c (rule.And parts bound are) =
      folds.fold-And A (Checked (Cond B)) (bound_by_parts how schema references) parts ∙ ap (λ r. r >>= (λ cs. Ok (conds.And cs))) (conds_answer rules how agrees schema references parts bound are)
  cond_returns {A = A} {B = B} rules how agrees schema references w c (rule.Not part bound is) =
      folds.fold-Not A (Checked (Cond B)) (bound_by_parts how schema references) part ∙ ap (λ r. r >>= (λ x. Ok (conds.Not x))) (cond_returns rules how agrees schema references part bound is)
  cond_returns {A = A} {B = B} rules how agrees schema references w c (rule.Compared at sign a b bound is) =
      folds.fold-Compare A (Checked (Cond B)) (bound_by_parts how schema references) at sign a b ∙ (comparison_agrees rules how agrees schema references at sign a b).answers bound is
  cond_returns {A = A} {B = B} rules how agrees schema references w c (rule.Null a bound is) =
      folds.fold-IsNull A (Checked (Cond B)) (bound_by_parts how schema references) a ∙ (null_agrees rules how agrees schema references a).answers bound is
  cond_returns {A = A} {B = B} rules how agrees schema references w c (rule.Empty at a bound is) =
      folds.fold-IsEmpty A (Checked (Cond B)) (bound_by_parts how schema references) at a ∙ (emptiness_agrees rules how agrees schema references at a).answers bound is
  cond_returns {A = A} {B = B} rules how agrees schema references w c (rule.Related at p a b bound is) =
      folds.fold-Relates A (Checked (Cond B)) (bound_by_parts how schema references) at p a b ∙ (relation_agrees rules how agrees schema references at p a b).answers bound is

  conds_answer : {T A B C D : Type 0} (rules : GeometryRules T A B C D) (how : GeometryBinding T A B C D) (agrees : GeometryAgrees rules how) (schema : List (TableDef T)) (references : List Reference) (ws : List (WrittenCond A)) (cs : List (Cond B))
      → AreConds rules schema references ws cs → each (map (bound_cond how schema references) ws) ≡ Ok cs
  conds_answer rules how agrees schema references ws cs rule.NoCond = refl
  conds_answer rules how agrees schema references ws cs (rule.Before part parts bound more is are) =
      ap₂ (λ r s. and_then r (λ x. and_then s (λ xs. Ok (x ∷ xs)))) (cond_returns rules how agrees schema references part bound is) (conds_answer rules how agrees schema references parts more are)

-- and where they refuse a part, its fault is the condition's, since the parts before it are bound
mutual
  cond_refuses : {T A B C D : Type 0} (rules : GeometryRules T A B C D) (how : GeometryBinding T A B C D) (agrees : GeometryAgrees rules how) (schema : List (TableDef T)) (references : List Reference) (w : WrittenCond A) (f : QueryFault)
      → IsRefusedCond rules schema references w f → bound_cond how schema references w ≡ Err f
  cond_refuses {A = A} {B = B} rules how agrees schema references w f (rule.InOr parts fault are) =
      folds.fold-Or A (Checked (Cond B)) (bound_by_parts how schema references) parts ∙ ap (λ r. r >>= (λ cs. Ok (conds.Or cs))) (conds_refuse rules how agrees schema references parts fault are)
  cond_refuses {A = A} {B = B} rules how agrees schema references w f (rule.InAnd parts fault are) =
      folds.fold-And A (Checked (Cond B)) (bound_by_parts how schema references) parts ∙ ap (λ r. r >>= (λ cs. Ok (conds.And cs))) (conds_refuse rules how agrees schema references parts fault are)
  cond_refuses {A = A} {B = B} rules how agrees schema references w f (rule.InNot part fault is) =
      folds.fold-Not A (Checked (Cond B)) (bound_by_parts how schema references) part ∙ ap (λ r. r >>= (λ x. Ok (conds.Not x))) (cond_refuses rules how agrees schema references part fault is)
  cond_refuses {A = A} {B = B} rules how agrees schema references w f (rule.InComparison at sign a b fault is) =
      folds.fold-Compare A (Checked (Cond B)) (bound_by_parts how schema references) at sign a b ∙ (comparison_agrees rules how agrees schema references at sign a b).refuses fault is
  cond_refuses {A = A} {B = B} rules how agrees schema references w f (rule.InNull a fault is) =
      folds.fold-IsNull A (Checked (Cond B)) (bound_by_parts how schema references) a ∙ (null_agrees rules how agrees schema references a).refuses fault is
  cond_refuses {A = A} {B = B} rules how agrees schema references w f (rule.InEmpty at a fault is) =
      folds.fold-IsEmpty A (Checked (Cond B)) (bound_by_parts how schema references) at a ∙ (emptiness_agrees rules how agrees schema references at a).refuses fault is
  cond_refuses {A = A} {B = B} rules how agrees schema references w f (rule.InRelation at p a b fault is) =
      folds.fold-Relates A (Checked (Cond B)) (bound_by_parts how schema references) at p a b ∙ (relation_agrees rules how agrees schema references at p a b).refuses fault is

  conds_refuse : {T A B C D : Type 0} (rules : GeometryRules T A B C D) (how : GeometryBinding T A B C D) (agrees : GeometryAgrees rules how) (schema : List (TableDef T)) (references : List Reference) (ws : List (WrittenCond A)) (f : QueryFault)
      → AreRefused rules schema references ws f → each (map (bound_cond how schema references) ws) ≡ Err f
  conds_refuse rules how agrees schema references ws f (rule.InFirst part parts fault is) =
      ap (λ r. and_then r (λ x. and_then (each (map (bound_cond how schema references) parts)) (λ xs. Ok (x ∷ xs)))) (cond_refuses rules how agrees schema references part fault is)
  conds_refuse rules how agrees schema references ws f (rule.InLater part parts bound fault is are) =
      ap₂ (λ r s. and_then r (λ x. and_then s (λ xs. Ok (x ∷ xs)))) (cond_returns rules how agrees schema references part bound is) (conds_refuse rules how agrees schema references parts fault are)

-- what is returned the rules say, and what they say is returned
pub cond_agrees : {T A B C D : Type 0} (rules : GeometryRules T A B C D) (how : GeometryBinding T A B C D) → GeometryAgrees rules how → (schema : List (TableDef T)) (references : List Reference) (w : WrittenCond A)
    → Agrees (IsCond rules schema references w) (IsRefusedCond rules schema references w) (bound_cond how schema references w)
unfolding Forward
cond_agrees rules how agrees schema references w = record {
  applies = (conds_forward rules how agrees schema references w).0;
  refused = (conds_forward rules how agrees schema references w).1;
  answers = λ c is. cond_returns rules how agrees schema references w c is;
  refuses = λ f is. cond_refuses rules how agrees schema references w f is;
}
