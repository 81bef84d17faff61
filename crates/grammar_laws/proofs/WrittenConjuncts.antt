-- What the conjuncts of a written condition are bound to, at each of its variants.
use Rattle.std.proofs.Common.{◌≡◌, ℕ, Bool, true, false, List, [], ◌∷◌, ◌++◌, map, Ok, Err, refl, sym, ap, subst, ◌∙◌}
use Rattle.std.specs.List.{flat_map}
use Rattle.std.proofs.lemmas.List.Concat.{flat_map-cons}
use mathlib.Core.List.{map-map}
use Rattle.table_model.specs.Binding.{GeometryBinding, Checked, ◌>>=◌, bound_by_parts, bound_cond, bound_operand, bound_predicate, geometry_only, checked_types, comparable}
use Rattle.table_model.specs.Loading.{and_then, each}
use Rattle.table_model.specs.Statements.{conjuncts_of}
use Rattle.table_model.specs.declared.conditions.Cond.{Cond}
use Rattle.table_model.specs.declared.conditions.Cond.TheVariants as conds
use Rattle.table_model.specs.declared.conditions.Reference.{Reference}
use Rattle.table_model.specs.declared.definitions.TableDef.{TableDef}
use Rattle.table_model.specs.declared.queries.WrittenCond.{WrittenCond}
use Rattle.table_model.specs.declared.queries.WrittenCond.TheOpen.{WrittenCond-F}
use Rattle.table_model.proofs.WrittenFolds.{fold-Or, fold-And, fold-Not, fold-Compare, fold-IsNull, fold-IsEmpty, fold-Relates}
use Rattle.table_model.proofs.ConjunctFacts.{conjuncts-Or, conjuncts-And, conjuncts-Not, conjuncts-Compare, conjuncts-IsNull, conjuncts-IsEmpty, conjuncts-Relates}
use Rattle.grammar_laws.specs.FilterLaws.{joined_in_order, only, BoundByParts}

-- the conjuncts of an answer
abbrev split : {B : Type 0} → Checked (Cond B) → Checked (List (Cond B))
split r = r >>= (λ cond. Ok (conjuncts_of cond))

-- an answer that is one conjunct
abbrev IsAlone : {B : Type 0} → Checked (Cond B) → Type 0
IsAlone r = split r ≡ only r

-- a last step that makes one conjunct
after_all : {X B : Type 0} (r : Checked X) (f : X → Checked (Cond B)) → ((x : X) → IsAlone (f x)) → IsAlone (r >>= f)
after_all (Ok x) f alone = alone x
after_all (Err e) f alone = refl

-- a last step that makes a condition of an answer, which is its own only conjunct
made : {X B : Type 0} (r : Checked X) (v : X → Cond B) → ((x : X) → conjuncts_of (v x) ≡ v x ∷ []) → IsAlone (r >>= (λ x. Ok (v x)))
made r v one = after_all r (λ x. Ok (v x)) (λ x. ap Ok (one x))

-- likewise where a test of types comes first
checked : {B : Type 0} (fits : Bool) (at : ℕ) (cond : Cond B) → conjuncts_of cond ≡ cond ∷ [] → IsAlone (checked_types fits at cond)
checked true at cond one = ap Ok one
checked false at cond one = refl

-- the conjuncts of several conditions, one after another
parts_split : {B : Type 0} (rs : List (Checked (Cond B))) → (each rs >>= (λ parts. Ok (flat_map conjuncts_of parts))) ≡ joined_in_order (map split rs)
parts_split [] = refl
parts_split (Err e ∷ rs) = refl
parts_split {B = B} (Ok c ∷ rs) = step (each rs) (joined_in_order (map split rs)) (parts_split rs)
  where
    step : (r : Checked (List (Cond B))) (s : Checked (List (Cond B))) → (r >>= (λ parts. Ok (flat_map conjuncts_of parts))) ≡ s
        → ((and_then r (λ parts. Ok (c ∷ parts))) >>= (λ parts. Ok (flat_map conjuncts_of parts))) ≡ (s >>= (λ more. Ok (conjuncts_of c ++ more)))
    step (Ok parts) s is = ap Ok (flat_map-cons conjuncts_of c parts) ∙ ap (λ t. t >>= (λ more. Ok (conjuncts_of c ++ more))) is
    step (Err e) s is = ap (λ t. t >>= (λ more. Ok (conjuncts_of c ++ more))) is

-- the conjuncts of a condition that is made last are made last
split_after : {X B : Type 0} (r : Checked X) (v : X → Cond B) → split (r >>= (λ x. Ok (v x))) ≡ (r >>= (λ x. Ok (conjuncts_of (v x))))
split_after (Ok x) v = refl
split_after (Err e) v = refl

then_same : {X Y : Type 0} (r : Checked X) (f g : X → Checked Y) → ((x : X) → f x ≡ g x) → (r >>= f) ≡ (r >>= g)
then_same (Ok x) f g same = same x
then_same (Err e) f g same = refl

-- so an AND of bound parts has the conjuncts of its parts, in order
and_split : {B : Type 0} (rs : List (Checked (Cond B))) → split (each rs >>= (λ parts. Ok (conds.And parts))) ≡ joined_in_order (map split rs)
and_split rs = split_after (each rs) conds.And ∙ then_same (each rs) _ _ (λ parts. ap Ok (conjuncts-And parts)) ∙ parts_split rs

-- two steps before one conjunct change nothing about it
by_operand : {X Y B : Type 0} (left : Checked X) (right : Checked Y) (f : X → Y → Checked (Cond B)) → ((x : X) (y : Y) → IsAlone (f x y)) → IsAlone (left >>= (λ x. right >>= (λ y. f x y)))
by_operand left right f alone = after_all left _ (λ x. after_all right (f x) (λ y. alone x y))

-- at each kind of condition: AND has its parts' conjuncts, any other kind makes one conjunct in its last step
pub by_written_parts : {T A B C D : Type 0} (how : GeometryBinding T A B C D) (schema : List (TableDef T)) (references : List Reference) → BoundByParts how schema references
by_written_parts {A = A} {B = B} how schema references = record {
  and = λ parts. ap split (fold-And A (Checked (Cond B)) step parts) ∙ and_split (map bound parts) ∙ ap joined_in_order (map-map split bound parts);
  or = λ parts. subst IsAlone (sym (fold-Or A (Checked (Cond B)) step parts)) (made (each (map bound parts)) conds.Or conjuncts-Or);
  not = λ part. subst IsAlone (sym (fold-Not A (Checked (Cond B)) step part)) (made (bound part) conds.Not conjuncts-Not);
  compare = λ at sign a b. subst IsAlone (sym (fold-Compare A (Checked (Cond B)) step at sign a b))
      (by_operand (bound_operand how schema references a) (bound_operand how schema references b) _
      (λ x y. checked (comparable x.part_type y.part_type) at (conds.Compare sign x.part y.part) (conjuncts-Compare sign x.part y.part)));
  is_null = λ a. subst IsAlone (sym (fold-IsNull A (Checked (Cond B)) step a)) (made (bound_operand how schema references a) (λ x. conds.IsNull x.part) (λ x. conjuncts-IsNull x.part));
  is_empty = λ at a. subst IsAlone (sym (fold-IsEmpty A (Checked (Cond B)) step at a))
      (after_all (how.argument schema references a) _ (λ typed. made (geometry_only at typed) conds.IsEmpty conjuncts-IsEmpty));
  relates = λ at predicate a b. subst IsAlone (sym (fold-Relates A (Checked (Cond B)) step at predicate a b))
      (by_operand (how.argument schema references a) (how.argument schema references b) _
      (λ left right. after_all (bound_predicate how.pattern predicate) _
      (λ p. after_all (geometry_only at left) _
      (λ x. made (geometry_only at right) (λ y. conds.Relates p x y) (λ y. conjuncts-Relates p x y)))));
}
  where
    step : WrittenCond-F A (Checked (Cond B)) → Checked (Cond B)
    step = bound_by_parts how schema references

    bound : WrittenCond A → Checked (Cond B)
    bound = bound_cond how schema references
