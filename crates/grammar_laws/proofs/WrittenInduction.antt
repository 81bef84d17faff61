-- Induction over a written condition: what holds of a condition once it holds of its parts.
use Rattle.std.proofs.Common.{ℕ, List, [], ◌∷◌, map, subst}
use Rattle.table_model.specs.declared.conditions.Comparison.{Comparison}
use Rattle.table_model.specs.declared.queries.WrittenOperand.{WrittenOperand}
use Rattle.table_model.specs.declared.queries.WrittenPredicate.{WrittenPredicate}
use Rattle.table_model.specs.declared.queries.WrittenCond.{WrittenCond}
use Rattle.table_model.specs.declared.queries.WrittenCond.TheVariants as written
use Rattle.table_model.specs.declared.queries.WrittenCond.TheFolds.{ind-WrittenCond, map-WrittenCond}
use Rattle.table_model.specs.declared.queries.WrittenCond.TheViews.{roll-WrittenCond}
use Rattle.table_model.specs.declared.queries.WrittenCond.TheOpen.{WrittenCond-F}
use Rattle.table_model.proofs.CondInduction.{Each}
use denote.Hole.Carrier.{roll}

each_mapped : {X S : Type 0} (P : X → Type 0) (f : S → X) (g : (s : S) → P (f s)) (ss : List S) → Each P (map f ss)
each_mapped P f g [] = tt
each_mapped P f g (s ∷ ss) = (g s, each_mapped P f g ss)

-- what is to be shown of each kind of condition
pub record WrittenCases (A : Type 0) (P : WrittenCond A → Type 0) : Type 0 where
  pub or : (parts : List (WrittenCond A)) → Each P parts → P (written.Or parts)
  pub and : (parts : List (WrittenCond A)) → Each P parts → P (written.And parts)
  pub not : (part : WrittenCond A) → P part → P (written.Not part)
  pub compare : (at : ℕ) (sign : Comparison) (a b : WrittenOperand A) → P (written.Compare at sign a b)
  pub is_null : (a : WrittenOperand A) → P (written.IsNull a)
  pub is_empty : (at : ℕ) (a : A) → P (written.IsEmpty at a)
  pub relates : (at : ℕ) (predicate : WrittenPredicate) (a b : A) → P (written.Relates at predicate a b)

-- a condition by its outermost kind, where the claim is known of its parts
layer : {A S : Type 0} (P : WrittenCond A → Type 0) (f : S → WrittenCond A) (g : (s : S) → P (f s)) → WrittenCases A P → (y : WrittenCond-F A S) → P (roll-WrittenCond A (map-WrittenCond A S (WrittenCond A) f y))
unfolding roll-WrittenCond roll
layer P f g cases (WrittenCond-F.Or ys) = cases.or (map f ys) (each_mapped P f g ys)
layer P f g cases (WrittenCond-F.And ys) = cases.and (map f ys) (each_mapped P f g ys)
layer P f g cases (WrittenCond-F.Not s) = cases.not (f s) (g s)
layer P f g cases (WrittenCond-F.Compare at sign a b) = cases.compare at sign a b
layer P f g cases (WrittenCond-F.IsNull a) = cases.is_null a
layer P f g cases (WrittenCond-F.IsEmpty at a) = cases.is_empty at a
layer P f g cases (WrittenCond-F.Relates at predicate a b) = cases.relates at predicate a b

-- what each kind of condition has once its parts have it, every condition has
pub by_written : {A : Type 0} (P : WrittenCond A → Type 0) → WrittenCases A P → (w : WrittenCond A) → P w
by_written {A = A} P cases = ind-WrittenCond A P (λ x y e. subst (λ z. P (roll-WrittenCond A z)) e (layer P (λ s. s.0) (λ s. s.1) cases y))
