-- Induction over a condition: what holds of a condition once it holds of its parts.
use Rattle.std.proofs.Common.{List, [], ◌∷◌, map, subst}
use Rattle.geometry_model.specs.declared.relations.Predicate.{Predicate}
use Rattle.table_model.specs.declared.conditions.Comparison.{Comparison}
use Rattle.table_model.specs.declared.conditions.Operand.{Operand}
use Rattle.table_model.specs.declared.conditions.Cond.{Cond}
use Rattle.table_model.specs.declared.conditions.Cond.TheVariants as conds
use Rattle.table_model.specs.declared.conditions.Cond.TheFolds.{ind-Cond, map-Cond}
use Rattle.table_model.specs.declared.conditions.Cond.TheViews.{roll-Cond}
use Rattle.table_model.specs.declared.conditions.Cond.TheOpen.{Cond-F}
use denote.Hole.Carrier.{roll}

-- a fact of each element of a list
abbrev pub Each : {X : Type 0} → (X → Type 0) → List X → Type 0
Each P [] = Unit {0}
Each P (x ∷ xs) = P x × Each P xs

-- what holds of all images holds of each element of a mapped list
each_mapped : {X S : Type 0} (P : X → Type 0) (f : S → X) (g : (s : S) → P (f s)) (ss : List S) → Each P (map f ss)
each_mapped P f g [] = tt
each_mapped P f g (s ∷ ss) = (g s, each_mapped P f g ss)

-- what is to be shown of each kind of condition
pub record Cases (A : Type 0) (P : Cond A → Type 0) : Type 0 where
  pub or : (parts : List (Cond A)) → Each P parts → P (conds.Or parts)
  pub and : (parts : List (Cond A)) → Each P parts → P (conds.And parts)
  pub not : (part : Cond A) → P part → P (conds.Not part)
  pub compare : (sign : Comparison) (a b : Operand A) → P (conds.Compare sign a b)
  pub is_null : (a : Operand A) → P (conds.IsNull a)
  pub is_empty : (a : A) → P (conds.IsEmpty a)
  pub relates : (predicate : Predicate) (a b : A) → P (conds.Relates predicate a b)

-- one layer of a condition over its parts: what holds of the parts holds of it, by the case of its kind
layer : {A S : Type 0} (P : Cond A → Type 0) (f : S → Cond A) (g : (s : S) → P (f s)) → Cases A P → (y : Cond-F A S) → P (roll-Cond A (map-Cond A S (Cond A) f y))
unfolding roll-Cond roll
layer P f g cases (Cond-F.Or ys) = cases.or (map f ys) (each_mapped P f g ys)
layer P f g cases (Cond-F.And ys) = cases.and (map f ys) (each_mapped P f g ys)
layer P f g cases (Cond-F.Not s) = cases.not (f s) (g s)
layer P f g cases (Cond-F.Compare sign a b) = cases.compare sign a b
layer P f g cases (Cond-F.IsNull a) = cases.is_null a
layer P f g cases (Cond-F.IsEmpty a) = cases.is_empty a
layer P f g cases (Cond-F.Relates predicate a b) = cases.relates predicate a b

-- what holds of a condition of each kind once it holds of its parts holds of all conditions
pub by_parts : {A : Type 0} (P : Cond A → Type 0) → Cases A P → (c : Cond A) → P c
by_parts {A = A} P cases = ind-Cond A P (λ x y e. subst (λ z. P (roll-Cond A z)) e (layer P (λ s. s.0) (λ s. s.1) cases y))
