-- A value that a constant's type takes: what replaces the constant is the only thing that changes, and the types still fit.
use Rattle.std.proofs.Common.{◌≡◌, ◌<◌, ◌≤◌, ◌-◌, ◌+◌, ◌&&◌, ◌++◌, ◌∙◌, ℕ, zero, suc, Bool, true, false, nat_lt, if◌then◌else◌}
use Rattle.std.proofs.Common.{List, [], ◌∷◌, length, map, refl, sym, ap, ap₂, subst, arith, Option, Some, None, is_some}
use Rattle.std.proofs.Common.{slice_get, slice_set}
use Rattle.std.specs.List.{list_all}
use Rattle.std.specs.Option.{option_map}
use Rattle.std.proofs.lemmas.Bool.{and_parts, ltb-true, ltb-false}
use Rattle.std.proofs.lemmas.List.{set-append_left, set-append_right}
use Rattle.basics.proofs.Lists.{in_front, behind}
use Rattle.geometry_model.specs.declared.relations.Predicate.{Predicate}
use Rattle.statements.specs.Constants.{Argument, Constant, argument_of, argument_with, comparison_with, condition_with}
use Rattle.statements.specs.Constants.{conditions_with, IsSound, may_replace, of_argument, of_condition, of_conditions}
use Rattle.statements.specs.Constants.{of_operand, operand_with, relation_with, type_of}
use Rattle.statements.proofs.ConstantFacts.{constants-Or, constants-And, constants-Not, constants-Compare, constants-IsNull}
use Rattle.statements.proofs.ConstantFacts.{constants-IsEmpty, constants-Relates, with-Or, with-And, with-Not, with-Compare}
use Rattle.statements.proofs.ConstantFacts.{with-IsNull, with-IsEmpty, with-Relates, in_first, in_others}
use Rattle.table_model.specs.BoundQueries.{argument_fits, can_compare, cond_fits, fits_by_parts, geometry_fits, operand_type}
use Rattle.table_model.specs.BoundQueries.{type_if}
use Rattle.table_model.specs.GeometryColumns.{ColumnShape}
use Rattle.table_model.specs.declared.conditions.Comparison.{Comparison}
use Rattle.table_model.specs.declared.conditions.Cond.{Cond}
use Rattle.table_model.specs.declared.conditions.Cond.TheVariants as conds
use Rattle.table_model.specs.declared.conditions.GeometryArgument.TheVariants as arguments
use Rattle.table_model.specs.declared.conditions.Operand.{Operand}
use Rattle.table_model.specs.declared.conditions.Operand.TheVariants as operands
use Rattle.table_model.specs.declared.conditions.Reference.{Reference}
use Rattle.table_model.specs.declared.definitions.TableDef.{TableDef}
use Rattle.table_model.specs.declared.typing.OperandType.{OperandType}
use Rattle.table_model.specs.declared.typing.OperandType.TheVariants as types
use Rattle.table_model.specs.declared.values.Value.TheVariants as values
use Rattle.table_model.proofs.CondFolds.{fold-Or, fold-And, fold-Not, fold-Compare, fold-IsNull, fold-IsEmpty, fold-Relates}
use Rattle.table_model.proofs.CondInduction.{Each, by_parts}

-- the k-th of some constants takes the value
abbrev pub May : Constant → List Constant → ℕ → Type 0
May v xs k = may_replace (option_map type_of (slice_get xs k)) v ≡ true

-- the same at a place of equal content
may_at : (v : Constant) (a b : Option Constant) → a ≡ b → may_replace (option_map type_of a) v ≡ true
    → may_replace (option_map type_of b) v ≡ true
may_at v a b e m = subst (λ o. may_replace (option_map type_of o) v ≡ true) e m

-- ---- types

-- a side of this new type fits wherever one of the old type does
record TypeStays (old new : Option OperandType) : Type 0 where
  is_type : is_some old ≡ true → is_some new ≡ true
  left : (other : Option OperandType) → can_compare old other ≡ true → can_compare new other ≡ true
  right : (other : Option OperandType) → can_compare other old ≡ true → can_compare other new ≡ true

same_type : (t : Option OperandType) → TypeStays t t
same_type t = record { is_type = λ e. e; left = λ other e. e; right = λ other e. e }

null_left : (old other : Option OperandType) → can_compare old other ≡ true → can_compare (Some types.Null) other ≡ true
null_left None other e = cc
null_left (Some old) None e = cc
null_left (Some old) (Some types.Integer) e = refl
null_left (Some old) (Some types.Text) e = refl
null_left (Some old) (Some types.Null) e = refl
null_left (Some types.Integer) (Some types.Geometry) e = cc
null_left (Some types.Text) (Some types.Geometry) e = cc
null_left (Some types.Geometry) (Some types.Geometry) e = cc
null_left (Some types.Null) (Some types.Geometry) e = cc

null_right : (old other : Option OperandType) → can_compare other old ≡ true → can_compare other (Some types.Null) ≡ true
null_right old None e = cc
null_right None (Some other) e = cc
null_right (Some old) (Some types.Integer) e = refl
null_right (Some old) (Some types.Text) e = refl
null_right (Some old) (Some types.Null) e = refl
null_right (Some types.Integer) (Some types.Geometry) e = cc
null_right (Some types.Text) (Some types.Geometry) e = cc
null_right (Some types.Geometry) (Some types.Geometry) e = cc
null_right (Some types.Null) (Some types.Geometry) e = cc

to_null : (t : Option OperandType) → TypeStays t (Some types.Null)
to_null t = record { is_type = λ e. refl; left = null_left t; right = null_right t }

no_type : (t : Option OperandType) → TypeStays None t
no_type t = record { is_type = λ e. cc; left = λ other e. cc; right = none_right }
  where
    none_right : (other : Option OperandType) → can_compare other None ≡ true → can_compare other t ≡ true
    none_right None e = cc
    none_right (Some other) e = cc

if_stays : (x y : Bool) (t : OperandType) → (x ≡ true → y ≡ true) → TypeStays (type_if x t) (type_if y t)
if_stays false y t h = no_type (type_if y t)
if_stays true y t h = subst (λ b. TypeStays (Some t) (type_if b t)) (sym (h refl)) (same_type (Some t))

-- ---- arguments

record ArgumentFacts (v : Constant) (a b : Argument) (k : ℕ) : Type 0 where
  constants : of_argument b ≡ slice_set (of_argument a) k v
  same : slice_get (of_argument a) k ≡ Some v → b ≡ a
  fits : IsSound v → (d : List (TableDef ColumnShape)) (r : List Reference) → argument_fits d r a ≡ true
      → argument_fits d r b ≡ true

argument_facts : (v : Constant) (a : Argument) (k : ℕ) → May v (of_argument a) k → ArgumentFacts v a (argument_with k v a) k
argument_facts v (arguments.Column place) k m = absurd (cc)
argument_facts v (arguments.Literal h) (suc k) m = absurd (cc)
argument_facts values.Null (arguments.Literal h) zero m = absurd (cc)
argument_facts (values.Integer n) (arguments.Literal h) zero m = absurd (cc)
argument_facts (values.Text bytes) (arguments.Literal h) zero m = absurd (cc)
argument_facts (values.Geometry g) (arguments.Literal h) zero m =
    record { constants = refl; same = λ e. cc; fits = λ sound d r e. sound }

-- ---- sides of comparisons

record OperandFacts (v : Constant) (a b : Operand Argument) (k : ℕ) : Type 0 where
  constants : of_operand b ≡ slice_set (of_operand a) k v
  same : slice_get (of_operand a) k ≡ Some v → b ≡ a
  fits : IsSound v → (d : List (TableDef ColumnShape)) (r : List Reference)
      → TypeStays (operand_type geometry_fits d r a) (operand_type geometry_fits d r b)

one_constant : (v : Constant) (a : Argument) (k : ℕ) → May v (of_argument a) (suc k) → ⊥
one_constant v (arguments.Column place) k m = cc
one_constant v (arguments.Literal g) k m = cc

operand_facts : (v : Constant) (a : Operand Argument) (k : ℕ) → May v (of_operand a) k → OperandFacts v a (operand_with k v a) k
operand_facts v (operands.Column place) k m = absurd (cc)
operand_facts v (operands.Integer n) (suc k) m = absurd (cc)
operand_facts values.Null (operands.Integer n) zero m =
    record { constants = refl; same = λ e. cc; fits = λ sound d r. to_null (Some types.Integer) }
operand_facts (values.Integer i) (operands.Integer n) zero m =
    record { constants = refl; same = λ e. cc; fits = λ sound d r. same_type (Some types.Integer) }
operand_facts (values.Text bytes) (operands.Integer n) zero m = absurd (cc)
operand_facts (values.Geometry g) (operands.Integer n) zero m = absurd (cc)
operand_facts v (operands.Text t) (suc k) m = absurd (cc)
operand_facts values.Null (operands.Text t) zero m =
    record { constants = refl; same = λ e. cc; fits = λ sound d r. to_null (Some types.Text) }
operand_facts (values.Integer i) (operands.Text t) zero m = absurd (cc)
operand_facts (values.Text bytes) (operands.Text t) zero m =
    record { constants = refl; same = λ e. cc; fits = λ sound d r. same_type (Some types.Text) }
operand_facts (values.Geometry g) (operands.Text t) zero m = absurd (cc)
operand_facts v operands.Null (suc k) m = absurd (cc)
operand_facts values.Null operands.Null zero m =
    record { constants = refl; same = λ e. refl; fits = λ sound d r. same_type (Some types.Null) }
operand_facts (values.Integer i) operands.Null zero m = absurd (cc)
operand_facts (values.Text bytes) operands.Null zero m = absurd (cc)
operand_facts (values.Geometry g) operands.Null zero m = absurd (cc)
operand_facts v (operands.AsText a) (suc k) m = absurd (one_constant v a k m)
operand_facts v (operands.AsText a) zero m =
    let f = argument_facts v a zero m in
    record {
      constants = f.constants;
      same = λ e. ap operands.AsText (f.same e);
      fits =
          λ sound d r. if_stays (argument_fits d r a) (argument_fits d r (argument_of v a)) types.Text (f.fits sound d r);
    }
operand_facts v (operands.Dimension a) (suc k) m = absurd (one_constant v a k m)
operand_facts v (operands.Dimension a) zero m =
    let f = argument_facts v a zero m in
    record {
      constants = f.constants;
      same = λ e. ap operands.Dimension (f.same e);
      fits =
          λ sound d r. if_stays (argument_fits d r a) (argument_fits d r (argument_of v a)) types.Integer (f.fits sound d r);
    }

-- ---- places in two lists, one after the other

later_place : (xs ys : List Constant) (k : ℕ) → length xs ≤ k → slice_get (xs ++ ys) k ≡ slice_get ys (k - length xs)
later_place xs ys k l = let e : k ≡ length xs + (k - length xs) = omega (arith, l) in ap (slice_get (xs ++ ys)) e
    ∙ behind xs ys (k - length xs)

-- ---- conditions

-- of a condition, and of it with a value in place of its k-th constant
pub record Facts (v : Constant) (c d : Cond Argument) (k : ℕ) : Type 0 where
  pub constants : of_condition d ≡ slice_set (of_condition c) k v
  pub same : slice_get (of_condition c) k ≡ Some v → d ≡ c
  pub fits : IsSound v → (schema : List (TableDef ColumnShape)) (r : List Reference) → cond_fits geometry_fits schema r c ≡ true
      → cond_fits geometry_fits schema r d ≡ true

abbrev HasFacts : Constant → Cond Argument → Type 0
HasFacts v c = (k : ℕ) → May v (of_condition c) k → Facts v c (condition_with k v c) k

-- the same of some conditions, one after another
pub record AllFacts (v : Constant) (cs ds : List (Cond Argument)) (k : ℕ) : Type 0 where
  pub constants : of_conditions ds ≡ slice_set (of_conditions cs) k v
  pub same : slice_get (of_conditions cs) k ≡ Some v → ds ≡ cs
  pub fits : IsSound v → (schema : List (TableDef ColumnShape)) (r : List Reference)
      → list_all (cond_fits geometry_fits schema r) cs ≡ true → list_all (cond_fits geometry_fits schema r) ds ≡ true

module _ (v : Constant) where
  front : (c d : Cond Argument) (cs : List (Cond Argument)) (k : ℕ) → k < length (of_condition c) → Facts v c d k
      → AllFacts v (c ∷ cs) (d ∷ cs) k
  front c d cs k l f = record {
    constants = ap (λ xs. xs ++ of_conditions cs) f.constants ∙ sym (set-append_left (of_condition c) (of_conditions cs) k v l);
    same = λ e. ap (λ x. x ∷ cs) (f.same (sym (in_front (of_condition c) (of_conditions cs) k l) ∙ e));
    fits = λ sound schema r e. let p =
        and_parts (cond_fits geometry_fits schema r c) (list_all (cond_fits geometry_fits schema r) cs) e in
        ap₂ (λ x y. x && y) (f.fits sound schema r p.0) p.1;
  }

  rest : (c : Cond Argument) (cs ds : List (Cond Argument)) (k : ℕ) → length (of_condition c) ≤ k
      → AllFacts v cs ds (k - length (of_condition c)) → AllFacts v (c ∷ cs) (c ∷ ds) k
  rest c cs ds k l f = record {
    constants = ap (λ xs. of_condition c ++ xs) f.constants
        ∙ sym (set-append_right (of_condition c) (of_conditions cs) (length (of_condition c)) k v refl l);
    same = λ e. ap (λ xs. c ∷ xs) (f.same (sym (later_place (of_condition c) (of_conditions cs) k l) ∙ e));
    fits = λ sound schema r e. let p =
        and_parts (cond_fits geometry_fits schema r c) (list_all (cond_fits geometry_fits schema r) cs) e in
        ap₂ (λ x y. x && y) p.0 (f.fits sound schema r p.1);
  }

  all_facts : (cs : List (Cond Argument)) → Each (HasFacts v) cs → (k : ℕ) → May v (of_conditions cs) k
      → AllFacts v cs (conditions_with k v cs) k
  all_facts [] each k m = absurd (cc)
  all_facts (c ∷ cs) each k m = go (nat_lt k (length (of_condition c))) refl (all_facts cs each.1)
    where
      go : (b : Bool) → nat_lt k (length (of_condition c)) ≡ b
          → ((j : ℕ) → May v (of_conditions cs) j → AllFacts v cs (conditions_with j v cs) j)
          → AllFacts v (c ∷ cs) (conditions_with k v (c ∷ cs)) k
      go true e later =
          let l = ltb-true k (length (of_condition c)) e in
          subst (λ ds. AllFacts v (c ∷ cs) ds k) (sym (in_first k v c cs l))
          (front c (condition_with k v c) cs k l (each.0 k (may_at v _ _ (in_front (of_condition c) (of_conditions cs) k l) m)))
      go false e later =
          let l = ltb-false k (length (of_condition c)) e in
          subst (λ ds. AllFacts v (c ∷ cs) ds k) (sym (in_others k v c cs l))
          (rest c cs (conditions_with (k - length (of_condition c)) v cs) k l
          (later (k - length (of_condition c)) (may_at v _ _ (later_place (of_condition c) (of_conditions cs) k l) m)))

  -- ---- each kind of condition

  changed_set : (xs ys : List Constant) (k : ℕ) → xs ≡ ys → slice_set ys k v ≡ slice_set xs k v
  changed_set xs ys k e = ap (λ zs. slice_set zs k v) (sym e)

  placed : (xs ys : List Constant) (k : ℕ) → xs ≡ ys → slice_get xs k ≡ slice_get ys k
  placed xs ys k e = ap (λ zs. slice_get zs k) e

  same_fits : (schema : List (TableDef ColumnShape)) (r : List Reference) (c d : Cond Argument) (x y : Bool)
      → cond_fits geometry_fits schema r c ≡ x → cond_fits geometry_fits schema r d ≡ y
      → (x ≡ true → y ≡ true) → cond_fits geometry_fits schema r c ≡ true → cond_fits geometry_fits schema r d ≡ true
  same_fits schema r c d x y c_is d_is h e = d_is ∙ h (sym c_is ∙ e)

  all_mapped : (f : Cond Argument → Bool) (cs : List (Cond Argument)) → list_all (λ b. b) (map f cs) ≡ list_all f cs
  all_mapped f [] = refl
  all_mapped f (c ∷ cs) = ap (λ b. f c && b) (all_mapped f cs)

  or_fits : (schema : List (TableDef ColumnShape)) (r : List Reference) (cs : List (Cond Argument))
      → cond_fits geometry_fits schema r (conds.Or cs) ≡ list_all (cond_fits geometry_fits schema r) cs
  or_fits schema r cs = fold-Or Argument Bool (fits_by_parts geometry_fits schema r) cs
      ∙ all_mapped (cond_fits geometry_fits schema r) cs

  and_fits : (schema : List (TableDef ColumnShape)) (r : List Reference) (cs : List (Cond Argument))
      → cond_fits geometry_fits schema r (conds.And cs) ≡ list_all (cond_fits geometry_fits schema r) cs
  and_fits schema r cs = fold-And Argument Bool (fits_by_parts geometry_fits schema r) cs
      ∙ all_mapped (cond_fits geometry_fits schema r) cs

  or_facts : (cs ds : List (Cond Argument)) (k : ℕ) → AllFacts v cs ds k → Facts v (conds.Or cs) (conds.Or ds) k
  or_facts cs ds k f = record {
    constants = constants-Or ds ∙ f.constants ∙ changed_set (of_condition (conds.Or cs)) (of_conditions cs) k (constants-Or cs);
    same = λ e. ap conds.Or (f.same (sym (placed (of_condition (conds.Or cs)) (of_conditions cs) k (constants-Or cs)) ∙ e));
    fits = λ sound schema r. same_fits schema r (conds.Or cs) (conds.Or ds) (list_all (cond_fits geometry_fits schema r) cs)
        (list_all (cond_fits geometry_fits schema r) ds)
        (or_fits schema r cs) (or_fits schema r ds) (f.fits sound schema r);
  }

  and_facts : (cs ds : List (Cond Argument)) (k : ℕ) → AllFacts v cs ds k → Facts v (conds.And cs) (conds.And ds) k
  and_facts cs ds k f = record {
    constants = constants-And ds ∙ f.constants
        ∙ changed_set (of_condition (conds.And cs)) (of_conditions cs) k (constants-And cs);
    same = λ e. ap conds.And (f.same (sym (placed (of_condition (conds.And cs)) (of_conditions cs) k (constants-And cs)) ∙ e));
    fits = λ sound schema r. same_fits schema r (conds.And cs) (conds.And ds) (list_all (cond_fits geometry_fits schema r) cs)
        (list_all (cond_fits geometry_fits schema r) ds)
        (and_fits schema r cs) (and_fits schema r ds) (f.fits sound schema r);
  }

  not_facts : (c d : Cond Argument) (k : ℕ) → Facts v c d k → Facts v (conds.Not c) (conds.Not d) k
  not_facts c d k f = record {
    constants = constants-Not d ∙ f.constants ∙ changed_set (of_condition (conds.Not c)) (of_condition c) k (constants-Not c);
    same = λ e. ap conds.Not (f.same (sym (placed (of_condition (conds.Not c)) (of_condition c) k (constants-Not c)) ∙ e));
    fits = λ sound schema r. same_fits schema r (conds.Not c) (conds.Not d) (cond_fits geometry_fits schema r c)
        (cond_fits geometry_fits schema r d)
        (fold-Not Argument Bool (fits_by_parts geometry_fits schema r) c)
        (fold-Not Argument Bool (fits_by_parts geometry_fits schema r) d) (f.fits sound schema r);
  }

  null_facts : (a b : Operand Argument) (k : ℕ) → OperandFacts v a b k → Facts v (conds.IsNull a) (conds.IsNull b) k
  null_facts a b k f = record {
    constants = constants-IsNull b ∙ f.constants
        ∙ changed_set (of_condition (conds.IsNull a)) (of_operand a) k (constants-IsNull a);
    same = λ e. ap conds.IsNull (f.same (sym (placed (of_condition (conds.IsNull a)) (of_operand a) k (constants-IsNull a)) ∙ e));
    fits = λ sound schema r. same_fits schema r (conds.IsNull a) (conds.IsNull b)
        (is_some (operand_type geometry_fits schema r a)) (is_some (operand_type geometry_fits schema r b))
        (fold-IsNull Argument Bool (fits_by_parts geometry_fits schema r) a)
        (fold-IsNull Argument Bool (fits_by_parts geometry_fits schema r) b) (λ e. (f.fits sound schema r).is_type e);
  }

  empty_facts : (a b : Argument) (k : ℕ) → ArgumentFacts v a b k → Facts v (conds.IsEmpty a) (conds.IsEmpty b) k
  empty_facts a b k f = record {
    constants = constants-IsEmpty b ∙ f.constants
        ∙ changed_set (of_condition (conds.IsEmpty a)) (of_argument a) k (constants-IsEmpty a);
    same = λ e. ap conds.IsEmpty (f.same (sym (placed (of_condition (conds.IsEmpty a)) (of_argument a) k (constants-IsEmpty a))
        ∙ e));
    fits = λ sound schema r. same_fits schema r (conds.IsEmpty a) (conds.IsEmpty b) (argument_fits schema r a)
        (argument_fits schema r b)
        (fold-IsEmpty Argument Bool (fits_by_parts geometry_fits schema r) a)
        (fold-IsEmpty Argument Bool (fits_by_parts geometry_fits schema r) b) (f.fits sound schema r);
  }

  -- ---- two sides

  compare_left : (sign : Comparison) (a x b : Operand Argument) (k : ℕ) → k < length (of_operand a) → OperandFacts v a x k
      → Facts v (conds.Compare sign a b) (conds.Compare sign x b) k
  compare_left sign a x b k l f = record {
    constants = constants-Compare sign x b ∙ ap (λ xs. xs ++ of_operand b) f.constants
        ∙ sym (set-append_left (of_operand a) (of_operand b) k v l)
        ∙ changed_set (of_condition (conds.Compare sign a b)) (of_operand a ++ of_operand b) k (constants-Compare sign a b);
    same = λ e. ap (λ y. conds.Compare sign y b) (f.same (sym (in_front (of_operand a) (of_operand b) k l)
        ∙ sym (placed (of_condition (conds.Compare sign a b)) (of_operand a ++ of_operand b) k (constants-Compare sign a b))
        ∙ e));
    fits = λ sound schema r. same_fits schema r (conds.Compare sign a b) (conds.Compare sign x b)
        (can_compare (operand_type geometry_fits schema r a) (operand_type geometry_fits schema r b))
        (can_compare (operand_type geometry_fits schema r x) (operand_type geometry_fits schema r b))
        (fold-Compare Argument Bool (fits_by_parts geometry_fits schema r) sign a b)
        (fold-Compare Argument Bool (fits_by_parts geometry_fits schema r) sign x b)
        (λ e. (f.fits sound schema r).left (operand_type geometry_fits schema r b) e);
  }

  compare_right : (sign : Comparison) (a b y : Operand Argument) (k : ℕ) → length (of_operand a) ≤ k
      → OperandFacts v b y (k - length (of_operand a)) → Facts v (conds.Compare sign a b) (conds.Compare sign a y) k
  compare_right sign a b y k l f = record {
    constants = constants-Compare sign a y ∙ ap (λ xs. of_operand a ++ xs) f.constants
        ∙ sym (set-append_right (of_operand a) (of_operand b) (length (of_operand a)) k v refl l)
        ∙ changed_set (of_condition (conds.Compare sign a b)) (of_operand a ++ of_operand b) k (constants-Compare sign a b);
    same = λ e. ap (λ z. conds.Compare sign a z) (f.same (sym (later_place (of_operand a) (of_operand b) k l)
        ∙ sym (placed (of_condition (conds.Compare sign a b)) (of_operand a ++ of_operand b) k (constants-Compare sign a b))
        ∙ e));
    fits = λ sound schema r. same_fits schema r (conds.Compare sign a b) (conds.Compare sign a y)
        (can_compare (operand_type geometry_fits schema r a) (operand_type geometry_fits schema r b))
        (can_compare (operand_type geometry_fits schema r a) (operand_type geometry_fits schema r y))
        (fold-Compare Argument Bool (fits_by_parts geometry_fits schema r) sign a b)
        (fold-Compare Argument Bool (fits_by_parts geometry_fits schema r) sign a y)
        (λ e. (f.fits sound schema r).right (operand_type geometry_fits schema r a) e);
  }

  compare_facts : (sign : Comparison) (a b : Operand Argument) (k : ℕ) → May v (of_operand a ++ of_operand b) k
      → Facts v (conds.Compare sign a b) (comparison_with k v sign a b) k
  compare_facts sign a b k m = go (nat_lt k (length (of_operand a))) refl
    where
      go : (t : Bool) → nat_lt k (length (of_operand a)) ≡ t → Facts v (conds.Compare sign a b) (comparison_with k v sign a b) k
      go true e =
          let l = ltb-true k (length (of_operand a)) e in
          subst (λ d. Facts v (conds.Compare sign a b) d k)
          (sym (ap (λ t. if t then conds.Compare sign (operand_with k v a) b else conds.Compare sign a
          (operand_with (k - length (of_operand a)) v b)) e))
          (compare_left sign a (operand_with k v a) b k l
          (operand_facts v a k (may_at v _ _ (in_front (of_operand a) (of_operand b) k l) m)))
      go false e =
          let l = ltb-false k (length (of_operand a)) e in
          subst (λ d. Facts v (conds.Compare sign a b) d k)
          (sym (ap (λ t. if t then conds.Compare sign (operand_with k v a) b else conds.Compare sign a
          (operand_with (k - length (of_operand a)) v b)) e))
          (compare_right sign a b (operand_with (k - length (of_operand a)) v b) k l
          (operand_facts v b (k - length (of_operand a)) (may_at v _ _ (later_place (of_operand a) (of_operand b) k l) m)))

  relates_left : (p : Predicate) (a x b : Argument) (k : ℕ) → k < length (of_argument a) → ArgumentFacts v a x k
      → Facts v (conds.Relates p a b) (conds.Relates p x b) k
  relates_left p a x b k l f = record {
    constants = constants-Relates p x b ∙ ap (λ xs. xs ++ of_argument b) f.constants
        ∙ sym (set-append_left (of_argument a) (of_argument b) k v l)
        ∙ changed_set (of_condition (conds.Relates p a b)) (of_argument a ++ of_argument b) k (constants-Relates p a b);
    same = λ e. ap (λ y. conds.Relates p y b) (f.same (sym (in_front (of_argument a) (of_argument b) k l)
        ∙ sym (placed (of_condition (conds.Relates p a b)) (of_argument a ++ of_argument b) k (constants-Relates p a b)) ∙ e));
    fits = λ sound schema r. same_fits schema r (conds.Relates p a b) (conds.Relates p x b)
        (argument_fits schema r a && argument_fits schema r b) (argument_fits schema r x && argument_fits schema r b)
        (fold-Relates Argument Bool (fits_by_parts geometry_fits schema r) p a b)
        (fold-Relates Argument Bool (fits_by_parts geometry_fits schema r) p x b)
        (λ e. let h = and_parts (argument_fits schema r a) (argument_fits schema r b) e in ap₂ (λ x y. x && y)
        (f.fits sound schema r h.0) h.1);
  }

  relates_right : (p : Predicate) (a b y : Argument) (k : ℕ) → length (of_argument a) ≤ k
      → ArgumentFacts v b y (k - length (of_argument a)) → Facts v (conds.Relates p a b) (conds.Relates p a y) k
  relates_right p a b y k l f = record {
    constants = constants-Relates p a y ∙ ap (λ xs. of_argument a ++ xs) f.constants
        ∙ sym (set-append_right (of_argument a) (of_argument b) (length (of_argument a)) k v refl l)
        ∙ changed_set (of_condition (conds.Relates p a b)) (of_argument a ++ of_argument b) k (constants-Relates p a b);
    same = λ e. ap (λ z. conds.Relates p a z) (f.same (sym (later_place (of_argument a) (of_argument b) k l)
        ∙ sym (placed (of_condition (conds.Relates p a b)) (of_argument a ++ of_argument b) k (constants-Relates p a b)) ∙ e));
    fits = λ sound schema r. same_fits schema r (conds.Relates p a b) (conds.Relates p a y)
        (argument_fits schema r a && argument_fits schema r b) (argument_fits schema r a && argument_fits schema r y)
        (fold-Relates Argument Bool (fits_by_parts geometry_fits schema r) p a b)
        (fold-Relates Argument Bool (fits_by_parts geometry_fits schema r) p a y)
        (λ e. let h = and_parts (argument_fits schema r a) (argument_fits schema r b) e in ap₂ (λ x y. x && y) h.0
        (f.fits sound schema r h.1));
  }

  relates_facts : (p : Predicate) (a b : Argument) (k : ℕ) → May v (of_argument a ++ of_argument b) k
      → Facts v (conds.Relates p a b) (relation_with k v p a b) k
  relates_facts p a b k m = go (nat_lt k (length (of_argument a))) refl
    where
      go : (t : Bool) → nat_lt k (length (of_argument a)) ≡ t → Facts v (conds.Relates p a b) (relation_with k v p a b) k
      go true e =
          let l = ltb-true k (length (of_argument a)) e in
          subst (λ d. Facts v (conds.Relates p a b) d k)
          (sym (ap (λ t. if t then conds.Relates p (argument_with k v a) b else conds.Relates p a
          (argument_with (k - length (of_argument a)) v b)) e))
          (relates_left p a (argument_with k v a) b k l
          (argument_facts v a k (may_at v _ _ (in_front (of_argument a) (of_argument b) k l) m)))
      go false e =
          let l = ltb-false k (length (of_argument a)) e in
          subst (λ d. Facts v (conds.Relates p a b) d k)
          (sym (ap (λ t. if t then conds.Relates p (argument_with k v a) b else conds.Relates p a
          (argument_with (k - length (of_argument a)) v b)) e))
          (relates_right p a b (argument_with (k - length (of_argument a)) v b) k l
          (argument_facts v b (k - length (of_argument a)) (may_at v _ _ (later_place (of_argument a) (of_argument b) k l) m)))

  -- ---- all conditions

  at_kind : (c d : Cond Argument) (k : ℕ) → condition_with k v c ≡ d → Facts v c d k → Facts v c (condition_with k v c) k
  at_kind c d k e f = subst (λ x. Facts v c x k) (sym e) f

  may_in : (c : Cond Argument) (xs : List Constant) (k : ℕ) → of_condition c ≡ xs → May v (of_condition c) k → May v xs k
  may_in c xs k e m = may_at v _ _ (placed (of_condition c) xs k e) m

  facts : (c : Cond Argument) → HasFacts v c
  facts = by_parts (HasFacts v) (record {
    or = λ parts each k m. at_kind (conds.Or parts) (conds.Or (conditions_with k v parts)) k (with-Or k v parts)
        (or_facts parts (conditions_with k v parts) k
        (all_facts parts each k (may_in (conds.Or parts) (of_conditions parts) k (constants-Or parts) m)));
    and = λ parts each k m. at_kind (conds.And parts) (conds.And (conditions_with k v parts)) k (with-And k v parts)
        (and_facts parts (conditions_with k v parts) k
        (all_facts parts each k (may_in (conds.And parts) (of_conditions parts) k (constants-And parts) m)));
    not = λ part h k m. at_kind (conds.Not part) (conds.Not (condition_with k v part)) k (with-Not k v part)
        (not_facts part (condition_with k v part) k (h k (may_in (conds.Not part) (of_condition part) k (constants-Not part) m)));
    compare = λ sign a b k m. at_kind (conds.Compare sign a b) (comparison_with k v sign a b) k (with-Compare k v sign a b)
        (compare_facts sign a b k
        (may_in (conds.Compare sign a b) (of_operand a ++ of_operand b) k (constants-Compare sign a b) m));
    is_null = λ a k m. at_kind (conds.IsNull a) (conds.IsNull (operand_with k v a)) k (with-IsNull k v a)
        (null_facts a (operand_with k v a) k
        (operand_facts v a k (may_in (conds.IsNull a) (of_operand a) k (constants-IsNull a) m)));
    is_empty = λ a k m. at_kind (conds.IsEmpty a) (conds.IsEmpty (argument_with k v a)) k (with-IsEmpty k v a)
        (empty_facts a (argument_with k v a) k
        (argument_facts v a k (may_in (conds.IsEmpty a) (of_argument a) k (constants-IsEmpty a) m)));
    relates = λ p a b k m. at_kind (conds.Relates p a b) (relation_with k v p a b) k (with-Relates k v p a b)
        (relates_facts p a b k (may_in (conds.Relates p a b) (of_argument a ++ of_argument b) k (constants-Relates p a b) m));
  })

  each_of : (cs : List (Cond Argument)) → Each (HasFacts v) cs
  each_of [] = tt
  each_of (c ∷ cs) = (facts c, each_of cs)

  -- of any conditions, one after another
  pub of_all : (cs : List (Cond Argument)) (k : ℕ) → May v (of_conditions cs) k → AllFacts v cs (conditions_with k v cs) k
  of_all cs = all_facts cs (each_of cs)
