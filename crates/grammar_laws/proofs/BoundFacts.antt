-- What is bound fits the definitions.
use Rattle.std.proofs.Common.{◌≡◌, ◌<◌, ◌+◌, ◌&&◌, inl, inr, ℕ, zero, suc, Bool, true, false, if◌then◌else◌, List, [], ◌∷◌, ◌++◌, length, map, Option, Some, None, Result, Ok, Err, IfOk, IfSome, refl, sym, ap, ap₂, subst, ◌∙◌, arith, add-zero}
use Rattle.std.specs.Prelude.{not, slice_get, is_some, is_none}
use Rattle.std.specs.List.{list_all, list_any, flat_map, enumerate_from, cons_option}
use Rattle.std.proofs.lemmas.List.Elements.{All-nil, All-cons}
use Rattle.std.proofs.lemmas.List.Quantifiers.{position-Some}
use Rattle.std.proofs.Math.Bool.{and-true}
use Rattle.std.proofs.lemmas.List.Folds.{list_all-append}
use Rattle.std.proofs.lemmas.Bool.{and_from}
use Rattle.basics.proofs.Bools.{never}
use Rattle.basics.proofs.Numbers.{from_zero, one_on}
use Rattle.geometry_model.specs.declared.text_faults.TextFault.{TextFault}
use Rattle.geometry_model.specs.declared.geometry_faults.GeometryFault.{GeometryFault}
use Rattle.geometry_model.specs.declared.validity_faults.ValidityFault.{ValidityFault}
use Rattle.geometry_model.specs.CheckedTexts.{geometry_in_text, tested, valid_or}
use Rattle.geometry_model.specs.FirstFaults.{validity_fault}
use Rattle.geometry_model.specs.Geometries.{Geometry}
use Rattle.geometry_model.specs.TextReading.{read_text}
use Rattle.table_model.specs.Binding.{GeometryBinding, Checked, ◌>>=◌, binding, bound_references, bound_reference, reference_at, table_place, named_apart, next_reference, references_after, name_start, columns_of, type_of, refers_to, column_named, found_in, column_meant, columns_meant, the_one, bound_column, geometry_of_type, geometry_only, unquoted, bound_operand, comparable, checked_types, bound_predicate, bound_by_parts, bound_cond, bound_condition, bound_item, bound_items, items_of, counts}
use Rattle.table_model.specs.BoundQueries.{GeometryFits, IsBound, AreReferences, place_type, column_type, reference_columns, is_geometry, operand_type, type_if, can_compare, fits_by_parts, cond_fits, item_fits, argument_fits, geometry_fits}
use Rattle.table_model.specs.GeometryColumns.{ColumnShape, geometry_binding, bound_argument, literal}
use Rattle.table_model.specs.Loading.{and_then, each}
use Rattle.table_model.specs.Outcomes.{Gives}
use Rattle.table_model.specs.References.{AreOneOrTwo}
use Rattle.table_model.specs.Statements.{conjuncts_of}
use Rattle.table_model.specs.Texts.{same_name}
use Rattle.table_model.specs.declared.conditions.Bound.{Bound}
use Rattle.table_model.specs.declared.conditions.ColumnPlace.{ColumnPlace}
use Rattle.table_model.specs.declared.conditions.Cond.{Cond}
use Rattle.table_model.specs.declared.conditions.Cond.TheVariants as conds
use Rattle.table_model.specs.declared.conditions.Cond.TheOpen.{Cond-F}
use Rattle.table_model.specs.declared.conditions.GeometryArgument.{GeometryArgument}
use Rattle.table_model.specs.declared.conditions.Item.TheVariants as items
use Rattle.table_model.specs.declared.conditions.Operand.{Operand}
use Rattle.table_model.specs.declared.conditions.Reference.{Reference}
use Rattle.table_model.specs.declared.definitions.ColumnDef.{ColumnDef}
use Rattle.table_model.specs.declared.definitions.TableDef.{TableDef}
use Rattle.table_model.specs.declared.faults.QueryFault.TheVariants as query_fault
use Rattle.table_model.specs.declared.queries.Query.{Query}
use Rattle.table_model.specs.declared.queries.Selection.{Selection}
use Rattle.table_model.specs.declared.queries.Selection.TheVariants as selections
use Rattle.table_model.specs.declared.queries.WrittenColumn.{WrittenColumn}
use Rattle.table_model.specs.declared.queries.WrittenCond.{WrittenCond}
use Rattle.table_model.specs.declared.queries.WrittenCond.TheOpen.{WrittenCond-F}
use Rattle.table_model.specs.declared.queries.WrittenGeometry.{WrittenGeometry}
use Rattle.table_model.specs.declared.queries.WrittenGeometry.TheVariants as written_geometry
use Rattle.table_model.specs.declared.queries.WrittenItem.{WrittenItem}
use Rattle.table_model.specs.declared.queries.WrittenItem.TheVariants as written_item
use Rattle.table_model.specs.declared.queries.WrittenOperand.{WrittenOperand}
use Rattle.table_model.specs.declared.queries.WrittenOperand.TheVariants as written_operand
use Rattle.table_model.specs.declared.queries.WrittenReference.{WrittenReference}
use Rattle.table_model.specs.declared.typing.Found.{Found}
use Rattle.table_model.specs.declared.typing.OperandType.{OperandType}
use Rattle.table_model.specs.declared.typing.OperandType.TheVariants as types
use Rattle.table_model.specs.declared.typing.Typed.{Typed}
use Rattle.table_model.proofs.CondFolds as cond_folds
use Rattle.table_model.proofs.CondInduction.{Each, by_parts}
use Rattle.table_model.proofs.ConjunctFacts.{conjuncts-Or, conjuncts-And, conjuncts-Not, conjuncts-Compare, conjuncts-IsNull, conjuncts-IsEmpty, conjuncts-Relates}
use Rattle.table_model.proofs.WrittenFolds as written_folds
use Rattle.grammar_laws.proofs.WrittenInduction.{by_written}
use Rattle.grammar_laws.specs.BoundLaws.{GeometryQueriesAreBound}

-- ---- steps

-- a step, and what follows from what it returns
then_ok : {X Y : Type 0} (r : Checked X) (f : X → Checked Y) (Q : X → Type 0) (P : Y → Type 0) → IfOk r Q → ((x : X) → Q x → IfOk (f x) P) → IfOk (r >>= f) P
then_ok (Ok x) f Q P is next = next x is
then_ok (Err e) f Q P is next = tt

-- a step of which nothing is asked
any_ok : {X Y : Type 0} (r : Checked X) (f : X → Checked Y) (P : Y → Type 0) → ((x : X) → IfOk (f x) P) → IfOk (r >>= f) P
any_ok (Ok x) f P next = next x
any_ok (Err e) f P next = tt

weaker : {X : Type 0} (r : Checked X) (P Q : X → Type 0) → ((x : X) → P x → Q x) → IfOk r P → IfOk r Q
weaker (Ok x) P Q to is = to x is
weaker (Err e) P Q to is = tt

front_ok : {X : Type 0} (p : X → Bool) (x : X) (r : Checked (List X)) → p x ≡ true → IfOk r (λ xs. list_all p xs ≡ true) → IfOk (and_then r (λ xs. Ok (x ∷ xs))) (λ xs. list_all p xs ≡ true)
front_ok p x (Ok xs) is are = and_from (p x) (list_all p xs) is are
front_ok p x (Err e) is are = tt

first_ok : {Y : Type 0} (p : Y → Bool) (first : Checked Y) (more : Checked (List Y)) → IfOk first (λ y. p y ≡ true) → IfOk more (λ ys. list_all p ys ≡ true)
    → IfOk (and_then first (λ y. and_then more (λ ys. Ok (y ∷ ys)))) (λ ys. list_all p ys ≡ true)
first_ok p (Ok y) more is are = front_ok p y more is are
first_ok p (Err e) more is are = tt

-- each answer passes, so their list does
each_ok : {X Y : Type 0} (f : X → Checked Y) (p : Y → Bool) (xs : List X) → Each (λ x. IfOk (f x) (λ y. p y ≡ true)) xs → IfOk (each (map f xs)) (λ ys. list_all p ys ≡ true)
each_ok f p [] are = refl
each_ok f p (x ∷ xs) are = first_ok p (f x) (each (map f xs)) are.0 (each_ok f p xs are.1)

-- ---- columns

if_some : {X : Type 0} (b : Bool) (x y : Option X) (P : X → Type 0) → IfSome x P → IfSome y P → IfSome (if b then x else y) P
if_some true x y P is other = is
if_some false x y P is other = other

-- the column of a name has the type that is found
named : {T : Type 0} (name : List ℕ) (all : List (ColumnDef T)) (k : ℕ) (columns : List (ColumnDef T)) → ((i : ℕ) → slice_get all (i + k) ≡ slice_get columns i)
    → IfSome (column_named name k columns) (λ f. column_type (slice_get all f.0) ≡ Some f.1)
named name all k [] applies = tt
named name all k (column ∷ columns) applies =
    if_some (same_name column.name name) (Some (k, type_of column.column_type)) (column_named name (k + 1) columns) (λ f. column_type (slice_get all f.0) ≡ Some f.1)
    (ap (λ n. column_type (slice_get all n)) (from_zero k) ∙ ap column_type (applies zero))
    (named name all (k + 1) columns (λ i. ap (slice_get all) (one_on i k) ∙ applies (suc i)))

abbrev pub HasType : {T : Type 0} → List (TableDef T) → List Reference → Found → Type 0
HasType schema references found = place_type schema references found.place ≡ Some found.column_type

-- a column that is found in a reference's table has its type at that place
in_reference : {T : Type 0} (schema : List (TableDef T)) (references : List Reference) (k : ℕ) (r : Reference) (o : Option (ℕ × OperandType)) → slice_get references k ≡ Some r
    → IfSome o (λ f. column_type (slice_get (columns_of schema r) f.0) ≡ Some f.1) → IfSome (found_in k o) (HasType schema references)
in_reference schema references k r None is has = tt
in_reference schema references k r (Some (column, type)) is has = ap (λ o. column_type (slice_get (reference_columns schema o) column)) is ∙ has

each_kept : {X : Type 0} (P : X → Type 0) (o : Option X) (xs : List X) → IfSome o P → Each P xs → Each P (cons_option o xs)
each_kept P None xs is are = are
each_kept P (Some x) xs is are = (is, are)

-- so each column that is meant in some references has its type at its place
meant : {T : Type 0} (schema : List (TableDef T)) (references : List Reference) (w : WrittenColumn) (k : ℕ) (rs : List Reference) → ((i : ℕ) → slice_get references (i + k) ≡ slice_get rs i)
    → Each (HasType schema references) (columns_meant schema w k rs)
meant schema references w k [] applies = tt
meant schema references w k (r ∷ rs) applies =
    each_kept (HasType schema references) (column_meant schema w k r) (columns_meant schema w (k + 1) rs)
    (if_some (refers_to w.reference r.name) (found_in k (column_named w.name.text zero (columns_of schema r))) None (HasType schema references)
    (in_reference schema references k r (column_named w.name.text zero (columns_of schema r)) (ap (slice_get references) (from_zero k) ∙ applies zero)
    (named w.name.text (columns_of schema r) zero (columns_of schema r) (λ i. ap (slice_get (columns_of schema r)) (add-zero i)))) tt)
    (meant schema references w (k + 1) rs (λ i. ap (slice_get references) (one_on i k) ∙ applies (suc i)))

-- where all columns that are meant have it, the only one has
the_one_ok : (P : Found → Type 0) (at : ℕ) (fs : List Found) → Each P fs → IfOk (the_one at fs) P
the_one_ok P at [] are = tt
the_one_ok P at (f ∷ []) are = are.0
the_one_ok P at (f ∷ g ∷ fs) are = tt

-- the column that a written one is bound to has this type
pub column_ok : {T : Type 0} (schema : List (TableDef T)) (references : List Reference) (w : WrittenColumn) → IfOk (bound_column schema references w) (HasType schema references)
column_ok schema references w =
    the_one_ok (HasType schema references) (name_start w.name w.reference) (columns_meant schema w zero references)
    (meant schema references w zero references (λ i. ap (slice_get references) (add-zero i)))

-- ---- conditions

-- arguments that are bound to geometries are geometries
pub record Fitting {T A B C D : Type 0} (how : GeometryBinding T A B C D) (fits : GeometryFits T B D) : Type 0 where
  pub argument : (schema : List (TableDef T)) (references : List Reference) (a : A)
      → IfOk (how.argument schema references a) (λ t. t.part_type ≡ types.Geometry → fits.argument schema references t.part ≡ true)
  pub item_argument : (schema : List (TableDef T)) (references : List Reference) (c : C)
      → IfOk (how.item_argument schema references c) (λ t. t.part_type ≡ types.Geometry → fits.item_argument schema references t.part ≡ true)

-- the part that passes the test for a geometry is the part that was tested, and a geometry
only_geometry : {X : Type 0} (at : ℕ) (part : X) (type : OperandType) → IfOk (geometry_of_type at part type) (λ x. (x ≡ part) × (type ≡ types.Geometry))
only_geometry at part types.Geometry = (refl, refl)
only_geometry at part types.Integer = tt
only_geometry at part types.Text = tt
only_geometry at part types.Null = tt

-- a part that is a geometry fits
geometry_ok : {X : Type 0} (fit : X → Bool) (at : ℕ) (typed : Typed X) → (typed.part_type ≡ types.Geometry → fit typed.part ≡ true) → IfOk (geometry_only at typed) (λ x. fit x ≡ true)
geometry_ok fit at typed is =
    weaker (geometry_only at typed) (λ x. (x ≡ typed.part) × (typed.part_type ≡ types.Geometry)) (λ x. fit x ≡ true)
    (λ x has. ap fit has.0 ∙ is has.1) (only_geometry at typed.part typed.part_type)

checked_ok : {X : Type 0} (b : Bool) (at : ℕ) (x : X) (P : X → Type 0) → (b ≡ true → P x) → IfOk (checked_types b at x) P
checked_ok true at x P is = is refl
checked_ok false at x P is = tt

-- an operand has the type that it is bound with: its column's, its literal's or that of its function
operand_ok : {T A B C D : Type 0} (how : GeometryBinding T A B C D) (fits : GeometryFits T B D) → Fitting how fits → (schema : List (TableDef T)) (references : List Reference) (w : WrittenOperand A)
    → IfOk (bound_operand how schema references w) (λ t. operand_type fits schema references t.part ≡ Some t.part_type)
operand_ok how fits fitting schema references (written_operand.Column w) =
    then_ok (bound_column schema references w) _ (HasType schema references) _ (column_ok schema references w) (λ found is. is)
operand_ok how fits fitting schema references (written_operand.Integer n) = refl
operand_ok how fits fitting schema references (written_operand.Text w) = refl
operand_ok how fits fitting schema references written_operand.Null = refl
operand_ok how fits fitting schema references (written_operand.AsText at a) =
    then_ok (how.argument schema references a) _ (λ t. t.part_type ≡ types.Geometry → fits.argument schema references t.part ≡ true) _ (fitting.argument schema references a)
    (λ typed is. then_ok (geometry_only at typed) _ (λ x. fits.argument schema references x ≡ true) _ (geometry_ok (fits.argument schema references) at typed is)
    (λ x fit. ap (λ b. type_if b types.Text) fit))
operand_ok how fits fitting schema references (written_operand.Dimension at a) =
    then_ok (how.argument schema references a) _ (λ t. t.part_type ≡ types.Geometry → fits.argument schema references t.part ≡ true) _ (fitting.argument schema references a)
    (λ typed is. then_ok (geometry_only at typed) _ (λ x. fits.argument schema references x ≡ true) _ (geometry_ok (fits.argument schema references) at typed is)
    (λ x fit. ap (λ b. type_if b types.Integer) fit))

list_all_mapped : {X : Type 0} (p : X → Bool) (xs : List X) → list_all (λ b. b) (map p xs) ≡ list_all p xs
list_all_mapped p [] = refl
list_all_mapped p (x ∷ xs) = ap (λ b. p x && b) (list_all_mapped p xs)

all_joined : {X : Type 0} (p : X → Bool) (xs ys : List X) → list_all p xs ≡ true → list_all p ys ≡ true → list_all p (xs ++ ys) ≡ true
all_joined p xs ys are too = list_all-append p xs ys ∙ and_from (list_all p xs) (list_all p ys) are too

-- the conditions of a query
cond_ok : {T A B C D : Type 0} (how : GeometryBinding T A B C D) (fits : GeometryFits T B D) → Fitting how fits → (schema : List (TableDef T)) (references : List Reference) (w : WrittenCond A)
    → IfOk (bound_cond how schema references w) (λ c. cond_fits fits schema references c ≡ true)
cond_ok {T} {A} {B} {C} {D} how fits fitting schema references = by_written Fits (record {
  or = λ parts are. subst IsFit (sym (written_folds.fold-Or A (Checked (Cond B)) step parts))
      (then_ok (each (map bound parts)) _ (λ cs. list_all fit cs ≡ true) _ (each_ok bound fit parts are)
      (λ cs all. cond_folds.fold-Or B Bool fit_step cs ∙ list_all_mapped fit cs ∙ all));
  and = λ parts are. subst IsFit (sym (written_folds.fold-And A (Checked (Cond B)) step parts))
      (then_ok (each (map bound parts)) _ (λ cs. list_all fit cs ≡ true) _ (each_ok bound fit parts are)
      (λ cs all. cond_folds.fold-And B Bool fit_step cs ∙ list_all_mapped fit cs ∙ all));
  not = λ part is. subst IsFit (sym (written_folds.fold-Not A (Checked (Cond B)) step part))
      (then_ok (bound part) _ (λ c. fit c ≡ true) _ is (λ c fitting_part. cond_folds.fold-Not B Bool fit_step c ∙ fitting_part));
  compare = λ at sign a b. subst IsFit (sym (written_folds.fold-Compare A (Checked (Cond B)) step at sign a b))
      (then_ok (bound_operand how schema references a) _ HasOperandType _ (operand_ok how fits fitting schema references a)
      (λ left left_is. then_ok (bound_operand how schema references b) _ HasOperandType _ (operand_ok how fits fitting schema references b)
      (λ right right_is. checked_ok (comparable left.part_type right.part_type) at (conds.Compare sign left.part right.part) (λ c. fit c ≡ true)
      (λ same. cond_folds.fold-Compare B Bool fit_step sign left.part right.part ∙ ap₂ can_compare left_is right_is ∙ same))));
  is_null = λ a. subst IsFit (sym (written_folds.fold-IsNull A (Checked (Cond B)) step a))
      (then_ok (bound_operand how schema references a) _ HasOperandType _ (operand_ok how fits fitting schema references a)
      (λ operand is. cond_folds.fold-IsNull B Bool fit_step operand.part ∙ ap is_some is));
  is_empty = λ at a. subst IsFit (sym (written_folds.fold-IsEmpty A (Checked (Cond B)) step at a))
      (then_ok (how.argument schema references a) _ (λ t. t.part_type ≡ types.Geometry → fits.argument schema references t.part ≡ true) _ (fitting.argument schema references a)
      (λ typed is. then_ok (geometry_only at typed) _ (λ x. fits.argument schema references x ≡ true) _ (geometry_ok (fits.argument schema references) at typed is)
      (λ x fit_x. cond_folds.fold-IsEmpty B Bool fit_step x ∙ fit_x)));
  relates = λ at predicate a b. subst IsFit (sym (written_folds.fold-Relates A (Checked (Cond B)) step at predicate a b))
      (then_ok (how.argument schema references a) _ (λ t. t.part_type ≡ types.Geometry → fits.argument schema references t.part ≡ true) _ (fitting.argument schema references a)
      (λ left left_is. then_ok (how.argument schema references b) _ (λ t. t.part_type ≡ types.Geometry → fits.argument schema references t.part ≡ true) _ (fitting.argument schema references b)
      (λ right right_is. any_ok (bound_predicate how.pattern predicate) _ _
      (λ p. then_ok (geometry_only at left) _ (λ x. fits.argument schema references x ≡ true) _ (geometry_ok (fits.argument schema references) at left left_is)
      (λ x fit_x. then_ok (geometry_only at right) _ (λ y. fits.argument schema references y ≡ true) _ (geometry_ok (fits.argument schema references) at right right_is)
      (λ y fit_y. cond_folds.fold-Relates B Bool fit_step p x y ∙ and_from (fits.argument schema references x) (fits.argument schema references y) fit_x fit_y))))));
})
  where
    step : WrittenCond-F A (Checked (Cond B)) → Checked (Cond B)
    step = bound_by_parts how schema references

    fit_step : Cond-F B Bool → Bool
    fit_step = fits_by_parts fits schema references

    bound : WrittenCond A → Checked (Cond B)
    bound = bound_cond how schema references

    fit : Cond B → Bool
    fit = cond_fits fits schema references

    IsFit : Checked (Cond B) → Type 0
    IsFit r = IfOk r (λ c. cond_fits fits schema references c ≡ true)

    Fits : WrittenCond A → Type 0
    Fits w = IfOk (bound_cond how schema references w) (λ c. cond_fits fits schema references c ≡ true)

    HasOperandType : Typed (Operand B) → Type 0
    HasOperandType t = operand_type fits schema references t.part ≡ Some t.part_type

-- ---- conjuncts

alone : {A : Type 0} (p : Cond A → Bool) (c : Cond A) → conjuncts_of c ≡ c ∷ [] → list_all p (conjuncts_of c) ≡ p c
alone p c is = ap (list_all p) is ∙ and-true (p c)

-- where it is so with each part, the conjuncts of all parts pass where the parts do
all_in : {A : Type 0} (p : Cond A → Bool) (parts : List (Cond A)) → Each (λ c. list_all p (conjuncts_of c) ≡ p c) parts → list_all p (flat_map conjuncts_of parts) ≡ list_all p parts
all_in p [] are = refl
all_in p (c ∷ parts) are = list_all-append p (conjuncts_of c) (flat_map conjuncts_of parts) ∙ ap₂ (λ a b. a && b) are.0 (all_in p parts are.1)

-- a test of conditions that an AND passes where its parts do is passed by the conjuncts where the condition passes it
conjuncts_pass : {A : Type 0} (p : Cond A → Bool) → ((parts : List (Cond A)) → p (conds.And parts) ≡ list_all p parts) → (c : Cond A) → list_all p (conjuncts_of c) ≡ p c
conjuncts_pass p of_and = by_parts (λ c. list_all p (conjuncts_of c) ≡ p c) (record {
  or = λ parts are. alone p (conds.Or parts) (conjuncts-Or parts);
  and = λ parts are. ap (list_all p) (conjuncts-And parts) ∙ all_in p parts are ∙ sym (of_and parts);
  not = λ part is. alone p (conds.Not part) (conjuncts-Not part);
  compare = λ sign a b. alone p (conds.Compare sign a b) (conjuncts-Compare sign a b);
  is_null = λ a. alone p (conds.IsNull a) (conjuncts-IsNull a);
  is_empty = λ a. alone p (conds.IsEmpty a) (conjuncts-IsEmpty a);
  relates = λ predicate a b. alone p (conds.Relates predicate a b) (conjuncts-Relates predicate a b);
})

-- a condition that fits has conjuncts that fit, since an AND fits where its parts do
condition_ok : {T A B C D : Type 0} (how : GeometryBinding T A B C D) (fits : GeometryFits T B D) → Fitting how fits → (schema : List (TableDef T)) (references : List Reference) (w : Option (WrittenCond A))
    → IfOk (bound_condition how schema references w) (λ cs. list_all (cond_fits fits schema references) cs ≡ true)
condition_ok how fits fitting schema references None = refl
condition_ok {B = B} how fits fitting schema references (Some w) =
    then_ok (bound_cond how schema references w) _ (λ c. cond_fits fits schema references c ≡ true) _ (cond_ok how fits fitting schema references w)
    (λ c is. conjuncts_pass (cond_fits fits schema references) of_and c ∙ is)
  where
    of_and : (parts : List (Cond B)) → cond_fits fits schema references (conds.And parts) ≡ list_all (cond_fits fits schema references) parts
    of_and parts = cond_folds.fold-And B Bool (fits_by_parts fits schema references) parts ∙ list_all_mapped (cond_fits fits schema references) parts

-- ---- the select list

-- an item is a column that is there or a function of a geometry that fits
item_ok : {T A B C D : Type 0} (how : GeometryBinding T A B C D) (fits : GeometryFits T B D) → Fitting how fits → (schema : List (TableDef T)) (references : List Reference) (w : WrittenItem C)
    → IfOk (bound_item how schema references w) (λ i. item_fits fits schema references i ≡ true)
item_ok how fits fitting schema references (written_item.Column w) =
    then_ok (bound_column schema references w) _ (HasType schema references) _ (column_ok schema references w) (λ found is. ap is_some is)
item_ok how fits fitting schema references (written_item.AsText at a) =
    then_ok (how.item_argument schema references a) _ (λ t. t.part_type ≡ types.Geometry → fits.item_argument schema references t.part ≡ true) _ (fitting.item_argument schema references a)
    (λ typed is. then_ok (geometry_only at typed) _ (λ x. fits.item_argument schema references x ≡ true) _ (geometry_ok (fits.item_argument schema references) at typed is) (λ x fit. fit))
item_ok how fits fitting schema references (written_item.Dimension at a) =
    then_ok (how.item_argument schema references a) _ (λ t. t.part_type ≡ types.Geometry → fits.item_argument schema references t.part ≡ true) _ (fitting.item_argument schema references a)
    (λ typed is. then_ok (geometry_only at typed) _ (λ x. fits.item_argument schema references x ≡ true) _ (geometry_ok (fits.item_argument schema references) at typed is) (λ x fit. fit))
item_ok how fits fitting schema references (written_item.IsEmpty at a) =
    then_ok (how.item_argument schema references a) _ (λ t. t.part_type ≡ types.Geometry → fits.item_argument schema references t.part ≡ true) _ (fitting.item_argument schema references a)
    (λ typed is. then_ok (geometry_only at typed) _ (λ x. fits.item_argument schema references x ≡ true) _ (geometry_ok (fits.item_argument schema references) at typed is) (λ x fit. fit))

every : {X : Type 0} (P : X → Type 0) → ((x : X) → P x) → (xs : List X) → Each P xs
every P always [] = tt
every P always (x ∷ xs) = (always x, every P always xs)

-- the columns of a reference are there
in_columns : {T A D : Type 0} (fits : GeometryFits T A D) (schema : List (TableDef T)) (references : List Reference) (k : ℕ) (r : Reference) → slice_get references k ≡ Some r
    → (j : ℕ) (columns : List (ColumnDef T)) → ((i : ℕ) → slice_get (columns_of schema r) (i + j) ≡ slice_get columns i)
    → list_all (item_fits fits schema references) (map (λ c. items.Column (record { reference = k; column = c.0 })) (enumerate_from j columns)) ≡ true
in_columns fits schema references k r is j [] applies = refl
in_columns fits schema references k r is j (column ∷ columns) applies =
    and_from _ _
    (ap (λ o. is_some (column_type (slice_get (reference_columns schema o) j))) is ∙ ap (λ n. is_some (column_type (slice_get (columns_of schema r) n))) (from_zero j) ∙ ap (λ o. is_some (column_type o)) (applies zero))
    (in_columns fits schema references k r is (j + 1) columns (λ i. ap (slice_get (columns_of schema r)) (one_on i j) ∙ applies (suc i)))

-- so all that the asterisk lists is there, reference by reference
in_references : {T A D : Type 0} (fits : GeometryFits T A D) (schema : List (TableDef T)) (references : List Reference) (k : ℕ) (rs : List Reference) → ((i : ℕ) → slice_get references (i + k) ≡ slice_get rs i)
    → list_all (item_fits fits schema references) (flat_map (λ r. items_of r.0 (columns_of schema r.1)) (enumerate_from k rs)) ≡ true
in_references fits schema references k [] applies = refl
in_references fits schema references k (r ∷ rs) applies =
    all_joined (item_fits fits schema references) (items_of k (columns_of schema r)) (flat_map (λ r. items_of r.0 (columns_of schema r.1)) (enumerate_from (k + 1) rs))
    (in_columns fits schema references k r (ap (slice_get references) (from_zero k) ∙ applies zero) zero (columns_of schema r) (λ i. ap (slice_get (columns_of schema r)) (add-zero i)))
    (in_references fits schema references (k + 1) rs (λ i. ap (slice_get references) (one_on i k) ∙ applies (suc i)))

-- the items of a select list fit, and a count lists none
items_ok : {T A B C D : Type 0} (how : GeometryBinding T A B C D) (fits : GeometryFits T B D) → Fitting how fits → (schema : List (TableDef T)) (references : List Reference) (s : Selection C)
    → IfOk (bound_items how schema references s) (λ listed. (list_all (item_fits fits schema references) listed ≡ true) × (counts s ≡ true → listed ≡ []))
items_ok how fits fitting schema references selections.All =
    (in_references fits schema references zero references (λ i. ap (slice_get references) (add-zero i)), λ e. never e)
items_ok how fits fitting schema references (selections.Items written) =
    weaker (each (map (bound_item how schema references) written)) (λ listed. list_all (item_fits fits schema references) listed ≡ true) _ (λ listed are. (are, λ e. never e))
    (each_ok (bound_item how schema references) (item_fits fits schema references) written (every _ (item_ok how fits fitting schema references) written))
items_ok how fits fitting schema references selections.Count = (refl, λ e. refl)

-- ---- references

-- a table that is found by its name is one of the schema's
placed : {T : Type 0} (schema : List (TableDef T)) (w : WrittenReference) (o : Option ℕ) → table_place schema w.table.text ≡ o
    → IfOk (reference_at schema w o) (λ r. r.table < length schema)
placed schema w None found = tt
placed schema w (Some place) found =
    (position-Some (λ table. same_name table.name w.table.text) schema place (record { name = []; columns = []; key = 0 }) found).0

-- so a reference that is bound is to a table of the schema
one_reference : {T : Type 0} (schema : List (TableDef T)) (w : WrittenReference) → IfOk (bound_reference schema w) (λ r. r.table < length schema)
one_reference schema w = placed schema w (table_place schema w.table.text) refl

-- it is of the schema, and its name is none of those before it
abbrev IsApart : {T : Type 0} → List (TableDef T) → List Reference → Reference → Type 0
IsApart schema before r = (r.table < length schema) × (list_any (λ other. same_name other.name r.name) before ≡ false)

-- a reference of another name than those before it is taken, one of a name that is taken is refused
apart : {T : Type 0} (schema : List (TableDef T)) (before : List Reference) (at : ℕ) (r : Reference) (taken : Bool) → list_any (λ other. same_name other.name r.name) before ≡ taken
    → r.table < length schema → IfOk (if taken then Err (query_fault.SameName at) else Ok r) (IsApart schema before)
apart schema before at r true is there = tt
apart schema before at r false is there = (there, is)

-- so a reference that is bound after others is apart from them
next_ok : {T : Type 0} (schema : List (TableDef T)) (before : List Reference) (w : WrittenReference) → IfOk (next_reference schema before w) (IsApart schema before)
next_ok schema before w =
    then_ok (bound_reference schema w) (named_apart before (name_start w.table w.alias)) (λ r. r.table < length schema) (IsApart schema before) (one_reference schema w)
    (λ r there. apart schema before (name_start w.table w.alias) r (list_any (λ other. same_name other.name r.name) before) refl there)

-- one reference to a table of the schema is what FROM may have
one_ok : {T : Type 0} (schema : List (TableDef T)) (r : Reference) → r.table < length schema → AreReferences schema (r ∷ [])
one_ok schema r there = record { few = inl refl; there = All-cons (λ (x : Reference). x.table < length schema) r [] there (All-nil (λ (x : Reference). x.table < length schema)); differ = refl }

-- two are, where the second is apart from the first
two_ok : {T : Type 0} (schema : List (TableDef T)) (r s : Reference) → r.table < length schema → IsApart schema (r ∷ []) s → AreReferences schema (r ∷ s ∷ [])
two_ok schema r s there is = record {
  few = inr refl;
  there = All-cons P r (s ∷ []) there (All-cons P s [] is.0 (All-nil P));
  differ = ap (λ b. not b && true) is.1;
}
  where
    P : Reference → Type 0
    P x = x.table < length schema

-- so one reference or two are bound to such ones
references_ok : {T : Type 0} (schema : List (TableDef T)) (written : List WrittenReference) → AreOneOrTwo written → IfOk (bound_references schema written) (AreReferences schema)
references_ok schema [] (inl none) = absurd (omega (arith, none))
references_ok schema [] (inr none) = absurd (omega (arith, none))
references_ok schema (w ∷ []) few =
    then_ok (next_reference schema [] w) (λ r. references_after schema (r ∷ []) []) (IsApart schema []) (AreReferences schema) (next_ok schema [] w) (λ r is. one_ok schema r is.0)
references_ok schema (w ∷ other ∷ []) few =
    then_ok (next_reference schema [] w) (λ r. references_after schema (r ∷ []) (other ∷ [])) (IsApart schema []) (AreReferences schema) (next_ok schema [] w)
    (λ r is. then_ok (next_reference schema (r ∷ []) other) (λ s. references_after schema (r ∷ s ∷ []) []) (IsApart schema (r ∷ [])) (AreReferences schema) (next_ok schema (r ∷ []) other)
    (λ s apart. two_ok schema r s is.0 apart))
references_ok schema (w ∷ other ∷ third ∷ more) (inl many) = absurd (omega (arith, many))
references_ok schema (w ∷ other ∷ third ∷ more) (inr many) = absurd (omega (arith, many))

-- ---- queries

-- a query is bound part by part, and each part fits the definitions
pub binding_ok : {T A B C D : Type 0} (how : GeometryBinding T A B C D) (fits : GeometryFits T B D) → Fitting how fits → (schema : List (TableDef T)) (query : Query A C) → AreOneOrTwo query.references
    → IfOk (binding how schema query) (IsBound fits schema)
binding_ok how fits fitting schema query few =
    then_ok (bound_references schema query.references) _ (AreReferences schema) (IsBound fits schema) (references_ok schema query.references few)
    (λ references are. then_ok (bound_items how schema references query.selection) _ (λ listed. (list_all (item_fits fits schema references) listed ≡ true) × (counts query.selection ≡ true → listed ≡ [])) (IsBound fits schema) (items_ok how fits fitting schema references query.selection)
    (λ listed fit. then_ok (bound_condition how schema references query.on) _ (λ cs. list_all (cond_fits fits schema references) cs ≡ true) (IsBound fits schema) (condition_ok how fits fitting schema references query.on)
    (λ joining joining_fits. then_ok (bound_condition how schema references query.condition) _ (λ cs. list_all (cond_fits fits schema references) cs ≡ true) (IsBound fits schema) (condition_ok how fits fitting schema references query.condition)
    (λ filtering filtering_fits. record {
      references = are;
      items = fit.0;
      conjuncts = all_joined (cond_fits fits schema references) joining filtering joining_fits filtering_fits;
      counted = fit.1;
    }))))

-- ---- what a geometry is

-- a geometry that passes the test of validity has no fault
valid : (r : Result Geometry TextFault) → IfOk (tested r) (λ g. validity_fault g ≡ None)
valid (Err e) = tt
valid (Ok g) = go (validity_fault g) refl
  where
    go : (o : Option ValidityFault) → validity_fault g ≡ o → IfOk (valid_or g o) (λ h. validity_fault h ≡ None)
    go None is = is
    go (Some f) is = tt

-- so the geometry that a text is taken for is valid
valid_text : (bytes : List ℕ) → IfOk (geometry_in_text bytes) (λ g. validity_fault g ≡ None)
unfolding geometry_in_text
valid_text bytes = valid (read_text bytes)

-- and a literal fits
literal_ok : (schema : List (TableDef ColumnShape)) (references : List Reference) (at : ℕ) (r : Result Geometry GeometryFault) → IfOk r (λ g. validity_fault g ≡ None)
    → IfOk (literal at r) (λ t. t.part_type ≡ types.Geometry → argument_fits schema references t.part ≡ true)
literal_ok schema references at (Ok g) is = λ geometry. ap is_none is
literal_ok schema references at (Err e) is = tt

-- an argument of type geometry fits: a column of geometries, or a valid literal
argument_ok : (schema : List (TableDef ColumnShape)) (references : List Reference) (a : WrittenGeometry)
    → IfOk (bound_argument schema references a) (λ t. t.part_type ≡ types.Geometry → argument_fits schema references t.part ≡ true)
argument_ok schema references (written_geometry.Column w) =
    then_ok (bound_column schema references w) _ (HasType schema references) _ (column_ok schema references w)
    (λ found is geometry. ap is_geometry is ∙ ap (λ t. is_geometry (Some t)) geometry)
argument_ok schema references (written_geometry.FromText string) = literal_ok schema references string.at (geometry_in_text (unquoted string.text)) (valid_text (unquoted string.text))

-- so arguments of conditions and of items fit where they are geometries
geometry_fitting : Fitting geometry_binding geometry_fits
geometry_fitting = record {
  argument = argument_ok;
  item_argument = λ schema references w. then_ok (bound_column schema references w) _ (HasType schema references) _ (column_ok schema references w)
      (λ found is geometry. ap is_geometry is ∙ ap (λ t. is_geometry (Some t)) geometry);
}

-- which is all that the binding of a query asks of its geometries
pub geometry_queries_are_bound : GeometryQueriesAreBound
geometry_queries_are_bound definitions query few = binding_ok geometry_binding geometry_fits geometry_fitting definitions query few

-- where a call that may run out of memory answers, its answer is the one that was to be given
returned : {X : Type 0} (r s : Checked X) (P : X → Type 0) → IfOk s P → Gives query_fault.OutOfMemory (λ x. x) r s → IfOk r P
returned (Ok x) s P is gives = subst (λ t. IfOk t P) gives is
returned (Err e) s P is gives = tt

-- a binder that returns what binding gives, or runs out of memory, returns what is bound to these definitions
pub geometry_answer_is_bound : (definitions : List (TableDef ColumnShape)) (query : Query WrittenGeometry WrittenColumn) (r : Checked (Bound (GeometryArgument Geometry) ColumnPlace))
    → AreOneOrTwo query.references → Gives query_fault.OutOfMemory (λ b. b) r (binding geometry_binding definitions query) → IfOk r (IsBound geometry_fits definitions)
geometry_answer_is_bound definitions query r few gives = returned r (binding geometry_binding definitions query) (IsBound geometry_fits definitions) (geometry_queries_are_bound definitions query few) gives
