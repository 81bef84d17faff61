-- What conditions see of fields behind those of a row.
use Rattle.std.specs.Prelude.{◌≡◌, refl, ◌<◌, ◌+◌, ℕ, zero, suc, Bool, true, false, cond, codes, ◌&&◌, ◌||◌, List, [], ◌∷◌, ◌++◌, map, length, slice_get, unwrap_or, Option, Some, None, is_some, ℤ, pos}
use Rattle.std.specs.List.{AllZip, list_all}
use Rattle.std.specs.Fmt.{signed_decimal}
use Rattle.std.specs.Ordering.{int_eq}
use Rattle.std.proofs.Common.{arith, ap, ap₂, ◌∙◌, sym}
use Rattle.std.proofs.lemmas.Bool.{and_parts}
use Rattle.basics.proofs.Bools.{never}
use Rattle.geometry_model.specs.Dimensions.{Matrix}
use Rattle.geometry_model.specs.Geometries.{Geometry}
use Rattle.table_model.specs.AnswerTexts.{field_text, function_text, item_text}
use Rattle.table_model.specs.Arguments.{geometry_in, denoted}
use Rattle.table_model.specs.Binding.{columns_of}
use Rattle.table_model.specs.BoundQueries.{reference_columns, column_type, place_type, is_geometry, operand_type, type_if, can_compare, fits_by_parts, cond_fits, argument_fits, item_fits, geometry_fits}
use Rattle.table_model.specs.GeometryColumns.{ColumnShape, geometry_writing}
use Rattle.table_model.specs.Meanings.{Row}
use Rattle.table_model.specs.TruthLaws.{Argument}
use Rattle.table_model.specs.Truths.{Rows, field_at, operand_value, order_of, compared, is_null, emptiness, related, truth, truth_of, truth_by_parts, any_of, all_of, not_of, text_value, dimension_value}
use Rattle.table_model.specs.declared.conditions.ColumnPlace.{ColumnPlace}
use Rattle.table_model.specs.declared.conditions.Comparison.TheVariants as signs
use Rattle.table_model.specs.declared.conditions.Cond.{Cond}
use Rattle.table_model.specs.declared.conditions.Cond.TheVariants as conds
use Rattle.table_model.specs.declared.conditions.Cond.TheOpen.{Cond-F}
use Rattle.table_model.specs.declared.conditions.GeometryArgument.TheVariants as arguments
use Rattle.table_model.specs.declared.conditions.Item.{Item}
use Rattle.table_model.specs.declared.conditions.Item.TheVariants as items
use Rattle.table_model.specs.declared.conditions.Operand.{Operand}
use Rattle.table_model.specs.declared.conditions.Operand.TheVariants as operands
use Rattle.table_model.specs.declared.conditions.Reference.{Reference}
use Rattle.table_model.specs.declared.definitions.ColumnDef.{ColumnDef}
use Rattle.table_model.specs.declared.definitions.TableDef.{TableDef}
use Rattle.table_model.specs.declared.typing.OperandType.{OperandType}
use Rattle.table_model.specs.declared.typing.OperandType.TheVariants as types
use Rattle.table_model.specs.declared.values.Truth.{Truth}
use Rattle.table_model.specs.declared.values.Value.{Value}
use Rattle.table_model.specs.declared.values.Value.TheVariants as values
use Rattle.table_model.proofs.CondFolds.{fold-Relates, fold-Compare, fold-IsNull, fold-IsEmpty, fold-Not, fold-And, fold-Or}
use Rattle.table_model.proofs.CondInduction.{Each, by_parts}
use Rattle.table_laws.specs.Cells.{west_mark, south_mark}
use Rattle.table_laws.specs.MarkLaws.{widened, IsWide, FieldsBehindAreUnseen, FieldsBehindAreUnwritten, OwnerConjunctKeeps}
use Rattle.table_laws.specs.Tiles.{marks, is_zero}

-- ---- fields

-- a place within a row isn't behind it
within_row : (row fields : Row Geometry) (k : ℕ) → k < length row → unwrap_or (slice_get (row ++ fields) k) values.Null ≡ unwrap_or (slice_get row k) values.Null
within_row [] fields k l = absurd (omega (arith, l))
within_row (v ∷ row) fields zero l = refl
within_row (v ∷ row) fields (suc k) l = within_row row fields k (omega (arith, l))

-- a column that is there has a place within the columns
column_there : (columns : List (ColumnDef ColumnShape)) (k : ℕ) → is_some (column_type (slice_get columns k)) ≡ true → k < length columns
column_there [] k e = never e
column_there (c ∷ columns) zero e = omega arith
column_there (c ∷ columns) (suc k) e = let l = column_there columns k e in omega (arith, l)

-- a field of a column that is there is the same with more fields behind the rows
same_field : (definitions : List (TableDef ColumnShape)) (references : List Reference) (rows more : Rows Geometry) → AllZip (IsWide definitions) references rows → (n k : ℕ)
    → is_some (column_type (slice_get (reference_columns definitions (slice_get references n)) k)) ≡ true
    → unwrap_or (slice_get (unwrap_or (slice_get (widened rows more) n) []) k) values.Null ≡ unwrap_or (slice_get (unwrap_or (slice_get rows n) []) k) values.Null
same_field definitions [] rows more w n k e = never e
same_field definitions (r ∷ references) [] more w n k e = absurd w
same_field definitions (r ∷ references) (row ∷ rows) [] w n k e = refl
same_field definitions (r ∷ references) (row ∷ rows) (fields ∷ more) w zero k e =
    let l = column_there (columns_of definitions r) k e in within_row row fields k (omega (arith, l, w.0))
same_field definitions (r ∷ references) (row ∷ rows) (fields ∷ more) w (suc n) k e = same_field definitions references rows more w.1 n k e

is_there : (t : Option OperandType) → is_geometry t ≡ true → is_some t ≡ true
is_there None e = e
is_there (Some t) e = refl

-- ---- what is the same at two lists of rows

-- of all columns of some references
pub record SameFields (definitions : List (TableDef ColumnShape)) (references : List Reference) (rows others : Rows Geometry) : Type 0 where
  pub at : (place : ColumnPlace) → is_some (place_type definitions references place) ≡ true → field_at others place ≡ field_at rows place

module _ (matrix : Geometry → Geometry → Matrix) (definitions : List (TableDef ColumnShape)) (references : List Reference) (rows others : Rows Geometry) (same : SameFields definitions references rows others) where
  same_argument : (a : Argument) → argument_fits definitions references a ≡ true → denoted others a ≡ denoted rows a
  same_argument (arguments.Column place) e = ap geometry_in (same.at place (is_there (place_type definitions references place) e))
  same_argument (arguments.Literal g) e = refl

  fit_if : (b : Bool) (t : OperandType) → is_some (type_if b t) ≡ true → b ≡ true
  fit_if true t e = refl
  fit_if false t e = e

  same_operand : (a : Operand Argument) → is_some (operand_type geometry_fits definitions references a) ≡ true → operand_value denoted others a ≡ operand_value denoted rows a
  same_operand (operands.Column place) e = same.at place e
  same_operand (operands.Integer n) e = refl
  same_operand (operands.Text bytes) e = refl
  same_operand operands.Null e = refl
  same_operand (operands.AsText a) e = ap text_value (same_argument a (fit_if (argument_fits definitions references a) types.Text e))
  same_operand (operands.Dimension a) e = ap dimension_value (same_argument a (fit_if (argument_fits definitions references a) types.Integer e))

  first_typed : (a b : Option OperandType) → can_compare a b ≡ true → is_some a ≡ true
  first_typed None b e = e
  first_typed (Some x) b e = refl

  second_typed : (a b : Option OperandType) → can_compare a b ≡ true → is_some b ≡ true
  second_typed None b e = never e
  second_typed (Some x) None e = e
  second_typed (Some x) (Some y) e = refl

-- the truth of a condition that fits is the same at both
abbrev IsSame : (Geometry → Geometry → Matrix) → List (TableDef ColumnShape) → List Reference → Rows Geometry → Rows Geometry → Cond Argument → Type 0
IsSame matrix definitions references rows others c = cond_fits geometry_fits definitions references c ≡ true → truth matrix denoted others c ≡ truth matrix denoted rows c

parts_same : (matrix : Geometry → Geometry → Matrix) (definitions : List (TableDef ColumnShape)) (references : List Reference) (rows others : Rows Geometry) (parts : List (Cond Argument))
    → Each (IsSame matrix definitions references rows others) parts → list_all (λ part. part) (map (cond_fits geometry_fits definitions references) parts) ≡ true
    → map (truth matrix denoted others) parts ≡ map (truth matrix denoted rows) parts
parts_same matrix definitions references rows others [] each e = refl
parts_same matrix definitions references rows others (c ∷ parts) each e =
    let f = and_parts (cond_fits geometry_fits definitions references c) (list_all (λ part. part) (map (cond_fits geometry_fits definitions references) parts)) e in
    ap₂ (λ t ts. t ∷ ts) (each.0 f.0) (parts_same matrix definitions references rows others parts each.1 f.1)

pub same_truth : (matrix : Geometry → Geometry → Matrix) (definitions : List (TableDef ColumnShape)) (references : List Reference) (rows others : Rows Geometry) → SameFields definitions references rows others
    → (c : Cond Argument) → IsSame matrix definitions references rows others c
same_truth matrix definitions references rows others same = by_parts (IsSame matrix definitions references rows others) (record {
  or = λ parts each e. fold-Or Argument Truth (value others) parts
      ∙ ap any_of (parts_same matrix definitions references rows others parts each (sym (fold-Or Argument Bool fits parts) ∙ e))
      ∙ sym (fold-Or Argument Truth (value rows) parts);
  and = λ parts each e. fold-And Argument Truth (value others) parts
      ∙ ap all_of (parts_same matrix definitions references rows others parts each (sym (fold-And Argument Bool fits parts) ∙ e))
      ∙ sym (fold-And Argument Truth (value rows) parts);
  not = λ part own e. fold-Not Argument Truth (value others) part ∙ ap not_of (own (sym (fold-Not Argument Bool fits part) ∙ e)) ∙ sym (fold-Not Argument Truth (value rows) part);
  compare = λ sign a b e. let t = sym (fold-Compare Argument Bool fits sign a b) ∙ e in
      fold-Compare Argument Truth (value others) sign a b
      ∙ ap₂ (λ x y. compared sign (order_of x y))
      (same_operand matrix definitions references rows others same a (first_typed matrix definitions references rows others same (typed a) (typed b) t))
      (same_operand matrix definitions references rows others same b (second_typed matrix definitions references rows others same (typed a) (typed b) t))
      ∙ sym (fold-Compare Argument Truth (value rows) sign a b);
  is_null = λ a e. fold-IsNull Argument Truth (value others) a
      ∙ ap (λ x. truth_of (is_null x)) (same_operand matrix definitions references rows others same a (sym (fold-IsNull Argument Bool fits a) ∙ e))
      ∙ sym (fold-IsNull Argument Truth (value rows) a);
  is_empty = λ a e. fold-IsEmpty Argument Truth (value others) a
      ∙ ap emptiness (same_argument matrix definitions references rows others same a (sym (fold-IsEmpty Argument Bool fits a) ∙ e))
      ∙ sym (fold-IsEmpty Argument Truth (value rows) a);
  relates = λ predicate a b e. let t = and_parts (argument_fits definitions references a) (argument_fits definitions references b) (sym (fold-Relates Argument Bool fits predicate a b) ∙ e) in
      fold-Relates Argument Truth (value others) predicate a b
      ∙ ap₂ (related matrix predicate) (same_argument matrix definitions references rows others same a t.0) (same_argument matrix definitions references rows others same b t.1)
      ∙ sym (fold-Relates Argument Truth (value rows) predicate a b);
})
  where
    value : (rs : Rows Geometry) → Cond-F Argument Truth → Truth
    value rs = truth_by_parts matrix denoted rs

    fits : Cond-F Argument Bool → Bool
    fits = fits_by_parts geometry_fits definitions references

    typed : Operand Argument → Option OperandType
    typed a = operand_type geometry_fits definitions references a

pub fields_behind_are_unseen : FieldsBehindAreUnseen
fields_behind_are_unseen matrix definitions references rows more wide c e =
    same_truth matrix definitions references rows (widened rows more) (record { at = λ place t. same_field definitions references rows more wide place.reference place.column t }) c e

-- ---- items

-- an item that fits has the same text at both
same_item : (definitions : List (TableDef ColumnShape)) (references : List Reference) (rows others : Rows Geometry) → SameFields definitions references rows others
    → (i : Item ColumnPlace) → item_fits geometry_fits definitions references i ≡ true → item_text geometry_writing others i ≡ item_text geometry_writing rows i
same_item definitions references rows others same (items.Column place) e = ap (field_text geometry_writing) (same.at place e)
same_item definitions references rows others same (items.AsText place) e = ap (function_text geometry_writing.text) (same.at place (is_there (place_type definitions references place) e))
same_item definitions references rows others same (items.Dimension place) e =
    ap (function_text (λ g. signed_decimal (geometry_writing.dimension g))) (same.at place (is_there (place_type definitions references place) e))
same_item definitions references rows others same (items.IsEmpty place) e =
    ap (function_text (λ g. cond (geometry_writing.is_empty g) (codes "1") (codes "0"))) (same.at place (is_there (place_type definitions references place) e))

same_items : (definitions : List (TableDef ColumnShape)) (references : List Reference) (rows others : Rows Geometry) → SameFields definitions references rows others
    → (list : List (Item ColumnPlace)) → list_all (item_fits geometry_fits definitions references) list ≡ true → map (item_text geometry_writing others) list ≡ map (item_text geometry_writing rows) list
same_items definitions references rows others same [] e = refl
same_items definitions references rows others same (i ∷ list) e =
    let f = and_parts (item_fits geometry_fits definitions references i) (list_all (item_fits geometry_fits definitions references) list) e in
    ap₂ (λ t ts. t ∷ ts) (same_item definitions references rows others same i f.0) (same_items definitions references rows others same list f.1)

pub fields_behind_are_unwritten : FieldsBehindAreUnwritten
fields_behind_are_unwritten definitions query rows more wide bound =
    same_items definitions query.references rows (widened rows more) (record { at = λ place t. same_field definitions query.references rows more wide place.reference place.column t }) query.items bound.items

-- ---- marks

-- the first field behind a row, and the second
first_behind : (row : Row Geometry) (v w : Value Geometry) → unwrap_or (slice_get (row ++ v ∷ w ∷ []) (length row)) values.Null ≡ v
first_behind [] v w = refl
first_behind (u ∷ row) v w = first_behind row v w

second_behind : (row : Row Geometry) (v w : Value Geometry) → unwrap_or (slice_get (row ++ v ∷ w ∷ []) (length row + 1)) values.Null ≡ w
second_behind [] v w = refl
second_behind (u ∷ row) v w = ap (λ k. unwrap_or (slice_get (u ∷ row ++ v ∷ w ∷ []) k) values.Null) (next (length row)) ∙ second_behind row v w
  where
    next : (n : ℕ) → suc n + 1 ≡ suc (n + 1)
    next n = omega arith

-- whether a field is 0
zero_is : (matrix : Geometry → Geometry → Matrix) (rows : Rows Geometry) (reference column : ℕ) (n : ℤ) → field_at rows (record { reference = reference; column = column }) ≡ values.Integer n
    → truth matrix denoted rows (is_zero reference column) ≡ truth_of (int_eq n (pos 0))
zero_is matrix rows reference column n e =
    fold-Compare Argument Truth (truth_by_parts matrix denoted rows) signs.Equal (operands.Column (record { reference = reference; column = column })) (operands.Integer (pos 0))
    ∙ ap (λ v. compared signs.Equal (order_of v (values.Integer (pos 0)))) e

either_of : (s t : Bool) → any_of (truth_of s ∷ truth_of t ∷ []) ≡ truth_of (s || t)
either_of true t = refl
either_of false t = refl

both_of : (s t : Bool) → all_of (truth_of s ∷ truth_of t ∷ []) ≡ truth_of (s && t)
both_of true t = refl
both_of false t = refl

pub owner_conjunct_keeps : OwnerConjunctKeeps
owner_conjunct_keeps matrix cell first second e f =
    fold-And Argument Truth step (west ∷ south ∷ [])
    ∙ ap₂ (λ s t. all_of (s ∷ t ∷ []))
    (fold-Or Argument Truth step (is_zero 0 (length first) ∷ is_zero 1 (length second) ∷ [])
    ∙ ap₂ (λ s t. any_of (s ∷ t ∷ []))
    (zero_is matrix rows 0 (length first) (west_mark cell e) (first_behind first (values.Integer (west_mark cell e)) (values.Integer (south_mark cell e))))
    (zero_is matrix rows 1 (length second) (west_mark cell f) (first_behind second (values.Integer (west_mark cell f)) (values.Integer (south_mark cell f))))
    ∙ either_of (int_eq (west_mark cell e) (pos 0)) (int_eq (west_mark cell f) (pos 0)))
    (fold-Or Argument Truth step (is_zero 0 (length first + 1) ∷ is_zero 1 (length second + 1) ∷ [])
    ∙ ap₂ (λ s t. any_of (s ∷ t ∷ []))
    (zero_is matrix rows 0 (length first + 1) (south_mark cell e) (second_behind first (values.Integer (west_mark cell e)) (values.Integer (south_mark cell e))))
    (zero_is matrix rows 1 (length second + 1) (south_mark cell f) (second_behind second (values.Integer (west_mark cell f)) (values.Integer (south_mark cell f))))
    ∙ either_of (int_eq (south_mark cell e) (pos 0)) (int_eq (south_mark cell f) (pos 0)))
    ∙ both_of (int_eq (west_mark cell e) (pos 0) || int_eq (west_mark cell f) (pos 0)) (int_eq (south_mark cell e) (pos 0) || int_eq (south_mark cell f) (pos 0))
  where
    rows : Rows Geometry
    rows = (first ++ marks cell e) ∷ (second ++ marks cell f) ∷ []

    step : Cond-F Argument Truth → Truth
    step = truth_by_parts matrix denoted rows

    west : Cond Argument
    west = conds.Or (is_zero 0 (length first) ∷ is_zero 1 (length second) ∷ [])

    south : Cond Argument
    south = conds.Or (is_zero 0 (length first + 1) ∷ is_zero 1 (length second + 1) ∷ [])
