-- Three-valued truth, and the truth of a condition at rows.
use Rattle.std.specs.Prelude.{ℤ, pos, Bool, true, false, List, [], fold, slice_get, unwrap_or, Option, Some, None}
use Rattle.std.specs.Ordering.{int_cmp, nat_cmp, is_eq, is_ne, is_lt, is_le, is_gt, is_ge}
use Rattle.std.specs.Cmp.Lexicographic.{slice_cmp}
use Rattle.std.specs.declared.cmp.Ordering.{Ordering}
use Rattle.geometry_model.specs.Geometries.{Geometry, kind, is_empty}
use Rattle.geometry_model.specs.Dimensions.{Matrix}
use Rattle.geometry_model.specs.Predicates.{holds}
use Rattle.geometry_model.specs.CanonicalText.{canonical_text}
use Rattle.geometry_model.specs.declared.shapes.Kind.{Kind}
use Rattle.geometry_model.specs.declared.shapes.Kind.TheVariants as kinds
use Rattle.geometry_model.specs.declared.relations.Predicate.{Predicate}
use Rattle.table_model.specs.declared.values.Truth.{Truth}
use Rattle.table_model.specs.declared.values.Truth.TheVariants.{True, False, Unknown}
use Rattle.table_model.specs.declared.values.Value.{Value}
use Rattle.table_model.specs.declared.values.Value.TheVariants as values
use Rattle.table_model.specs.declared.conditions.Comparison.{Comparison}
use Rattle.table_model.specs.declared.conditions.Comparison.TheVariants as signs
use Rattle.table_model.specs.declared.conditions.ColumnPlace.{ColumnPlace}
use Rattle.table_model.specs.declared.conditions.Operand.{Operand}
use Rattle.table_model.specs.declared.conditions.Operand.TheVariants as operands
use Rattle.table_model.specs.declared.conditions.Cond.{Cond}
use Rattle.table_model.specs.declared.conditions.Cond.TheFolds.{fold-Cond}
use Rattle.table_model.specs.declared.conditions.Cond.TheOpen.{Cond-F}

-- NOT (SQL's three-valued logic, which 06-104r4 uses)
abbrev pub not_of : Truth → Truth
not_of True = False
not_of False = True
not_of Unknown = Unknown

-- AND of two: False if one is, else Unknown if one is (SQL's three-valued logic)
abbrev pub and_of : Truth → Truth → Truth
and_of True b = b
and_of False b = False
and_of Unknown True = Unknown
and_of Unknown False = False
and_of Unknown Unknown = Unknown

-- OR of two: True if one is, else Unknown if one is (SQL's three-valued logic)
abbrev pub or_of : Truth → Truth → Truth
or_of True b = True
or_of False b = b
or_of Unknown True = True
or_of Unknown False = Unknown
or_of Unknown Unknown = Unknown

-- AND of all parts (SQL's three-valued logic)
abbrev pub all_of : List Truth → Truth
all_of parts = fold and_of True parts

-- OR of all parts (SQL's three-valued logic)
abbrev pub any_of : List Truth → Truth
any_of parts = fold or_of False parts

-- the truth of a test, which is never Unknown
abbrev pub truth_of : Bool → Truth
truth_of true = True
truth_of false = False

-- the rows at which a condition is evaluated: one for each reference, in the query's order
abbrev pub Rows : Type 0 → Type 0
Rows G = List (List (Value G))

-- the field at a place; null if there is none
abbrev pub field_at : {G : Type 0} → Rows G → ColumnPlace → Value G
field_at rows place = unwrap_or (slice_get (unwrap_or (slice_get rows place.reference) []) place.column) values.Null

-- ST_Dimension, by the kind, also of an empty geometry (06-103r4, 6.1.2.2: Dimension; of an empty one: this project's choice)
abbrev pub dimension : Kind → ℤ
dimension kinds.Point = pos 0
dimension kinds.Line = pos 1
dimension kinds.Area = pos 2

-- ST_AsText: the canonical text; null of null (06-103r4, 6.1.2.2: AsText)
abbrev pub text_value : {G : Type 0} → Option Geometry → Value G
text_value (Some g) = values.Text (canonical_text g)
text_value None = values.Null

-- ST_Dimension as a field; null of null (06-103r4, 6.1.2.2: Dimension)
abbrev pub dimension_value : {G : Type 0} → Option Geometry → Value G
dimension_value (Some g) = values.Integer (dimension (kind g))
dimension_value None = values.Null

-- the value of a side of a comparison at rows; `denotes` gives the geometry of an argument
abbrev pub operand_value : {A G : Type 0} → (Rows G → A → Option Geometry) → Rows G → Operand A → Value G
operand_value denotes rows (operands.Column place) = field_at rows place
operand_value denotes rows (operands.Integer n) = values.Integer n
operand_value denotes rows (operands.Text bytes) = values.Text bytes
operand_value denotes rows operands.Null = values.Null
operand_value denotes rows (operands.AsText a) = text_value (denotes rows a)
operand_value denotes rows (operands.Dimension a) = dimension_value (denotes rows a)

-- the order of two fields: integers as numbers, texts by bytes; a null or two types have none
abbrev pub order_of : {G : Type 0} → Value G → Value G → Option Ordering
order_of (values.Integer a) (values.Integer b) = Some (int_cmp a b)
order_of (values.Text a) (values.Text b) = Some (slice_cmp nat_cmp a b)
order_of a b = None

-- the comparison is true of two values in this order
abbrev pub takes : Comparison → Ordering → Bool
takes signs.Equal order = is_eq order
takes signs.NotEqual order = is_ne order
takes signs.Less order = is_lt order
takes signs.LessOrEqual order = is_le order
takes signs.Greater order = is_gt order
takes signs.GreaterOrEqual order = is_ge order

-- the truth of a comparison; without an order it is Unknown (SQL's three-valued logic)
abbrev pub compared : Comparison → Option Ordering → Truth
compared sign (Some order) = truth_of (takes sign order)
compared sign None = Unknown

-- whether a value IS NULL
abbrev pub is_null : {G : Type 0} → Value G → Bool
is_null values.Null = true
is_null (values.Integer n) = false
is_null (values.Text bytes) = false
is_null (values.Geometry g) = false

-- the truth of ST_IsEmpty; of null it is Unknown (06-103r4, 6.1.2.2: IsEmpty)
abbrev pub emptiness : Option Geometry → Truth
emptiness (Some g) = truth_of (is_empty g)
emptiness None = Unknown

-- the truth of a spatial predicate; with a null argument it is Unknown (06-103r4, 6.1.15.3)
abbrev pub related : (Geometry → Geometry → Matrix) → Predicate → Option Geometry → Option Geometry → Truth
related matrix predicate (Some a) (Some b) = truth_of (holds predicate (kind a) (kind b) (matrix a b))
related matrix predicate a b = Unknown

-- the truth of a condition whose parts have these truths
abbrev pub truth_by_parts : {A G : Type 0} → (Geometry → Geometry → Matrix) → (Rows G → A → Option Geometry) → Rows G → Cond-F A Truth → Truth
truth_by_parts matrix denotes rows (Cond-F.Or parts) = any_of parts
truth_by_parts matrix denotes rows (Cond-F.And parts) = all_of parts
truth_by_parts matrix denotes rows (Cond-F.Not part) = not_of part
truth_by_parts matrix denotes rows (Cond-F.Compare sign a b) = compared sign (order_of (operand_value denotes rows a) (operand_value denotes rows b))
truth_by_parts matrix denotes rows (Cond-F.IsNull a) = truth_of (is_null (operand_value denotes rows a))
truth_by_parts matrix denotes rows (Cond-F.IsEmpty a) = emptiness (denotes rows a)
truth_by_parts matrix denotes rows (Cond-F.Relates predicate a b) = related matrix predicate (denotes rows a) (denotes rows b)

-- the truth of a condition at rows (06-104r4's conditions in SQL's three-valued logic)
abbrev pub truth : {A G : Type 0} → (Geometry → Geometry → Matrix) → (Rows G → A → Option Geometry) → Rows G → Cond A → Truth
truth {A = A} matrix denotes rows = fold-Cond A Truth (truth_by_parts matrix denotes rows)
