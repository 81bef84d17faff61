-- The fields of columns and the numbers in them.
use Rattle.std.proofs.Common.{◌≡◌, ◌∙◌, ℕ, ℤ, pos, Bool, true, false, if◌then◌else◌, List, Option, Some, None, IfSome}
use Rattle.std.proofs.Common.{ap, refl, subst, sym, codes, slice_get}
use Rattle.std.specs.Prelude.{cond}
use Rattle.std.specs.Fmt.{digits, signed_decimal}
use Rattle.std.specs.Option.{option_and_then, option_map}
use Rattle.std.proofs.lemmas.Option.{IfSome_then, slice_get-map}
use Rattle.executor.specs.Pairs.{pair_rows}
use Rattle.executor.specs.declared.row_pairs.RowPair.{RowPair}
use Rattle.geometry_model.specs.Geometries.{Geometry, is_empty}
use Rattle.query_runs.specs.AnswerFields.{dimension_text, emptiness_text}
use Rattle.statements.specs.Columns.{dimension_number, emptiness_number, field_of, item_number, value_number}
use Rattle.statements.specs.Statements.{current_record}
use Rattle.statements.specs.declared.current_rows.CurrentRow.TheVariants as current
use Rattle.statements.specs.declared.prepared.Statement.{Statement}
use Rattle.table_model.specs.AnswerTexts.{field_text, function_text, item_text}
use Rattle.table_model.specs.GeometryColumns.{geometry_writing}
use Rattle.table_model.specs.Meanings.{Row, referenced}
use Rattle.table_model.specs.SpatialTables.{SpatialDatabase}
use Rattle.table_model.specs.Truths.{field_at}
use Rattle.table_model.specs.declared.conditions.ColumnPlace.{ColumnPlace}
use Rattle.table_model.specs.declared.conditions.Item.{Item}
use Rattle.table_model.specs.declared.conditions.Item.TheVariants as items
use Rattle.table_model.specs.declared.values.Value.{Value}
use Rattle.table_model.specs.declared.values.Value.TheVariants as values

-- the number in a field has its text as digits
of_column : (value : Value Geometry) → IfSome (value_number value) (λ n. field_text geometry_writing value ≡ signed_decimal n)
of_column values.Null = tt
of_column (values.Integer n) = refl
of_column (values.Text bytes) = tt
of_column (values.Geometry g) = tt

of_dimension : (value : Value Geometry)
    → IfSome (dimension_number value) (λ n. function_text dimension_text value ≡ signed_decimal n)
of_dimension values.Null = tt
of_dimension (values.Integer n) = tt
of_dimension (values.Text bytes) = tt
of_dimension (values.Geometry g) = refl

of_digit : (g : Geometry) (b : Bool) → is_empty g ≡ b
    → IfSome (if b then Some (pos 1) else Some (pos 0)) (λ n. emptiness_text g ≡ signed_decimal n)
unfolding digits
of_digit g true is = ap (λ b. cond b (codes "1") (codes "0")) is
of_digit g false is = ap (λ b. cond b (codes "1") (codes "0")) is

of_emptiness : (value : Value Geometry)
    → IfSome (emptiness_number value) (λ n. function_text emptiness_text value ≡ signed_decimal n)
of_emptiness values.Null = tt
of_emptiness (values.Integer n) = tt
of_emptiness (values.Text bytes) = tt
of_emptiness (values.Geometry g) = of_digit g (is_empty g) refl

-- so of an item
of_item : (rows : List (Row Geometry)) (item : Item ColumnPlace)
    → IfSome (item_number rows item) (λ n. item_text geometry_writing rows item ≡ signed_decimal n)
of_item rows (items.Column place) = of_column (field_at rows place)
of_item rows (items.AsText place) = tt
of_item rows (items.Dimension place) = of_dimension (field_at rows place)
of_item rows (items.IsEmpty place) = of_emptiness (field_at rows place)

of_found : (rows : List (Row Geometry)) (item : Option (Item ColumnPlace))
    → IfSome (option_and_then (item_number rows) item)
    (λ n. option_map (item_text geometry_writing rows) item ≡ Some (signed_decimal n))
of_found rows None = tt
of_found rows (Some item) = IfSome_then (item_number rows item) (of_item rows item) (λ n is. ap Some is)

-- so of a column, where a pair of rows is there
pub of_pair : (database : SpatialDatabase) (statement : Statement) (column : ℕ) (pair : RowPair) (result : Option ℤ)
    → statement.row ≡ current.Pair pair
    → result ≡ option_and_then (item_number (pair_rows (referenced database.tables statement.bound.references) pair))
    (slice_get statement.bound.items column)
    → IfSome result (λ n. field_of database statement column ≡ Some (signed_decimal n))
of_pair database statement column pair result at is =
    let rows = pair_rows (referenced database.tables statement.bound.references) pair in
    let item = slice_get statement.bound.items column in
    let field : field_of database statement column ≡ option_map (item_text geometry_writing rows) item =
    ap (λ r. option_and_then (λ fields. slice_get fields column) (current_record database statement r)) at
    ∙ slice_get-map (item_text geometry_writing rows) statement.bound.items column in
    subst (λ o. IfSome o (λ n. field_of database statement column ≡ Some (signed_decimal n))) (sym is)
    (IfSome_then (option_and_then (item_number rows) item) (of_found rows item) (λ n text. field ∙ text))
