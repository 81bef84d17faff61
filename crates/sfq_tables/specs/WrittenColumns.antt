-- How a schema writes a column, further than its name and its type: which type of geometry it has, and its marks.
use Rattle.std.specs.Prelude.{ℕ, ◌==◌, Option, Some, None, slice_get}
use Rattle.std.specs.Option.{option_and_then, option_map}
use Rattle.geometry_model.specs.declared.shapes.GeometryType.{GeometryType}
use Rattle.geometry_model.specs.declared.shapes.GeometryType.TheVariants as shapes
use Rattle.sfq_tables.specs.Connections.{Connected, definition_at}
use Rattle.sfq_tables.specs.declared.written_columns.ColumnForm.{ColumnForm}
use Rattle.table_model.specs.GeometryColumns.{ColumnShape}
use Rattle.table_model.specs.declared.definitions.ColumnDef.{ColumnDef}
use Rattle.table_model.specs.declared.definitions.ColumnType.{ColumnType}
use Rattle.table_model.specs.declared.definitions.ColumnType.TheVariants as column
use Rattle.table_model.specs.declared.definitions.TableDef.{TableDef}

-- the number of a type of geometry, as well-known binary counts them (06-103r4, 8.2)
abbrev pub shape_number : GeometryType → ℕ
shape_number shapes.Point = 1
shape_number shapes.MultiPoint = 4
shape_number shapes.LineString = 2
shape_number shapes.MultiLineString = 5
shape_number shapes.Polygon = 3
shape_number shapes.MultiPolygon = 6

-- that of a column's type; 0 of GEOMETRY, which has them all, and of a column without geometries
abbrev pub geometry_number : ColumnType ColumnShape → ℕ
geometry_number column.Integer = 0
geometry_number column.Text = 0
geometry_number (column.Geometry None) = 0
geometry_number (column.Geometry (Some shape)) = shape_number shape

-- how the column at a place of a table is written (SQL, CREATE TABLE; 06-104r4, 7.2)
abbrev pub form_of : TableDef ColumnShape → ℕ → Option ColumnForm
form_of table place = option_map
    (λ (c : ColumnDef ColumnShape). record { geometry = geometry_number c.column_type; is_key = table.key == place; is_required = c.not_null })
    (slice_get table.columns place)

-- how the column at a place of the table at a place is written
abbrev pub form_at : Connected → ℕ → ℕ → Option ColumnForm
form_at connected place column = option_and_then (λ (d : TableDef ColumnShape). form_of d column) (definition_at connected place)
