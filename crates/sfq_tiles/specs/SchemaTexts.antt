-- The text of the schema that is written: a CREATE TABLE for each part (SQL, CREATE TABLE).
use Rattle.std.specs.Prelude.{◌≢◌, ℕ, nat_lt, Bool, List, [], ◌++◌, ◌==◌, if◌then◌else◌, map, length, codes, Option, Some, None, slice_get, string_bytes}
use Rattle.std.specs.List.{concat, flat_map, range_with_len, slice_index_or}
use Rattle.geometry_model.specs.declared.shapes.GeometryType.TheVariants as shapes
use Rattle.feature_table.specs.GeometryFields.{ShapeValue}
use Rattle.sfq_tiles.specs.MadeTables.{AreMade}
use Rattle.sfq_tiles.specs.declared.parts.Mistake.{Mistake}
use Rattle.sfq_tiles.specs.declared.parts.Mistake.TheVariants as mistake
use Rattle.sfq_tiles.specs.declared.parts.NamedPart.{NamedPart}
use Rattle.table_model.specs.GeometryColumns.{shape_named}
use Rattle.table_model.specs.SchemaGrammar.{IsSchema}
use Rattle.table_model.specs.declared.definitions.ColumnDef.{ColumnDef}
use Rattle.table_model.specs.declared.definitions.ColumnType.{ColumnType}
use Rattle.table_model.specs.declared.definitions.ColumnType.TheVariants as type
use Rattle.table_model.specs.declared.definitions.TableDef.{TableDef}

-- the name of a type of geometry (06-104r4, 7.2: names of types)
abbrev pub shape_text : ShapeValue → List ℕ
shape_text None = codes "GEOMETRY"
shape_text (Some shapes.Point) = codes "POINT"
shape_text (Some shapes.MultiPoint) = codes "MULTIPOINT"
shape_text (Some shapes.LineString) = codes "LINESTRING"
shape_text (Some shapes.MultiLineString) = codes "MULTILINESTRING"
shape_text (Some shapes.Polygon) = codes "POLYGON"
shape_text (Some shapes.MultiPolygon) = codes "MULTIPOLYGON"

-- the name of a column's type
abbrev pub type_text : ColumnType ShapeValue → List ℕ
type_text type.Integer = codes "INTEGER"
type_text type.Text = codes "TEXT"
type_text (type.Geometry shape) = shape_text shape

-- a text where a test is true
abbrev pub text_if : Bool → List ℕ → List ℕ
text_if test text = if test then text else []

-- the definition of a column
unfoldable pub column_text : Bool → ColumnDef ShapeValue → List ℕ
column_text is_key column =
    column.name ++ codes " " ++ type_text column.column_type ++ text_if is_key (codes " PRIMARY KEY") ++ text_if column.not_null (codes " NOT NULL")

-- the definition of a column that was found, if one was
abbrev pub found_text : Bool → Option (ColumnDef ShapeValue) → List ℕ
found_text is_key None = []
found_text is_key (Some column) = column_text is_key column

-- what is before the column of a number
abbrev pub separator : ℕ → List ℕ
separator turn = text_if (nat_lt 0 turn) (codes ", ")

-- the definition of the column at a place of a table, as the next of those that are copied
unfoldable pub copied_text : TableDef ShapeValue → ℕ → ℕ → List ℕ
copied_text table turn place = separator turn ++ found_text (place == table.key) (slice_get table.columns place)

-- the definitions of the columns at some places of a table
unfoldable pub columns_text : TableDef ShapeValue → List ℕ → List ℕ
columns_text table places = flat_map (λ turn. copied_text table turn (slice_index_or places turn 0)) (range_with_len 0 (length places))

-- the definition of a mark
unfoldable pub mark_text : List ℕ → List ℕ
mark_text name = codes ", " ++ name ++ codes " INTEGER NOT NULL"

-- the definitions of the marks in tiles
unfoldable pub marks_text : Option ℕ → List ℕ → List ℕ → List ℕ
marks_text None west south = []
marks_text (Some column) west south = mark_text west ++ mark_text south

-- the CREATE TABLE of a part
unfoldable pub table_text : NamedPart → List ℕ
table_text part =
    codes "CREATE TABLE " ++ part.name.now ++ codes " (" ++ columns_text part.table.now part.columns.items
    ++ marks_text part.column (string_bytes part.west) (string_bytes part.south) ++ codes ");\n"

-- the text of the schema of the parts
abbrev pub text_of : List NamedPart → List ℕ
text_of parts = concat (map table_text parts)

-- a refusal, unless memory ran out: the text isn't a schema of exactly the tables of the parts
abbrev pub IsRefused : List NamedPart → List ℕ → Mistake → Type 0
IsRefused parts text refusal =
    refusal ≢ mistake.Memory → (tables : List (TableDef ShapeValue)) → IsSchema shape_named text tables → AreMade parts tables → ⊥
