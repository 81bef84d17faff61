-- Tables and queries with geometries: types of geometry columns, how their fields are read and written, and how the
-- geometry arguments and patterns of a query are bound.
use Rattle.std.specs.Prelude.{ℕ, Bool, true, if◌then◌else◌, List, Option, Some, None, Result, Ok, Err, codes}
use denote.Enum.Bare.{sameb}
use Rattle.geometry_model.specs.contracts.shapes.GeometryType.{the_type}
use Rattle.geometry_model.specs.declared.shapes.GeometryType.{GeometryType}
use Rattle.geometry_model.specs.declared.shapes.GeometryType.TheVariants as shapes
use Rattle.geometry_model.specs.declared.relations.Pattern.{Pattern}
use Rattle.geometry_model.specs.declared.geometry_faults.GeometryFault.{GeometryFault}
use Rattle.geometry_model.specs.Geometries.{Geometry, type_of, kind, is_empty}
use Rattle.geometry_model.specs.CheckedTexts.{geometry_in_text}
use Rattle.geometry_model.specs.CanonicalText.{canonical_text}
use Rattle.geometry_model.specs.Patterns.{pattern_of_text}
use Rattle.table_model.specs.AnswerTexts.{Writing}
use Rattle.table_model.specs.Binding.{GeometryBinding, Checked, ◌>>=◌, bound_column, unquoted}
use Rattle.table_model.specs.Loading.{GeometryReader}
use Rattle.table_model.specs.Texts.{same_name}
use Rattle.table_model.specs.Truths.{dimension}
use Rattle.table_model.specs.declared.conditions.ColumnPlace.{ColumnPlace}
use Rattle.table_model.specs.declared.conditions.GeometryArgument.{GeometryArgument}
use Rattle.table_model.specs.declared.conditions.GeometryArgument.TheVariants as arguments
use Rattle.table_model.specs.declared.conditions.Reference.{Reference}
use Rattle.table_model.specs.declared.definitions.TableDef.{TableDef}
use Rattle.table_model.specs.declared.faults.LoadFault.{LoadFault}
use Rattle.table_model.specs.declared.faults.LoadFault.TheVariants as load_fault
use Rattle.table_model.specs.declared.faults.QueryFault.TheVariants as query_fault
use Rattle.table_model.specs.declared.queries.Name.{Name}
use Rattle.table_model.specs.declared.queries.WrittenColumn.{WrittenColumn}
use Rattle.table_model.specs.declared.queries.WrittenGeometry.{WrittenGeometry}
use Rattle.table_model.specs.declared.queries.WrittenGeometry.TheVariants as written_geometry
use Rattle.table_model.specs.declared.typing.OperandType.TheVariants as types
use Rattle.table_model.specs.declared.typing.Typed.{Typed}

-- ---- types of columns

-- the type of a geometry column: one of the instantiable types, or none for GEOMETRY, which takes them all (06-104r4, 7.2)
abbrev pub ColumnShape : Type 0
ColumnShape = Option GeometryType

-- the type of geometry that a word of a schema names, in any ASCII case (06-104r4, 7.2: names of types)
abbrev pub shape_named : List ℕ → Option ColumnShape
shape_named word =
    if same_name word (codes "GEOMETRY") then Some None
    else if same_name word (codes "POINT") then Some (Some shapes.Point)
    else if same_name word (codes "MULTIPOINT") then Some (Some shapes.MultiPoint)
    else if same_name word (codes "LINESTRING") then Some (Some shapes.LineString)
    else if same_name word (codes "MULTILINESTRING") then Some (Some shapes.MultiLineString)
    else if same_name word (codes "POLYGON") then Some (Some shapes.Polygon)
    else if same_name word (codes "MULTIPOLYGON") then Some (Some shapes.MultiPolygon)
    else None

-- whether a column takes geometries of this type (06-104r4, 7.2)
abbrev pub takes_type : ColumnShape → GeometryType → Bool
takes_type None type = true
takes_type (Some wanted) type = sameb the_type wanted type

-- ---- fields

-- the geometry of a record, of the column's type, or the record's fault
abbrev pub of_shape : ℕ → ColumnShape → Result Geometry GeometryFault → Result Geometry LoadFault
of_shape number shape (Err fault) = Err (load_fault.BadGeometry number fault)
of_shape number shape (Ok g) = if takes_type shape (type_of g) then Ok g else Err (load_fault.WrongType number)

-- how a field is read as a geometry; its text is tested first, then its validity, then its type (06-103r4, 7.2; the order: this project's choice)
abbrev pub read_geometry : GeometryReader ColumnShape Geometry
read_geometry number shape bytes = of_shape number shape (geometry_in_text bytes)

-- how a geometry is written: ST_AsText, ST_Dimension, ST_IsEmpty (06-103r4, 6.1.2.2)
abbrev pub geometry_writing : Writing Geometry ColumnPlace
geometry_writing = record {
  place = λ place. place;
  text = canonical_text;
  dimension = λ g. dimension (kind g);
  is_empty = is_empty;
}

-- ---- queries

-- the geometry of a string as a literal, or the fault at the string, whose byte is counted in the string's value
abbrev pub literal : ℕ → Result Geometry GeometryFault → Checked (Typed (GeometryArgument Geometry))
literal at (Ok g) = Ok (record { part = arguments.Literal g; part_type = types.Geometry })
literal at (Err fault) = Err (query_fault.BadGeometry at fault)

-- an argument of a condition: a column of any type, whose type is tested afterwards, or ST_GeomFromText of a string (06-104r4, 7.2)
abbrev pub bound_argument : List (TableDef ColumnShape) → List Reference → WrittenGeometry → Checked (Typed (GeometryArgument Geometry))
bound_argument schema references (written_geometry.Column written) = do
  found ← bound_column schema references written
  Ok (record { part = arguments.Column found.place; part_type = found.column_type })
bound_argument schema references (written_geometry.FromText string) = literal string.at (geometry_in_text (unquoted string.text))

-- an argument of the select list: a column (06-104r4, 7.2)
abbrev pub bound_place : List (TableDef ColumnShape) → List Reference → WrittenColumn → Checked (Typed ColumnPlace)
bound_place schema references written = do
  found ← bound_column schema references written
  Ok (record { part = found.place; part_type = found.column_type })

-- the pattern, or Q9 at the byte
abbrev pub pattern_or : ℕ → Option Pattern → Checked Pattern
pattern_or at (Some pattern) = Ok pattern
pattern_or at None = Err (query_fault.BadPattern at)

-- the pattern of ST_Relate, or the fault at its string (06-103r4, 6.1.15.2)
abbrev pub bound_pattern : Name → Checked Pattern
bound_pattern string = pattern_or string.at (pattern_of_text (unquoted string.text))

-- how geometry arguments and patterns are bound (06-104r4, 7.2)
abbrev pub geometry_binding : GeometryBinding ColumnShape WrittenGeometry (GeometryArgument Geometry) WrittenColumn ColumnPlace
geometry_binding = record { argument = bound_argument; item_argument = bound_place; pattern = bound_pattern }
