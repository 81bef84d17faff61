-- Short names for worked examples of tables and queries with geometries.
use Rattle.std.specs.Prelude.{ℕ, ℤ, pos, false, List, [], ◌∷◌, map, codes, Option, Some, None, Result}
use Rattle.geometry_model.specs.Geometries.{Geometry, Point}
use Rattle.geometry_model.specs.TextExamples.{at}
use Rattle.table_model.specs.AnswerTexts.{answer_records}
use Rattle.table_model.specs.Binding.{Checked, binding}
use Rattle.table_model.specs.GeometryColumns.{ColumnShape, read_geometry, geometry_binding, geometry_writing}
use Rattle.table_model.specs.Loading.{Record, load}
use Rattle.table_model.specs.Meanings.{Row}
use Rattle.table_model.specs.declared.conditions.Bound.{Bound}
use Rattle.table_model.specs.declared.conditions.ColumnPlace.{ColumnPlace}
use Rattle.table_model.specs.declared.conditions.GeometryArgument.{GeometryArgument}
use Rattle.table_model.specs.declared.conditions.Item.TheVariants as items
use Rattle.table_model.specs.declared.definitions.ColumnDef.{ColumnDef}
use Rattle.table_model.specs.declared.definitions.ColumnType.{ColumnType}
use Rattle.table_model.specs.declared.definitions.ColumnType.TheVariants as columns
use Rattle.table_model.specs.declared.definitions.TableDef.{TableDef}
use Rattle.table_model.specs.declared.faults.LoadFault.{LoadFault}
use Rattle.table_model.specs.declared.queries.Explain.TheVariants as explains
use Rattle.table_model.specs.declared.queries.Name.{Name}
use Rattle.table_model.specs.declared.queries.Selection.{Selection}
use Rattle.table_model.specs.declared.queries.Selection.TheVariants as selections
use Rattle.table_model.specs.declared.queries.WrittenColumn.{WrittenColumn}
use Rattle.table_model.specs.declared.queries.WrittenCond.{WrittenCond}
use Rattle.table_model.specs.declared.queries.WrittenGeometry.{WrittenGeometry}
use Rattle.table_model.specs.declared.queries.WrittenGeometry.TheVariants as written_geometry
use Rattle.table_model.specs.declared.queries.WrittenItem.TheVariants as written_item
use Rattle.table_model.specs.declared.queries.WrittenOperand.{WrittenOperand}
use Rattle.table_model.specs.declared.queries.WrittenOperand.TheVariants as written_operand
use Rattle.table_model.specs.declared.queries.WrittenReference.{WrittenReference}
use Rattle.table_model.specs.declared.values.Value.{Value}
use Rattle.table_model.specs.declared.values.Value.TheVariants as values

-- ---- tables

-- a column without NOT NULL
abbrev pub column : List ℕ → ColumnType ColumnShape → ColumnDef ColumnShape
column name type = record { name = name; column_type = type; not_null = false }

-- the table t of a key, a number and a geometry
abbrev pub table_of : ColumnShape → TableDef ColumnShape
table_of shape = record {
  name = codes "t";
  columns = column (codes "id") columns.Integer ∷ column (codes "pop") columns.Integer ∷ column (codes "geom") (columns.Geometry shape) ∷ [];
  key = 0;
}

-- its rows, loaded from the records after the header
abbrev pub loaded : ColumnShape → List Record → Result (List (Row Geometry)) LoadFault
loaded shape records = load read_geometry (table_of shape) ((codes "id" ∷ codes "pop" ∷ codes "geom" ∷ []) ∷ records)

-- a record of three fields
abbrev pub fields : List ℕ → List ℕ → List ℕ → Record
fields id pop geom = id ∷ pop ∷ geom ∷ []

-- a row with a point, and one without
abbrev pub with_point : ℕ → ℕ → ℤ → ℤ → Row Geometry
with_point id pop x y = values.Integer (pos id) ∷ values.Integer (pos pop) ∷ values.Geometry (Point (Some (at x y))) ∷ []

-- a row without a point
abbrev pub without_point : ℕ → ℕ → Row Geometry
without_point id pop = values.Integer (pos id) ∷ values.Integer (pos pop) ∷ values.Null ∷ []

-- ---- queries, each name with its byte

-- a name at a byte
abbrev pub name : List ℕ → ℕ → Name
name text at = record { text = text; at = at }

-- a column without and with its reference
abbrev pub bare : List ℕ → ℕ → WrittenColumn
bare text at = record { reference = None; name = name text at }

-- a column with its reference
abbrev pub of : Name → Name → WrittenColumn
of reference column = record { reference = Some reference; name = column }

-- a reference without and with an alias
abbrev pub table : List ℕ → ℕ → WrittenReference
table text at = record { table = name text at; alias = None }

-- a table reference with an alias
abbrev pub aliased : Name → Name → WrittenReference
aliased text alias = record { table = text; alias = Some alias }

-- geometry arguments
abbrev pub geometry_column : List ℕ → ℕ → WrittenGeometry
geometry_column text at = written_geometry.Column (bare text at)

-- ST_GeomFromText of a string at a byte
abbrev pub from_text : List ℕ → ℕ → WrittenGeometry
from_text text at = written_geometry.FromText (name text at)

-- a column as a side of a comparison
abbrev pub operand_column : List ℕ → ℕ → WrittenOperand WrittenGeometry
operand_column text at = written_operand.Column (bare text at)

-- the tables t and u
abbrev pub tables : List (TableDef ColumnShape)
tables = table_of None ∷ record {
  name = codes "u";
  columns = column (codes "id") columns.Integer ∷ column (codes "label") columns.Text ∷ [];
  key = 0;
} ∷ []

-- what a SELECT is bound to over these tables
abbrev pub bound : Selection WrittenColumn → List WrittenReference → Option (WrittenCond WrittenGeometry) → Checked (Bound (GeometryArgument Geometry) ColumnPlace)
bound selection references condition = binding geometry_binding tables (record {
  explain = explains.No;
  selection = selection;
  references = references;
  on = None;
  condition = condition;
  limit = None;
})

-- what SELECT id FROM t WHERE is bound to: the condition starts at byte 23
abbrev pub bound_where : WrittenCond WrittenGeometry → Checked (Bound (GeometryArgument Geometry) ColumnPlace)
bound_where condition = bound (selections.Items (written_item.Column (bare (codes "id") 7) ∷ [])) (table (codes "t") 15 ∷ []) (Some condition)

-- ---- answers

-- a row of t with this geometry field
abbrev pub shaped : ℕ → Value Geometry → Row Geometry
shaped id geometry = values.Integer (pos id) ∷ values.Null ∷ geometry ∷ []

-- where the geometry column is
abbrev pub geometry_place : ColumnPlace
geometry_place = record { reference = 0; column = 2 }

-- SELECT ST_AsText(geom), ST_Dimension(geom), ST_IsEmpty(geom) FROM t
abbrev pub functions_query : Bound (GeometryArgument Geometry) ColumnPlace
functions_query = record {
  explain = explains.No;
  references = record { table = 0; name = codes "t" } ∷ [];
  items = items.AsText geometry_place ∷ items.Dimension geometry_place ∷ items.IsEmpty geometry_place ∷ [];
  conjuncts = [];
  counts = false;
  limit = None;
}

-- the records of its answer over these rows
abbrev pub said : List (Row Geometry) → List Record
said rows = answer_records geometry_writing tables functions_query (map (λ row. row ∷ []) rows)
