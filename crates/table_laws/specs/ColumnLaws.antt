-- Columns that a query doesn't name can be left out of its tables.
use Rattle.std.specs.Prelude.{◌≡◌, ◌==◌, if◌then◌else◌, ℕ, suc, List, [], ◌∷◌, ◌++◌, map, length, flat_map, slice_get, slice_index_or, unwrap_or, All, Contains, Some}
use Rattle.geometry_model.specs.Dimensions.{Matrix}
use Rattle.geometry_model.specs.Geometries.{Geometry}
use Rattle.table_model.specs.AnswerTexts.{record_of}
use Rattle.table_model.specs.Arguments.{denoted}
use Rattle.table_model.specs.GeometryColumns.{ColumnShape, geometry_writing}
use Rattle.table_model.specs.Meanings.{Row, Table, referenced, meaning}
use Rattle.table_model.specs.Places.{places_in}
use Rattle.table_model.specs.Statements.{by_conjuncts}
use Rattle.table_model.specs.TruthLaws.{Argument}
use Rattle.table_model.specs.Truths.{Rows, truth}
use Rattle.table_model.specs.declared.conditions.ColumnPlace.{ColumnPlace}
use Rattle.table_model.specs.declared.conditions.Cond.{Cond}
use Rattle.table_model.specs.declared.conditions.Cond.TheVariants as conds
use Rattle.table_model.specs.declared.conditions.Cond.TheFolds.{fold-Cond}
use Rattle.table_model.specs.declared.conditions.Cond.TheOpen.{Cond-F}
use Rattle.table_model.specs.declared.conditions.GeometryArgument.TheVariants as arguments
use Rattle.table_model.specs.declared.conditions.Item.{Item}
use Rattle.table_model.specs.declared.conditions.Item.TheVariants as items
use Rattle.table_model.specs.declared.conditions.Operand.{Operand}
use Rattle.table_model.specs.declared.conditions.Operand.TheVariants as operands
use Rattle.table_model.specs.declared.conditions.Reference.{Reference}
use Rattle.table_model.specs.declared.definitions.TableDef.{TableDef}
use Rattle.table_model.specs.declared.values.Value.TheVariants as values
use Rattle.table_laws.specs.TileLaws.{GeometryStatement, AreKeyedRows}

-- ---- rows

-- the fields of a row in some columns, in this order (SQL, the select list)
abbrev pub fields_in : List ℕ → Row Geometry → Row Geometry
fields_in columns row = map (λ k. unwrap_or (slice_get row k) values.Null) columns

-- rows, one for each reference, each with the fields in the columns that are copied of its reference
abbrev pub narrowed : List (List ℕ) → Rows Geometry → Rows Geometry
narrowed [] rows = []
narrowed (columns ∷ copied) [] = []
narrowed (columns ∷ copied) (row ∷ rows) = fields_in columns row ∷ narrowed copied rows

-- tables, one for each reference, with the columns that are copied of each
abbrev pub narrow_tables : List (List ℕ) → List (Table Geometry) → List (Table Geometry)
narrow_tables [] tables = []
narrow_tables (columns ∷ copied) [] = []
narrow_tables (columns ∷ copied) (table ∷ tables) = map (fields_in columns) table ∷ narrow_tables copied tables

-- ---- conditions and items

-- the place of a column among those that are copied
abbrev pub place_among : List ℕ → ℕ → ℕ
place_among [] column = 0
place_among (k ∷ columns) column = if k == column then 0 else suc (place_among columns column)

-- the columns that are copied of the reference of a place
abbrev pub copied_of : List (List ℕ) → ColumnPlace → List ℕ
copied_of copied place = slice_index_or copied place.reference []

-- the column of a place is among those that are copied
abbrev pub HasColumn : List (List ℕ) → ColumnPlace → Type 0
HasColumn copied place = Contains (copied_of copied place) place.column

-- where the column of a place is in what is copied
abbrev pub moved : List (List ℕ) → ColumnPlace → ColumnPlace
moved copied place = record { reference = place.reference; column = place_among (copied_of copied place) place.column }

-- an argument over what is copied
abbrev pub moved_argument : List (List ℕ) → Argument → Argument
moved_argument copied (arguments.Column place) = arguments.Column (moved copied place)
moved_argument copied (arguments.Literal g) = arguments.Literal g

-- a side of a comparison over what is copied
abbrev pub moved_operand : List (List ℕ) → Operand Argument → Operand Argument
moved_operand copied (operands.Column place) = operands.Column (moved copied place)
moved_operand copied (operands.Integer n) = operands.Integer n
moved_operand copied (operands.Text bytes) = operands.Text bytes
moved_operand copied operands.Null = operands.Null
moved_operand copied (operands.AsText a) = operands.AsText (moved_argument copied a)
moved_operand copied (operands.Dimension a) = operands.Dimension (moved_argument copied a)

-- a condition over what is copied, from its parts over what is copied
abbrev pub moved_by_parts : List (List ℕ) → Cond-F Argument (Cond Argument) → Cond Argument
moved_by_parts copied (Cond-F.Or parts) = conds.Or parts
moved_by_parts copied (Cond-F.And parts) = conds.And parts
moved_by_parts copied (Cond-F.Not part) = conds.Not part
moved_by_parts copied (Cond-F.Compare sign a b) = conds.Compare sign (moved_operand copied a) (moved_operand copied b)
moved_by_parts copied (Cond-F.IsNull a) = conds.IsNull (moved_operand copied a)
moved_by_parts copied (Cond-F.IsEmpty a) = conds.IsEmpty (moved_argument copied a)
moved_by_parts copied (Cond-F.Relates predicate a b) = conds.Relates predicate (moved_argument copied a) (moved_argument copied b)

-- a condition over what is copied: each column is named where it is there
abbrev pub moved_condition : List (List ℕ) → Cond Argument → Cond Argument
moved_condition copied = fold-Cond Argument (Cond Argument) (moved_by_parts copied)

-- an item over what is copied
abbrev pub moved_item : List (List ℕ) → Item ColumnPlace → Item ColumnPlace
moved_item copied (items.Column place) = items.Column (moved copied place)
moved_item copied (items.AsText place) = items.AsText (moved copied place)
moved_item copied (items.Dimension place) = items.Dimension (moved copied place)
moved_item copied (items.IsEmpty place) = items.IsEmpty (moved copied place)

-- ---- which columns are named

-- the column of an argument, if it is one
abbrev pub argument_columns : Argument → List ColumnPlace
argument_columns (arguments.Column place) = place ∷ []
argument_columns (arguments.Literal g) = []

-- those of a side of a comparison
abbrev pub operand_columns : Operand Argument → List ColumnPlace
operand_columns (operands.Column place) = place ∷ []
operand_columns (operands.Integer n) = []
operand_columns (operands.Text bytes) = []
operand_columns operands.Null = []
operand_columns (operands.AsText a) = argument_columns a
operand_columns (operands.Dimension a) = argument_columns a

-- those of a condition, from those of its parts
abbrev pub columns_by_parts : Cond-F Argument (List ColumnPlace) → List ColumnPlace
columns_by_parts (Cond-F.Or parts) = flat_map (λ part. part) parts
columns_by_parts (Cond-F.And parts) = flat_map (λ part. part) parts
columns_by_parts (Cond-F.Not part) = part
columns_by_parts (Cond-F.Compare sign a b) = operand_columns a ++ operand_columns b
columns_by_parts (Cond-F.IsNull a) = operand_columns a
columns_by_parts (Cond-F.IsEmpty a) = argument_columns a
columns_by_parts (Cond-F.Relates predicate a b) = argument_columns a ++ argument_columns b

-- the columns that a condition names
abbrev pub condition_columns : Cond Argument → List ColumnPlace
condition_columns = fold-Cond Argument (List ColumnPlace) columns_by_parts

-- the column that an item names
abbrev pub item_column : Item ColumnPlace → ColumnPlace
item_column (items.Column place) = place
item_column (items.AsText place) = place
item_column (items.Dimension place) = place
item_column (items.IsEmpty place) = place

-- ---- laws

-- what the laws assume: what is copied of each reference has each column that the query names, and the query over it names these where they are there
pub record IsNarrowed (query narrow_query : GeometryStatement) (copied : List (List ℕ)) : Type 0 where
  pub count : length copied ≡ length query.references
  pub conditions : All (λ c. All (HasColumn copied) (condition_columns c)) (by_conjuncts query).conjuncts
  pub named_items : All (λ i. HasColumn copied (item_column i)) query.items
  pub references : map (λ (r : Reference). r.table) narrow_query.references ≡ places_in query.references
  pub conjuncts : (by_conjuncts narrow_query).conjuncts ≡ map (moved_condition copied) (by_conjuncts query).conjuncts
  pub items : narrow_query.items ≡ map (moved_item copied) query.items
  pub counts : narrow_query.counts ≡ query.counts
  pub limit : narrow_query.limit ≡ query.limit

-- a condition over what is copied has the truth of the condition
abbrev pub CopiedColumnsAreSeen : Type 0
CopiedColumnsAreSeen = (matrix : Geometry → Geometry → Matrix) (copied : List (List ℕ)) (rows : Rows Geometry) (c : Cond Argument) → All (HasColumn copied) (condition_columns c)
    → truth matrix denoted (narrowed copied rows) (moved_condition copied c) ≡ truth matrix denoted rows c

-- what the query over what is copied means is, row by row, what is copied of what the query means (SQL, the query)
abbrev pub ColumnsCanBeLeftOut : Type 0
ColumnsCanBeLeftOut = (matrix : Geometry → Geometry → Matrix) (tables : List (Table Geometry)) (query narrow_query : GeometryStatement) (copied : List (List ℕ)) → IsNarrowed query narrow_query copied
    → meaning (truth matrix denoted) (narrow_tables copied (referenced tables query.references)) narrow_query ≡ map (narrowed copied) (meaning (truth matrix denoted) tables query)

-- and its records are the same (SQL, the select list)
abbrev pub NarrowRecordsAreSame : Type 0
NarrowRecordsAreSame = (query narrow_query : GeometryStatement) (copied : List (List ℕ)) → IsNarrowed query narrow_query copied → (rows : Rows Geometry)
    → record_of geometry_writing (by_conjuncts narrow_query) (narrowed copied rows) ≡ record_of geometry_writing (by_conjuncts query) rows

-- a table's definition with the columns that are copied, in their order, the key among them (06-104r4, feature tables)
pub record IsNarrow (table narrow : TableDef ColumnShape) (columns : List ℕ) : Type 0 where
  pub there : map Some narrow.columns ≡ map (slice_get table.columns) columns
  pub key_copied : Contains columns table.key
  pub key : narrow.key ≡ place_among columns table.key

-- the fields in these columns are the rows of a whole table of that definition, so it may be cut into tiles and stretches (06-104r4, feature tables)
abbrev pub NarrowIsKeyed : Type 0
NarrowIsKeyed = (table narrow : TableDef ColumnShape) (columns : List ℕ) → IsNarrow table narrow columns → (rows : Table Geometry) → AreKeyedRows table rows → AreKeyedRows narrow (map (fields_in columns) rows)
