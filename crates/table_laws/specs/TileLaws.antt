-- The rows of a query over two tables are those of their tiles, each once; in the order of keys they are the same list.
use Rattle.std.specs.Prelude.{◌≡◌, ◌<◌, ◌⊎◌, ℕ, true, false, List, [], ◌∷◌, ◌++◌, map, length, flat_map, slice_get, slice_index_or, sum_by, codes, All, Contains, IsPermutation, Some, ◌<ℤ◌}
use Rattle.std.specs.List.{AllPairs}
use Rattle.geometry_model.specs.Dimensions.{Matrix}
use Rattle.geometry_model.specs.Envelopes.{Envelope}
use Rattle.geometry_model.specs.Geometries.{Geometry}
use Rattle.geometry_model.specs.GivenMatrix.{GivesMatrix}
use Rattle.geometry_model.specs.Predicates.{forces_meeting}
use Rattle.geometry_model.specs.declared.relations.Predicate.{Predicate}
use Rattle.table_model.specs.AnswerTexts.{Writing, answer, count_records}
use Rattle.table_model.specs.Arguments.{denoted}
use Rattle.table_model.specs.Binding.{columns_of}
use Rattle.table_model.specs.BoundQueries.{IsBound, geometry_fits}
use Rattle.table_model.specs.Databases.{Database}
use Rattle.table_model.specs.FeatureTables.{IsDatabase, IsRow, TakesValid}
use Rattle.table_model.specs.GeometryColumns.{ColumnShape}
use Rattle.table_model.specs.Loading.{key_of}
use Rattle.table_model.specs.Meanings.{Row, Table, filtered, meaning, up_to}
use Rattle.table_model.specs.Statements.{Statement, by_conjuncts, conjuncts_of}
use Rattle.table_model.specs.TruthLaws.{Argument}
use Rattle.table_model.specs.Truths.{truth}
use Rattle.table_model.specs.declared.conditions.ColumnPlace.{ColumnPlace}
use Rattle.table_model.specs.declared.conditions.Cond.{Cond}
use Rattle.table_model.specs.declared.conditions.Cond.TheVariants as conds
use Rattle.table_model.specs.declared.conditions.GeometryArgument.TheVariants as arguments
use Rattle.table_model.specs.declared.conditions.Reference.{Reference}
use Rattle.table_model.specs.declared.definitions.ColumnDef.{ColumnDef}
use Rattle.table_model.specs.declared.definitions.ColumnType.TheVariants as column
use Rattle.table_model.specs.declared.definitions.TableDef.{TableDef}
use Rattle.table_model.specs.declared.values.Value.{Value}
use Rattle.table_model.specs.declared.values.Value.TheVariants as values
use Rattle.table_laws.specs.Cells.{Cell, cells_of, CutsGrid}
use Rattle.table_laws.specs.Orders.{keys_of, ComesBefore}
use Rattle.table_laws.specs.PairLaws.{LiesOnGrid}
use Rattle.table_laws.specs.Tiles.{tile_of, without_marks, owner_conjunct}

-- a bound query as it is written, whose geometries are those of `geometry_model`
abbrev pub GeometryStatement : Type 0
GeometryStatement = Statement Argument ColumnPlace

-- ---- wholes

-- the rows of a whole table, however many: each has its columns' values, and the key of each is below those of all later ones (06-104r4, feature tables)
pub record AreKeyedRows (table : TableDef ColumnShape) (rows : Table Geometry) : Type 0 where
  pub each : All (IsRow TakesValid table) rows
  pub ascend : AllPairs (λ a b. key_of table.key a <ℤ key_of table.key b) rows

-- a geometry in a field is on the grid
abbrev pub FieldOnGrid : Value Geometry → Type 0
FieldOnGrid values.Null = Unit {0}
FieldOnGrid (values.Integer n) = Unit {0}
FieldOnGrid (values.Text bytes) = Unit {0}
FieldOnGrid (values.Geometry g) = LiesOnGrid g

-- the geometries of all rows are on the grid
abbrev pub AreOnGrid : List (Table Geometry) → Type 0
AreOnGrid tables = All (λ table. All (λ row. All FieldOnGrid row) table) tables

-- a whole: for each definition the rows of its table, however many, and all geometries on the grid (06-104r4; the grid: this project's choice)
pub record IsWhole (whole : Database ColumnShape Geometry) : Type 0 where
  pub count : length whole.tables ≡ length whole.definitions
  pub tables : (place : ℕ) (table : TableDef ColumnShape) (rows : Table Geometry) → slice_get whole.definitions place ≡ Some table → slice_get whole.tables place ≡ Some rows → AreKeyedRows table rows
  pub on_grid : AreOnGrid whole.tables

-- what loads is a whole, where its geometries are on the grid (06-104r4)
abbrev pub DatabaseIsWhole : Type 0
DatabaseIsWhole = (database : Database ColumnShape Geometry) → IsDatabase TakesValid database → AreOnGrid database.tables → IsWhole database

-- ---- a query and its query over tiles

-- a conjunct that forces the envelopes of two columns to meet: a predicate of a column of the first reference and one of the second, in this order or the other
abbrev pub Forces : List (Cond Argument) → Predicate → ColumnPlace → ColumnPlace → Type 0
Forces conjuncts predicate a b = Contains conjuncts (conds.Relates predicate (arguments.Column a) (arguments.Column b)) ⊎ Contains conjuncts (conds.Relates predicate (arguments.Column b) (arguments.Column a))

-- the query over tiles: its references are the two tiles, its conjuncts those of the query and of the owner conjunct, in any order and wherever
-- they are written in ON and WHERE; it counts where the query counts, and has its limit
pub record IsOverTiles (query tile_query : GeometryStatement) (first_width second_width : ℕ) : Type 0 where
  pub references : map (λ (r : Reference). r.table) tile_query.references ≡ 0 ∷ 1 ∷ []
  pub conjuncts : IsPermutation (by_conjuncts tile_query).conjuncts ((by_conjuncts query).conjuncts ++ conjuncts_of (owner_conjunct first_width second_width))
  pub counts : tile_query.counts ≡ query.counts
  pub limit : tile_query.limit ≡ query.limit

-- what the laws assume: a cut of the grid, a whole, a query that is bound to it, of two references (perhaps of one table)
-- and with a conjunct that forces a column of each to meet, the query over tiles, and a function that gives the matrix of every two valid geometries
pub record IsTiled (matrix : Geometry → Geometry → Matrix) (boxes : List Envelope) (whole : Database ColumnShape Geometry) (query tile_query : GeometryStatement)
    (first second : Reference) (predicate : Predicate) (first_column second_column : ℕ) : Type 0 where
  pub gives : GivesMatrix matrix
  pub cut : CutsGrid boxes
  pub rows : IsWhole whole
  pub bound : IsBound geometry_fits whole.definitions (by_conjuncts query)
  pub references : query.references ≡ first ∷ second ∷ []
  pub meeting : forces_meeting predicate ≡ true
  pub forced : Forces (by_conjuncts query).conjuncts predicate (record { reference = 0; column = first_column }) (record { reference = 1; column = second_column })
  pub over : IsOverTiles query tile_query (length (columns_of whole.definitions first)) (length (columns_of whole.definitions second))

-- the tiles of the tables of two references in a cell, each by a column of geometries
abbrev pub tiles_in : Database ColumnShape Geometry → Reference → Reference → ℕ → ℕ → Cell → List (Table Geometry)
tiles_in whole first second first_column second_column cell =
    tile_of cell first_column (slice_index_or whole.tables first.table []) ∷ tile_of cell second_column (slice_index_or whole.tables second.table []) ∷ []

-- rows of tiles without their marks
abbrev pub rows_of_tiles : List (List (Row Geometry)) → List (List (Row Geometry))
rows_of_tiles rows = map (map without_marks) rows

-- ---- laws

-- the rows at which ON and WHERE are true are, in some order, those of the tiles without their marks, each once (SQL, WHERE)
abbrev pub TilesGiveRows : Type 0
TilesGiveRows = (matrix : Geometry → Geometry → Matrix) (boxes : List Envelope) (whole : Database ColumnShape Geometry) (query tile_query : GeometryStatement)
    (first second : Reference) (predicate : Predicate) (first_column second_column : ℕ) → IsTiled matrix boxes whole query tile_query first second predicate first_column second_column
    → IsPermutation
    (flat_map (λ cell. rows_of_tiles (filtered (truth matrix denoted) (tiles_in whole first second first_column second_column cell) tile_query)) (cells_of boxes))
    (filtered (truth matrix denoted) whole.tables query)

-- what the query over tiles means in each cell, without marks, merged by the keys and up to the limit, is the meaning of the query (SQL, the query)
abbrev pub MergedTilesAreMeant : Type 0
MergedTilesAreMeant = (matrix : Geometry → Geometry → Matrix) (boxes : List Envelope) (whole : Database ColumnShape Geometry) (query tile_query : GeometryStatement)
    (first second : Reference) (predicate : Predicate) (first_column second_column : ℕ) → IsTiled matrix boxes whole query tile_query first second predicate first_column second_column
    → query.counts ≡ false
    → (merged : List (List (Row Geometry)))
    → IsPermutation (flat_map (λ cell. rows_of_tiles (meaning (truth matrix denoted) (tiles_in whole first second first_column second_column cell) tile_query)) (cells_of boxes)) merged
    → AllPairs (ComesBefore (keys_of whole.definitions query.references)) merged
    → up_to query.limit merged ≡ meaning (truth matrix denoted) whole.tables query

-- under COUNT(*) the numbers of rows of all cells add up to that of the query: the answer is the record of their sum, and under LIMIT 0 there is none (SQL, COUNT)
abbrev pub CountsOfTilesAddUp : Type 0
CountsOfTilesAddUp = (matrix : Geometry → Geometry → Matrix) (boxes : List Envelope) (whole : Database ColumnShape Geometry) (query tile_query : GeometryStatement)
    (first second : Reference) (predicate : Predicate) (first_column second_column : ℕ) → IsTiled matrix boxes whole query tile_query first second predicate first_column second_column
    → query.counts ≡ true → (writing : Writing Geometry ColumnPlace)
    → answer writing whole.definitions (by_conjuncts query) (meaning (truth matrix denoted) whole.tables query)
    ≡ (codes "COUNT(*)" ∷ [])
    ∷ count_records query.limit (sum_by (λ cell. length (meaning (truth matrix denoted) (tiles_in whole first second first_column second_column cell) tile_query)) (cells_of boxes))

-- whatever the order of the records of a tile, its rows by ascending key are the tile (06-104r4, feature tables)
abbrev pub SortedTileIsTile : Type 0
SortedTileIsTile = (table : TableDef ColumnShape) (rows : Table Geometry) → AreKeyedRows table rows → table.key < length table.columns → (cell : Cell) (column : ℕ) (sorted : Table Geometry)
    → IsPermutation (tile_of cell column rows) sorted → AllPairs (λ a b. key_of table.key a <ℤ key_of table.key b) sorted → sorted ≡ tile_of cell column rows

-- a table's definition with the columns of the marks behind its own, both of whole numbers (06-104r4, feature tables)
pub record HasMarks (table wide : TableDef ColumnShape) (w s : ColumnDef ColumnShape) : Type 0 where
  pub columns : wide.columns ≡ table.columns ++ w ∷ s ∷ []
  pub key : wide.key ≡ table.key
  pub west : w.column_type ≡ column.Integer
  pub south : s.column_type ≡ column.Integer

-- a tile has the rows of a whole table with marks, so a tile may be cut into stretches itself (06-104r4, feature tables)
abbrev pub TileIsKeyed : Type 0
TileIsKeyed = (table wide : TableDef ColumnShape) (w s : ColumnDef ColumnShape) → HasMarks table wide w s → (rows : Table Geometry) → AreKeyedRows table rows → table.key < length table.columns
    → (cell : Cell) (place : ℕ) → AreKeyedRows wide (tile_of cell place rows)
