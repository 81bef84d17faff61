-- The answer to a query over the tiles that were written of its two tables.
use Rattle.std.specs.Prelude.{◌≡◌, ◌+◌, ◌++◌, ℕ, true, false, All, IsPermutation, List, [], ◌∷◌, Ok, Some, codes, flat_map, length, map, slice_get, sum_by}
use Rattle.std.specs.List.{AllZip, range_with_len}
use Rattle.feature_table.specs.GeometryFields.{reading}
use Rattle.feature_table.specs.Tables.{table_in}
use Rattle.geometry_model.specs.Dimensions.{Matrix}
use Rattle.geometry_model.specs.Envelopes.{Envelope}
use Rattle.geometry_model.specs.Geometries.{Geometry}
use Rattle.geometry_model.specs.GivenMatrix.{GivesMatrix}
use Rattle.geometry_model.specs.Predicates.{forces_meeting}
use Rattle.geometry_model.specs.declared.relations.Predicate.{Predicate}
use Rattle.table_laws.specs.Cells.{CutsGrid}
use Rattle.table_laws.specs.ColumnLaws.{HasColumn, IsNarrow, condition_columns, item_column, moved_condition, narrowed}
use Rattle.table_laws.specs.TileLaws.{Forces, GeometryStatement, HasMarks, rows_of_tiles}
use Rattle.table_laws.specs.Tiles.{owner_conjunct}
use Rattle.table_model.specs.AnswerTexts.{Writing, answer, count_records}
use Rattle.table_model.specs.Arguments.{denoted}
use Rattle.table_model.specs.BoundQueries.{IsBound, geometry_fits}
use Rattle.table_model.specs.Databases.{Database}
use Rattle.table_model.specs.Definitions.{column_names, names_differ}
use Rattle.table_model.specs.GeometryColumns.{ColumnShape}
use Rattle.table_model.specs.Loading.{Record}
use Rattle.table_model.specs.Meanings.{Row, Table, meaning, referenced, up_to}
use Rattle.table_model.specs.Statements.{by_conjuncts, conjuncts_of}
use Rattle.table_model.specs.Truths.{truth}
use Rattle.table_model.specs.declared.conditions.ColumnPlace.{ColumnPlace}
use Rattle.table_model.specs.declared.conditions.Reference.{Reference}
use Rattle.table_model.specs.declared.definitions.ColumnDef.{ColumnDef}
use Rattle.table_model.specs.declared.definitions.TableDef.{TableDef}
use Rattle.tiles.specs.Copies.{table_at, tiles_of}
use Rattle.tiles.specs.KeyMerges.{by_keys}
use Rattle.tiles.specs.LoadedTexts.{BeginsWord}
use Rattle.tiles.specs.RecordLines.{names_of}
use Rattle.tiles.specs.TileRows.{IsOfGeometries}
use Rattle.tiles.specs.WholeTables.{whole_table}

-- a table that is split into tiles: its definition and its records, the columns that are copied, the column by which it is split, the
-- definition of what is copied, and that of the tiles, with their marks behind
pub record TiledPart : Type 0 where
  pub table : TableDef ColumnShape
  pub records : List Record
  pub copied : List ℕ
  pub place : ℕ
  pub narrow : TableDef ColumnShape
  pub wide : TableDef ColumnShape
  pub west : ColumnDef ColumnShape
  pub south : ColumnDef ColumnShape

-- it is the table of a reference of a database, whose rows its records give, and it is split by a column of geometries
pub record IsPartOf (whole : Database ColumnShape Geometry) (reference : Reference) (part : TiledPart) : Type 0 where
  pub defined : slice_get whole.definitions reference.table ≡ Some part.table
  pub rows : Table Geometry
  pub there : slice_get whole.tables reference.table ≡ Some rows
  pub given : whole_table reading part.table part.records ≡ Ok rows
  pub narrow : IsNarrow part.table part.narrow part.copied
  pub marks : HasMarks part.narrow part.wide part.west part.south
  pub differ : names_differ (column_names part.wide.columns) ≡ true
  pub begins : BeginsWord (column_names part.wide.columns)
  pub geometries : IsOfGeometries part.table part.place

-- the text of the tile of a number, as `write_tiles` writes it
abbrev pub tile_text : List Envelope → TiledPart → ℕ → List ℕ
tile_text boxes part number =
    table_at (names_of part.table.columns part.copied ++ part.west.name ∷ part.south.name ∷ []) (tiles_of boxes part.table.columns part.place part.copied part.records) number

-- the rows that a query gives over the tables that the two texts of a number load as, without the marks; where both references read one
-- part, it may be there once
pub record AreTileRows (matrix : Geometry → Geometry → Matrix) (boxes : List Envelope) (first second : TiledPart) (tile_query : GeometryStatement)
    (number : ℕ) (rows : List (List (Row Geometry))) : Type 0 where
  pub one : Table Geometry
  pub other : Table Geometry
  pub loads_one : table_in reading first.wide (tile_text boxes first number) ≡ Ok one
  pub loads_other : table_in reading second.wide (tile_text boxes second number) ≡ Ok other
  pub tables : List (Table Geometry)
  pub read : referenced tables tile_query.references ≡ one ∷ other ∷ []
  pub are : rows ≡ rows_of_tiles (meaning (truth matrix denoted) tables tile_query)

-- the query over the tiles of two tables: its conjuncts are those of the query, each column where it is in what is copied, and of the owner
-- conjunct, in any order and wherever they are written in ON and WHERE; it counts where the query counts, and has its limit
pub record IsOverParts (query tile_query : GeometryStatement) (first_copied second_copied : List ℕ) : Type 0 where
  pub conjuncts : IsPermutation (by_conjuncts tile_query).conjuncts (map (moved_condition (first_copied ∷ second_copied ∷ [])) (by_conjuncts query).conjuncts
      ++ conjuncts_of (owner_conjunct (length first_copied) (length second_copied)))
  pub counts : tile_query.counts ≡ query.counts
  pub limit : tile_query.limit ≡ query.limit

-- a query over two tables, bound to their definitions, with a conjunct that forces the geometries in a column of each to meet; each column
-- that it names is copied; and the query over the tiles
pub record HasTileQuery (definitions : List (TableDef ColumnShape)) (query tile_query : GeometryStatement) (one other : Reference) (predicate : Predicate)
    (first_copied second_copied : List ℕ) (first_place second_place : ℕ) : Type 0 where
  pub references : query.references ≡ one ∷ other ∷ []
  pub bound : IsBound geometry_fits definitions (by_conjuncts query)
  pub conditions : All (λ c. All (HasColumn (first_copied ∷ second_copied ∷ [])) (condition_columns c)) (by_conjuncts query).conjuncts
  pub named_items : All (λ i. HasColumn (first_copied ∷ second_copied ∷ []) (item_column i)) query.items
  pub meeting : forces_meeting predicate ≡ true
  pub forced : Forces (by_conjuncts query).conjuncts predicate (record { reference = 0; column = first_place }) (record { reference = 1; column = second_place })
  pub over : IsOverParts query tile_query first_copied second_copied

-- such a query over two tables that are split into tiles of one cut
pub record IsSplitQuery (matrix : Geometry → Geometry → Matrix) (boxes : List Envelope) (whole : Database ColumnShape Geometry)
    (query tile_query : GeometryStatement) (one other : Reference) (predicate : Predicate) (first second : TiledPart) : Type 0 where
  pub gives : GivesMatrix matrix
  pub cut : CutsGrid boxes
  pub first_is : IsPartOf whole one first
  pub second_is : IsPartOf whole other second
  pub asked : HasTileQuery whole.definitions query tile_query one other predicate first.copied second.copied first.place second.place

-- the rows that the query over the tiles gives in each cell, merged by their keys and up to the limit, are what is copied of the rows
-- that the query means over the whole tables (SQL, the query)
abbrev pub TiledAnswersAreMeant : Type 0
TiledAnswersAreMeant = (matrix : Geometry → Geometry → Matrix) (boxes : List Envelope) (whole : Database ColumnShape Geometry)
    (query tile_query : GeometryStatement) (one other : Reference) (predicate : Predicate) (first second : TiledPart)
    → IsSplitQuery matrix boxes whole query tile_query one other predicate first second → query.counts ≡ false
    → (answers : List (List (List (Row Geometry))))
    → AllZip (AreTileRows matrix boxes first second tile_query) (range_with_len 0 (length boxes + 1)) answers
    → up_to query.limit (by_keys (first.narrow.key ∷ second.narrow.key ∷ []) (flat_map (λ rows. rows) answers))
    ≡ map (narrowed (first.copied ∷ second.copied ∷ [])) (meaning (truth matrix denoted) whole.tables query)

-- under COUNT(*) the numbers of rows of all cells add up to that of the query over the whole tables: the answer is the record of their sum,
-- and under LIMIT 0 there is none (SQL, COUNT)
abbrev pub TiledCountsAreMeant : Type 0
TiledCountsAreMeant = (matrix : Geometry → Geometry → Matrix) (boxes : List Envelope) (whole : Database ColumnShape Geometry)
    (query tile_query : GeometryStatement) (one other : Reference) (predicate : Predicate) (first second : TiledPart)
    → IsSplitQuery matrix boxes whole query tile_query one other predicate first second → query.counts ≡ true
    → (answers : List (List (List (Row Geometry))))
    → AllZip (AreTileRows matrix boxes first second tile_query) (range_with_len 0 (length boxes + 1)) answers
    → (writing : Writing Geometry ColumnPlace)
    → answer writing whole.definitions (by_conjuncts query) (meaning (truth matrix denoted) whole.tables query)
    ≡ (codes "COUNT(*)" ∷ []) ∷ count_records query.limit (sum_by (λ rows. length rows) answers)
