-- The rows of a query are those of its blocks: every stretch of its first table with every stretch of its second; of one table alone its stretches.
use Rattle.std.specs.Prelude.{◌≡◌, ◌<ℤ◌, true, false, List, [], ◌∷◌, map, length, flat_map, slice_get, slice_index_or, sum_by, codes, All, IsPermutation}
use Rattle.std.specs.List.{AllPairs, AllZip}
use Rattle.geometry_model.specs.Dimensions.{Matrix}
use Rattle.geometry_model.specs.Geometries.{Geometry}
use Rattle.table_model.specs.AnswerTexts.{Writing, answer, count_records}
use Rattle.table_model.specs.Arguments.{denoted}
use Rattle.table_model.specs.BoundQueries.{IsBound, geometry_fits}
use Rattle.table_model.specs.Databases.{Database}
use Rattle.table_model.specs.GeometryColumns.{ColumnShape}
use Rattle.table_model.specs.Loading.{key_of}
use Rattle.table_model.specs.Meanings.{Row, Table, product, filtered, meaning, up_to}
use Rattle.table_model.specs.Places.{places_in}
use Rattle.table_model.specs.Statements.{by_conjuncts}
use Rattle.table_model.specs.Truths.{truth}
use Rattle.table_model.specs.declared.conditions.ColumnPlace.{ColumnPlace}
use Rattle.table_model.specs.declared.conditions.Reference.{Reference}
use Rattle.table_laws.specs.Orders.{key_in, keys_of, ComesBefore}
use Rattle.table_laws.specs.TileLaws.{GeometryStatement, IsWhole}

-- the stretches of the table of a reference: together they have its rows, each once, and each ascends by key as the table does (this project's choice)
pub record AreStretches (whole : Database ColumnShape Geometry) (reference : Reference) (stretches : List (Table Geometry)) : Type 0 where
  pub rows : IsPermutation (flat_map (λ stretch. stretch) stretches) (slice_index_or whole.tables reference.table [])
  pub ascend : All (λ stretch. AllPairs (λ a b. key_of (key_in (slice_get whole.definitions reference.table)) a <ℤ key_of (key_in (slice_get whole.definitions reference.table)) b) stretch) stretches

-- the query over blocks: its references are the tables of a block, in their order; all else is the query's
pub record IsOverBlocks (query block_query : GeometryStatement) : Type 0 where
  pub references : map (λ (r : Reference). r.table) block_query.references ≡ places_in query.references
  pub conjuncts : (by_conjuncts block_query).conjuncts ≡ (by_conjuncts query).conjuncts
  pub counts : block_query.counts ≡ query.counts
  pub limit : block_query.limit ≡ query.limit

-- what the laws assume: a whole, a query that is bound to it, stretches for each of its references, and the query over blocks
pub record IsStretched (whole : Database ColumnShape Geometry) (query block_query : GeometryStatement) (stretches : List (List (Table Geometry))) : Type 0 where
  pub rows : IsWhole whole
  pub bound : IsBound geometry_fits whole.definitions (by_conjuncts query)
  pub stretched : AllZip (AreStretches whole) query.references stretches
  pub over : IsOverBlocks query block_query

-- the blocks: a stretch for each reference, each with each (this project's choice)
abbrev pub blocks_of : List (List (Table Geometry)) → List (List (Table Geometry))
blocks_of stretches = product stretches

-- the rows at which ON and WHERE are true are, in some order, those of the blocks, each once (SQL, WHERE)
abbrev pub BlocksGiveRows : Type 0
BlocksGiveRows = (matrix : Geometry → Geometry → Matrix) (whole : Database ColumnShape Geometry) (query block_query : GeometryStatement) (stretches : List (List (Table Geometry)))
    → IsStretched whole query block_query stretches
    → IsPermutation (flat_map (λ block. filtered (truth matrix denoted) block block_query) (blocks_of stretches)) (filtered (truth matrix denoted) whole.tables query)

-- what the query means in each block, merged by the keys and up to the limit, is the meaning of the query (SQL, the query)
abbrev pub MergedBlocksAreMeant : Type 0
MergedBlocksAreMeant = (matrix : Geometry → Geometry → Matrix) (whole : Database ColumnShape Geometry) (query block_query : GeometryStatement) (stretches : List (List (Table Geometry)))
    → IsStretched whole query block_query stretches → query.counts ≡ false
    → (merged : List (List (Row Geometry)))
    → IsPermutation (flat_map (λ block. meaning (truth matrix denoted) block block_query) (blocks_of stretches)) merged
    → AllPairs (ComesBefore (keys_of whole.definitions query.references)) merged
    → up_to query.limit merged ≡ meaning (truth matrix denoted) whole.tables query

-- under COUNT(*) the numbers of rows of all blocks add up to that of the query (SQL, COUNT)
abbrev pub CountsOfBlocksAddUp : Type 0
CountsOfBlocksAddUp = (matrix : Geometry → Geometry → Matrix) (whole : Database ColumnShape Geometry) (query block_query : GeometryStatement) (stretches : List (List (Table Geometry)))
    → IsStretched whole query block_query stretches → query.counts ≡ true → (writing : Writing Geometry ColumnPlace)
    → answer writing whole.definitions (by_conjuncts query) (meaning (truth matrix denoted) whole.tables query)
    ≡ (codes "COUNT(*)" ∷ []) ∷ count_records query.limit (sum_by (λ block. length (meaning (truth matrix denoted) block block_query)) (blocks_of stretches))
