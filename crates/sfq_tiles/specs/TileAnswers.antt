-- What a query gives over the tiles that splitting wrote of its tables.
use Rattle.std.specs.Prelude.{◌≡◌, ◌+◌, ◌<◌, ℕ, true, false, List, [], ◌∷◌, Ok, Some, codes, flat_map, length, map, slice_get, sum_by}
use Rattle.std.specs.List.{AllZip, range_with_len}
use Rattle.feature_table.specs.GeometryFields.{ShapeValue, reading}
use Rattle.feature_table.specs.Tables.{records_in, table_in}
use Rattle.geometry_model.specs.Dimensions.{Matrix}
use Rattle.geometry_model.specs.Envelopes.{Envelope}
use Rattle.geometry_model.specs.Geometries.{Geometry}
use Rattle.geometry_model.specs.GivenMatrix.{GivesMatrix}
use Rattle.geometry_model.specs.declared.relations.Predicate.{Predicate}
use Rattle.sfq_tiles.specs.Checks.{AreChecked, Files, ReadsSchema, table_path}
use Rattle.sfq_tiles.specs.MadeTables.{IsMade}
use Rattle.sfq_tiles.specs.SchemaTexts.{text_of}
use Rattle.sfq_tiles.specs.Splits.{AreAllWritten, IsWritten}
use Rattle.sfq_tiles.specs.Words.{AreNamed, IsNamed}
use Rattle.sfq_tiles.specs.declared.listing.Written.{Written}
use Rattle.sfq_tiles.specs.declared.parts.NamedPart.{NamedPart}
use Rattle.sfq_tiles.specs.declared.words.Words.{Words}
use Rattle.table_laws.specs.Cells.{CutsGrid}
use Rattle.table_laws.specs.ColumnLaws.{narrowed}
use Rattle.table_laws.specs.TileLaws.{GeometryStatement, rows_of_tiles}
use Rattle.table_model.specs.AnswerTexts.{Writing, answer, count_records}
use Rattle.table_model.specs.Arguments.{denoted}
use Rattle.table_model.specs.Databases.{Database}
use Rattle.table_model.specs.GeometryColumns.{shape_named}
use Rattle.table_model.specs.Meanings.{Row, Table, meaning, referenced, up_to}
use Rattle.table_model.specs.SchemaGrammar.{IsSchema}
use Rattle.table_model.specs.SpatialTables.{SpatialSchema}
use Rattle.table_model.specs.Statements.{by_conjuncts}
use Rattle.table_model.specs.Truths.{truth}
use Rattle.table_model.specs.declared.conditions.ColumnPlace.{ColumnPlace}
use Rattle.table_model.specs.declared.conditions.Reference.{Reference}
use Rattle.table_model.specs.declared.definitions.TableDef.{TableDef}
use Rattle.tiles.specs.KeyMerges.{by_keys}
use Rattle.tiles.specs.Texts.{Texts}
use Rattle.tiles.specs.TiledAnswers.{HasTileQuery}
use Rattle.tiles.specs.WholeTables.{whole_table}

-- ---- the whole

-- the whole tables of a schema: each has the rows that the records of its file give, whose bytes are known (06-104r4, feature tables)
pub record IsWholeOf (files : Files) (directory : List ℕ) (definitions : SpatialSchema) (whole : Database ShapeValue Geometry) : Type 0 where
  pub same : whole.definitions ≡ definitions
  pub given : (place : ℕ) (table : TableDef ShapeValue) → slice_get definitions place ≡ Some table
      → (bytes : List ℕ) × (rows : Table Geometry) × (files (table_path directory table.name) ≡ Some bytes)
      × (slice_get whole.tables place ≡ Some rows) × (whole_table reading table (records_in bytes) ≡ Ok rows)

-- the bytes of the files of a schema's tables are known
abbrev pub AreFilesKnown : Files → List ℕ → SpatialSchema → Type 0
AreFilesKnown files directory definitions = (place : ℕ) (table : TableDef ShapeValue) → slice_get definitions place ≡ Some table
    → (bytes : List ℕ) × (files (table_path directory table.name) ≡ Some bytes)

-- ---- the tiles

-- the rows that a query gives over the tables that the two texts of a number load as, without the marks; where both references read one
-- part, it may be there once
pub record ArePartRows (matrix : Geometry → Geometry → Matrix) (first_made second_made : TableDef ShapeValue) (first_texts second_texts : Texts)
    (tile_query : GeometryStatement) (number : ℕ) (rows : List (List (Row Geometry))) : Type 0 where
  pub one_text : List ℕ
  pub other_text : List ℕ
  pub has_one : first_texts number ≡ Some one_text
  pub has_other : second_texts number ≡ Some other_text
  pub one : Table Geometry
  pub other : Table Geometry
  pub loads_one : table_in reading first_made one_text ≡ Ok one
  pub loads_other : table_in reading second_made other_text ≡ Ok other
  pub tables : List (Table Geometry)
  pub read : referenced tables tile_query.references ≡ one ∷ other ∷ []
  pub are : rows ≡ rows_of_tiles (meaning (truth matrix denoted) tables tile_query)

-- where parts are written, before and after: `makes`, `begins_tiles`, `begins_stretches` and `takes` of `Targets`, and `texts` of its texts
module _ {O T : Type 0} (begins_tiles begins_stretches : O → List ℕ → T → Type 0) (takes : O → T → O → Type 0) (texts : T → Texts)
    (makes : O → List ℕ → O → Type 0) (old new : O) (files : Files) where
  -- the part at a place was written
  pub record IsPartThere (directory : List ℕ) (definitions : SpatialSchema) (boxes : List Envelope) (rows : ℕ) (parts : List NamedPart)
      (tables : List (TableDef ShapeValue)) (place : ℕ) : Type 0 where
    pub part : NamedPart
    pub there : slice_get parts place ≡ Some part
    pub word : List ℕ
    pub named : IsNamed definitions word part
    pub made : TableDef ShapeValue
    pub in_schema : slice_get tables place ≡ Some made
    pub is : IsMade part made
    pub counts : List ℕ
    pub before : O
    pub after : O
    pub written : IsWritten begins_tiles begins_stretches takes texts files directory boxes rows part counts before after

  -- a schema's tables were split into the parts that words name: the schema was read, all its tables were checked, and the parts were
  -- written, each of one cut, with a schema that is read as exactly their tables
  pub record AreSplit (path directory : List ℕ) (words : List (List ℕ)) : Type 0 where
    pub definitions : SpatialSchema
    pub read : ReadsSchema (files path) (Ok definitions)
    pub checked : AreChecked files directory definitions
    pub rows : ℕ
    pub parts : List NamedPart
    pub named : AreNamed definitions words parts
    pub tables : List (TableDef ShapeValue)
    pub schema : IsSchema shape_named (text_of parts) tables
    pub boxes : List Envelope
    pub cut : CutsGrid boxes
    pub made : O
    pub makes_schema : makes old (text_of parts) made
    pub listed : List Written
    pub all : AreAllWritten begins_tiles begins_stretches takes texts files directory boxes rows parts listed made new
    pub each : (place : ℕ) → place < length parts → IsPartThere directory definitions boxes rows parts tables place

  -- texts of tiles that are begun are known, and empty
  abbrev pub BeginEmpty : Type 0
  BeginEmpty = (target : O) (name : List ℕ) (begun : T) → begins_tiles target name begun → (number : ℕ) → texts begun number ≡ Some []

  -- over two parts of tiles that were written, or one for both references: for a query with a conjunct that forces the geometries in the
  -- columns of the tiles to meet, the rows that its query over the tiles gives of the texts of each number, merged by keys and up to the
  -- limit, are what is copied of the rows that the query means over the whole tables; under COUNT(*) their numbers add up (SQL, the query)
  abbrev pub AnswersAreMeant : (directory : List ℕ) (definitions : SpatialSchema) (boxes : List Envelope) (rows : ℕ) (parts : List NamedPart)
      (tables : List (TableDef ShapeValue)) (first_at second_at : ℕ)
      → IsPartThere directory definitions boxes rows parts tables first_at → IsPartThere directory definitions boxes rows parts tables second_at → Type 0
  AnswersAreMeant directory definitions boxes rows parts tables first_at second_at first second =
      (whole : Database ShapeValue Geometry) → IsWholeOf files directory definitions whole
      → (matrix : Geometry → Geometry → Matrix) → GivesMatrix matrix
      → (query tile_query : GeometryStatement) (one other : Reference) (predicate : Predicate) (first_place second_place : ℕ)
      → one.table ≡ first.part.place → other.table ≡ second.part.place
      → first.part.column ≡ Some first_place → second.part.column ≡ Some second_place
      → HasTileQuery whole.definitions query tile_query one other predicate first.part.columns.items second.part.columns.items first_place second_place
      → (answers : List (List (List (Row Geometry))))
      → AllZip (ArePartRows matrix first.made second.made (texts first.written.filled) (texts second.written.filled) tile_query)
      (range_with_len 0 (length boxes + 1)) answers
      → (query.counts ≡ false → up_to query.limit (by_keys (first.made.key ∷ second.made.key ∷ []) (flat_map (λ rows. rows) answers))
      ≡ map (narrowed (first.part.columns.items ∷ second.part.columns.items ∷ [])) (meaning (truth matrix denoted) whole.tables query))
      × (query.counts ≡ true → (writing : Writing Geometry ColumnPlace)
      → answer writing whole.definitions (by_conjuncts query) (meaning (truth matrix denoted) whole.tables query)
      ≡ (codes "COUNT(*)" ∷ []) ∷ count_records query.limit (sum_by (λ rows. length rows) answers))

  -- by the words of the command line: the parts were written; where the files are known, there are whole tables; and over every two parts
  -- answers are those over the whole
  abbrev pub GivesAnswers : Words → Type 0
  GivesAnswers words =
      (is : AreSplit words.schema.now words.directory.now (map (λ word. word.now) words.parts.items))
      × (AreFilesKnown files words.directory.now is.definitions
      → (whole : Database ShapeValue Geometry) × IsWholeOf files words.directory.now is.definitions whole)
      × (BeginEmpty → (first_at second_at : ℕ) (first_within : first_at < length is.parts) (second_within : second_at < length is.parts)
      → AnswersAreMeant words.directory.now is.definitions is.boxes is.rows is.parts is.tables first_at second_at
      (is.each first_at first_within) (is.each second_at second_within))
