-- What the texts of parts load as.
use Rattle.std.specs.Prelude.{◌≡◌, ◌≢◌, ℕ, true, List, [], ◌∷◌, All, Option, Some, slice_get}
use Rattle.feature_table.specs.GeometryFields.{reading}
use Rattle.feature_table.specs.Tables.{table_in}
use Rattle.table_model.specs.Definitions.{column_names}
use Rattle.table_model.specs.GeometryColumns.{ColumnShape}
use Rattle.table_model.specs.Loading.{Record, load}
use Rattle.table_model.specs.SchemaGrammar.{IsSchema}
use Rattle.table_model.specs.Tokens.{begins_word}
use Rattle.table_model.specs.declared.definitions.TableDef.{TableDef}
use Rattle.tiles.specs.Copies.{table_at}

-- a header's first field begins as a word does: with an ASCII letter or `_`
abbrev pub BeginsWord : Record → Type 0
BeginsWord header = (byte : ℕ) × (bytes : List ℕ) × (fields : Record) × (header ≡ (byte ∷ bytes) ∷ fields) × (begins_word byte ≡ true)

-- the first name of a column of each table in a schema's text begins so (SQL, identifiers)
abbrev pub SchemaNamesBeginWords : Type 0
SchemaNamesBeginWords = (geometry : List ℕ → Option ColumnShape) (text : List ℕ) (tables : List (TableDef ColumnShape)) (place : ℕ) (table : TableDef ColumnShape)
    → IsSchema geometry text tables → slice_get tables place ≡ Some table → BeginsWord (column_names table.columns)

-- the text of a table loads as its header and its records do, where each record has a field and the header begins as a word does
-- (06-104r4, feature tables)
abbrev pub TextsAreLoaded : Type 0
TextsAreLoaded = (table : TableDef ColumnShape) (header : Record) (tables : List (List Record)) (number : ℕ) (records : List Record)
    → slice_get tables number ≡ Some records → BeginsWord header → All (λ fields. fields ≢ []) records
    → table_in reading table (table_at header tables number) ≡ load reading table (header ∷ records)
