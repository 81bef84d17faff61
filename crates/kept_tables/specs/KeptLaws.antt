-- A query depends on the tables alone that it names, so it may be asked of a database in which only these are loaded.
use Rattle.std.specs.Prelude.{◌≡◌, ◌<◌, ℕ, true, IsOk, List, [], Ok, None, Some, All, length, map, slice_index_or, slice_set}
use Rattle.std.specs.List.{position}
use Rattle.feature_table.specs.GeometryFields.{reading}
use Rattle.feature_table.specs.Tables.{records_in, table_in, tables_in}
use Rattle.kept_tables.specs.KeptTables.{IsKept, KeptTables, is_loaded, lent, names_unloaded, table_at, with_table}
use Rattle.table_model.specs.Arguments.{denoted}
use Rattle.table_model.specs.Binding.{table_place}
use Rattle.table_model.specs.Meanings.{meaning}
use Rattle.table_model.specs.Places.{meant}
use Rattle.table_model.specs.Plans.{chosen, lawful_plans}
use Rattle.table_model.specs.Queries.{SelectQuery}
use Rattle.table_model.specs.QueryReading.{query_of}
use Rattle.table_model.specs.RunOutcomes.{MatrixOf, RecordText, answer_text, outcome, query_outcome}
use Rattle.table_model.specs.SpatialTables.{SpatialDatabase, SpatialSchema, SpatialStatement, SpatialTable}
use Rattle.table_model.specs.Statements.{by_conjuncts}
use Rattle.table_model.specs.Truths.{truth}
use Rattle.table_model.specs.Work.{work}
use Rattle.table_model.specs.declared.conditions.Reference.{Reference}
use Rattle.table_model.specs.declared.definitions.TableDef.{TableDef}
use Rattle.table_model.specs.GeometryColumns.{ColumnShape}
use Rattle.table_model.specs.declared.plans.Plan.{Plan}
use Rattle.table_model.specs.declared.queries.WrittenReference.{WrittenReference}

-- ---- tables that agree

-- two databases have the same table at a place
abbrev pub SameAt : List SpatialTable → List SpatialTable → ℕ → Type 0
SameAt tables others place = slice_index_or tables place [] ≡ slice_index_or others place []

-- they have it at the place of each reference
abbrev pub AgreeAt : List Reference → List SpatialTable → List SpatialTable → Type 0
AgreeAt references tables others = All (λ (r : Reference). SameAt tables others r.table) references

-- they have it at the place that a reference of a query names, if it names one (SQL, FROM)
abbrev pub SameAtName : SpatialSchema → List SpatialTable → List SpatialTable → WrittenReference → Type 0
SameAtName definitions tables others written = (place : ℕ) → table_place definitions written.table.text ≡ Some place → SameAt tables others place

-- they have it at each place that a query names (SQL, FROM)
abbrev pub AgreeAtNames : SpatialSchema → List WrittenReference → List SpatialTable → List SpatialTable → Type 0
AgreeAtNames definitions written tables others = All (SameAtName definitions tables others) written

-- the tables that are loaded are those of the whole
abbrev pub IsPartOf : KeptTables → List SpatialTable → Type 0
IsPartOf kept whole = (place : ℕ) → is_loaded kept place ≡ true → SameAt kept.tables whole place

-- each table that is loaded is that of the text at its place (06-104r4, feature tables)
abbrev pub IsLoadedFrom : KeptTables → List (List ℕ) → Type 0
IsLoadedFrom kept texts = (place : ℕ) (d : TableDef ColumnShape) → is_loaded kept place ≡ true
    → table_in reading (slice_index_or kept.definitions place d) (slice_index_or texts place []) ≡ Ok (table_at kept place)

-- no reference of a query names a table that isn't loaded
abbrev pub AllNamedAreLoaded : KeptTables → SelectQuery → Type 0
AllNamedAreLoaded kept written = position (names_unloaded kept) written.references ≡ None

-- the database of these definitions and tables
abbrev pub database_of : SpatialSchema → List SpatialTable → SpatialDatabase
database_of definitions tables = record { definitions = definitions; tables = tables }

-- ---- laws

-- the rows of a query are the same where the tables agree at its references, and so are their places (SQL, the query)
abbrev pub RowsAreOfNamed : Type 0
RowsAreOfNamed = (matrix : MatrixOf) (tables others : List SpatialTable) (query : SpatialStatement)
    → AgreeAt query.references tables others
    → (meaning (truth matrix denoted) tables query ≡ meaning (truth matrix denoted) others query)
    × (meant (truth matrix denoted) tables (by_conjuncts query) ≡ meant (truth matrix denoted) others (by_conjuncts query))

-- so are its lawful plans, the chosen one, and the work of each
abbrev pub PlansAreOfNamed : Type 0
PlansAreOfNamed = (matrix : MatrixOf) (tables others : List SpatialTable) (query : SpatialStatement)
    → AgreeAt query.references tables others
    → (lawful_plans tables (by_conjuncts query) ≡ lawful_plans others (by_conjuncts query))
    × (chosen tables (by_conjuncts query) ≡ chosen others (by_conjuncts query))
    × ((plan : Plan) → work matrix denoted tables (by_conjuncts query) plan ≡ work matrix denoted others (by_conjuncts query) plan)

-- so is the text of its answer, the header included: its rows, its plan, or its plan and the work (SQL, the query)
abbrev pub AnswersAreOfNamed : Type 0
AnswersAreOfNamed = (record_text : RecordText) (matrix : MatrixOf) (definitions : SpatialSchema) (tables others : List SpatialTable) (query : SpatialStatement)
    → AgreeAt query.references tables others
    → answer_text record_text matrix (database_of definitions tables) query ≡ answer_text record_text matrix (database_of definitions others) query

-- so is the outcome of a query as it is written, where the tables agree at its names: its answer, or its first fault (SQL, the query)
abbrev pub OutcomesAreOfNamed : Type 0
OutcomesAreOfNamed = (record_text : RecordText) (matrix : MatrixOf) (written : SelectQuery) (definitions : SpatialSchema) (tables others : List SpatialTable)
    → AgreeAtNames definitions written.references tables others
    → query_outcome record_text matrix written (database_of definitions tables) ≡ query_outcome record_text matrix written (database_of definitions others)

-- where all tables that a query names are loaded, its outcome over the kept database is that over the whole
abbrev pub KeptAnswersAreTheWholes : Type 0
KeptAnswersAreTheWholes = (record_text : RecordText) (matrix : MatrixOf) (written : SelectQuery) (kept : KeptTables) (whole : List SpatialTable)
    → IsPartOf kept whole → AllNamedAreLoaded kept written
    → query_outcome record_text matrix written (lent kept) ≡ query_outcome record_text matrix written (database_of kept.definitions whole)

-- a table that is loaded from a text leaves each loaded table that of its text, and of the texts this one is the only other
abbrev pub LoadedTextsAreKept : Type 0
LoadedTextsAreKept = (kept : KeptTables) (texts : List (List ℕ)) (place : ℕ) (text : List ℕ) (rows : SpatialTable) (d : TableDef ColumnShape)
    → IsKept kept → length texts ≡ length kept.definitions → place < length kept.definitions
    → IsLoadedFrom kept texts → table_in reading (slice_index_or kept.definitions place d) text ≡ Ok rows
    → IsLoadedFrom (with_table place rows kept) (slice_set texts place text)

-- where all tables that a query names are loaded from their texts, and the other texts load too, its outcome is that of a run
-- over all texts: the loading of the others changes nothing (SQL, the query)
abbrev pub KeptAnswersAreRuns : Type 0
KeptAnswersAreRuns = (record_text : RecordText) (matrix : MatrixOf) (text : List ℕ) (written : SelectQuery) (kept : KeptTables) (texts : List (List ℕ))
    → IsKept kept → length texts ≡ length kept.definitions → IsLoadedFrom kept texts → IsOk (tables_in reading kept.definitions texts)
    → query_of text ≡ Ok written → AllNamedAreLoaded kept written
    → outcome record_text matrix kept.definitions (map records_in texts) text ≡ query_outcome record_text matrix written (lent kept)
