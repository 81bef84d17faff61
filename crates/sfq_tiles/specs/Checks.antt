-- What is read before anything is made: the schema, and all tables, each of which is checked.
use Rattle.std.specs.Prelude.{◌≡◌, ◌⊎◌, ◌+◌, ◌++◌, ◌<◌, ⊤, ℕ, List, codes, length, slice_get, IfSome, Option, Some, take, Result, Ok, Err}
use Rattle.failures.specs.declared.failure.Failure.{Failure}
use Rattle.failures.specs.declared.failure.Failure.TheVariants as f
use Rattle.feature_table.specs.GeometryFields.{ShapeValue, reading}
use Rattle.feature_table.specs.Outcomes.{IsFailure}
use Rattle.feature_table.specs.Tables.{AreRecordsOf}
use Rattle.sfq_tiles.specs.Endings.{memory_ending}
use Rattle.sfq_tiles.specs.declared.endings.Ending.{Ending}
use Rattle.sfq_tiles.specs.declared.endings.Ending.TheVariants as e
use Rattle.table_model.specs.GeometryColumns.{shape_named}
use Rattle.table_model.specs.Loading.{Record}
use Rattle.table_model.specs.SchemaReading.{schema_of}
use Rattle.table_model.specs.SpatialTables.{SpatialSchema}
use Rattle.table_model.specs.Tokens.{most_bytes}
use Rattle.table_model.specs.declared.definitions.TableDef.{TableDef}
use Rattle.table_model.specs.declared.faults.LoadFault.{LoadFault}
use Rattle.table_model.specs.declared.faults.SchemaFault.{SchemaFault}
use Rattle.table_model.specs.declared.faults.SchemaFault.TheVariants as s
use Rattle.tiles.specs.Checks.{checked}

-- ---- the schema

-- a text is what was read of a file, if its bytes are known: all, or one byte more than a schema may have
abbrev pub IsRead : Option (List ℕ) → List ℕ → Type 0
IsRead known text = IfSome known (λ bytes. text ≡ take (most_bytes + 1) bytes)

-- a schema's file isn't read: it can't be opened, reading failed, or memory ran out
abbrev pub IsUnread : Failure → Type 0
IsUnread failure = (failure ≡ f.SchemaUnreadable) ⊎ (failure ≡ f.OutOfMemory)

-- the failure of a schema's fault, which may be running out of memory
abbrev pub schema_failure : SchemaFault → Failure
schema_failure s.OutOfMemory = f.OutOfMemory
schema_failure fault = f.Schema fault

-- what a schema's file gives: the schema of its text, or the text's first fault; else it isn't read
abbrev pub ReadsSchema : Option (List ℕ) → Result SpatialSchema Failure → Type 0
ReadsSchema known (Ok definitions) = (text : List ℕ) × IsRead known text × (schema_of shape_named text ≡ Ok definitions)
ReadsSchema known (Err (f.Schema fault)) = (text : List ℕ) × IsRead known text × (schema_of shape_named text ≡ Err fault)
ReadsSchema known (Err f.SchemaUnreadable) = ⊤
ReadsSchema known (Err f.OutOfMemory) = ⊤
ReadsSchema known (Err failure) = ⊥

-- ---- tables

-- the files that are read: the bytes of that at a path, where these are known
abbrev pub Files : Type 0
Files = List ℕ → Option (List ℕ)

-- the path of a table's file
abbrev pub table_path : List ℕ → List ℕ → List ℕ
table_path directory name = directory ++ codes "/" ++ name ++ codes ".csv"

-- a table was checked: the records of its file are rows of it, however many (06-104r4, feature tables)
abbrev pub IsChecked : Files → List ℕ → TableDef ShapeValue → Type 0
IsChecked files directory table =
    (records : List Record) × AreRecordsOf (files (table_path directory table.name)) records
    × (rows : ℕ) × (checked reading table records ≡ Ok rows)

-- the table at a place was checked
abbrev pub IsCheckedAt : Files → List ℕ → SpatialSchema → ℕ → Type 0
IsCheckedAt files directory definitions place = (table : TableDef ShapeValue) × (slice_get definitions place ≡ Some table) × IsChecked files directory table

-- all tables were checked
abbrev pub AreChecked : Files → List ℕ → SpatialSchema → Type 0
AreChecked files directory definitions = (place : ℕ) → place < length definitions → IsCheckedAt files directory definitions place

-- a table has this fault; or reading failed, or memory ran out
abbrev pub HasTableFault : Files → List ℕ → TableDef ShapeValue → LoadFault → Type 0
HasTableFault files directory table fault =
    (records : List Record) × AreRecordsOf (files (table_path directory table.name)) records × (¬ (IsFailure fault) → checked reading table records ≡ Err fault)

-- the ending where the file of the table of this name can't be opened, or memory ran out
abbrev pub IsOpenEnding : List ℕ → Ending → Type 0
IsOpenEnding name (e.Failed (f.Unreadable shown)) = shown.now ≡ name
IsOpenEnding name (e.Failed f.OutOfMemory) = ⊤
IsOpenEnding name ending = ⊥

-- the ending where a table isn't read, or has a fault
abbrev pub IsTableEnding : Files → List ℕ → TableDef ShapeValue → Ending → Type 0
IsTableEnding files directory table (e.Failed (f.Load shown fault)) = (shown.now ≡ table.name) × HasTableFault files directory table fault
IsTableEnding files directory table ending = IsOpenEnding table.name ending

-- the file of some table can't be opened, or memory ran out
pub record IsUnopened (definitions : SpatialSchema) (ending : Ending) : Type 0 where
  pub place : ℕ
  pub table : TableDef ShapeValue
  pub there : slice_get definitions place ≡ Some table
  pub ends : IsOpenEnding table.name ending

-- a table isn't read, or has a fault, and all before it were checked
pub record IsRefusedAt (files : Files) (directory : List ℕ) (definitions : SpatialSchema) (ending : Ending) : Type 0 where
  pub place : ℕ
  pub table : TableDef ShapeValue
  pub there : slice_get definitions place ≡ Some table
  pub before : (earlier : ℕ) → earlier < place → IsCheckedAt files directory definitions earlier
  pub ends : IsTableEnding files directory table ending

-- why not all tables are checked: memory ran out, a file can't be opened, or the first table that has a fault has this one
abbrev pub IsCheckEnding : Files → List ℕ → SpatialSchema → Ending → Type 0
IsCheckEnding files directory definitions ending =
    (ending ≡ memory_ending) ⊎ (IsUnopened definitions ending ⊎ IsRefusedAt files directory definitions ending)
