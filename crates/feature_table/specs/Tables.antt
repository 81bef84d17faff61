-- The tables that texts of CSV load as, and those that some records load as where no text is known. Generic in what names a
-- type of geometry columns, in what a geometry is, and in how a field is read as one.
use Rattle.std.specs.Prelude.{◌≡◌, ◌⊎◌, ◌-◌, ◌∷◌, drop, slice_get, unwrap_or, ℕ, IfErr, IsOk, List, [], None, Option, Result, Some, map, take, true, ⊤}
use Rattle.feature_table.specs.Outcomes.{Loads, LoadsTable}
pub use Rattle.feature_table.specs.Records.{records_in}
use Rattle.table_model.specs.Databases.{load_tables, loaded_tables}
use Rattle.table_model.specs.Definitions.{lawful}
use Rattle.table_model.specs.FeatureTables.{AreRows, Takes}
use Rattle.table_model.specs.Loading.{GeometryReader, Record, checked_rows, each, header_fault, load}
use Rattle.table_model.specs.Meanings.{Table}
use Rattle.table_model.specs.declared.definitions.TableDef.{TableDef}
use Rattle.table_model.specs.declared.faults.LoadFault.{LoadFault}
use Rattle.table_model.specs.declared.faults.TableFault.{TableFault}

-- the table of this definition that a text loads as, or the first fault
abbrev pub table_in : {T G : Type 0} → GeometryReader T G → TableDef T → List ℕ → Result (Table G) LoadFault
table_in geometry table text = load geometry table (records_in text)

-- the tables of a schema that texts load as, one text a table, or the first fault with its table (06-104r4, feature
-- tables)
abbrev pub tables_in : {T G : Type 0} → GeometryReader T G → List (TableDef T) → List (List ℕ) → Result (List (Table G)) TableFault
tables_in geometry definitions texts = load_tables geometry definitions (map records_in texts)

-- the records of each table before this place load as a table of the definition there
abbrev pub EarlierLoad : {T G : Type 0} → GeometryReader T G → List (TableDef T) → List (List Record) → ℕ → Type 0
EarlierLoad geometry definitions records place = IsOk (each (take place (loaded_tables geometry definitions records)))

-- there are records that load as these rows, or that have this fault
abbrev pub IsOfSomeRecords : {T G X : Type 0} → GeometryReader T G → TableDef T → (X → Table G) → Result X LoadFault → Type 0
IsOfSomeRecords geometry table view answer = (records : List Record) × Loads view answer (load geometry table records)

-- these may be the records of a reader: if its bytes are known, they are what csv reads from them
abbrev pub AreRecordsOf : Option (List ℕ) → List Record → Type 0
AreRecordsOf None records = ⊤
AreRecordsOf (Some text) records = records ≡ records_in text

-- the same for several readers: one list of records for each
abbrev pub EachRecordsOf : List (Option (List ℕ)) → List (List Record) → Type 0
EachRecordsOf [] [] = ⊤
EachRecordsOf [] (records ∷ more) = ⊥
EachRecordsOf (known ∷ others) [] = ⊥
EachRecordsOf (known ∷ others) (records ∷ more) = AreRecordsOf known records × EachRecordsOf others more

-- there are records of the reader that load as these rows, or that have this fault
abbrev pub IsOfRecords : {T G X : Type 0} → GeometryReader T G → TableDef T → Option (List ℕ) → (X → Table G) → Result X LoadFault → Type 0
IsOfRecords geometry table known view answer = (records : List Record) × AreRecordsOf known records × Loads view answer (load geometry table records)

-- there are records of the readers that load as these tables, or that have this fault; each table before one that is refused,
-- or whose reading failed, has loaded
pub record AreOfRecords {T G X : Type 0} (geometry : GeometryReader T G) (definitions : List (TableDef T)) (known : List (Option (List ℕ)))
    (view : X → List (Table G)) (answer : Result X TableFault) : Type 0 where
  pub records : List (List Record)
  pub are_of : EachRecordsOf known records
  pub loads : LoadsTable view answer (load_tables geometry definitions records)
  pub earlier : IfErr answer (λ f. EarlierLoad geometry definitions records f.table)

-- before the record of this place, that of the header being 0, none has a fault: the header has each column's name once, and
-- the records after it are rows
abbrev pub NoFaultBefore : {T G : Type 0} → GeometryReader T G → TableDef T → List Record → ℕ → Type 0
NoFaultBefore geometry table records place =
    let header = unwrap_or (slice_get records 0) [] in
    (place ≡ 0) ⊎ ((header_fault table.columns header ≡ None) × IsOk (each (take (place - 1) (checked_rows geometry table header (drop 1 records)))))

-- the rows of a table of some lawful definition (06-104r4, feature tables)
pub record IsTable {T G : Type 0} (takes : Takes T G) (rows : Table G) : Type 0 where
  pub definition : TableDef T
  pub is_lawful : lawful (definition ∷ []) ≡ true
  pub are_rows : AreRows takes definition rows
