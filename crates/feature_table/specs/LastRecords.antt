-- What is in the header and the record that loading read last, where a table has a fault.
use Rattle.std.specs.Prelude.{◌≡◌, ⊤, ℕ, IfErr, List, [], ◌∷◌, Option, None, Some, Result, Err, get_or, slice_get}
use Rattle.feature_table.specs.Outcomes.{IsFailure, Loads, record_in}
use Rattle.feature_table.specs.Records.{Gives}
use Rattle.feature_table.specs.Tables.{AreOfRecords, AreRecordsOf}
use Rattle.feature_table.specs.declared.records.Records.{Records}
use Rattle.table_model.specs.Loading.{GeometryReader, Record, checked_row, load, rows_of}
use Rattle.table_model.specs.Meanings.{Row, Table}
use Rattle.table_model.specs.declared.definitions.TableDef.{TableDef}
use Rattle.table_model.specs.declared.faults.LoadFault.{LoadFault}
use Rattle.table_model.specs.declared.faults.TableFault.{TableFault}

-- the record is the one of this number, if one is asked for
abbrev pub IsNumbered : List Record → Record → Option ℕ → Type 0
IsNumbered all last None = ⊤
IsNumbered all last (Some number) = slice_get all number ≡ Some last

-- where these records have a fault, their header was read, which has no fields where there are no records; and the record that shows the
-- fault was read last. Of a read that failed and of memory that ran out nothing is said
abbrev pub ShowsRefused : List Record → Record → Record → LoadFault → Type 0
ShowsRefused all header last f = ¬ (IsFailure f) → (header ≡ get_or all 0 []) × IsNumbered all last (record_in f)

-- the record that was read last has this fault under the header, which the definitions give; it was the first of those that were left
abbrev pub HasFault : {R T G : Type 0} → (R → Option (List ℕ)) → Records R → GeometryReader T G → TableDef T → Record → ℕ → Record → LoadFault → Type 0
HasFault remaining old geometry table header number last f =
    ¬ (IsFailure f)
    → (checked_row geometry table header (number, last) ≡ Err f)
    × ((rest : List Record) → Gives remaining old rest → (more : List Record) × (rest ≡ last ∷ more))

-- there are records after a header that give these rows or have this fault, and what has it was read last
abbrev pub ShowsRows : {T G X : Type 0} → GeometryReader T G → TableDef T → Record → (X → List (Row G)) → Record → Result X LoadFault → Type 0
ShowsRows geometry table header view last answer =
    (records : List Record) × Loads view answer (rows_of geometry table header records)
    × IfErr answer (ShowsRefused (header ∷ records) header last)

-- there are records that load as these rows or have this fault, and what has it was read last
abbrev pub ShowsTable : {T G X : Type 0} → GeometryReader T G → TableDef T → Option (List ℕ) → (X → Table G) → Record → Record → Result X LoadFault → Type 0
ShowsTable geometry table known view header last answer =
    (records : List Record) × AreRecordsOf known records × Loads view answer (load geometry table records)
    × IfErr answer (ShowsRefused records header last)

-- of the records of the tables those of the table with a fault have it, and what has it was read last
abbrev pub ShowsFault : List (List Record) → Record → Record → TableFault → Type 0
ShowsFault records header last f = ShowsRefused (get_or records f.table []) header last f.fault

-- there are records of the readers that load as these tables or have this fault, and what has it was read last
abbrev pub AreShown : {T G X : Type 0} → GeometryReader T G → List (TableDef T) → List (Option (List ℕ)) → (X → List (Table G)) → Record → Record
    → Result X TableFault → Type 0
AreShown geometry definitions known view header last answer =
    (a : AreOfRecords geometry definitions known view answer) × IfErr answer (ShowsFault a.records header last)
