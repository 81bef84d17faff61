-- Why a second pass isn't done to its end.
use Rattle.std.specs.Prelude.{◌≡◌, ◌≢◌, ◌⊎◌, [], ◌∷◌, ℕ, Bool, true, false, List, Option, Some, length}
use Rattle.std.specs.List.{Any}
use Rattle.basics.specs.Counts.{one_more}
use Rattle.feature_table.specs.Outcomes.{IsFailure, is_of_reading}
use Rattle.feature_table.specs.Tables.{AreRecordsOf, records_in}
use Rattle.table_model.specs.Loading.{Record, header_fault}
use Rattle.table_model.specs.declared.definitions.ColumnDef.{ColumnDef}
use Rattle.table_model.specs.declared.faults.LoadFault.{LoadFault}
use Rattle.tiles.specs.Copies.{header_of}
use Rattle.tiles.specs.PlainRecords.{GivesRest}
use Rattle.tiles.specs.RecordLines.{SpellsNoGeometry, field_in, places_in}
use Rattle.tiles.specs.declared.plain_records.PlainRecords.{PlainRecords}
use Rattle.tiles.specs.declared.faults.CopyFault.{CopyFault}
use Rattle.tiles.specs.declared.faults.CopyFault.TheVariants as copy

-- a fault of the sink where one put more failed, or one of the table, of this kind, where no put failed
abbrev pub IsCopyFault : (LoadFault → Type 0) → ℕ → ℕ → CopyFault → Type 0
IsCopyFault IsOfTable before after copy.Sink = after ≡ one_more before
IsCopyFault IsOfTable before after (copy.Load f) = (after ≡ before) × IsOfTable f

-- whether a fault says that a table can't be read again as it was
abbrev pub is_copy_of_reading : CopyFault → Bool
is_copy_of_reading copy.Sink = false
is_copy_of_reading (copy.Load f) = is_of_reading f

-- reading failed or memory ran out, or this is the fault of the header that a reader gives first
abbrev pub IsOfHeader : {R T : Type 0} → (R → Option (List ℕ)) → PlainRecords R → List (ColumnDef T) → LoadFault → Type 0
IsOfHeader remaining records columns f =
    IsFailure f ⊎ ((header : Record) × (header_fault columns header ≡ Some f) × ((rest : List Record) → GivesRest remaining records rest → (more : List Record) × (rest ≡ header ∷ more)))

-- reading failed or memory ran out, or this is the fault of the header of a table's records: of those of the reader's bytes, where
-- these are known (06-104r4, feature tables)
abbrev pub IsTableFault : {T : Type 0} → Option (List ℕ) → List (ColumnDef T) → LoadFault → Type 0
IsTableFault known columns f = IsFailure f ⊎ ((records : List Record) × AreRecordsOf known records × (header_fault columns (header_of records) ≡ Some f))

-- a record isn't as long as the header of its table
abbrev pub IsUneven : Record → Record → Type 0
IsUneven header fields = length fields ≢ length header

-- the same, or its text in a column isn't that of a geometry
abbrev pub IsUntiled : {T : Type 0} → List (ColumnDef T) → ℕ → Record → Record → Type 0
IsUntiled columns column header fields = IsUneven header fields ⊎ SpellsNoGeometry (field_in (places_in header columns) fields column)

-- of known bytes no record is there, or one is such a record of the table
abbrev pub AreSpoilt : (Record → Record → Type 0) → Option (List ℕ) → Type 0
AreSpoilt IsBad known =
    (text : List ℕ) → known ≡ Some text → (records_in text ≡ []) ⊎ Any (IsBad (header_of (records_in text))) (records_in text)
