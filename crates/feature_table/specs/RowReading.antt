-- What reading the next row of a table returns.
use Rattle.std.specs.Prelude.{◌≡◌, ◌++◌, ℕ, Bool, true, false, List, [], ◌∷◌, Option, Result, Ok, Err, ⊤}
use Rattle.feature_table.specs.Outcomes.{IsFailure}
use Rattle.feature_table.specs.Records.{Gives}
use Rattle.feature_table.specs.declared.records.Records.{Records}
use Rattle.table_model.specs.Loading.{GeometryReader, Record, checked_row}
use Rattle.table_model.specs.Meanings.{Row}
use Rattle.table_model.specs.declared.definitions.TableDef.{TableDef}
use Rattle.table_model.specs.declared.faults.LoadFault.{LoadFault}

-- no record was left, or the first of those left was taken, and its row appended to the values or its fault returned
abbrev pub TakesRow : {R T G : Type 0} → (R → Option (List ℕ)) → Records R → GeometryReader T G → TableDef T → Record → ℕ → List Record
    → Row G → Row G → Result Bool LoadFault → Type 0
TakesRow remaining records geometry table header number rest old new (Ok false) = rest ≡ []
TakesRow {G = G} remaining records geometry table header number rest old new (Ok true) =
    (first : Record) × (more : List Record) × (row : Row G) × (rest ≡ first ∷ more)
    × (checked_row geometry table header (number, first) ≡ Ok row) × (new ≡ old ++ row) × Gives remaining records more
TakesRow remaining records geometry table header number rest old new (Err f) =
    ¬ (IsFailure f) → (first : Record) × (more : List Record) × (rest ≡ first ∷ more) × (checked_row geometry table header (number, first) ≡ Err f)

-- a row that was appended to the values is that of some record, and so is a fault that the definitions give
abbrev pub IsOfRecord : {T G : Type 0} → GeometryReader T G → TableDef T → Record → ℕ → Row G → Row G → Result Bool LoadFault → Type 0
IsOfRecord geometry table header number old new (Ok false) = ⊤
IsOfRecord {G = G} geometry table header number old new (Ok true) =
    (fields : Record) × (row : Row G) × (checked_row geometry table header (number, fields) ≡ Ok row) × (new ≡ old ++ row)
IsOfRecord geometry table header number old new (Err f) =
    ¬ (IsFailure f) → (fields : Record) × (checked_row geometry table header (number, fields) ≡ Err f)
