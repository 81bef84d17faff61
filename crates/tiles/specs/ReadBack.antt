-- What is written is read back.
use Rattle.std.specs.Prelude.{◌≡◌, ◌≢◌, ℕ, List, [], ◌∷◌, All, Some, slice_get}
use Rattle.csv.specs.Reading.{strip_bom}
use Rattle.feature_table.specs.Tables.{records_in}
use Rattle.table_model.specs.Loading.{Record}
use Rattle.tiles.specs.Copies.{table_at}

-- the text of a table, where no record is without a field and the text doesn't begin as a byte order mark, is read as the header and the rows (RFC 4180)
abbrev pub WrittenTablesAreRead : Type 0
WrittenTablesAreRead = (header : Record) (tables : List (List Record)) (number : ℕ) (rows : List Record) → slice_get tables number ≡ Some rows
    → All (λ row. row ≢ []) (header ∷ rows) → strip_bom (table_at header tables number) ≡ table_at header tables number
    → records_in (table_at header tables number) ≡ header ∷ rows
