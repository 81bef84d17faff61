-- Laws of loading: what the rows of a table that loads are, whatever reads its geometries.
use Rattle.std.specs.Prelude.{◌≡◌, ◌<ℤ◌, ℕ, true, List, [], Some, Ok, All, IsPermutation, drop, slice_get, unwrap_or}
use Rattle.std.specs.List.{AllPairs}
use Rattle.table_model.specs.Databases.{fits_columns}
use Rattle.table_model.specs.Loading.{GeometryReader, Record, is_required, key_of, load, rows_of}
use Rattle.table_model.specs.Meanings.{Row, Table}
use Rattle.table_model.specs.declared.definitions.ColumnDef.{ColumnDef}
use Rattle.table_model.specs.declared.definitions.TableDef.{TableDef}
use Rattle.table_model.specs.declared.values.Value.TheVariants as value

-- the key of each row is below those of all later rows (06-104r4, feature tables)
abbrev pub Ascends : {G : Type 0} → ℕ → Table G → Type 0
Ascends key rows = AllPairs (λ a b. key_of key a <ℤ key_of key b) rows

-- these are the typed rows of the records after the header, in their order
abbrev pub AreTyped : {T G : Type 0} → GeometryReader T G → TableDef T → List Record → List (Row G) → Type 0
AreTyped geometry table records typed = rows_of geometry table (unwrap_or (slice_get records 0) []) (drop 1 records) ≡ Ok typed

-- the rows of a table that loads are in strictly ascending order of their keys (06-104r4, feature tables)
abbrev pub RowsAscend : (T G : Type 0) → Type 0
RowsAscend T G = (geometry : GeometryReader T G) (table : TableDef T) (records : List Record) (rows : Table G)
    → load geometry table records ≡ Ok rows → Ascends table.key rows

-- the rows of a table that loads are the typed rows of its records in another order: none is lost, none is added
abbrev pub RowsArePermuted : (T G : Type 0) → Type 0
RowsArePermuted T G = (geometry : GeometryReader T G) (table : TableDef T) (records : List Record) (rows : Table G)
    → load geometry table records ≡ Ok rows → (typed : List (Row G)) × AreTyped geometry table records typed × IsPermutation typed rows

-- each row has a value for each column, of the column's type (06-104r4, feature tables)
abbrev pub RowsFit : (T G : Type 0) → Type 0
RowsFit T G = (geometry : GeometryReader T G) (table : TableDef T) (records : List Record) (rows : Table G)
    → load geometry table records ≡ Ok rows → All (λ row. fits_columns table.columns row ≡ true) rows

-- a row's value isn't null in the columns that take no null: those with NOT NULL, and the key (SQL, NOT NULL)
abbrev pub IsFilled : {T G : Type 0} → TableDef T → Row G → Type 0
IsFilled {T} table row = (place : ℕ) (c : ColumnDef T) → slice_get table.columns place ≡ Some c → is_required table (place, c) ≡ true
    → slice_get row place ≡ Some value.Null → ⊥

-- no row has a null in a column that takes none (SQL, NOT NULL)
abbrev pub RequiredAreFilled : (T G : Type 0) → Type 0
RequiredAreFilled T G = (geometry : GeometryReader T G) (table : TableDef T) (records : List Record) (rows : Table G)
    → load geometry table records ≡ Ok rows → All (IsFilled table) rows
