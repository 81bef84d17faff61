-- The tables of the schema that is written: those of the parts.
use Rattle.std.specs.Prelude.{◌≡◌, ◌<◌, ◌+◌, ℕ, true, List, Option, Some, None, length, slice_get, string_bytes}
use Rattle.std.specs.List.{slice_index_or}
use Rattle.feature_table.specs.GeometryFields.{ShapeValue}
use Rattle.sfq_tiles.specs.declared.parts.NamedPart.{NamedPart}
use Rattle.table_model.specs.declared.definitions.ColumnDef.{ColumnDef}
use Rattle.table_model.specs.declared.definitions.ColumnType.TheVariants as type
use Rattle.table_model.specs.declared.definitions.TableDef.{TableDef}

-- the column at a place of a table is there and is that at a place of another
unfoldable pub IsCopied : List (ColumnDef ShapeValue) → ℕ → List (ColumnDef ShapeValue) → ℕ → Type 0
IsCopied source place made turn = (column : ColumnDef ShapeValue) × (slice_get source place ≡ Some column) × (slice_get made turn ≡ Some column)

-- the columns of a table begin with those at some places of another
unfoldable pub AreCopied : List (ColumnDef ShapeValue) → List ℕ → List (ColumnDef ShapeValue) → Type 0
AreCopied source places made = (turn : ℕ) → turn < length places → IsCopied source (slice_index_or places turn 0) made turn

-- the column of a mark: INTEGER NOT NULL
abbrev pub mark_column : List ℕ → ColumnDef ShapeValue
mark_column name = record { name = name; column_type = type.Integer; not_null = true }

-- after so many columns the marks w and s come in tiles, and nothing else (this project's choice)
unfoldable pub HasMarks : Option ℕ → List ℕ → List ℕ → List (ColumnDef ShapeValue) → ℕ → Type 0
HasMarks None west south made count = length made ≡ count
HasMarks (Some column) west south made count =
    (length made ≡ count + 2) × (slice_get made count ≡ Some (mark_column west)) × (slice_get made (count + 1) ≡ Some (mark_column south))

-- the columns of a table are those that are copied of a part, in their order, and then its marks
unfoldable pub HasColumns : NamedPart → List (ColumnDef ShapeValue) → Type 0
HasColumns part made =
    AreCopied part.table.now.columns part.columns.items made
    × HasMarks part.column (string_bytes part.west) (string_bytes part.south) made (length part.columns.items)

-- the column at a place of what is copied is the key of the part's table
abbrev pub HasKey : NamedPart → ℕ → Type 0
HasKey part key = (key < length part.columns.items) × (slice_index_or part.columns.items key 0 ≡ part.table.now.key)

-- a table is that of a part: it has the part's name, its copied columns and marks, and the key of its table
unfoldable pub IsMade : NamedPart → TableDef ShapeValue → Type 0
IsMade part made = (made.name ≡ part.name.now) × HasColumns part made.columns × HasKey part made.key

-- the table at a place is that of the part there
unfoldable pub IsMadeAt : List NamedPart → List (TableDef ShapeValue) → ℕ → Type 0
IsMadeAt parts tables place = (part : NamedPart) × (made : TableDef ShapeValue) × (slice_get parts place ≡ Some part) × (slice_get tables place ≡ Some made) × IsMade part made

-- tables are those of the parts, in their order
unfoldable pub AreMade : List NamedPart → List (TableDef ShapeValue) → Type 0
AreMade parts tables = (length tables ≡ length parts) × ((place : ℕ) → place < length parts → IsMadeAt parts tables place)
