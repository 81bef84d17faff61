-- The parts that the words of the command line name: NAME=TABLE, perhaps .COLUMN, perhaps :COLUMN,..
use Rattle.std.specs.Prelude.{◌≡◌, ⊤, ℕ, Bool, true, false, ◌==◌, ◌||◌, List, filter, length, Option, Some, None, slice_get, if◌then◌else◌}
use Rattle.std.specs.List.{AllZip, after_first, before_first, list_any, range_with_len, slice_split}
use Rattle.feature_table.specs.GeometryFields.{ShapeValue}
use Rattle.sfq_tiles.specs.declared.parts.NamedPart.{NamedPart}
use Rattle.table_model.specs.Texts.{same_name}
use Rattle.table_model.specs.declared.definitions.ColumnDef.{ColumnDef}
use Rattle.table_model.specs.declared.definitions.ColumnType.TheVariants as type
use Rattle.table_model.specs.declared.definitions.TableDef.{TableDef}

-- ---- words

-- the text before the first such byte, or all of it
abbrev pub before : ℕ → List ℕ → List ℕ
before byte text = before_first (λ b. b == byte) text

-- the text after the first such byte, if there is one
abbrev pub after : ℕ → List ℕ → Option (List ℕ)
after byte text = if list_any (λ b. b == byte) text then Some (after_first (λ b. b == byte) text) else None

-- a word names a part: NAME, '=', TABLE, perhaps '.' and a COLUMN, perhaps ':' and a list (this project's choice)
pub record HasNames (word name table : List ℕ) (column list : Option (List ℕ)) : Type 0 where
  pub rest : List ℕ
  pub name_is : name ≡ before 61 word
  pub rest_is : after 61 word ≡ Some rest
  pub table_is : table ≡ before 46 (before 58 rest)
  pub column_is : column ≡ after 46 (before 58 rest)
  pub list_is : list ≡ after 58 rest

-- ---- tables and columns

-- a column is found and has a name, in any ASCII case
abbrev pub is_called : List ℕ → Option (ColumnDef ShapeValue) → Bool
is_called name None = false
is_called name (Some column) = same_name column.name name

-- a column is found and is one of geometries
abbrev pub IsOfGeometries : Option (ColumnDef ShapeValue) → Type 0
IsOfGeometries None = ⊥
IsOfGeometries (Some column) = (shape : ShapeValue) × (column.column_type ≡ type.Geometry shape)

-- the column by which tiles are cut is that of a name, one of geometries; without a name there are no tiles
abbrev pub ByColumn : TableDef ShapeValue → Option (List ℕ) → Option ℕ → Type 0
ByColumn table None None = ⊤
ByColumn table (Some name) (Some place) = (is_called name (slice_get table.columns place) ≡ true) × IsOfGeometries (slice_get table.columns place)
ByColumn table None (Some place) = ⊥
ByColumn table (Some name) None = ⊥

-- a column is found, and a list with commas between names has its name
abbrev pub is_listed : List ℕ → Option (ColumnDef ShapeValue) → Bool
is_listed list column = list_any (λ name. is_called name column) (slice_split (λ b. b == 44) list)

-- the places of the columns that are copied, in the order of the schema: all, or the key and those in a list (this project's choice)
abbrev pub copied_places : TableDef ShapeValue → Option (List ℕ) → List ℕ
copied_places table None = range_with_len 0 (length table.columns)
copied_places table (Some list) =
    filter (λ place. (place == table.key) || is_listed list (slice_get table.columns place)) (range_with_len 0 (length table.columns))

-- ---- parts

-- a part is that of a word: it has the word's name, the table of that name, the column of its tiles, and the columns that are copied
pub record IsNamed (definitions : List (TableDef ShapeValue)) (word : List ℕ) (part : NamedPart) : Type 0 where
  pub table : List ℕ
  pub column : Option (List ℕ)
  pub list : Option (List ℕ)
  pub names : HasNames word part.name.now table column list
  pub there : slice_get definitions part.place ≡ Some part.table.now
  pub called : same_name part.table.now.name table ≡ true
  pub by_column : ByColumn part.table.now column part.column
  pub copied : part.columns.items ≡ copied_places part.table.now list

-- parts are those of some words, one for each, in their order
abbrev pub AreNamed : List (TableDef ShapeValue) → List (List ℕ) → List NamedPart → Type 0
AreNamed definitions words parts = AllZip (IsNamed definitions) words parts
