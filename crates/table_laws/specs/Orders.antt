-- The order of an answer by the keys of its rows.
use Rattle.std.specs.Prelude.{◌≡◌, ◌⊎◌, ◌<ℤ◌, ℕ, List, [], ◌∷◌, map, slice_get, Option, Some, None}
use Rattle.geometry_model.specs.Geometries.{Geometry}
use Rattle.table_model.specs.GeometryColumns.{ColumnShape}
use Rattle.table_model.specs.Loading.{key_of}
use Rattle.table_model.specs.Meanings.{Row}
use Rattle.table_model.specs.declared.conditions.Reference.{Reference}
use Rattle.table_model.specs.declared.definitions.TableDef.{TableDef}

-- the place of the key's column, if there is the table (06-104r4, feature tables)
abbrev pub key_in : Option (TableDef ColumnShape) → ℕ
key_in (Some table) = table.key
key_in None = 0

-- the places of the keys' columns, one for each reference
abbrev pub keys_of : List (TableDef ColumnShape) → List Reference → List ℕ
keys_of definitions references = map (λ r. key_in (slice_get definitions r.table)) references

-- a choice of rows comes before another: where their keys first differ, its key is less (the order of an answer: by the first's key, then the second's)
abbrev pub ComesBefore : List ℕ → List (Row Geometry) → List (Row Geometry) → Type 0
ComesBefore [] rows others = ⊥
ComesBefore (key ∷ keys) [] others = ⊥
ComesBefore (key ∷ keys) (row ∷ rows) [] = ⊥
ComesBefore (key ∷ keys) (row ∷ rows) (other ∷ others) = (key_of key row <ℤ key_of key other) ⊎ ((key_of key row ≡ key_of key other) × ComesBefore keys rows others)
