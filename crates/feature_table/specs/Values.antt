-- Values that are kept as cells, with texts and geometries beside them.
use Rattle.std.specs.Prelude.{◌≡◌, ◌++◌, ◌<◌, ⊤, ℕ, List, Option, None, Some, length, map, slice_get}
use Rattle.feature_table.specs.GeometryFields.{GeometryValue}
use Rattle.feature_table.specs.declared.values.Cell.{Cell}
use Rattle.feature_table.specs.declared.values.Cell.TheVariants as cell
use Rattle.table_model.specs.Meanings.{Row}
use Rattle.table_model.specs.declared.values.Value.{Value}
use Rattle.table_model.specs.declared.values.Value.TheVariants as value

-- the value of what is at a place; null where nothing is there
abbrev pub value_of : {X : Type 0} → (X → Value GeometryValue) → Option X → Value GeometryValue
value_of of None = value.Null
value_of of (Some x) = of x

-- the value that a cell names, among these texts and geometries
abbrev pub value_in : List (List ℕ) → List GeometryValue → Cell → Value GeometryValue
value_in texts geometries cell.Null = value.Null
value_in texts geometries (cell.Int n) = value.Integer n
value_in texts geometries (cell.Text place) = value_of value.Text (slice_get texts place)
value_in texts geometries (cell.Geom place) = value_of value.Geometry (slice_get geometries place)

-- the values that cells name
abbrev pub values_in : List (List ℕ) → List GeometryValue → List Cell → Row GeometryValue
values_in texts geometries cells = map (value_in texts geometries) cells

-- the text or geometry that a cell names is there
abbrev pub IsBacked : List (List ℕ) → List GeometryValue → Cell → Type 0
IsBacked texts geometries cell.Null = ⊤
IsBacked texts geometries (cell.Int n) = ⊤
IsBacked texts geometries (cell.Text place) = place < length texts
IsBacked texts geometries (cell.Geom place) = place < length geometries

-- nothing but more was put behind the old
abbrev pub IsBehind : {X : Type 0} → List X → List X → Type 0
IsBehind {X = X} old new = (more : List X) × (new ≡ old ++ more)
