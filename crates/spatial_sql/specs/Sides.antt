-- The sides of a comparison, as values of fields.
use Rattle.std.specs.Prelude.{ℕ, List, Option, Some, None}
use Rattle.std.specs.Cmp.Lexicographic.{slice_cmp}
use Rattle.std.specs.Ordering.{nat_cmp}
use Rattle.std.specs.declared.cmp.Ordering.{Ordering}
use Rattle.geometry_model.specs.Geometries.{Geometry}
use Rattle.streams.specs.MemorySinks.{memory_bytes}
use Rattle.table_model.specs.declared.values.Value.{Value}
use Rattle.table_model.specs.declared.values.Value.TheVariants as values
use Rattle.spatial_sql.specs.declared.sides.Side.{Side}
use Rattle.spatial_sql.specs.declared.sides.Side.TheVariants as sides

-- the value of a side
abbrev pub side_value : Side → Value Geometry
side_value sides.Null = values.Null
side_value (sides.Int n) = values.Integer n
side_value (sides.Text bytes) = values.Text bytes.now
side_value (sides.Printed sink) = values.Text (memory_bytes sink)
side_value (sides.Geom geometry) = values.Geometry geometry.now

-- the bytes of a field that is a text
abbrev pub text_in : Value Geometry → Option (List ℕ)
text_in values.Null = None
text_in (values.Integer n) = None
text_in (values.Text bytes) = Some bytes
text_in (values.Geometry g) = None

-- the order of two texts, by bytes; without two there is none
abbrev pub order_of_texts : Option (List ℕ) → Option (List ℕ) → Option Ordering
order_of_texts (Some a) (Some b) = Some (slice_cmp nat_cmp a b)
order_of_texts (Some a) None = None
order_of_texts None b = None
