-- Which geometries the arguments of a condition are, at rows.
use Rattle.std.specs.Prelude.{Option, Some, None}
use Rattle.geometry_model.specs.Geometries.{Geometry}
use Rattle.table_model.specs.Truths.{Rows, field_at}
use Rattle.table_model.specs.declared.values.Value.{Value}
use Rattle.table_model.specs.declared.values.Value.TheVariants as values
use Rattle.table_model.specs.declared.conditions.GeometryArgument.{GeometryArgument}
use Rattle.table_model.specs.declared.conditions.GeometryArgument.TheVariants as arguments

-- the geometry in a field; null has none (06-104r4, 7.2: SQL with Geometry Types)
abbrev pub geometry_in : Value Geometry → Option Geometry
geometry_in values.Null = None
geometry_in (values.Integer n) = None
geometry_in (values.Text bytes) = None
geometry_in (values.Geometry g) = Some g

-- the geometry of an argument at rows: that in its column's field, or the literal itself (06-104r4, 7.2: SQL with Geometry Types)
abbrev pub denoted : Rows Geometry → GeometryArgument Geometry → Option Geometry
denoted rows (arguments.Column place) = geometry_in (field_at rows place)
denoted rows (arguments.Literal g) = Some g
