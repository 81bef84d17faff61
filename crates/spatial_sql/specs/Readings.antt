-- What a side of a comparison reads of a column: its field, or the text or the dimension of the geometry in it.
use Rattle.std.specs.Prelude.{◌==◌, ◌&&◌, Bool, true, false, Option, Some, None}
use Rattle.feature_table.specs.Cells.{shown}
use Rattle.geometry_model.specs.CanonicalText.{canonical_text}
use Rattle.geometry_model.specs.Geometries.{Geometry}
use Rattle.spatial_sql.specs.FilterOrder.{Argument}
use Rattle.spatial_sql.specs.declared.readings.ReadColumn.{ReadColumn}
use Rattle.spatial_sql.specs.declared.readings.ReadValue.{ReadValue}
use Rattle.spatial_sql.specs.declared.readings.ReadValue.TheVariants as reads
use Rattle.spatial_sql.specs.declared.readings.Reading.{Reading}
use Rattle.spatial_sql.specs.declared.readings.Reading.TheVariants as readings
use Rattle.table_model.specs.Arguments.{geometry_in}
use Rattle.table_model.specs.Truths.{dimension_value, text_value}
use Rattle.table_model.specs.declared.conditions.GeometryArgument.TheVariants as arguments
use Rattle.table_model.specs.declared.conditions.Operand.{Operand}
use Rattle.table_model.specs.declared.conditions.Operand.TheVariants as operands
use Rattle.table_model.specs.declared.values.Value.{Value}
use Rattle.table_model.specs.declared.values.Value.TheVariants as values

-- two readings are the same
abbrev pub is_same_reading : Reading → Reading → Bool
is_same_reading readings.Field readings.Field = true
is_same_reading readings.Field readings.Text = false
is_same_reading readings.Field readings.Dimension = false
is_same_reading readings.Text readings.Field = false
is_same_reading readings.Text readings.Text = true
is_same_reading readings.Text readings.Dimension = false
is_same_reading readings.Dimension readings.Field = false
is_same_reading readings.Dimension readings.Text = false
is_same_reading readings.Dimension readings.Dimension = true

-- two columns are the same, and the same is read of them
abbrev pub is_same : ReadColumn → ReadColumn → Bool
is_same a b = a.place.reference == b.place.reference && (a.place.column == b.place.column && is_same_reading a.reading b.reading)

-- what is read of a column that has this field: the field, or ST_AsText or ST_Dimension of its geometry (06-103r4, 6.1.2.2)
abbrev pub value_read : Reading → Value Geometry → Value Geometry
value_read readings.Field v = v
value_read readings.Text v = text_value (geometry_in v)
value_read readings.Dimension v = dimension_value (geometry_in v)

-- the column of an argument, of which this is read; none of a literal
abbrev pub column_of : Reading → Argument → Option ReadColumn
column_of reading (arguments.Column place) = Some (record { place = place; reading = reading })
column_of reading (arguments.Literal g) = None

-- the column that a side of a comparison reads; none of a constant
abbrev pub read_column : Operand Argument → Option ReadColumn
read_column (operands.Column place) = Some (record { place = place; reading = readings.Field })
read_column (operands.Integer n) = None
read_column (operands.Text bytes) = None
read_column operands.Null = None
read_column (operands.AsText a) = column_of readings.Text a
read_column (operands.Dimension a) = column_of readings.Dimension a

-- the value that was read: that of a field, or the canonical text of a geometry
abbrev pub value_of : ReadValue → Value Geometry
value_of (reads.Field field) = shown field
value_of (reads.TextOf geometry) = values.Text (canonical_text geometry.now)
