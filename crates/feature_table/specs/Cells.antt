-- What a field shows.
use Rattle.feature_table.specs.declared.cells.Field.{Field}
use Rattle.feature_table.specs.declared.cells.Field.TheVariants as field
use Rattle.feature_table.specs.GeometryFields.{GeometryValue}
use Rattle.table_model.specs.declared.values.Value.{Value}
use Rattle.table_model.specs.declared.values.Value.TheVariants as value

-- the value of a field: of what it borrows, the bytes
abbrev pub shown : Field → Value GeometryValue
shown field.Null = value.Null
shown (field.Int n) = value.Integer n
shown (field.Text text) = value.Text text.now
shown (field.Geom geometry) = value.Geometry geometry.now
