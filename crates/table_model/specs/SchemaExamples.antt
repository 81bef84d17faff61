-- Short names for worked examples of texts of schemas with geometry columns.
use Rattle.std.specs.Prelude.{ℕ, List, [], ◌∷◌, codes, Result}
use Rattle.table_model.specs.GeometryColumnExamples.{column}
use Rattle.table_model.specs.GeometryColumns.{ColumnShape, shape_named}
use Rattle.table_model.specs.SchemaReading.{schema_of}
use Rattle.table_model.specs.declared.definitions.ColumnType.TheVariants as columns
use Rattle.table_model.specs.declared.definitions.TableDef.{TableDef}
use Rattle.table_model.specs.declared.faults.SchemaFault.{SchemaFault}

-- the schema that a text is, or its fault, with the types of geometry that a schema names (06-104r4, 7.2)
abbrev pub shown : List ℕ → Result (List (TableDef ColumnShape)) SchemaFault
shown text = schema_of shape_named text

-- a table of a key and a geometry column
abbrev pub keyed : List ℕ → ColumnShape → TableDef ColumnShape
keyed name shape = record { name = name; columns = column (codes "id") columns.Integer ∷ column (codes "geom") (columns.Geometry shape) ∷ []; key = 0 }
