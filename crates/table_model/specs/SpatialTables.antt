-- Tables and queries with geometries, under short names.
use Rattle.std.specs.Prelude.{List}
use Rattle.geometry_model.specs.Geometries.{Geometry}
use Rattle.table_model.specs.Databases.{Database}
use Rattle.table_model.specs.GeometryColumns.{ColumnShape}
use Rattle.table_model.specs.Meanings.{Table}
use Rattle.table_model.specs.Statements.{Statement}
use Rattle.table_model.specs.declared.conditions.Bound.{Bound}
use Rattle.table_model.specs.declared.conditions.ColumnPlace.{ColumnPlace}
use Rattle.table_model.specs.declared.conditions.GeometryArgument.{GeometryArgument}
use Rattle.table_model.specs.declared.definitions.TableDef.{TableDef}

-- the definitions of the tables of a schema (06-104r4, 7.2)
abbrev pub SpatialSchema : Type 0
SpatialSchema = List (TableDef ColumnShape)

-- the rows of a table
abbrev pub SpatialTable : Type 0
SpatialTable = Table Geometry

-- a database with geometries (06-104r4, 7.2)
abbrev pub SpatialDatabase : Type 0
SpatialDatabase = Database ColumnShape Geometry

-- a query bound as it is written, with the whole conditions of ON and WHERE
abbrev pub SpatialStatement : Type 0
SpatialStatement = Statement (GeometryArgument Geometry) ColumnPlace

-- a query bound, with its conjuncts
abbrev pub SpatialQuery : Type 0
SpatialQuery = Bound (GeometryArgument Geometry) ColumnPlace
