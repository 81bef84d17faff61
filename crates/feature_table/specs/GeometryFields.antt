-- What is in a geometry column. This is the one place that says which type a type of such a column has, which a geometry, how a
-- field is read as one, and which geometries a column takes.
use Rattle.geometry_model.specs.Geometries.{Geometry}
use Rattle.table_model.specs.FeatureTables.{Takes, TakesValid}
use Rattle.table_model.specs.GeometryColumns.{ColumnShape, read_geometry}
use Rattle.table_model.specs.Loading.{GeometryReader}

-- what contracts see of the type of a geometry column (06-104r4, 7.2)
abbrev pub ShapeValue : Type 0
ShapeValue = ColumnShape

-- what contracts see of a geometry (06-103r4, 6.1)
abbrev pub GeometryValue : Type 0
GeometryValue = Geometry

-- how a field is read as a geometry: its text first, then its validity, then its type (06-104r4, 7.2)
abbrev pub reading : GeometryReader ShapeValue GeometryValue
reading = read_geometry

-- which geometries a column takes: the valid ones of its type (06-104r4, 7.2)
abbrev pub takes : Takes ShapeValue GeometryValue
takes = TakesValid
