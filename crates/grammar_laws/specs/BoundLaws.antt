-- The laws of what is bound: the tables and columns of a query that is bound to definitions are there, and its types fit.
use Rattle.std.specs.Prelude.{List, IfOk}
use Rattle.table_model.specs.Binding.{binding}
use Rattle.table_model.specs.BoundQueries.{IsBound, geometry_fits}
use Rattle.table_model.specs.GeometryColumns.{ColumnShape, geometry_binding}
use Rattle.table_model.specs.References.{AreOneOrTwo}
use Rattle.table_model.specs.declared.definitions.TableDef.{TableDef}
use Rattle.table_model.specs.declared.queries.Query.{Query}
use Rattle.table_model.specs.declared.queries.WrittenColumn.{WrittenColumn}
use Rattle.table_model.specs.declared.queries.WrittenGeometry.{WrittenGeometry}

-- what a query with geometries is bound to, where it has one reference or two, is bound to these definitions (06-104r4, 7.2)
abbrev pub GeometryQueriesAreBound : Type 0
GeometryQueriesAreBound = (definitions : List (TableDef ColumnShape)) (query : Query WrittenGeometry WrittenColumn)
    → AreOneOrTwo query.references → IfOk (binding geometry_binding definitions query) (IsBound geometry_fits definitions)
