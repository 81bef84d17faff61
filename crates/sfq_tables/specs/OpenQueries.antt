-- What the queries of open statements name: their tables, and the column from which each item comes.
use Rattle.std.specs.Prelude.{ℕ, Option, None, slice_get}
use Rattle.std.specs.Option.{option_and_then, option_map}
use Rattle.sfq_tables.specs.Connections.{Connected}
use Rattle.sfq_tables.specs.OpenStatements.{statement_at}
use Rattle.sfq_tables.specs.declared.open_queries.Origin.{Origin}
use Rattle.statements.specs.declared.prepared.Statement.{Statement}
use Rattle.table_model.specs.SpatialTables.{SpatialQuery}
use Rattle.table_model.specs.declared.conditions.ColumnPlace.{ColumnPlace}
use Rattle.table_model.specs.declared.conditions.Item.{Item}
use Rattle.table_model.specs.declared.conditions.Item.TheVariants as items
use Rattle.table_model.specs.declared.conditions.Reference.{Reference}
use Rattle.table_model.specs.declared.queries.Explain.{Explain}
use Rattle.table_model.specs.declared.queries.Explain.TheVariants as explains

-- a reference of an open statement's query, in the order of FROM (SQL, FROM)
abbrev pub reference_of : Connected → ℕ → ℕ → Option Reference
reference_of connected number place =
    option_and_then (λ (s : Statement). slice_get s.bound.references place) (statement_at connected number)

-- the place of a column, and the number of the function that is called with it
abbrev pub origin_at : ColumnPlace → ℕ → Origin
origin_at place function = record { reference = place.reference; column = place.column; function = function }

-- where an item comes from: 0 is the column itself, 1 ST_AsText of it, 2 ST_Dimension, 3 ST_IsEmpty (06-103r4, 6.1.2.2)
abbrev pub origin_of_item : Item ColumnPlace → Origin
origin_of_item (items.Column place) = origin_at place 0
origin_of_item (items.AsText place) = origin_at place 1
origin_of_item (items.Dimension place) = origin_at place 2
origin_of_item (items.IsEmpty place) = origin_at place 3

-- where a column of rows comes from; the lines of EXPLAIN come from none
abbrev pub origin_by : Explain → SpatialQuery → ℕ → Option Origin
origin_by explains.No query column = option_map origin_of_item (slice_get query.items column)
origin_by explains.Plan query column = None
origin_by explains.Analyze query column = None

-- where a column of a query's rows comes from; COUNT(*) has no items
abbrev pub origin_in : SpatialQuery → ℕ → Option Origin
origin_in query column = origin_by query.explain query column

-- where a column of an open statement's rows comes from (SQL, the select list)
abbrev pub origin_of : Connected → ℕ → ℕ → Option Origin
origin_of connected number column = option_and_then (λ (s : Statement). origin_in s.bound column) (statement_at connected number)
