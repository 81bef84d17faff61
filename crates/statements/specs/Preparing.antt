-- What the text of a query is bound to over a kept database, or why it isn't.
use Rattle.std.specs.Prelude.{ℕ, List, Option, Some, None, Result, Ok, Err, slice_get}
use Rattle.std.specs.List.{position}
use Rattle.std.specs.Option.{option_and_then}
use Rattle.kept_tables.specs.KeptTables.{KeptTables, names_unloaded}
use Rattle.statements.specs.declared.prepare_faults.PrepareFault.{PrepareFault}
use Rattle.statements.specs.declared.prepare_faults.PrepareFault.TheVariants as faults
use Rattle.table_model.specs.Binding.{binding, table_place}
use Rattle.table_model.specs.GeometryColumns.{geometry_binding}
use Rattle.table_model.specs.Queries.{SelectQuery}
use Rattle.table_model.specs.QueryReading.{query_of}
use Rattle.table_model.specs.SpatialTables.{SpatialQuery, SpatialSchema}
use Rattle.table_model.specs.declared.faults.QueryFault.{QueryFault}
use Rattle.table_model.specs.declared.faults.QueryFault.TheVariants as query
use Rattle.table_model.specs.declared.queries.WrittenReference.{WrittenReference}

-- the place of the table that a reference names, if it names one of the schema (SQL, FROM)
abbrev pub named_table : SpatialSchema → Option WrittenReference → Option ℕ
named_table definitions (Some written) = table_place definitions written.table.text
named_table definitions None = None

-- the place of the first table that a query names and that isn't loaded (SQL, FROM)
abbrev pub unloaded_table : KeptTables → SelectQuery → Option ℕ
unloaded_table kept written =
    option_and_then (λ n. named_table kept.definitions (slice_get written.references n)) (position (names_unloaded kept) written.references)

-- a fault of reading or of binding, as one of preparing
abbrev pub of_query : QueryFault → PrepareFault
of_query fault = faults.Query fault

-- memory ran out
abbrev pub out_of_memory : PrepareFault
out_of_memory = faults.Query query.OutOfMemory

-- a result of reading or of binding, with its fault as one of preparing
abbrev pub or_fault : {X : Type 0} → Result X QueryFault → Result X PrepareFault
or_fault (Ok x) = Ok x
or_fault (Err e) = Err (faults.Query e)

-- what a query is bound to, unless a table that it names isn't loaded
abbrev pub bound_unless : Option ℕ → SpatialSchema → SelectQuery → Result SpatialQuery PrepareFault
bound_unless (Some place) definitions written = Err (faults.NotLoaded place)
bound_unless None definitions written = or_fault (binding geometry_binding definitions written)

-- what a text is bound to that was read so far
abbrev pub bound_after : KeptTables → Result SelectQuery QueryFault → Result SpatialQuery PrepareFault
bound_after kept (Ok written) = bound_unless (unloaded_table kept written) kept.definitions written
bound_after kept (Err e) = Err (faults.Query e)

-- what the text of a query is bound to over a kept database, or its first fault: of reading the text; a table that it names and that
-- isn't loaded; of binding it (SQL, the query; the order: this project's choice)
abbrev pub bound_of : KeptTables → List ℕ → Result SpatialQuery PrepareFault
bound_of kept text = bound_after kept (query_of text)
