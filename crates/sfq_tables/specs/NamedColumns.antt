-- The columns that the text of a query names, and where.
use Rattle.std.specs.Prelude.{◌≡◌, ◌⊎◌, ℕ, List, [], ◌∷◌, ◌++◌, Option, Result, Ok, Err, length, map}
use Rattle.std.specs.List.{flat_map}
use Rattle.std.specs.Option.{option_map_or}
use Rattle.std.specs.Str.{IsUtf8}
use Rattle.library_calls.specs.Kept.{status_of_room}
use Rattle.library_calls.specs.Refusals.{out_of_memory, unknown}
use Rattle.sfq_tables.specs.declared.named_columns.NamedColumn.{NamedColumn}
use Rattle.table_model.specs.Binding.{name_start}
use Rattle.table_model.specs.QueryReading.{query_of}
use Rattle.table_model.specs.declared.faults.QueryFault.{QueryFault}
use Rattle.table_model.specs.declared.queries.Query.{Query}
use Rattle.table_model.specs.declared.queries.Selection.{Selection}
use Rattle.table_model.specs.declared.queries.Selection.TheVariants as selections
use Rattle.table_model.specs.declared.queries.WrittenColumn.{WrittenColumn}
use Rattle.table_model.specs.declared.queries.WrittenCond.{WrittenCond}
use Rattle.table_model.specs.declared.queries.WrittenCond.TheFolds.{fold-WrittenCond}
use Rattle.table_model.specs.declared.queries.WrittenCond.TheOpen.{WrittenCond-F}
use Rattle.table_model.specs.declared.queries.WrittenGeometry.{WrittenGeometry}
use Rattle.table_model.specs.declared.queries.WrittenGeometry.TheVariants as written_geometry
use Rattle.table_model.specs.declared.queries.WrittenItem.{WrittenItem}
use Rattle.table_model.specs.declared.queries.WrittenItem.TheVariants as written_item
use Rattle.table_model.specs.declared.queries.WrittenOperand.{WrittenOperand}
use Rattle.table_model.specs.declared.queries.WrittenOperand.TheVariants as written_operand

-- a column: its first byte, that of its name, which is behind the name of its reference where that is written, and how many bytes the
-- name has (SQL, column names)
abbrev pub named : WrittenColumn → NamedColumn
named column = record { at = name_start column.name column.reference; name = column.name.at; size = length column.name.text }

-- the columns of a geometry argument (06-104r4, 7.2)
abbrev pub named_in_geometry : WrittenGeometry → List NamedColumn
named_in_geometry (written_geometry.Column column) = named column ∷ []
named_in_geometry (written_geometry.FromText string) = []

-- those of a side of a comparison (SQL, comparison)
abbrev pub named_in_operand : WrittenOperand WrittenGeometry → List NamedColumn
named_in_operand (written_operand.Column column) = named column ∷ []
named_in_operand (written_operand.Integer n) = []
named_in_operand (written_operand.Text string) = []
named_in_operand written_operand.Null = []
named_in_operand (written_operand.AsText at a) = named_in_geometry a
named_in_operand (written_operand.Dimension at a) = named_in_geometry a

-- those of a condition, from those of its parts
abbrev pub named_by_parts : WrittenCond-F WrittenGeometry (List NamedColumn) → List NamedColumn
named_by_parts (WrittenCond-F.Or parts) = flat_map (λ part. part) parts
named_by_parts (WrittenCond-F.And parts) = flat_map (λ part. part) parts
named_by_parts (WrittenCond-F.Not part) = part
named_by_parts (WrittenCond-F.Compare at sign a b) = named_in_operand a ++ named_in_operand b
named_by_parts (WrittenCond-F.IsNull a) = named_in_operand a
named_by_parts (WrittenCond-F.IsEmpty at a) = named_in_geometry a
named_by_parts (WrittenCond-F.Relates at predicate a b) = named_in_geometry a ++ named_in_geometry b

-- the columns of a condition, from the left (SQL, the search condition)
abbrev pub named_in_condition : WrittenCond WrittenGeometry → List NamedColumn
named_in_condition = fold-WrittenCond WrittenGeometry (List NamedColumn) named_by_parts

-- the column of an item (SQL, the select list)
abbrev pub named_in_item : WrittenItem WrittenColumn → NamedColumn
named_in_item (written_item.Column column) = named column
named_in_item (written_item.AsText at column) = named column
named_in_item (written_item.Dimension at column) = named column
named_in_item (written_item.IsEmpty at column) = named column

-- the columns of a select list; `*` and COUNT(*) name none (SQL, the select list)
abbrev pub named_in_selection : Selection WrittenColumn → List NamedColumn
named_in_selection selections.All = []
named_in_selection (selections.Items written) = map named_in_item written
named_in_selection selections.Count = []

-- the columns of ON or of WHERE, if there is one
abbrev pub named_in_whole : Option (WrittenCond WrittenGeometry) → List NamedColumn
named_in_whole written = option_map_or named_in_condition written []

-- the columns that a query names, from the left: those of the select list, of ON and of WHERE (SQL, the query)
abbrev pub named_in_query : Query WrittenGeometry WrittenColumn → List NamedColumn
named_in_query query = (named_in_selection query.selection ++ named_in_whole query.on) ++ named_in_whole query.condition

-- those of a query that was read, or why it wasn't
abbrev pub named_in_read : Result (Query WrittenGeometry WrittenColumn) QueryFault → Result (List NamedColumn) QueryFault
named_in_read (Ok query) = Ok (named_in_query query)
named_in_read (Err fault) = Err fault

-- those of the text of a query, or its fault (SQL, the query)
abbrev pub named_in_text : List ℕ → Result (List NamedColumn) QueryFault
named_in_text text = named_in_read (query_of text)

-- the status where memory is enough: of the room for the columns, or that this isn't the text of a query
abbrev pub status_of_named_columns : Result (List NamedColumn) QueryFault → List NamedColumn → ℕ
status_of_named_columns (Ok columns) room = status_of_room columns room
status_of_named_columns (Err fault) room = unknown

-- the status of asking a text for its columns: its bytes aren't UTF-8; or memory ran out; or the status is that of what was read
abbrev pub IsStatusOfColumns : List ℕ → List NamedColumn → ℕ → Type 0
IsStatusOfColumns text room status =
    (¬ (IsUtf8 text) × (status ≡ unknown))
    ⊎ (IsUtf8 text × ((status ≡ out_of_memory) ⊎ (status ≡ status_of_named_columns (named_in_text text) room)))
