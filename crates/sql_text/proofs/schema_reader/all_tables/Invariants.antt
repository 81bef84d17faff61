use Rattle.std.proofs.Common.{◌≡◌, ◌-◌}
use Rattle.table_model.specs.SchemaReading as spec
use Rattle.sql_text.proofs.schema_reader.all_tables.Given as goal
use Rattle.table_model.specs.GeometryColumns.{shape_named}

abbrev pub invariant-loop-turn : goal.invariant-loop-turn
invariant-loop-turn l =
    spec.all_tables shape_named l.fn.tokens ≡ spec.tables_from shape_named (l._turn-end - l._turn) l.tables.items l.tokens
