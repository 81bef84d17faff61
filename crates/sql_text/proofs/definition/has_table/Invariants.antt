use Rattle.std.proofs.Common.{◌≡◌, drop}
use Rattle.table_model.specs.SchemaReading as spec
use Rattle.sql_text.proofs.definition.has_table.Given as goal

abbrev pub invariant-loop-table : goal.invariant-loop-table
invariant-loop-table l = spec.has_table (drop l.table-index l.tables) l.name ≡ spec.has_table l.tables l.name
