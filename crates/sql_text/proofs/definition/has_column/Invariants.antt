use Rattle.std.proofs.Common.{◌≡◌, drop}
use Rattle.table_model.specs.SchemaReading as spec
use Rattle.sql_text.proofs.definition.has_column.Given as goal

abbrev pub invariant-loop-column : goal.invariant-loop-column
invariant-loop-column l = spec.has_column (drop l.column-index l.columns) l.name ≡ spec.has_column l.columns l.name
