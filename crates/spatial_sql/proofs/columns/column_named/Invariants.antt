use Rattle.std.proofs.Common.{◌≡◌, drop}
use Rattle.table_model.specs.Binding as spec
use Rattle.spatial_sql.proofs.columns.column_named.Given as goal

abbrev pub invariant-loop-place : goal.invariant-loop-place
invariant-loop-place l = spec.column_named l.name l.place (drop l.place l.columns) ≡ spec.column_named l.name 0 l.columns
