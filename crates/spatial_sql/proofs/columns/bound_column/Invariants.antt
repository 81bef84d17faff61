use Rattle.std.proofs.Common.{◌≡◌, ◌++◌, drop}
use Rattle.std.specs.Option.{option_to_list}
use Rattle.table_model.specs.Binding as spec
use Rattle.spatial_sql.proofs.columns.bound_column.Given as goal

abbrev pub invariant-loop-place : goal.invariant-loop-place
invariant-loop-place l =
    spec.the_one l.at (option_to_list l.found ++ spec.columns_meant l.scope.definitions.now l.written l.place (drop l.place l.scope.references.now))
    ≡ spec.bound_column l.scope.definitions.now l.scope.references.now l.written
