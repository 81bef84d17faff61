use Rattle.std.proofs.Common.{◌≡◌, ◌++◌, drop}
use Rattle.std.specs.List.{enumerate_from, flat_map}
use Rattle.table_model.specs.Binding as spec
use Rattle.spatial_sql.proofs.item_binding.all_items.Given as goal

abbrev pub invariant-loop-place : goal.invariant-loop-place
invariant-loop-place l =
    l.items ++ flat_map (λ r. spec.items_of r.0 (spec.columns_of l.scope.definitions.now r.1)) (enumerate_from l.place (drop l.place l.scope.references.now))
    ≡ spec.all_items l.scope.definitions.now l.scope.references.now
