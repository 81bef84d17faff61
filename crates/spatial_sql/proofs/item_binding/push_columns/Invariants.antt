use Rattle.std.proofs.Common.{◌≡◌, ◌++◌, drop, map}
use Rattle.std.specs.List.{enumerate_from}
use Rattle.table_model.specs.Binding as spec
use Rattle.table_model.specs.declared.conditions.Item.TheVariants as items
use Rattle.spatial_sql.proofs.item_binding.push_columns.Given as goal

abbrev pub invariant-loop-column : goal.invariant-loop-column
invariant-loop-column l =
    l.items ++ map (λ c. items.Column (record { reference = l.reference; column = c.0 })) (enumerate_from l.column (drop l.column l.columns))
    ≡ l.initial.items ++ spec.items_of l.reference l.columns
