use Rattle.std.proofs.Common.{◌≡◌, drop, map}
use Rattle.table_model.specs.Loading.{each}
use Rattle.spatial_sql.specs.Scopes.{item_in}
use Rattle.spatial_sql.proofs.Outcomes.{behind}
use Rattle.spatial_sql.proofs.item_binding.listed_items.Given as goal

abbrev pub invariant-loop-item : goal.invariant-loop-item
invariant-loop-item l = behind l.items (each (map (item_in l.scope) (drop l.item-index l.written))) ≡ each (map (item_in l.scope) l.written)
