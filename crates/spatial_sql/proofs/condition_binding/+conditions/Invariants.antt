use Rattle.std.proofs.Common.{◌≡◌, map, drop}
use Rattle.table_model.specs.Loading.{each}
use Rattle.spatial_sql.specs.Scopes.{cond_in}
use Rattle.spatial_sql.proofs.Outcomes.{behind}
use Rattle.spatial_sql.proofs.condition_binding.+conditions.Given as goal

abbrev pub invariant-bound_parts-loop-part : goal.invariant-bound_parts-loop-part
invariant-bound_parts-loop-part l = behind l.bound (each (map (cond_in l.scope) (drop l.part-index l.parts))) ≡ each (map (cond_in l.scope) l.parts)
