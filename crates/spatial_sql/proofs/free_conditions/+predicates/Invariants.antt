use Rattle.std.proofs.Common.{◌≡◌, ◌==◌, drop, sum_by}
use Rattle.table_model.specs.Plans.{predicate_count}
use Rattle.spatial_sql.proofs.free_conditions.+predicates.Given as goal

-- the conditions that are left decide
abbrev pub invariant-all_lack_predicates-loop-condition : goal.invariant-all_lack_predicates-loop-condition
invariant-all_lack_predicates-loop-condition l = (sum_by predicate_count (drop l.condition-index l.conditions) == 0)
    ≡ (sum_by predicate_count l.conditions == 0)
