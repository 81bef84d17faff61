use Rattle.std.proofs.Common.{◌≡◌, ◌==◌, flat_map}
use Rattle.std.specs.List.{range_with_len}
use Rattle.table_model.specs.Plans as spec
use Rattle.planner.proofs.filter_order.filters.Given as goal

abbrev pub invariant-loop-count : goal.invariant-loop-count
invariant-loop-count g l = l.places ≡ flat_map (λ n. spec.places_where (λ c. spec.predicate_count c == n) l.conjuncts) (range_with_len 0 l.count)
