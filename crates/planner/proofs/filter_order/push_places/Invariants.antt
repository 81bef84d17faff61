use Rattle.std.proofs.Common.{◌≡◌, ◌++◌, ◌==◌, drop, if◌then◌else◌, Some, None}
use Rattle.std.specs.List.{enumerate_from, filter_map}
use Rattle.table_model.specs.Plans as spec
use Rattle.planner.proofs.filter_order.push_places.Given as goal

abbrev pub invariant-loop-place : goal.invariant-loop-place
invariant-loop-place g l =
    l.places ++ filter_map (λ x. if spec.predicate_count x.1 == l.count then Some x.0 else None) (enumerate_from l.place (drop l.place l.conjuncts))
    ≡ l.initial.places ++ spec.places_where (λ c. spec.predicate_count c == l.count) l.conjuncts
