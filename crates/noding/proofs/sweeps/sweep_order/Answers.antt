use Rattle.std.proofs.Common.{List, get_or, subst, IsPermutation, rules}
use Rattle.std.specs.List.Sorted.{IsSortedByKey}
use Rattle.std.specs.Ordering.{int_cmp, is_lt}
use Rattle.std.proofs.lemmas.Cmp.{int_cmp_total}
use Rattle.std.proofs.lemmas.Fn.{always_returns_same}
use Rattle.std.proofs.lemmas.List.Sorted.{sorted_far, ranks_by}
use Rattle.basics.proofs.Orders.{cmp_not_less}
use Rattle.geometry_model.specs.Geometries.{Edge}
use Rattle.noding.specs.NodeRanges.{least_x}
use Rattle.noding.specs.Sweeps.{Ascends}
use Rattle.noding.proofs.sweeps.sweep_order.Goals as goal

ascends : (es : List Edge) → IsSortedByKey least_x int_cmp es → Ascends es
ascends es h i j d l m = cmp_not_less (least_x (get_or es i d)) (least_x (get_or es j d)) (sorted_far (λ x y. is_lt (int_cmp (least_x x) (least_x y))) (ranks_by int_cmp_total least_x) es h i j d l m)

pub returns : goal.returns
returns c = record {
  permutation = subst (λ es. IsPermutation es c.sort_by_key.new.self.items) c.in_ok-order.ensures.items c.sort_by_key.ensures.permutation;
  ascend = ascends c.sort_by_key.new.self.items (c.in_ok-sort_by_key.ensures.sorted least_x (always_returns_same _ _ _ (λ a r q k. search rules)));
}
