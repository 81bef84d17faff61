use Rattle.std.proofs.Common.{subst, List, get_or, IsPermutation, rules}
use Rattle.std.specs.List.Sorted.{IsSortedByKey}
use Rattle.std.specs.Ordering.{int_cmp, is_lt}
use Rattle.std.proofs.lemmas.Cmp.{int_cmp_total}
use Rattle.std.proofs.lemmas.Fn.{always_returns_same}
use Rattle.std.proofs.lemmas.List.Sorted.{sorted_far, ranks_by}
use Rattle.basics.proofs.Orders.{cmp_not_less}
use Rattle.geometry_model.specs.Points.{Position}
use Rattle.noding.specs.Sweeps.{AscendPositions}
use Rattle.noding.proofs.listed_positions.listed_order.Goals as goal

ascends : (ps : List Position) → IsSortedByKey (λ a. a.x) int_cmp ps → AscendPositions ps
ascends ps h i j d l m = cmp_not_less (get_or ps i d).x (get_or ps j d).x (sorted_far (λ (a b : Position). is_lt (int_cmp a.x b.x)) (ranks_by int_cmp_total (λ (a : Position). a.x)) ps h i j d l m)

pub returns : goal.returns
returns c = record {
  permutation = subst (λ ps. IsPermutation ps c.sort_by_key.new.self.items) c.in_ok-order.ensures.items c.sort_by_key.ensures.permutation;
  ascend = ascends c.sort_by_key.new.self.items (c.in_ok-sort_by_key.ensures.sorted (λ (a : Position). a.x) (always_returns_same _ _ _ (λ a r q k. search rules)));
}
