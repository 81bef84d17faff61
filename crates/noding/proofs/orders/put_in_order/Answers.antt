use Rattle.std.proofs.Common.{length, ap, subst, ◌∙◌, IsPermutation}
use Rattle.std.specs.List.{dedup}
use Rattle.std.specs.Ordering.{eq_by_cmp}
use Rattle.basics.proofs.Lists.{refilled}
use Rattle.fraction.specs.Orders.{point_order}
use Rattle.noding.proofs.Ordered.{points_ordered}
use Rattle.noding.proofs.orders.put_in_order.Goals as goal

pub returns : goal.returns
returns c = points_ordered c.args.points.now.items c.sort_unstable.new.self c.dedup.new.self.items c.requires
    (subst (λ ps. IsPermutation ps c.sort_unstable.new.self) c.deref_mut.ensures.value c.sort_unstable.ensures.permutation)
    c.sort_unstable.ensures.sorted
    (c.dedup.ensures.items ∙ ap (dedup (eq_by_cmp point_order)) (refilled (length c.args.points.now.items) c.args.points.now.items c.sort_unstable.new.self (c.sort_unstable.ensures.len ∙ ap length c.deref_mut.ensures.value)))
