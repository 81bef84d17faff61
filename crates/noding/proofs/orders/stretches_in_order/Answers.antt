use Rattle.std.proofs.lemmas.List.Filters.{dedup_is}
use Rattle.noding.proofs.Ordered.{pairs_ordered, same_pair}
use Rattle.noding.proofs.orders.stretches_in_order.Goals as goal

pub returns : goal.returns
returns c = pairs_ordered c.args.stretches.items c.sort_unstable.new.self.items c.dedup.new.self.items c.requires c.sort_unstable.ensures.permutation c.sort_unstable.ensures.sorted
    (dedup_is same_pair c.sort_unstable.new.self.items c.dedup.new.self.items c.dedup.ensures.filtered)
