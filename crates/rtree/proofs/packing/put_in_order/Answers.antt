use Rattle.std.proofs.Common.{rules}
use Rattle.std.proofs.lemmas.Fn.{always_returns_same}
use Rattle.rtree.specs.Packing.{packing_key}
use Rattle.rtree.proofs.packing.put_in_order.Goals as goal

pub returns-clause-sorted : goal.returns-clause-sorted
returns-clause-sorted c = c.sort_unstable_by_key.ensures.sorted packing_key (always_returns_same _ _ _ (λ a r q k. search rules))
