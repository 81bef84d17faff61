use Rattle.std.proofs.lemmas.List.Sorted.{IsPermutation-refl}
use Rattle.tiles.proofs.CheckLemmas.{ascending, not_ascending}
use Rattle.tiles.proofs.checking.differing.Goals as goal

pub returns-then-ascend-clause-differ : goal.returns-then-ascend-clause-differ
returns-then-ascend-clause-differ c =
    let up = rw (c.if-ascend.true, c.as_slice.ensures.value) at c.ascend.ensures in
    ascending c.args.keys.items c.args.keys.items (IsPermutation-refl c.args.keys.items) up

pub returns-then-ascend-2-clause-differ : goal.returns-then-ascend-2-clause-differ
returns-then-ascend-2-clause-differ c =
    let up = rw (c.if-ascend-2.true, c.as_slice-2.ensures.value) at c.ascend-2.ensures in
    ascending c.args.keys.items c.sort_unstable.new.self.items c.sort_unstable.ensures.permutation up

pub returns-clause-double : goal.returns-clause-double
returns-clause-double c =
    let low = rw (c.if-ascend-2.false, c.as_slice-2.ensures.value) at c.ascend-2.ensures in
    not_ascending c.args.keys.items c.sort_unstable.new.self.items c.sort_unstable.ensures.permutation c.sort_unstable.ensures.sorted low.0 low.1 low.2
