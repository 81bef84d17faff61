use Rattle.std.proofs.Common.{sym, ◌∙◌, ◌<◌, ◌-◌, length, subst, ap, arith}
use Rattle.noding.specs.Merging.{AreMerged}
use Rattle.noding.proofs.Held.{held_at}
use Rattle.noding.proofs.merging.MergedEdges.holds.Goals as goal

pub returns-then-after-gt0 : goal.returns-then-after-gt0
returns-then-after-gt0 c es all h =
    let ms = c.self.inside.stretches.items in
    let lt : c.partition_point-after.result - 1 < length ms = omega (arith, ap length c.deref.ensures.value, c.partition_point-after.ensures.bound, c.if-after-gt0.true) in
    held_at es ms (c.partition_point-after.result - 1) c.index.result.now c.args.edge.now lt c.index.ensures (subst (AreMerged es) (sym c.self.view_is) all) (sym c.holds_ends.ensures ∙ h)
