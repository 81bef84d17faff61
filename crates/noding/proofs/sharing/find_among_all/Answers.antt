use Rattle.std.proofs.Common.{◌+◌, sym, subst, ap, ap₂, ◌∙◌}
use Rattle.geometry_model.specs.Envelopes.{overlap}
use Rattle.noding.specs.Steps.{AreSharedSoFar, IsAt}
use Rattle.noding.proofs.Shared.{shared_more, shared_no_more, one_at, all_shared}
use Rattle.noding.proofs.sharing.find_among_all.Goals as goal
use Rattle.noding.proofs.sharing.find_among_all.Goals.{then-overlap+in_ok-push_named, else-overlap}

pub loop-other-preserved : goal.loop-other-preserved
loop-other-preserved c = elim c.if-overlap.branch [
  | then-overlap+in_ok-push_named w ↦ shared_more c.args.edge.now c.args.others.now (IsAt c.args.others.now) c.loop-other.other-index c.other-item.result w.meet.result c.loop-other.points.items c.if-overlap.points.items
      (c.loop-other.other-index, c.loop-other-test.true, sym c.other-item.is)
      (λ g. one_at c.args.others.now c.loop-other.other-index c.other-item.result g c.loop-other-test.true c.other-item.is)
      (record { exact = w.meet.ensures.exact; cuts = w.meet.ensures.cuts; names = w.meet.ensures.found; least = w.meet.ensures.least; limit = w.meet.ensures.limit })
      (ap (λ v. v.items) w.points-is ∙ w.in_ok-push_named.ensures) c.loop-other.invariant
  | else-overlap w ↦ subst (λ v. AreSharedSoFar c.args.edge.now c.args.others.now (IsAt c.args.others.now) (c.loop-other.other-index + 1) v.items) (sym w.points-is)
      (shared_no_more c.args.edge.now c.args.others.now (IsAt c.args.others.now) c.loop-other.other-index c.other-item.result c.loop-other.points.items
      (sym (ap₂ overlap c.of.ensures c.of-bounds.ensures) ∙ sym c.overlap.ensures ∙ w.if-overlap.false)
      (λ g. one_at c.args.others.now c.loop-other.other-index c.other-item.result g c.loop-other-test.true c.other-item.is)
      c.loop-other.invariant)
]

pub returns : goal.returns
returns c = all_shared c.args.edge.now c.args.others.now c.loop-other.other-index c.loop-other.points.items c.loop-other-test.false c.loop-other.invariant
