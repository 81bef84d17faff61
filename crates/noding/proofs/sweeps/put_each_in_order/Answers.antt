use Rattle.noding.proofs.BreakPoints.{ordered_more}
use Rattle.noding.proofs.sweeps.put_each_in_order.Goals as goal

pub loop-place-preserved : goal.loop-place-preserved
loop-place-preserved c = ordered_more c.loop-place.place c.args.breaks.now c.loop-place.breaks c.put_in_order_at.new.breaks c.loop-place.invariant c.put_in_order_at.ensures
