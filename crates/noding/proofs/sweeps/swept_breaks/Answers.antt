use Rattle.std.proofs.Common.{◌∙◌, sym, subst}
use Rattle.noding.specs.Sweeps.{AllCut}
use Rattle.noding.proofs.BreakPoints.{swept_list, swept_points, all_cut, put_back}
use Rattle.noding.proofs.sweeps.swept_breaks.Goals as goal

pub put_each_in_order-requires : goal.put_each_in_order-requires
put_each_in_order-requires c = swept_points c.args.order.now c.args.listed.now c.as_mut_slice-2.result.now (swept_list c.args.order.now c.args.listed.now c.in_ok-breaks.breaks.items c.as_mut_slice.result.now c.sweep.new.breaks c.as_mut_slice-2.result.now c.in_ok-breaks.breaks.len
    c.in_ok-breaks.ensures.wide c.in_ok-breaks.ensures.values c.as_mut_slice.ensures.value c.as_mut_slice.ensures.len c.in_ok-tests.ensures.lengths (c.in_ok-tests.ensures.swept c.args.listed.now) c.as_mut_slice-2.ensures.value)

pub returns-clause-breaks : goal.returns-clause-breaks
returns-clause-breaks c = subst (AllCut c.args.order.now c.args.listed.now)
    (sym (put_back c.in_ok-breaks.breaks.len _ c.put_each_in_order.new.breaks (c.put_each_in_order.ensures.same_length ∙ c.as_mut_slice-2.ensures.len)))
    (all_cut c.args.order.now c.args.listed.now c.as_mut_slice-2.result.now c.put_each_in_order.new.breaks (swept_list c.args.order.now c.args.listed.now c.in_ok-breaks.breaks.items c.as_mut_slice.result.now c.sweep.new.breaks c.as_mut_slice-2.result.now c.in_ok-breaks.breaks.len
    c.in_ok-breaks.ensures.wide c.in_ok-breaks.ensures.values c.as_mut_slice.ensures.value c.as_mut_slice.ensures.len c.in_ok-tests.ensures.lengths (c.in_ok-tests.ensures.swept c.args.listed.now) c.as_mut_slice-2.ensures.value) c.put_each_in_order.ensures)
