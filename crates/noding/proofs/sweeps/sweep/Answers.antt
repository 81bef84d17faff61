use Rattle.std.proofs.Common.{◌∙◌, ◌+◌, ◌-◌, ◌^◌, get_or, arith, drop}
use Rattle.std.proofs.lemmas.List.{get_or_default}
use Rattle.noding.specs.NodeRanges.{overlaps_of_first, overlapping_pairs}
use Rattle.noding.proofs.BreakPoints.{some_edge, swept_enough}
use Rattle.noding.proofs.Counting.{pairs_go_on, no_pairs, count_over, count_done}
use Rattle.noding.proofs.sweeps.sweep.Goals as goal

pub loop-place-preserved : goal.loop-place-preserved
loop-place-preserved c = record {
  lengths = c.in_ok-try_following.ensures.lengths;
  swept = λ ps h. c.in_ok-try_following.ensures.swept ps (c.loop-place.invariant.swept ps h);
  within = omega (arith, c.in_ok-try_following.ensures.counted);
  counted = count_over (2 ^ 64 - 1) c.loop-place.tests c.try_following.new.tests (overlaps_of_first (drop c.loop-place.place c.args.order.now)) (overlapping_pairs (drop (c.loop-place.place + 1) c.args.order.now))
      (overlapping_pairs (drop c.loop-place.place c.args.order.now)) c.in_ok-try_following.ensures.counted
      (pairs_go_on c.args.order.now c.loop-place.place (get_or c.args.order.now c.loop-place.place some_edge) c.loop-place-test.true
      (get_or_default c.args.order.now c.loop-place.place some_edge (get_or c.args.order.now c.loop-place.place some_edge) c.loop-place-test.true))
      ∙ c.loop-place.invariant.counted;
}

pub returns-clause-swept : goal.returns-clause-swept
returns-clause-swept c = λ ps h. swept_enough c.args.order.now ps c.loop-place.place (c.loop-place.place + 1) c.loop-place.breaks c.loop-place-test.false (c.loop-place.invariant.swept ps h)

pub returns-clause-counted : goal.returns-clause-counted
returns-clause-counted c = count_done (2 ^ 64 - 1) c.loop-place.tests (overlapping_pairs (drop c.loop-place.place c.args.order.now)) _ c.loop-place.invariant.within
    (no_pairs c.args.order.now c.loop-place.place c.loop-place-test.false) c.loop-place.invariant.counted
