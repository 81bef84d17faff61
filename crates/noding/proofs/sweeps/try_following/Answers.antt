use Rattle.std.proofs.Common.{◌≡◌, ◌∙◌, ◌+◌, ◌-◌, ◌^◌, ◌≤ℤ◌, min, false, ap, sym, arith, drop, ℤ, int_lt}
use Rattle.std.specs.Int.{w32}
use Rattle.std.specs.Prelude.{FitsSigned}
use mir.Facts.{to_z-of_z}
use Rattle.basics.proofs.Signs.{not_less_from}
use Rattle.basics.proofs.Orders.{same_less_than}
use Rattle.noding.specs.NodeRanges.{least_x, greatest_x, overlaps_with_first}
use Rattle.noding.proofs.BreakPoints.{rest_apart}
use Rattle.noding.proofs.Sweeping.{later_apart, none_common, overlaps_next}
use Rattle.noding.proofs.Counting.{count_begins, count_goes_on, count_ends, count_step, count_done}
use Rattle.noding.proofs.sweeps.try_following.Goals as goal

not_past_is : (a b g l : ℤ) → a ≡ g → b ≡ l → int_lt a b ≡ false → l ≤ℤ g
not_past_is a b g l e f h = not_less_from g l (ap (λ x. int_lt x l) (sym e) ∙ ap (int_lt a) (sym f) ∙ h)

pub loop-next-init : goal.loop-next-init
loop-next-init c = record {
  lengths = c.requires.lengths;
  swept = λ ps h. h;
  within = c.requires.count;
  counted = ap (λ n. min (c.args.tests.now + n) (2 ^ 64 - 1)) (count_begins c.args.order.now c.args.place c.index-order-place.result c.requires.place c.index-order-place.is);
}

pub returns-then-end-least_x-clause-swept : goal.returns-then-end-least_x-clause-swept
returns-then-end-least_x-clause-swept c =
    let fits : FitsSigned w32 c.greatest_x-end.result = record { sfits = c.greatest_x-end.type_inv } in
    let fits2 : FitsSigned w32 c.least_x.result = record { sfits = c.least_x.type_inv } in
    λ ps h. rest_apart c.args.order.now ps c.args.place c.loop-next.next c.loop-next.breaks
    (none_common c.args.order.now c.args.place c.loop-next.next c.index-order-place.result c.index-order-next.result c.requires.place c.index-order-place.is c.requires.ascend c.index-order-next.is
    (same_less_than _ _ (greatest_x c.index-order-place.result) (least_x c.index-order-next.result) (to_z-of_z fits ∙ c.greatest_x-end.ensures) (to_z-of_z fits2 ∙ c.least_x.ensures) c.if-end-least_x.true))
    (c.loop-next.invariant.swept ps h)

pub returns-then-end-least_x-clause-counted : goal.returns-then-end-least_x-clause-counted
returns-then-end-least_x-clause-counted c =
    let fits : FitsSigned w32 c.greatest_x-end.result = record { sfits = c.greatest_x-end.type_inv } in
    let fits2 : FitsSigned w32 c.least_x.result = record { sfits = c.least_x.type_inv } in
    count_done (2 ^ 64 - 1) c.loop-next.tests (overlaps_with_first (drop c.args.place c.args.order.now) (drop c.loop-next.next c.args.order.now)) _ c.loop-next.invariant.within
    (count_ends c.args.order.now c.args.place c.loop-next.next c.index-order-place.result c.requires.place c.index-order-place.is
    (later_apart c.args.order.now c.index-order-place.result c.index-order-next.result c.loop-next.next c.requires.ascend c.index-order-next.is
    (same_less_than _ _ (greatest_x c.index-order-place.result) (least_x c.index-order-next.result) (to_z-of_z fits ∙ c.greatest_x-end.ensures) (to_z-of_z fits2 ∙ c.least_x.ensures) c.if-end-least_x.true)))
    c.loop-next.invariant.counted

pub loop-next-preserved : goal.loop-next-preserved
loop-next-preserved c =
    let fits : FitsSigned w32 c.greatest_x-end.result = record { sfits = c.greatest_x-end.type_inv } in
    let fits2 : FitsSigned w32 c.least_x.result = record { sfits = c.least_x.type_inv } in
    record {
      lengths = c.in_ok-try_pair.ensures.lengths;
      swept = λ ps h. c.in_ok-try_pair.ensures.swept ps (c.loop-next.invariant.swept ps h);
      within = omega (arith, c.in_ok-try_pair.ensures.counted);
      counted = count_step (2 ^ 64 - 1) c.loop-next.tests c.try_pair.new.tests (overlaps_with_first (drop c.args.place c.args.order.now) (drop c.loop-next.next c.args.order.now))
          (overlaps_with_first (drop c.args.place c.args.order.now) (drop (c.loop-next.next + 1) c.args.order.now)) _ c.in_ok-try_pair.ensures.counted
          (count_goes_on c.args.order.now c.args.place c.loop-next.next c.index-order-place.result c.index-order-next.result c.requires.place c.index-order-place.is c.loop-next-test.true c.index-order-next.is
          (overlaps_next c.args.order.now c.args.place c.loop-next.next c.index-order-place.result c.index-order-next.result c.requires.ascend (omega (arith, c.loop-next.auto.next)) c.loop-next-test.true c.index-order-place.is c.index-order-next.is
          (not_past_is _ _ (greatest_x c.index-order-place.result) (least_x c.index-order-next.result) (to_z-of_z fits ∙ c.greatest_x-end.ensures) (to_z-of_z fits2 ∙ c.least_x.ensures) c.if-end-least_x.false)))
          c.loop-next.invariant.counted;
    }

pub returns-clause-swept : goal.returns-clause-swept
returns-clause-swept c = λ ps h. rest_apart c.args.order.now ps c.args.place c.loop-next.next c.loop-next.breaks
    (λ b d l m p hp k. absurd (omega (arith, c.loop-next-test.false, l, m))) (c.loop-next.invariant.swept ps h)

pub returns-clause-counted : goal.returns-clause-counted
returns-clause-counted c = count_done (2 ^ 64 - 1) c.loop-next.tests (overlaps_with_first (drop c.args.place c.args.order.now) (drop c.loop-next.next c.args.order.now)) _ c.loop-next.invariant.within
    (count_ends c.args.order.now c.args.place c.loop-next.next c.index-order-place.result c.requires.place c.index-order-place.is
    (λ k d l m. absurd (omega (arith, c.loop-next-test.false, l, m)))) c.loop-next.invariant.counted
