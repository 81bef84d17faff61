use Rattle.std.proofs.Common.{refl, ap, ◌∙◌, ℕ, ◌+◌, ◌-◌, ◌<◌, ◌≤◌, length, arith}
use Rattle.basics.proofs.Numbers.{at_least_same}
use Rattle.geometry_model.specs.Geometries.{elements}
use Rattle.witnesses.proofs.RingNumbers.{counts_more, next_before, none_at_all, around}
use Rattle.witnesses.proofs.numbers.numbers_around.Goals as goal

within : (n f k : ℕ) → f ≤ n → n - f < k → n < f + k
within n f k h l = omega (arith, h, l)

further : (n f k : ℕ) → f ≤ n → k ≤ n - f → f + k ≤ n
further n f k h l = omega (arith, h, l)

pub returns-then-number-first-clause-found : goal.returns-then-number-first-clause-found
returns-then-number-first-clause-found c = around c.args.geometry.now c.args.number c.loop-element.element c.loop-element.first (length c.element-count.result.now) c.element-count.result.now c.element-count.ensures c.loop-element.invariant.starts refl c.loop-element.invariant.low
    (within c.args.number c.loop-element.first (length c.element-count.result.now) c.loop-element.invariant.low c.if-number-first.true)

pub loop-element-preserved : goal.loop-element-preserved
loop-element-preserved c = record {
  starts = ap (λ (n : ℕ). n + length c.element-count.result.now) c.loop-element.invariant.starts ∙ counts_more (elements c.args.geometry.now) c.loop-element.element c.element-count.result.now c.element-count.ensures;
  low = further c.args.number c.loop-element.first (length c.element-count.result.now) c.loop-element.invariant.low c.if-number-first.false;
  before = next_before c.args.geometry.now c.args.number c.loop-element.element c.loop-element.first (length c.element-count.result.now) c.element-count.result.now c.loop-element.invariant.before c.element-count.ensures c.loop-element.invariant.starts refl
      (further c.args.number c.loop-element.first (length c.element-count.result.now) c.loop-element.invariant.low c.if-number-first.false);
}

pub returns-clause-none : goal.returns-clause-none
returns-clause-none c = none_at_all c.args.geometry.now c.args.number c.loop-element.element (at_least_same c.element_count-element-end.result (length (elements c.args.geometry.now)) c.loop-element.element c.element_count-element-end.ensures c.loop-element-test.false) c.loop-element.invariant.before
