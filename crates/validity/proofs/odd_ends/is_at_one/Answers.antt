use Rattle.std.proofs.Common.{◌+◌, ◌-◌, ◌/◌, length, refl, sym, ap, ◌∙◌}
use Rattle.basics.proofs.Numbers.{middle_within, middle_before}
use Rattle.geometry_model.specs.Points.{compare}
use Rattle.validity.proofs.OddEndFacts.{parted_first, parted_less, parted_greater, found_there, not_there}
use Rattle.validity.proofs.odd_ends.is_at_one.Goals as goal

pub loop-low-init : goal.loop-low-init
loop-low-init c = parted_first c.args.positions.now c.args.p.now (length c.args.positions.now) refl

pub bounds-positions-middle : goal.bounds-positions-middle
bounds-positions-middle c = middle_within c.loop-low.low c.loop-low.high (length c.args.positions.now) c.loop-low-test.true c.loop-low.invariant.within

pub loop-low-preserved-in-Less : goal.loop-low-preserved-in-Less
loop-low-preserved-in-Less c = parted_less c.args.positions.now c.args.p.now c.loop-low.low c.loop-low.high (c.loop-low.low + (c.loop-low.high - c.loop-low.low) / 2) c.index-positions-middle.result c.denominator-is_point.ensures.kept.range.positive c.requires
    (middle_before c.loop-low.low c.loop-low.high c.loop-low-test.true) c.index-positions-middle.is (ap (λ q. compare q c.args.p.now) (sym c.of_grid.ensures) ∙ sym c.cmp.ensures.exact ∙ c.in-Less.is) c.loop-low.invariant

pub returns-in-Equal-clause-applies : goal.returns-in-Equal-clause-applies
returns-in-Equal-clause-applies c = sym (found_there c.args.positions.now c.args.p.now (c.loop-low.low + (c.loop-low.high - c.loop-low.low) / 2) c.index-positions-middle.result
    (middle_within c.loop-low.low c.loop-low.high (length c.args.positions.now) c.loop-low-test.true c.loop-low.invariant.within) c.index-positions-middle.is (ap (λ q. compare q c.args.p.now) (sym c.of_grid.ensures) ∙ sym c.cmp.ensures.exact ∙ c.in-Equal.is))

pub loop-low-preserved : goal.loop-low-preserved
loop-low-preserved c = parted_greater c.args.positions.now c.args.p.now c.loop-low.low c.loop-low.high (c.loop-low.low + (c.loop-low.high - c.loop-low.low) / 2) c.index-positions-middle.result c.denominator-is_point.ensures.kept.range.positive c.requires
    (middle_before c.loop-low.low c.loop-low.high c.loop-low-test.true) c.index-positions-middle.is (ap (λ q. compare q c.args.p.now) (sym c.of_grid.ensures) ∙ sym c.cmp.ensures.exact ∙ c.in-Greater.is) c.loop-low.invariant

pub returns-clause-applies : goal.returns-clause-applies
returns-clause-applies c = sym (not_there c.args.positions.now c.args.p.now c.loop-low.low c.loop-low.high c.loop-low-test.false c.loop-low.invariant)
