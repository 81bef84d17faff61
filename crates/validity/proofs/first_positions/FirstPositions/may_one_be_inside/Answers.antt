use Rattle.std.proofs.Common.{arith, below_more}
use Rattle.validity.proofs.Rays.{all_tried}
use Rattle.validity.proofs.first_positions.FirstPositions.may_one_be_inside.Goals as goal

pub loop-number-init : goal.loop-number-init
loop-number-init c place within = absurd (omega (arith, within))

pub loop-number-preserved : goal.loop-number-preserved
loop-number-preserved c = below_more _ _ c.loop-number.invariant (c.may_be_inside.ensures c.if-may_be_inside.false)

pub returns : goal.returns
returns c none = all_tried c.args.edges.now c.args.self.now.1 c.args.own c.args.numbers.now c.loop-number.number-index
    c.loop-number-test.false c.loop-number.invariant
