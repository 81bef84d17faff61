use Rattle.std.proofs.Common.{arith}
use Rattle.validity.proofs.Rays.{next_passed, all_passed}
use Rattle.validity.proofs.first_positions.FirstPositions.may_one_be_surrounded.Goals as goal

pub loop-edge-init : goal.loop-edge-init
loop-edge-init c place within = absurd (omega (arith, within))

pub loop-edge-preserved : goal.loop-edge-preserved
loop-edge-preserved c = next_passed c.args.self.now.0 c.args.edges.now c.args.self.now.1 c.args.own c.loop-edge.edge-index
    c.edge-item.result c.edge-item.is c.loop-edge.invariant (c.in_ok-may_one_faced_be_inside.ensures c.if-branch.false)

pub returns : goal.returns
returns c none = all_passed c.args.self.now.0 c.args.edges.now c.args.self.now.1 c.args.own c.loop-edge.edge-index c.requires
    c.loop-edge-test.false c.loop-edge.invariant
