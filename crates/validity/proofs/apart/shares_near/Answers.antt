use Rattle.std.proofs.Common.{arith}
use Rattle.validity.proofs.ApartRings.{one_passed, none_shares}
use Rattle.validity.proofs.apart.shares_near.Goals as goal

pub loop-place-init : goal.loop-place-init
loop-place-init c m within = absurd (omega (arith, within))

pub loop-place-preserved : goal.loop-place-preserved
loop-place-preserved c = one_passed c.args.edges.now c.args.edge.now c.args.from c.args.near.now
    c.loop-place.place-index c.loop-place.invariant (c.shares_at.ensures c.if-shares_at.false)

pub returns : goal.returns
returns c none = none_shares c.args.edges.now c.args.edge.now c.args.from c.args.near.now c.requires
    (λ m within. c.loop-place.invariant m (omega (arith, within, c.loop-place-test.false)))
