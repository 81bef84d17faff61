use Rattle.wkb.proofs.Sizes.{counted_small, counted_great, far_great}
use Rattle.wkb.proofs.doubles.size_in_ticks.Goals as goal

pub returns-then-doublings-lt1074 : goal.returns-then-doublings-lt1074
returns-then-doublings-lt1074 c =
    counted_small c.args.bits c.args.parts c.product-number.result c.doublings-doublings.result c.halved.result
    c.product-number.ensures.value
    c.doublings-doublings.ensures c.if-doublings-lt1074.true c.halved.ensures.whole c.halved.ensures.rest c.halved.ensures.within
    c.product-number.ensures.within

pub returns-in-None : goal.returns-in-None
returns-in-None c =
    far_great c.args.bits c.args.parts c.product-number.result c.doublings-doublings.result c.product-number.ensures.value
    c.doublings-doublings.ensures c.if-doublings-lt1074.false c.in-None.ensures

pub returns-in-Some : goal.returns-in-Some
returns-in-Some c =
    counted_great c.args.bits c.args.parts c.product-number.result c.doublings-doublings.result c.in-Some.whole
    c.product-number.ensures.value
    c.doublings-doublings.ensures c.if-doublings-lt1074.false c.in-Some.ensures.0 c.in-Some.ensures.1
