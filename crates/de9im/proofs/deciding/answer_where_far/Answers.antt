use Rattle.std.proofs.Common.{IfSome, subst}
use Rattle.de9im.specs.Deciding.{HoldsWhereFar}
use Rattle.de9im.proofs.deciding.answer_where_far.Goals as goal

pub returns-then-are_far : goal.returns-then-are_far
returns-then-are_far c =
    let known : HoldsWhereFar c.args.predicate c.in-Some.known =
    subst (λ found. IfSome found (HoldsWhereFar c.args.predicate)) c.in-Some.is c.where_far.ensures in
    known c.args.first.now c.args.second.now c.geometry-first.ensures.valid c.geometry-second.ensures.valid
    (c.are_far.ensures c.if-are_far.true)
