use Rattle.de9im.proofs.CommonPoints.{known_where_shared, on_edges_of_both, shared_turned}
use Rattle.de9im.proofs.deciding.decide_by_edges.Goals as goal

pub returns-then-shares_first_position : goal.returns-then-shares_first_position
returns-then-shares_first_position c =
    known_where_shared c.args.predicate c.args.first.now c.args.second.now c.args.shared c.requires
    c.geometry-first.ensures.valid c.geometry-second.ensures.valid
    (c.shares_first_position.ensures c.if-shares_first_position.true)

pub returns-then-shares_first_position-2 : goal.returns-then-shares_first_position-2
returns-then-shares_first_position-2 c =
    known_where_shared c.args.predicate c.args.first.now c.args.second.now c.args.shared c.requires
    c.geometry-first.ensures.valid c.geometry-second.ensures.valid
    (shared_turned c.args.second.now c.args.first.now (c.shares_first_position-2.ensures c.if-shares_first_position-2.true))

pub returns : goal.returns
returns c =
    known_where_shared c.args.predicate c.args.first.now c.args.second.now c.args.shared c.requires
    c.geometry-first.ensures.valid c.geometry-second.ensures.valid
    (on_edges_of_both c.args.first.now c.args.second.now (c.are_apart.ensures.shared c.if-are_apart.false))
