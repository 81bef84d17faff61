use Rattle.std.proofs.Common.{◌≡◌, rules}
use Rattle.edge_boxes.proofs.OverlapFacts.{none_overlap}
use Rattle.edge_boxes.proofs.SharedPoints.{shares_none, none_near}
use Rattle.edge_boxes.proofs.overlaps.OverlapOneEdgeTest.rules_out.Goals as goal

pub returns : goal.returns
returns c first es sums =
    let none : c.last_near_among.result ≡ 0 = search rules in
    let others = c.args.self.now.edges.now in
    none_overlap es others (shares_none c.args.run.now.bounds es others sums.lies
    (none_near c.args.run.now.bounds others c.last_near_among.result none c.last_near_among.ensures.outside))
