use Rattle.std.proofs.Common.{◌≡◌, rules}
use Rattle.edge_boxes.proofs.SharedPoints.{shares_none, none_near}
use Rattle.edge_boxes.proofs.shared_points.ShareWithOneEdgeTest.rules_out.Goals as goal

pub returns : goal.returns
returns c first es sums =
    let none : c.last_near_among.result ≡ 0 = search rules in
    shares_none c.args.run.now.bounds es c.args.self.now.edges.now sums.lies
    (none_near c.args.run.now.bounds c.args.self.now.edges.now c.last_near_among.result none c.last_near_among.ensures.outside)
