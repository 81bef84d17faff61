use Rattle.std.proofs.Common.{◌≡◌, false, rules}
use Rattle.geometry_model.specs.Envelopes.{overlap}
use Rattle.edge_boxes.proofs.Near.{outside_by_bounds}
use Rattle.edge_boxes.proofs.near_envelopes.NearBoundsEdgeTest.rules_out.Goals as goal

pub returns : goal.returns
returns c h =
    let far : overlap c.args.run.now.bounds c.args.self.now.bounds ≡ false = search rules in
    outside_by_bounds c.args.run.now c.args.self.now.bounds far
