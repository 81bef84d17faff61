use Rattle.std.proofs.Common.{◌<◌, ◌∷◌, [], length, take, rules}
use Rattle.geometry_model.specs.Points.{point_at}
use Rattle.edge_boxes.proofs.Saying.{one_more}
use Rattle.edge_boxes.proofs.point_crossings.of_edges_at.Goals as goal

pub loop-edge-preserved : goal.loop-edge-preserved
loop-edge-preserved c =
    let within : c.loop-edge.edge-index < length c.args.edges.now = search rules in
    one_more c.join-found.result c.args.edges.now c.loop-edge.edge-index c.edge-item.result (point_at c.args.at) within c.edge-item.is
    (c.join-found.ensures (point_at c.args.at) (take c.loop-edge.edge-index c.args.edges.now) (c.edge-item.result ∷ []) c.loop-edge.invariant c.of_edge_at.ensures)
