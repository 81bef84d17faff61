use Rattle.std.proofs.Common.{◌<◌, ◌∷◌, [], length, take, rules}
use Rattle.edge_boxes.proofs.Saying.{one_more}
use Rattle.edge_boxes.proofs.point_crossings.of_edges_around.Goals as goal

pub loop-edge-preserved : goal.loop-edge-preserved
loop-edge-preserved c =
    let within : c.loop-edge.edge-index < length c.args.edges.now = search rules in
    one_more c.join-found.result c.args.edges.now c.loop-edge.edge-index c.edge-item.result c.args.point.now within c.edge-item.is
    (c.join-found.ensures c.args.point.now (take c.loop-edge.edge-index c.args.edges.now) (c.edge-item.result ∷ []) c.loop-edge.invariant c.of_edge.ensures)
