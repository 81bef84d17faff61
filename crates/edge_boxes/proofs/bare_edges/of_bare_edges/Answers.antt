use Rattle.std.proofs.Common.{◌<◌, ◌∷◌, [], length, take, rules}
use Rattle.geometry_model.specs.Points.{point_at}
use Rattle.edge_boxes.proofs.Saying.{one_more}
use Rattle.edge_boxes.proofs.bare_edges.of_bare_edges.Goals as goal

pub loop-edge-preserved : goal.loop-edge-preserved
loop-edge-preserved c =
    let es = c.args.edges.now in
    let i = c.loop-edge.edge-index in
    let e = c.edge-item.result in
    let p = point_at c.args.at in
    let within : i < length es = search rules in
    one_more c.join-found.result es i e p within c.edge-item.is
    (c.join-found.ensures p (take i es) (e ∷ []) c.loop-edge.invariant c.of_bare_edge.ensures)
