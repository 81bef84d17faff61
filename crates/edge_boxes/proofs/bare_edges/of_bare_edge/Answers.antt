use Rattle.std.proofs.Common.{sym, ◌∙◌}
use Rattle.edge_boxes.proofs.BareEdges.{beside_says}
use Rattle.edge_boxes.proofs.bare_edges.of_bare_edge.Goals as goal

pub returns-then-is_beside : goal.returns-then-is_beside
returns-then-is_beside c =
    rw c.none.ensures (beside_says c.args.edge.now c.args.at (sym c.is_beside.ensures ∙ c.if-is_beside.true))
