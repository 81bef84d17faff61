use Rattle.std.proofs.Common.{◌∙◌, ◌+◌, sym, ap, drop, length}
use Rattle.geometry_model.specs.Geometries.{lines}
use Rattle.edge_boxes.specs.RingEdges.{edges_share}
use Rattle.validity.proofs.ApartRings.{next_before}
use Rattle.validity.proofs.apart.are_apart.Goals as goal

pub loop-line-preserved : goal.loop-line-preserved
loop-line-preserved c =
    let run = c.line_edges-run.result.now in
    next_before (lines c.args.outline.now) c.loop-line.line c.loop-line.end run c.line_edges-run.ensures c.loop-line.invariant
    (ap (λ es. edges_share run (drop (c.loop-line.end + length run) es)) (sym c.segments-edges.ensures)
    ∙ c.in_ok-may_meet_later.ensures c.if-branch.false)
