use Rattle.std.proofs.Common.{sym, subst, ap₂, ◌∙◌, List}
use Rattle.std.specs.Prelude.{slice_range}
use Rattle.geometry_model.specs.Geometries.{Edge, edges}
use Rattle.edge_boxes.specs.BoxLists.{BoxesOf}
use Rattle.edge_boxes.specs.RingEdges.{edges_share}
use Rattle.matrix_laws.specs.Cells.{Covers}
use Rattle.de9im.proofs.ApartChains.{both_parts}
use Rattle.de9im.proofs.EdgePoints.{covers_kept}
use Rattle.de9im.proofs.matrix_edges.raise_up_to_shared.Goals as goal

pub last_sharing-left-requires-clause-boxes : goal.last_sharing-left-requires-clause-boxes
last_sharing-left-requires-clause-boxes c = subst (BoxesOf c.boxes.result.now) (sym c.segments.ensures) c.boxes.ensures

pub last_sharing-left-requires-clause-others : goal.last_sharing-left-requires-clause-others
last_sharing-left-requires-clause-others c = subst (BoxesOf c.boxes-2.result.now) (sym c.segments-2.ensures) c.boxes-2.ensures

pub raise_run_apart-requires-clause-apart : goal.raise_run_apart-requires-clause-apart
raise_run_apart-requires-clause-apart c =
    sym (ap₂ (λ (es fs : List Edge). edges_share (slice_range es c.last_sharing-left.result c.left_around-near.result) fs)
    c.segments.ensures
    c.segments-2.ensures) ∙ c.last_sharing-left.ensures.apart

pub returns-clause-covers : goal.returns-clause-covers
returns-clause-covers c =
    let a = c.args.first.now in
    let b = c.args.second.now in
    let n = c.raise_run_apart.new.matrix in
    let near = c.left_around-near.result in
    both_parts (Covers a b n) (edges a) c.last_sharing-left.result near c.args.end c.last_sharing-left.ensures.before
    c.left_around-near.ensures.before c.raise_run_apart.ensures.covers
    (covers_kept a b (slice_range (edges a) near c.args.end) c.args.matrix.now n c.raise_run_apart.ensures.grows.grown
    c.left_around-near.ensures.covers)
