use Rattle.std.proofs.Common.{◌≡◌, ◌∙◌, sym}
use Rattle.std.proofs.lemmas.Result.{IfOk-weaker}
use Rattle.geometry_model.specs.Geometries.{lines}
use Rattle.edge_boxes.specs.RingEdges.{edges_share}
use Rattle.validity.proofs.PartFacts.{rings_share_by_edges}
use Rattle.validity.proofs.outlines.Outline.rings_share.Goals as goal

pub share-requires : goal.share-requires
share-requires c = c.requires.boxes c.line_edges.result.now c.line_edges.ensures

pub returns : goal.returns
returns c = IfOk-weaker c.share.result (λ share. share ≡ edges_share c.line_edges.result.now c.line_edges-2.result.now) _
    (λ share is. is ∙ sym (rings_share_by_edges (lines c.args.self.now) c.args.i c.args.j c.line_edges.result.now c.line_edges-2.result.now c.line_edges.ensures c.line_edges-2.ensures)) c.share.ensures.exact
