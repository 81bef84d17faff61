use Rattle.std.proofs.Common.{◌≡◌, ◌∙◌, sym}
use Rattle.std.proofs.lemmas.Result.{IfOk-weaker}
use Rattle.geometry_model.specs.Geometries.{elements}
use Rattle.edge_boxes.specs.RingEdges.{edges_share}
use Rattle.validity.proofs.PartFacts.{elements_share_by_edges}
use Rattle.validity.proofs.outlines.Outline.elements_share.Goals as goal

pub share-requires : goal.share-requires
share-requires c = c.requires.boxes c.element_edges.result.now c.element_edges.ensures

pub returns : goal.returns
returns c = IfOk-weaker c.share.result (λ share. share ≡ edges_share c.element_edges.result.now c.element_edges-2.result.now) _
    (λ share is. is ∙ sym (elements_share_by_edges (elements c.args.self.now) c.args.i c.args.j c.element_edges.result.now c.element_edges-2.result.now c.element_edges.ensures c.element_edges-2.ensures)) c.share.ensures.exact
