use Rattle.std.proofs.Common.{sym, ap₂, ◌∙◌}
use Rattle.geometry_model.specs.Envelopes.{overlap}
use Rattle.edge_boxes.proofs.Sharing.{apart}
use Rattle.edge_boxes.proofs.shared_points.meets.Goals as goal

pub returns-else-overlap : goal.returns-else-overlap
returns-else-overlap c = c.if-overlap.false ∙ sym (apart c.args.edge.now c.args.other.now (sym (ap₂ overlap c.requires c.of.ensures) ∙ sym c.overlap.ensures ∙ c.if-overlap.false))
