use Rattle.std.proofs.Common.{◌∙◌, ap}
use Rattle.geometry_model.specs.Geometries.{edges}
use Rattle.validity.proofs.OutlineFacts.{runs_are_edges}
use Rattle.validity.proofs.outlines.Outline.segments.Goals as goal

pub returns : goal.returns
returns c = c.segments.ensures ∙ (runs_are_edges c.self.inside.geometry c.self.inside.runs c.self.invariant.by_line ∙ ap edges c.self.view_is)
