use Rattle.std.proofs.Common.{◌∙◌, ap, not}
use Rattle.geometry_model.specs.Geometries.{lines}
use Rattle.validity.proofs.PartFacts.{not_inside}
use Rattle.validity.proofs.outlines.Outline.is_outside_ring.Goals as goal

pub returns : goal.returns
returns c = ap not c.is_inside_boxed.ensures ∙ not_inside (lines c.args.self.now) c.args.outer c.args.ring c.requires.outer c.requires.ring
