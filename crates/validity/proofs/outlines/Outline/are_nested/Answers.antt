use Rattle.std.proofs.Common.{◌∙◌, ap₂, ◌||◌, Bool}
use Rattle.std.specs.List.{slice_get}
use Rattle.geometry_model.specs.Geometries.{lines}
use Rattle.validity.proofs.PartFacts.{either_inside}
use Rattle.validity.proofs.outlines.Outline.are_nested.Goals as goal

pub returns : goal.returns
returns c = c.either.ensures ∙ (ap₂ (λ (a b : Bool). a || b) c.is_inside_ring-inward.ensures c.is_inside_ring-outward.ensures
    ∙ either_inside (slice_get (lines c.args.self.now) c.args.i) (slice_get (lines c.args.self.now) c.args.j))
