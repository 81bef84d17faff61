use Rattle.std.proofs.Common.{◌∙◌, ◌++◌, ◌∷◌, [], ap}
use Rattle.geometry_model.specs.Geometries.{lines}
use Rattle.validity.specs.Rays.{first_of_ring}
use Rattle.validity.proofs.Envelopes.{mapped_next}
use Rattle.validity.proofs.first_positions.FirstPositions.of_lines.Goals as goal

pub loop-ring-preserved : goal.loop-ring-preserved
loop-ring-preserved c =
    mapped_next first_of_ring (lines c.args.outline.now) c.loop-ring.ring c.line.result.now c.loop-ring.positions.items
    c.push.new.self.items c.line.ensures c.loop-ring.invariant
    (c.in_ok-push.ensures.items ∙ ap (λ o. c.loop-ring.positions.items ++ o ∷ []) c.first_of_ring.ensures)
