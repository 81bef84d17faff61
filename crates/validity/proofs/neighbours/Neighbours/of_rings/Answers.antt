use Rattle.std.proofs.Common.{◌<◌, ◌∙◌, ◌++◌, ◌∷◌, [], ap, length, arith}
use Rattle.std.specs.List.{slice_get}
use Rattle.geometry_model.specs.Geometries.{rings}
use Rattle.geometry_model.specs.Envelopes.{envelope_of_positions}
use Rattle.validity.proofs.Envelopes.{mapped_next, rings_are_lines}
use Rattle.validity.proofs.neighbours.Neighbours.of_rings.Goals as goal

pub loop-ring-preserved : goal.loop-ring-preserved
loop-ring-preserved c =
    let within : c.loop-ring.ring < length (rings c.args.outline.now) = omega (arith, c.loop-ring-test.true, c.ring_count-ring-end.ensures) in
    mapped_next envelope_of_positions (rings c.args.outline.now) c.loop-ring.ring c.line.result.now c.loop-ring.envelopes.items c.push.new.self.items
    (ap (λ l. slice_get l c.loop-ring.ring) (rings_are_lines c.args.outline.now c.loop-ring.ring within) ∙ c.line.ensures) c.loop-ring.invariant
    (c.in_ok-push.ensures.items ∙ ap (λ o. c.loop-ring.envelopes.items ++ o ∷ []) (c.of_positions.ensures ∙ ap envelope_of_positions c.positions.ensures.positions))
