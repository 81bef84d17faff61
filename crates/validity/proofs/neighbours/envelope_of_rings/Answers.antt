use Rattle.std.proofs.Common.{◌∙◌, ap, refl}
use Rattle.geometry_model.specs.Envelopes.{envelope_of_positions}
use Rattle.std.proofs.lemmas.Option.{slice_get_read}
use Rattle.validity.specs.Neighbours.{either_envelope}
use Rattle.validity.proofs.Envelopes.{element_next}
use Rattle.validity.proofs.neighbours.envelope_of_rings.Goals as goal

pub loop-ring-preserved : goal.loop-ring-preserved
loop-ring-preserved c = element_next c.args.rings.now c.loop-ring.ring-index c.ring-item.result c.loop-ring.all c.either-all.result
    (slice_get_read c.args.rings.now _ c.loop-ring.ring-index c.ring-item.result refl c.loop-ring-test.true c.ring-item.is) c.loop-ring.invariant
    (c.either-all.ensures ∙ ap (either_envelope c.loop-ring.all) (c.of_positions.ensures ∙ ap envelope_of_positions c.positions.ensures.positions))
