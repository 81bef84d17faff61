use Rattle.std.proofs.Common.{refl, ap, ap₂, ◌∙◌, length}
use Rattle.std.proofs.lemmas.List.{take_all}
use Rattle.std.proofs.lemmas.Option.{slice_get_read}
use Rattle.geometry_model.specs.Points.{point_at}
use Rattle.geometry_model.specs.Crossings.{exactly_one}
use Rattle.witnesses.proofs.InsideFacts.{odd_rings, next_ring, odd_is}
use Rattle.witnesses.proofs.insides.is_inside.Goals as goal

pub loop-ring-preserved : goal.loop-ring-preserved
loop-ring-preserved c = c.differ-is_odd.ensures
    ∙ (ap₂ exactly_one c.loop-ring.invariant c.is_inside_ring.ensures
    ∙ next_ring (point_at c.args.at) c.args.rings.now c.loop-ring.ring-index c.ring-item.result (slice_get_read c.args.rings.now (length c.args.rings.now) c.loop-ring.ring-index c.ring-item.result refl c.loop-ring-test.true c.ring-item.is))

pub returns : goal.returns
returns c = c.loop-ring.invariant ∙ (ap (odd_rings (point_at c.args.at)) (take_all c.loop-ring.ring-index c.args.rings.now c.loop-ring-test.false) ∙ odd_is (point_at c.args.at) c.args.rings.now)
