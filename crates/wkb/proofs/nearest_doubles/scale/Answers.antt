use Rattle.wkb.proofs.Scaling.{is_scaled}
use Rattle.wkb.proofs.nearest_doubles.scale.Goals as goal

pub returns : goal.returns
returns c =
    is_scaled c.args.number c.args.parts c.from.result c.ilog2-shift.result c.ilog2-up.result c.from.ensures c.requires.short
    c.requires.few c.ilog2-shift.ensures.power_le c.ilog2-shift.ensures.next_power_gt c.ilog2-up.ensures.power_le
    c.ilog2-up.ensures.next_power_gt
