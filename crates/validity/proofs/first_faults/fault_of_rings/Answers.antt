use Rattle.std.proofs.Common.{◌<◌, sym, length, arith}
use Rattle.geometry_model.specs.Geometries.{rings}
use Rattle.validity.proofs.Few.{few_rings}
use Rattle.validity.proofs.first_faults.fault_of_rings.Goals as goal

pub returns-then-ring_count-lt2 : goal.returns-then-ring_count-lt2
returns-then-ring_count-lt2 c =
    let few : length (rings c.args.outline.now) < 2 = omega (arith, c.ring_count.ensures, c.if-ring_count-lt2.true) in
    sym (few_rings c.args.outline.now few)
