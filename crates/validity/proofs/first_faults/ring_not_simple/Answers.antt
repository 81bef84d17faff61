use Rattle.std.proofs.Common.{◌∙◌, sym, ◌<◌, length, arith}
use Rattle.geometry_model.specs.Geometries as spec
use Rattle.geometry_model.specs.Geometries.{Geometry}
use Rattle.geometry_model.specs.FirstFaults.{has_fault}
use Rattle.geometry_model.specs.declared.validity_faults.ValidityFault.TheVariants as validity
use Rattle.validity.proofs.Finding.{passed_here}
use Rattle.validity.proofs.first_faults.ring_not_simple.Goals as goal

pub loop-ring-preserved : goal.loop-ring-preserved
loop-ring-preserved c =
    let within : c.loop-ring.ring < length (spec.rings c.args.outline.now) = omega (arith, c.loop-ring-test.true, c.ring_count-ring-end.ensures) in
    c.loop-ring.invariant ∙ passed_here (has_fault c.args.outline.now) validity.RingNotSimple c.loop-ring.ring (length (spec.rings c.args.outline.now)) within (sym c.in_ok-meets_itself.ensures ∙ c.if-branch.false)
