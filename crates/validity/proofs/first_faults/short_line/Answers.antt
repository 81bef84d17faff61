use Rattle.std.proofs.Common.{◌∙◌, sym, ◌<◌, length, arith, rules}
use Rattle.std.proofs.lemmas.Grind.{common_steps}
use Rattle.geometry_model.specs.Geometries as spec
use Rattle.geometry_model.specs.Geometries.{Geometry}
use Rattle.geometry_model.specs.FirstFaults.{has_fault}
use Rattle.geometry_model.specs.declared.validity_faults.ValidityFault.TheVariants as validity
use Rattle.validity.proofs.Finding.{passed_here}
use Rattle.validity.proofs.first_faults.short_line.Goals as goal

pub loop-line-preserved : goal.loop-line-preserved
loop-line-preserved c =
    let within : c.loop-line.line < length (spec.lines c.args.outline.now) = first_of (search rules, grind (arith, common_steps)) in
    c.loop-line.invariant ∙ passed_here (has_fault c.args.outline.now) validity.TooFewPoints c.loop-line.line (length (spec.lines c.args.outline.now)) within (sym c.is_short.ensures ∙ c.if-is_short.false)
