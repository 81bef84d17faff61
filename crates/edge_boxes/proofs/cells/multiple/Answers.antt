use Rattle.std.proofs.Common.{sym, ap, ◌∙◌, subst, ℤ, ◌*ℤ◌, to_z, of_z}
use Rattle.std.proofs.lemmas.Int.{to_z-of_z}
use mir.Syntax.{w32, w64, w128}
use mir.Val.{SFits}
use Rattle.orient.proofs.Bounds.{NumeratorFits, numerator_fits, widened_product}
use Rattle.edge_boxes.proofs.cells.multiple.Goals as goal

pub overflow_cast-result : goal.overflow_cast-result
overflow_cast-result c =
    let fits : NumeratorFits c.args.number c.args.denominator = numerator_fits c.args.number c.args.denominator c.ranges.number c.ranges.denominator in
    subst (SFits w128) (sym (to_z-of_z w32 c.args.number c.ranges.number)) fits.one

pub overflow_cast-result-2 : goal.overflow_cast-result-2
overflow_cast-result-2 c =
    let fits : NumeratorFits c.args.number c.args.denominator = numerator_fits c.args.number c.args.denominator c.ranges.number c.ranges.denominator in
    subst (SFits w128) (sym (to_z-of_z w64 c.args.denominator c.ranges.denominator)) fits.other

pub overflow_mul-result : goal.overflow_mul-result
overflow_mul-result c =
    let fits : NumeratorFits c.args.number c.args.denominator = numerator_fits c.args.number c.args.denominator c.ranges.number c.ranges.denominator in
    subst (SFits w128) (sym (widened_product c.args.number c.args.denominator c.ranges.number c.ranges.denominator)) fits.product

pub returns : goal.returns
returns c =
    let fits : NumeratorFits c.args.number c.args.denominator = numerator_fits c.args.number c.args.denominator c.ranges.number c.ranges.denominator in
    ap (λ (z : ℤ). to_z w128 (of_z w128 z)) (widened_product c.args.number c.args.denominator c.ranges.number c.ranges.denominator) ∙ to_z-of_z w128 (c.args.number *ℤ c.args.denominator) fits.product
