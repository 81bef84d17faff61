use Rattle.std.proofs.Common.{◌≡◌, sym, ap, ◌∙◌, subst, refl, ℤ, pos, ◌+ℤ◌, ◌*ℤ◌, to_z, of_z}
use Rattle.std.proofs.lemmas.Int.{to_z-of_z}
use mir.Syntax.{w32, w128}
use mir.Val.{SFits}
use Rattle.orient.proofs.Bounds.{product_read}
use Rattle.edge_boxes.proofs.Floors.{ceiling_as, ceiling_at, ceiling_over, next_fits}
use Rattle.edge_boxes.proofs.cells.ceiling.Goals as goal

pub overflow_add-result : goal.overflow_add-result
overflow_add-result c = subst (λ (z : ℤ). SFits w32 (z +ℤ pos 1)) (sym (to_z-of_z w32 c.args.floor c.ranges.floor)) (next_fits c.args.floor c.requires.bound)

pub returns-then-multiple-numerator : goal.returns-then-multiple-numerator
returns-then-multiple-numerator c =
    let f : SFits w128 c.multiple.result = (record { sfits = c.multiple.type_inv }) in
    let product = product_read c.multiple.result c.args.floor c.args.denominator c.args.floor c.args.denominator f c.ranges.floor c.ranges.denominator c.multiple.ensures refl refl in
    let e = sym product ∙ ap (to_z w128) c.if-multiple-numerator.true ∙ to_z-of_z w128 c.args.numerator c.ranges.numerator in
    ceiling_as _ _ c.args.floor c.args.numerator c.args.denominator _ refl refl (sym (to_z-of_z w32 c.args.floor c.ranges.floor)) (ceiling_at c.args.numerator c.args.denominator c.args.floor c.requires.positive e)

pub returns-else-multiple-numerator : goal.returns-else-multiple-numerator
returns-else-multiple-numerator c =
    let f : SFits w128 c.multiple.result = (record { sfits = c.multiple.type_inv }) in
    let product = product_read c.multiple.result c.args.floor c.args.denominator c.args.floor c.args.denominator f c.ranges.floor c.ranges.denominator c.multiple.ensures refl refl in
    let differ = λ (h : c.args.floor *ℤ c.args.denominator ≡ c.args.numerator). c.if-multiple-numerator.false (ap (of_z w128) (sym (to_z-of_z w128 c.multiple.result f) ∙ product ∙ h)) in
    let next = ap (λ (z : ℤ). to_z w32 (of_z w32 (z +ℤ pos 1))) (to_z-of_z w32 c.args.floor c.ranges.floor) ∙ to_z-of_z w32 _ (next_fits c.args.floor c.requires.bound) in
    ceiling_as _ _ _ c.args.numerator c.args.denominator _ refl refl (sym next) (ceiling_over c.args.numerator c.args.denominator c.args.floor c.requires.positive c.requires.floor differ)
