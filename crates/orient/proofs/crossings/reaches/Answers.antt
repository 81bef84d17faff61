use Rattle.std.specs.Prelude.{◌≡◌, ℤ, pos, ◌*ℤ◌, int_le, [], ◌∷◌}
use Rattle.std.proofs.Common.{sym, ap, ap₂, ◌∙◌, to_z}
use Rattle.std.proofs.lemmas.Int.{to_z-of_z}
use mir.Syntax.{w32, w64, w128}
use Rattle.basics.proofs.Ring.{solve, var, lit, ◌⊗◌}
use Rattle.orient.proofs.Bounds.{read, product_read}
use Rattle.orient.proofs.crossings.reaches.Goals as goal

over_one : (z w : ℤ) → w ≡ pos 1 → z ≡ z *ℤ w
over_one z w e = sym (ap (λ (y : ℤ). z *ℤ y) e ∙ solve (z ∷ []) (var 0 ⊗ lit (pos 1)) (var 0) tt)

pub returns-then-denominator-eq1 : goal.returns-then-denominator-eq1
returns-then-denominator-eq1 c =
    let one = sym c.denominator.ensures.value ∙ sym (to_z-of_z w64 c.denominator.result (record { sfits = c.denominator.type_inv })) ∙ ap (to_z w64) c.if-denominator-eq1.true in
    let x = read w128 c.from.result c.args.a.x (record { sfits = c.from.type_inv }) (c.from.ensures ∙ read w32 c.x.result c.args.a.x (record { sfits = c.x.type_inv }) c.x.ensures.value) in
    ap₂ int_le (x ∙ over_one c.args.a.x c.args.p.now.W one) (read w128 c.numerator_x.result c.args.p.now.X (record { sfits = c.numerator_x.type_inv }) c.numerator_x.ensures.value)

pub returns-else-denominator-eq1 : goal.returns-else-denominator-eq1
returns-else-denominator-eq1 c =
    ap₂ int_le
    (product_read c.numerator_over.result c.x-else-denominator-eq1.result c.denominator-else-denominator-eq1.result c.args.a.x c.args.p.now.W (record { sfits = c.numerator_over.type_inv }) (record { sfits = c.x-else-denominator-eq1.type_inv }) (record { sfits = c.denominator-else-denominator-eq1.type_inv })
    c.numerator_over.ensures c.x-else-denominator-eq1.ensures.value c.denominator-else-denominator-eq1.ensures.value)
    (read w128 c.numerator_x-else-denominator-eq1.result c.args.p.now.X (record { sfits = c.numerator_x-else-denominator-eq1.type_inv }) c.numerator_x-else-denominator-eq1.ensures.value)
