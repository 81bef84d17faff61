use Rattle.std.specs.Prelude.{◌≡◌, ◌&&◌, Bool, ℤ, int_le}
use Rattle.std.proofs.Common.{ap₂, ◌∙◌, refl}
use Rattle.std.proofs.lemmas.Int.{to_z-of_z}
use mir.Syntax.{w128}
use Rattle.orient.proofs.Bounds.{product_read}
use Rattle.orient.proofs.Tests.{either_holds, second_decides}
use Rattle.orient.proofs.sides.is_between.Goals as goal

-- the order of numbers that are equal
ascend_of : (r : Bool) (a b c a' b' c' : ℤ) → r ≡ (int_le a b && int_le b c) → a ≡ a' → b ≡ b' → c ≡ c' → r ≡ (int_le a' b' && int_le b' c')
ascend_of r a b c a' b' c' i e f g = i ∙ ap₂ (λ (x y : Bool). x && y) (ap₂ int_le e f) (ap₂ int_le f g)

pub returns-then-ascend : goal.returns-then-ascend
returns-then-ascend c =
    let from = product_read c.numerator_over-from.result c.args.s c.args.w c.args.s c.args.w (record { sfits = c.numerator_over-from.type_inv }) c.ranges.s c.ranges.w c.numerator_over-from.ensures refl refl in
    let to = product_read c.numerator_over-to.result c.args.t c.args.w c.args.t c.args.w (record { sfits = c.numerator_over-to.type_inv }) c.ranges.t c.ranges.w c.numerator_over-to.ensures refl refl in
    either_holds _ _ _ (ascend_of _ _ _ _ _ _ _ c.ascend.ensures from (to_z-of_z w128 c.args.n c.ranges.n) to) c.if-ascend.true

pub returns-else-ascend : goal.returns-else-ascend
returns-else-ascend c =
    let from = product_read c.numerator_over-from.result c.args.s c.args.w c.args.s c.args.w (record { sfits = c.numerator_over-from.type_inv }) c.ranges.s c.ranges.w c.numerator_over-from.ensures refl refl in
    let to = product_read c.numerator_over-to.result c.args.t c.args.w c.args.t c.args.w (record { sfits = c.numerator_over-to.type_inv }) c.ranges.t c.ranges.w c.numerator_over-to.ensures refl refl in
    let n = to_z-of_z w128 c.args.n c.ranges.n in
    second_decides _ _ _ _ (ascend_of _ _ _ _ _ _ _ c.ascend.ensures from n to) c.if-ascend.false (ascend_of _ _ _ _ _ _ _ c.ascend-else-ascend.ensures to n from)
