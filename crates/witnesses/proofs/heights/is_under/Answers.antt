use Rattle.std.specs.Prelude.{◌≡◌, ℤ, pos, ◌-ℤ◌, ◌*ℤ◌, int_le, Bool, ◌&&◌}
use Rattle.std.proofs.Common.{sym, ap, ◌∙◌, arith}
use Rattle.std.proofs.lemmas.Int.{ints}
use mir.Syntax.{w128}
use Rattle.orient.proofs.Bounds.{read}
use Rattle.witnesses.proofs.heights.is_under.Goals as goal

from_zero : (d x y : ℤ) → d ≡ x -ℤ y → int_le (pos 0) d ≡ int_le y x
from_zero d x y e = grind (arith, ints)

to_zero : (d x y : ℤ) → d ≡ x -ℤ y → int_le d (pos 0) ≡ int_le x y
to_zero d x y e = grind (arith, ints)

pub returns-then-offset-ge0-clause-exact : goal.returns-then-offset-ge0-clause-exact
returns-then-offset-ge0-clause-exact c = to_zero _ c.args.p.now.X (c.args.right.x *ℤ c.args.p.now.W) (read w128 c.offset-then-offset-ge0.result _ (record { sfits = c.offset-then-offset-ge0.type_inv }) c.offset-then-offset-ge0.ensures.value)
    ∙ sym (ap (λ (t : Bool). t && int_le c.args.p.now.X (c.args.right.x *ℤ c.args.p.now.W))
    (sym (from_zero _ c.args.p.now.X (c.args.left.x *ℤ c.args.p.now.W) (read w128 c.offset.result _ (record { sfits = c.offset.type_inv }) c.offset.ensures.value)) ∙ c.if-offset-ge0.true))

pub returns-else-offset-ge0-clause-exact : goal.returns-else-offset-ge0-clause-exact
returns-else-offset-ge0-clause-exact c = c.if-offset-ge0.false
    ∙ sym (ap (λ (t : Bool). t && int_le c.args.p.now.X (c.args.right.x *ℤ c.args.p.now.W))
    (sym (from_zero _ c.args.p.now.X (c.args.left.x *ℤ c.args.p.now.W) (read w128 c.offset.result _ (record { sfits = c.offset.type_inv }) c.offset.ensures.value)) ∙ c.if-offset-ge0.false))
