use Rattle.std.proofs.Common.{◌≡◌, ◌&&◌, Bool, true, ℤ, pos, sym, ap, ◌∙◌}
use Rattle.std.proofs.lemmas.Int.{to_z-of_z}
use mir.Syntax.{w32}
use mir.Val.{SFits}
use Rattle.geometry_model.specs.Sides.{between}
use Rattle.orient.proofs.positions.is_in_box.Goals as goal

-- where the first test holds, the second decides
by_second : (first second p q : Bool) → first ≡ true → first ≡ p → second ≡ q → second ≡ (p && q)
by_second first second p q t e f = f ∙ sym (ap (λ (b : Bool). b && q) (sym e ∙ t))

placed : (r : Bool) (s t p a b c : ℤ) → s ≡ a → t ≡ b → p ≡ c → r ≡ between s t p (pos 1) → r ≡ between a b c (pos 1)
placed r s t p a b c e f g h = rw (← e, ← f, ← g) h

pub returns-then-is_between : goal.returns-then-is_between
returns-then-is_between c =
    let sx : SFits w32 c.x.result = record { sfits = c.x.type_inv } in
    let tx : SFits w32 c.x-2.result = record { sfits = c.x-2.type_inv } in
    let px : SFits w32 c.x-3.result = record { sfits = c.x-3.type_inv } in
    let sy : SFits w32 c.y.result = record { sfits = c.y.type_inv } in
    let ty : SFits w32 c.y-then-is_between.result = record { sfits = c.y-then-is_between.type_inv } in
    let py : SFits w32 c.y-then-is_between-2.result = record { sfits = c.y-then-is_between-2.type_inv } in
    by_second c.is_between.result c.is_between-then-is_between.result
    (between c.args.from.x c.args.to.x c.args.at.x (pos 1)) (between c.args.from.y c.args.to.y c.args.at.y (pos 1)) c.if-is_between.true
    (placed c.is_between.result c.x.result c.x-2.result c.x-3.result c.args.from.x c.args.to.x c.args.at.x
    c.x.ensures.value c.x-2.ensures.value c.x-3.ensures.value (simp to_z-of_z at c.is_between.ensures))
    (placed c.is_between-then-is_between.result c.y.result c.y-then-is_between.result c.y-then-is_between-2.result c.args.from.y c.args.to.y c.args.at.y
    c.y.ensures.value c.y-then-is_between.ensures.value c.y-then-is_between-2.ensures.value (simp to_z-of_z at c.is_between-then-is_between.ensures))
