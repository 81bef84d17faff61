use Rattle.std.specs.Prelude.{◌≡◌, Bool, true, false, ℤ, if◌then◌else◌, int_le}
use Rattle.std.proofs.Common.{sym, ap, ap₂, ◌∙◌}
use mir.Syntax.{w32, w128}
use Rattle.geometry_model.specs.Points.{Position}
use Rattle.geometry_model.specs.Sides.{side}
use Rattle.orient.proofs.Bounds.{read}
use Rattle.orient.proofs.crossings.signed_side_rightward.Goals as goal

-- the number that a test chooses
chosen : (r x y : ℤ) (b t : Bool) → b ≡ t → r ≡ (if b then x else y) → r ≡ (if t then x else y)
chosen r x y b t e h = h ∙ ap (λ (s : Bool). if s then x else y) e

pub returns-then-x : goal.returns-then-x
returns-then-x c =
    let x_of = λ (a : Position). a.x in
    let test = ap₂ int_le (read w32 c.x.result _ (record { sfits = c.x.type_inv }) (c.x.ensures.value ∙ ap x_of c.start-start.ensures)) (read w32 c.x-2.result _ (record { sfits = c.x-2.type_inv }) (c.x-2.ensures.value ∙ ap x_of c.end-end.ensures.value)) in
    chosen _ _ _ true _ (sym c.if-x.true ∙ test)
    (read w128 c.signed_side.result _ (record { sfits = c.signed_side.type_inv }) (c.signed_side.ensures ∙ ap₂ (λ (a b : Position). side a b c.args.p.now) c.start-start.ensures c.end-end.ensures.value))

pub returns-else-x : goal.returns-else-x
returns-else-x c =
    let x_of = λ (a : Position). a.x in
    let test = ap₂ int_le (read w32 c.x.result _ (record { sfits = c.x.type_inv }) (c.x.ensures.value ∙ ap x_of c.start-start.ensures)) (read w32 c.x-2.result _ (record { sfits = c.x-2.type_inv }) (c.x-2.ensures.value ∙ ap x_of c.end-end.ensures.value)) in
    chosen _ _ _ false _ (sym c.if-x.false ∙ test)
    (read w128 c.signed_side-else-x.result _ (record { sfits = c.signed_side-else-x.type_inv }) (c.signed_side-else-x.ensures ∙ ap₂ (λ (a b : Position). side a b c.args.p.now) c.end-end.ensures.value c.start-start.ensures))
