use Rattle.std.specs.Prelude.{◌≡◌, Bool, true, false, not}
use Rattle.std.proofs.Common.{ap, ap₂, ◌∙◌, refl}
use mathlib.Core.Bool.{beq}
use Rattle.geometry_model.specs.Points.{Position}
use Rattle.geometry_model.specs.Crossings.{exactly_one, reaches}
use Rattle.orient.proofs.crossings.spans.Goals as goal

unequal : (x y : Bool) → not (beq x y) ≡ exactly_one x y
unequal true true = refl
unequal true false = refl
unequal false true = refl
unequal false false = refl

pub returns : goal.returns
returns c =
    unequal c.reaches.result c.reaches-2.result
    ∙ ap₂ exactly_one (c.reaches.ensures ∙ ap (λ (a : Position). reaches a c.args.p.now) c.start.ensures) (c.reaches-2.ensures ∙ ap (λ (a : Position). reaches a c.args.p.now) c.end.ensures.value)
