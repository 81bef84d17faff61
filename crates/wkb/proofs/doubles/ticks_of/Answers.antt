use Rattle.std.proofs.Common.{ap, ◌∙◌, Bool}
use mir.Syntax.{w128}
use Rattle.std.proofs.lemmas.Int.{to_z-of_z}
use Rattle.wkb.specs.Ticks.{rounded_down}
use Rattle.wkb.proofs.Signed.{signed_counted, signed_far}
use Rattle.wkb.proofs.doubles.ticks_of.Goals as goal

pub returns-in-None : goal.returns-in-None
returns-in-None c = signed_far c.args.bits c.args.parts c.in-None.ensures

pub returns-in-Some : goal.returns-in-Some
returns-in-Some c =
    signed_counted c.args.bits c.args.parts c.in-Some.size _ c.in-Some.ensures
    (to_z-of_z w128 c.with_sign.result (record { sfits = c.with_sign.type_inv })
    ∙ (c.with_sign.ensures ∙ ap (λ (b : Bool). rounded_down b c.in-Some.size.whole c.in-Some.size.has_rest)
    c.is_minus-minus.ensures))
