use Rattle.std.specs.Prelude.{pos, ℤ}
use Rattle.std.specs.Ordering.{int_cmp}
use Rattle.std.proofs.Common.{ap, ap₂, ◌∙◌}
use mir.Syntax.{w128}
use Rattle.geometry_model.specs.Points.{Position}
use Rattle.geometry_model.specs.Sides.{side}
use Rattle.orient.proofs.Bounds.{read}
use Rattle.orient.proofs.sides.side.Goals as goal

pub returns : goal.returns
returns c =
    let number = read w128 c.signed_side.result _ (record { sfits = c.signed_side.type_inv }) (c.signed_side.ensures ∙ ap₂ (λ (a b : Position). side a b c.args.p.now) c.start.ensures c.end.ensures.value) in
    c.cmp.ensures ∙ ap (λ (n : ℤ). int_cmp n (pos 0)) number
