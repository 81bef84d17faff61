use Rattle.std.proofs.Common.{ap₂, ◌∙◌}
use Rattle.std.proofs.lemmas.Int.{to_z-of_z}
use mir.Syntax.{w128}
use mir.Val.{SFits}
use Rattle.geometry_model.specs.Points.{Position}
use Rattle.geometry_model.specs.Sides.{side}
use Rattle.orient.proofs.Rightward.{strictly_from, at_or_from}
use Rattle.orient.proofs.crossings.crossing_at_point.Goals as goal

pub is_on-requires : goal.is_on-requires
is_on-requires c =
    let f : SFits w128 c.signed_side-side.result = record { sfits = c.signed_side-side.type_inv } in
    simp to_z-of_z (c.signed_side-side.ensures ∙ ap₂ (λ (a b : Position). side a b c.args.p.now) c.start.ensures c.end.ensures.value)

pub returns-clause-strictly_above : goal.returns-clause-strictly_above
returns-clause-strictly_above c =
    let f : SFits w128 c.signed_side-side.result = record { sfits = c.signed_side-side.type_inv } in
    strictly_from c.args.segment.now c.args.p.now c.signed_side-side.result c.is_rightward-is_rightward.result c.spans-spans.result c.is_below.result
    (c.signed_side-side.ensures ∙ ap₂ (λ (a b : Position). side a b c.args.p.now) c.start.ensures c.end.ensures.value)
    c.is_rightward-is_rightward.ensures c.spans-spans.ensures (simp to_z-of_z at c.is_below.ensures)

pub returns-clause-at_or_above : goal.returns-clause-at_or_above
returns-clause-at_or_above c =
    let f : SFits w128 c.signed_side-side.result = record { sfits = c.signed_side-side.type_inv } in
    at_or_from c.args.segment.now c.args.p.now c.signed_side-side.result c.is_rightward-is_rightward.result c.spans-spans.result c.is_at_most.result
    (c.signed_side-side.ensures ∙ ap₂ (λ (a b : Position). side a b c.args.p.now) c.start.ensures c.end.ensures.value)
    c.is_rightward-is_rightward.ensures c.spans-spans.ensures (simp to_z-of_z at c.is_at_most.ensures)
