use Rattle.std.proofs.Common.{◌∙◌, ◌++◌, ap, sym}
use Rattle.std.specs.Int.{w32}
use Rattle.std.specs.Prelude.{FitsSigned}
use mir.Facts.{to_z-of_z}
use Rattle.std.proofs.lemmas.List.{append-nil}
use Rattle.basics.proofs.Orders.{same_less_than}
use Rattle.geometry_model.specs.Points.{point_at}
use Rattle.geometry_model.specs.Sides.{on}
use Rattle.noding.specs.NodeRanges.{greatest_x}
use Rattle.noding.proofs.InRange.{none_to_the_left, none_to_the_right, one_more}
use Rattle.noding.proofs.breaks.push_listed.Goals as goal

pub loop-place-init : goal.loop-place-init
loop-place-init c =
    let fits : FitsSigned w32 c.least_x.result = record { sfits = c.least_x.type_inv } in
    sym (ap (λ ps. c.args.breaks.now ++ ps) (none_to_the_left c.args.segment.now _ c.args.listed.now c.first_from-place.result (to_z-of_z fits ∙ c.least_x.ensures) c.first_from-place.ensures.parts) ∙ append-nil c.args.breaks.now)

pub returns-then-end-x : goal.returns-then-end-x
returns-then-end-x c =
    let fits : FitsSigned w32 c.greatest_x-end.result = record { sfits = c.greatest_x-end.type_inv } in
    let fits2 : FitsSigned w32 c.x.result = record { sfits = c.x.type_inv } in
    c.loop-place.invariant ∙ ap (λ ps. c.args.breaks.now ++ ps) (none_to_the_right c.args.segment.now c.args.listed.now c.loop-place.place c.index-listed-place.result c.requires c.index-listed-place.is
    (same_less_than _ _ (greatest_x c.args.segment.now) c.index-listed-place.result.x (to_z-of_z fits ∙ c.greatest_x-end.ensures) (to_z-of_z fits2 ∙ c.x.ensures.value) c.if-end-x.true))

pub loop-place-preserved : goal.loop-place-preserved
loop-place-preserved c = one_more (on c.args.segment.now) point_at c.args.listed.now c.loop-place.place c.index-listed-place.result c.args.breaks.now c.loop-place.breaks c.push_if_on.new.breaks
    c.loop-place-test.true c.index-listed-place.is c.loop-place.invariant c.in_ok-push_if_on.ensures
