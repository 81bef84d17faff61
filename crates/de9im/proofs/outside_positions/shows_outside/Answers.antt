use Rattle.std.proofs.Common.{◌≡◌, ◌∙◌, sym, subst, Option, Some, IfSome}
use Rattle.geometry_model.specs.Envelopes.{Envelope, envelope}
use Rattle.geometry_model.specs.declared.point_sets.Location.{Location}
use Rattle.geometry_model.specs.declared.point_sets.Dimension.TheVariants.{Zero}
use Rattle.matrix_laws.specs.Cells.{Shows}
use Rattle.de9im.proofs.OutsidePositions.{outside_is_exterior}
use Rattle.de9im.proofs.outside_positions.shows_outside.Goals as goal

pub returns-then-not-is_in : goal.returns-then-not-is_in
returns-then-not-is_in c = λ h.
    let around = subst (λ (o : Option Envelope). IfSome o (λ e. envelope c.args.second.now ≡ Some e)) c.in-Some.is c.requires.around in
    let far = sym c.is_in.ensures ∙ c.if-not-is_in.true in
    subst (λ (l : Location). Shows c.args.matrix.now c.args.part l Zero) (sym (outside_is_exterior c.args.second.now c.requires.valid c.in-Some.around around c.args.at far)) (sym c.shows.ensures ∙ h)
