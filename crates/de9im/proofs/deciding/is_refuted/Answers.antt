use Rattle.std.proofs.Common.{inl, inr, false, subst, sym}
use Rattle.geometry_model.specs.declared.relations.Predicate.{Predicate}
use Rattle.de9im.specs.Deciding.{IsDecided}
use Rattle.de9im.proofs.CommonPoints.{not_within_where_outside, not_containing_where_outside, not_equal_where_outside}
use Rattle.de9im.proofs.deciding.is_refuted.Goals as goal

pub returns-in-Within : goal.returns-in-Within
returns-in-Within c h =
    let a = c.args.first.now in
    let b = c.args.second.now in
    subst (λ (p : Predicate). IsDecided p a b false) (sym c.in-Within.is)
    (not_within_where_outside a b c.geometry-first.ensures.valid c.geometry-second.ensures.valid
    (c.has_position_outside.ensures.outside h))

pub returns-in-Contains : goal.returns-in-Contains
returns-in-Contains c h =
    let a = c.args.first.now in
    let b = c.args.second.now in
    subst (λ (p : Predicate). IsDecided p a b false) (sym c.in-Contains.is)
    (not_containing_where_outside a b c.geometry-first.ensures.valid c.geometry-second.ensures.valid
    (c.has_position_outside-in-Contains.ensures.outside h))

pub returns-then-has_position_outside : goal.returns-then-has_position_outside
returns-then-has_position_outside c h =
    let a = c.args.first.now in
    let b = c.args.second.now in
    subst (λ (p : Predicate). IsDecided p a b false) (sym c.in-Equals.is)
    (not_equal_where_outside a b c.geometry-first.ensures.valid c.geometry-second.ensures.valid
    (inl (c.has_position_outside-in-Equals.ensures.outside h)))

pub returns-else-has_position_outside : goal.returns-else-has_position_outside
returns-else-has_position_outside c h =
    let a = c.args.first.now in
    let b = c.args.second.now in
    subst (λ (p : Predicate). IsDecided p a b false) (sym c.in-Equals.is)
    (not_equal_where_outside a b c.geometry-first.ensures.valid c.geometry-second.ensures.valid
    (inr (c.has_position_outside-else-has_position_outside.ensures.outside h)))
