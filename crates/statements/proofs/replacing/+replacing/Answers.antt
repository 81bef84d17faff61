-- A condition is replaced by its parts.
use Rattle.std.proofs.Common.{◌≡◌, IfOk, ap, sym, subst, arith, ◌∙◌}
use Rattle.statements.specs.Constants.{condition_with}
use Rattle.statements.proofs.ConstantFacts.{put-Or, put-And, put-Not, put-Compare, put-IsNull, put-IsEmpty, put-Relates}
use Rattle.statements.proofs.SearchFacts.{stays}
use Rattle.statements.proofs.Sizes.{size_of_one}
use Rattle.table_model.specs.declared.conditions.Cond.TheVariants as conds
use Rattle.statements.proofs.replacing.+replacing.Goals as goal

pub condition_with-returns-in_ok-conditions_with-in-Or : goal.condition_with-returns-in_ok-conditions_with-in-Or
condition_with-returns-in_ok-conditions_with-in-Or t c =
    ap conds.Or c.in_ok-conditions_with-in-Or.ensures ∙ sym (put-Or c.args.k c.args.value c.args.condition _ c.in-Or.is)

pub condition_with-returns-in_ok-conditions_with-in-And : goal.condition_with-returns-in_ok-conditions_with-in-And
condition_with-returns-in_ok-conditions_with-in-And t c =
    ap conds.And c.in_ok-conditions_with-in-And.ensures ∙ sym (put-And c.args.k c.args.value c.args.condition _ c.in-And.is)

pub condition_with-returns-in_ok-part-in-Not : goal.condition_with-returns-in_ok-part-in-Not
condition_with-returns-in_ok-part-in-Not t c =
    subst (λ x. IfOk c.negated.result (λ it. it ≡ x))
    (ap conds.Not (c.in_ok-part-in-Not.ensures ∙ ap (condition_with c.args.k c.args.value) c.into_inner.ensures)
    ∙ sym (put-Not c.args.k c.args.value c.args.condition _ c.in-Not.is))
    c.negated.ensures

pub condition_with-returns-in-Compare : goal.condition_with-returns-in-Compare
condition_with-returns-in-Compare t c =
    subst (λ x. IfOk c.comparison_with.result (λ it. it ≡ x))
    (sym (put-Compare c.args.k c.args.value c.args.condition _ _ _ c.in-Compare.is)) c.comparison_with.ensures

pub condition_with-returns-in_ok-operand_with-in-IsNull : goal.condition_with-returns-in_ok-operand_with-in-IsNull
condition_with-returns-in_ok-operand_with-in-IsNull t c =
    ap conds.IsNull c.in_ok-operand_with-in-IsNull.ensures
    ∙ sym (put-IsNull c.args.k c.args.value c.args.condition _ c.in-IsNull.is)

pub condition_with-returns-in-IsEmpty : goal.condition_with-returns-in-IsEmpty
condition_with-returns-in-IsEmpty t c =
    ap conds.IsEmpty c.argument_with.ensures ∙ sym (put-IsEmpty c.args.k c.args.value c.args.condition _ c.in-IsEmpty.is)

pub condition_with-returns-in-Relates : goal.condition_with-returns-in-Relates
condition_with-returns-in-Relates t c =
    c.relation_with.ensures ∙ sym (put-Relates c.args.k c.args.value c.args.condition _ _ _ c.in-Relates.is)

pub conditions_with-returns-in-None : goal.conditions_with-returns-in-None
conditions_with-returns-in-None t c =
    stays c.args.k c.args.value c.as_slice.result.now c.args.conditions c.in-None.ensures c.as_slice.ensures

pub conditions_with-condition_with-requires : goal.conditions_with-condition_with-requires
conditions_with-condition_with-requires t c =
    let h = size_of_one c.args.conditions c.in-Some.place.condition c.remove-condition.result c.remove-condition.ensures.item in
    (omega (arith, h, c.decreases), tt)
