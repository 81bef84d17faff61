use Rattle.std.proofs.Common.{◌≡◌, ◌++◌, ◌∙◌, OnOk, ap, subst}
use Rattle.sfq_tables.specs.QueryForms.{argument_form, operand_form}
use Rattle.sfq_tables.proofs.OperandLemmas.{added, of_and, of_compare, of_or, of_relates}
use Rattle.sfq_tables.proofs.operands.+operands.Goals as goal

pub push_condition-returns-in-Or : goal.push_condition-returns-in-Or
push_condition-returns-in-Or t c =
    subst (λ xs. OnOk c.push_conditions.result (c.push_conditions.new.found.items ≡ c.args.found.now.items ++ xs))
    (of_or c.args.conjunct c.args.condition.now c.in-Or.parts c.as_slice.result.now c.in-Or.is c.as_slice.ensures)
    c.push_conditions.ensures

pub push_condition-returns-in-And : goal.push_condition-returns-in-And
push_condition-returns-in-And t c =
    subst (λ xs. OnOk c.push_conditions-in-And.result (c.push_conditions-in-And.new.found.items ≡ c.args.found.now.items ++ xs))
    (of_and c.args.conjunct c.args.condition.now c.in-And.parts c.as_slice-in-And.result.now c.in-And.is
    c.as_slice-in-And.ensures)
    c.push_conditions-in-And.ensures

pub push_condition-returns-in_ok-push-in-Compare-2 : goal.push_condition-returns-in_ok-push-in-Compare-2
push_condition-returns-in_ok-push-in-Compare-2 t c =
    added c.args.found.now.items c.push.new.self.items c.push-in-Compare.new.self.items _
    c.operand_form.result c.operand_form-in-Compare.result _ _
    c.in_ok-push-in-Compare.ensures.items c.in_ok-push-in-Compare-2.ensures.items
    (c.operand_form.ensures
    ∙ ap (λ test. operand_form c.args.conjunct test c.in-Compare.a) c.comparison_number-test.ensures)
    (c.operand_form-in-Compare.ensures
    ∙ ap (λ test. operand_form c.args.conjunct test c.in-Compare.b) c.comparison_number-test.ensures)
    (of_compare c.args.conjunct c.args.condition.now c.in-Compare.sign c.in-Compare.a c.in-Compare.b c.in-Compare.is)

pub push_condition-returns-in_ok-push-in-Relates-2 : goal.push_condition-returns-in_ok-push-in-Relates-2
push_condition-returns-in_ok-push-in-Relates-2 t c =
    added c.args.found.now.items c.push-in-Relates.new.self.items c.push-in-Relates-2.new.self.items _
    c.argument_form-in-Relates.result c.argument_form-in-Relates-2.result _ _
    c.in_ok-push-in-Relates.ensures.items c.in_ok-push-in-Relates-2.ensures.items
    (c.argument_form-in-Relates.ensures
    ∙ ap (λ test. argument_form c.args.conjunct test 0 c.in-Relates.a) c.predicate_number-test.ensures)
    (c.argument_form-in-Relates-2.ensures
    ∙ ap (λ test. argument_form c.args.conjunct test 0 c.in-Relates.b) c.predicate_number-test.ensures)
    (of_relates c.args.conjunct c.args.condition.now c.in-Relates.predicate c.in-Relates.a c.in-Relates.b c.in-Relates.is)
