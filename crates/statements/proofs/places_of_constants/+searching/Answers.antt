-- A condition is searched by its parts.
use Rattle.std.proofs.Common.{ap, sym, ◌∙◌}
use Rattle.statements.specs.Constants.{of_condition, of_conditions}
use Rattle.statements.specs.Searching.{sought}
use Rattle.statements.proofs.ConstantFacts.{at-Or, at-And, at-Not, at-Compare, at-IsNull, at-IsEmpty, at-Relates}
use Rattle.statements.proofs.SearchFacts.{next_after, next_found, none_left}
use Rattle.statements.proofs.places_of_constants.+searching.Goals as goal

pub in_condition-returns-in-Or : goal.in_condition-returns-in-Or
in_condition-returns-in-Or t c =
    c.in_conditions.ensures
    ∙ ap (λ xs. sought xs c.args.k) (ap of_conditions c.as_slice.ensures ∙ sym (at-Or c.args.condition.now _ c.in-Or.is))

pub in_condition-returns-in-And : goal.in_condition-returns-in-And
in_condition-returns-in-And t c =
    c.in_conditions-in-And.ensures
    ∙ ap (λ xs. sought xs c.args.k) (ap of_conditions c.as_slice-in-And.ensures ∙ sym (at-And c.args.condition.now _ c.in-And.is))

pub in_condition-returns-in-Not : goal.in_condition-returns-in-Not
in_condition-returns-in-Not t c =
    c.in_condition.ensures
    ∙ ap (λ xs. sought xs c.args.k) (ap of_condition c.get.ensures ∙ sym (at-Not c.args.condition.now _ c.in-Not.is))

pub in_condition-returns-in-Compare : goal.in_condition-returns-in-Compare
in_condition-returns-in-Compare t c = c.in_operands.ensures
    ∙ ap (λ xs. sought xs c.args.k) (sym (at-Compare c.args.condition.now _ _ _ c.in-Compare.is))

pub in_condition-returns-in-IsNull : goal.in_condition-returns-in-IsNull
in_condition-returns-in-IsNull t c = c.in_operand.ensures
    ∙ ap (λ xs. sought xs c.args.k) (sym (at-IsNull c.args.condition.now _ c.in-IsNull.is))

pub in_condition-returns-in-IsEmpty : goal.in_condition-returns-in-IsEmpty
in_condition-returns-in-IsEmpty t c = c.in_argument.ensures
    ∙ ap (λ xs. sought xs c.args.k) (sym (at-IsEmpty c.args.condition.now _ c.in-IsEmpty.is))

pub in_condition-returns-in-Relates : goal.in_condition-returns-in-Relates
in_condition-returns-in-Relates t c = c.in_arguments.ensures
    ∙ ap (λ xs. sought xs c.args.k) (sym (at-Relates c.args.condition.now _ _ _ c.in-Relates.is))

pub in_conditions-loop-condition-preserved : goal.in_conditions-loop-condition-preserved
in_conditions-loop-condition-preserved t c =
    sym (next_after c.args.conditions.now c.loop-condition.condition-index c.loop-condition.left c.in-After.next
    c.condition-item.result c.loop-condition-test.true c.condition-item.is
    (sym c.in_condition.ensures ∙ c.in-After.is))
    ∙ c.loop-condition.invariant

pub in_conditions-returns-in-Found : goal.in_conditions-returns-in-Found
in_conditions-returns-in-Found t c =
    sym (next_found c.args.conditions.now c.loop-condition.condition-index c.loop-condition.left c.in-Found.constant
    c.condition-item.result c.loop-condition-test.true c.condition-item.is
    (sym c.in_condition.ensures ∙ c.in-Found.is))
    ∙ c.loop-condition.invariant

pub in_conditions-returns : goal.in_conditions-returns
in_conditions-returns t c =
    sym (none_left c.args.conditions.now c.loop-condition.condition-index c.loop-condition.left c.loop-condition-test.false)
    ∙ c.loop-condition.invariant
