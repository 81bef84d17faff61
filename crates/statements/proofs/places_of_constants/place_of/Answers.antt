-- The search stops at the condition that has the constant.
use Rattle.std.proofs.Common.{sym, ◌∙◌}
use Rattle.statements.proofs.SearchFacts.{goes_on, is_there, is_nowhere}
use Rattle.statements.proofs.places_of_constants.place_of.Goals as goal

pub loop-at-preserved : goal.loop-at-preserved
loop-at-preserved c =
    goes_on c.args.conditions.now c.args.k c.loop-at.at c.loop-at.left c.in-After.next c.index-conditions-at.result
    c.loop-at-test.true c.index-conditions-at.is
    (sym c.in_condition.ensures ∙ c.in-After.is) c.loop-at.invariant

pub returns-in-Found : goal.returns-in-Found
returns-in-Found c =
    is_there c.args.conditions.now c.args.k c.loop-at.at c.loop-at.left c.index-conditions-at.result _ c.loop-at-test.true
    c.index-conditions-at.is
    (sym c.in_condition.ensures ∙ c.in-Found.is) c.loop-at.invariant

pub returns : goal.returns
returns c = is_nowhere c.args.conditions.now c.args.k c.loop-at.at c.loop-at.left c.loop-at-test.false c.loop-at.invariant
