use Rattle.std.proofs.Common.{ap, sym, ◌∙◌}
use Rattle.statements.specs.Constants.{constants_of, of_conditions}
use Rattle.statements.specs.Searching.{sought}
use Rattle.statements.proofs.SearchFacts.{at_most, counted}
use Rattle.statements.proofs.constants.count_of_constants.Goals as goal

pub returns-in-Found : goal.returns-in-Found
returns-in-Found c =
    at_most (constants_of c.args.bound.now) 18446744073709551615 c.in-Found.field-0
    (ap (λ cs. sought (of_conditions cs) 18446744073709551615) (sym c.as_slice.ensures) ∙ sym c.in_conditions.ensures
    ∙ c.in-Found.is)

pub returns-in-After : goal.returns-in-After
returns-in-After c =
    counted (constants_of c.args.bound.now) 18446744073709551615 c.in-After.left
    (ap (λ cs. sought (of_conditions cs) 18446744073709551615) (sym c.as_slice.ensures) ∙ sym c.in_conditions.ensures
    ∙ c.in-After.is)
