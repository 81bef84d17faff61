use Rattle.std.proofs.Common.{ap, sym, ◌∙◌}
use Rattle.statements.specs.Constants.{constants_of, of_conditions}
use Rattle.statements.specs.Searching.{sought}
use Rattle.statements.proofs.SearchFacts.{found_type, no_type}
use Rattle.statements.proofs.constants.type_of_constant.Goals as goal

pub returns-in-Found : goal.returns-in-Found
returns-in-Found c =
    found_type (constants_of c.args.bound.now) c.args.k c.in-Found.constant
    (ap (λ cs. sought (of_conditions cs) c.args.k) (sym c.as_slice.ensures) ∙ sym c.in_conditions.ensures ∙ c.in-Found.is)

pub returns-in-After : goal.returns-in-After
returns-in-After c =
    no_type (constants_of c.args.bound.now) c.args.k c.in-After.field-0
    (ap (λ cs. sought (of_conditions cs) c.args.k) (sym c.as_slice.ensures) ∙ sym c.in_conditions.ensures ∙ c.in-After.is)
