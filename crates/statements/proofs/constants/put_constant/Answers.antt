use Rattle.std.proofs.Common.{ap, sym, ◌∙◌}
use Rattle.statements.specs.Constants.{conditions_with}
use Rattle.statements.proofs.QueryFacts.{done_bound}
use Rattle.statements.proofs.constants.put_constant.Goals as goal

pub returns-in-Ok-clause-stays_bound : goal.returns-in-Ok-clause-stays_bound
returns-in-Ok-clause-stays_bound c =
    done_bound c.args.k c.args.value c.args.bound.now c.in-Ok.conjuncts
    (sym c.may_replace.ensures.may ∙ c.if-not-may_replace.false)
    c.may_replace.ensures.sound
    (c.in-Ok.ensures ∙ ap (conditions_with c.args.k c.args.value) c.replace-conjuncts.ensures.value)
