use Rattle.std.specs.Option.{option_copied, option_to_list}
use Rattle.std.proofs.Common.{◌∷◌, ◌∙◌, OnOk, ap, subst, sym}
use Rattle.std.proofs.lemmas.Result.{on_ok_weaker}
use Rattle.planner.proofs.Taken.{some_taken_is, takes_twice}
use Rattle.planner.specs.Nestings.{Takes}
use Rattle.table_model.specs.Plans as spec
use Rattle.planner.proofs.lawful_accesses.take_lawful.Goals as goal

pub returns-in-None-clause-takes : goal.returns-in-None-clause-takes
returns-in-None-clause-takes g c =
    let one = c.parts.ensures ∙ ap (λ o. c.parts.result.0.now ∷ option_to_list (option_copied o)) c.in-None.is in
    subst (λ rs. OnOk c.take_one.result (Takes c.args.rows.now c.args.least.now c.take_one.new.least (spec.lawful_accesses rs
    c.args.conjuncts.now))) (sym one) c.take_one.ensures

pub returns-in-None-clause-some : goal.returns-in-None-clause-some
returns-in-None-clause-some g c = on_ok_weaker c.take_one.result (λ h. some_taken_is c.args.rows.now c.args.least.now
    c.take_one.new.least _ _ h) c.take_one.ensures

pub returns-in_ok-take_nested-in-Some-clause-takes : goal.returns-in_ok-take_nested-in-Some-clause-takes
returns-in_ok-take_nested-in-Some-clause-takes g c =
    let two = c.parts.ensures ∙ ap (λ o. c.parts.result.0.now ∷ option_to_list (option_copied o)) c.in-Some.is in
    on_ok_weaker c.take_nested-in-Some.result
    (λ h. subst (λ rs. Takes c.args.rows.now c.args.least.now c.take_nested-in-Some.new.least (spec.lawful_accesses rs
    c.args.conjuncts.now)) (sym two)
    (takes_twice c.args.rows.now c.args.least.now c.take_nested.new.least c.take_nested-in-Some.new.least (spec.nested
    c.args.conjuncts.now 0 1) (spec.nested c.args.conjuncts.now 1 0)
    c.in_ok-take_nested-in-Some.ensures h))
    c.take_nested-in-Some.ensures

pub returns-in_ok-take_nested-in-Some-clause-some : goal.returns-in_ok-take_nested-in-Some-clause-some
returns-in_ok-take_nested-in-Some-clause-some g c =
    on_ok_weaker c.take_nested-in-Some.result (λ h. some_taken_is c.args.rows.now c.take_nested.new.least
    c.take_nested-in-Some.new.least _ _
    h) c.take_nested-in-Some.ensures
