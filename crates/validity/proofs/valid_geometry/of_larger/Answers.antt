use Rattle.std.proofs.Common.{sym, ap, ◌∙◌}
use Rattle.geometry_model.specs.FirstFaults.{validity_fault}
use Rattle.validity.proofs.Faults.{first_is_there, found_is_shown, found_applies}
use Rattle.validity.proofs.valid_geometry.of_larger.Goals as goal

pub returns-in-Some-clause-first : goal.returns-in-Some-clause-first
returns-in-Some-clause-first c = first_is_there c.args.geometry c.of-in-Some.result c.in-Some.fault c.of-in-Some.ensures
    (ap validity_fault (sym c.in_ok-outline.ensures) ∙ (sym c.in_ok-fault.ensures ∙ c.in-Some.is))

pub returns-in-Some-clause-applies : goal.returns-in-Some-clause-applies
returns-in-Some-clause-applies c = found_applies c.args.geometry c.of-in-Some.result c.in-Some.fault c.of-in-Some.ensures
    (ap validity_fault (sym c.in_ok-outline.ensures) ∙ (sym c.in_ok-fault.ensures ∙ c.in-Some.is))

pub returns-in-Some-clause-fault : goal.returns-in-Some-clause-fault
returns-in-Some-clause-fault c = found_is_shown c.args.geometry c.of-in-Some.result c.in-Some.fault c.of-in-Some.ensures
    (ap validity_fault (sym c.in_ok-outline.ensures) ∙ (sym c.in_ok-fault.ensures ∙ c.in-Some.is))

pub kept-requires-clause-faultless : goal.kept-requires-clause-faultless
kept-requires-clause-faultless c = sym c.in_ok-fault.ensures ∙ c.in-None.is

pub returns-in_ok-kept-in-None-clause-faultless : goal.returns-in_ok-kept-in-None-clause-faultless
returns-in_ok-kept-in-None-clause-faultless c = ap validity_fault (sym c.in_ok-outline.ensures) ∙ (sym c.in_ok-fault.ensures ∙ c.in-None.is)
