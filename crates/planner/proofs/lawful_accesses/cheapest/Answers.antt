use Rattle.std.specs.Option.{option_map}
use Rattle.std.proofs.Common.{◌∙◌, ap, sym}
use Rattle.planner.proofs.Taken.{least_of_taken}
use Rattle.planner.specs.Nestings.{accesses_in}
use Rattle.table_model.specs.Plans as spec
use Rattle.planner.proofs.lawful_accesses.cheapest.Goals as goal

pub unreachable-requires : goal.unreachable-requires
unreachable-requires g c = c.in_ok-take_lawful.ensures.some c.in-None.is

pub returns : goal.returns
returns g c =
    sym (least_of_taken c.args.rows.now c.take_lawful.new.least (spec.lawful_accesses c.args.references.now c.args.conjuncts.now)
    c.in_ok-take_lawful.ensures.takes)
    ∙ ap (option_map accesses_in) c.in-Some.is
