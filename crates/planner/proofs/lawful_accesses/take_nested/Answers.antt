use Rattle.std.proofs.Common.{ap₂, subst, ◌∙◌}
use Rattle.planner.specs.Nestings.{Takes, all_pairs}
use Rattle.planner.proofs.lawful_accesses.take_nested.Goals as goal

pub returns : goal.returns
returns g c =
    subst (λ pairs. Takes c.args.rows.now c.args.least.now c.take_all_pairs.new.least pairs)
    (ap₂ all_pairs (c.as_slice.ensures ∙ c.in_ok-outers.ensures) (c.as_slice-2.ensures
    ∙ c.in_ok-inners.ensures)) c.take_all_pairs.ensures
