use Rattle.std.proofs.Common.{◌∷◌, [], ◌∙◌, map, subst}
use Rattle.planner.specs.Nestings.{Takes}
use Rattle.planner.proofs.lawful_accesses.take_one.Goals as goal

pub returns : goal.returns
returns g c =
    subst (λ accesses. Takes c.args.rows.now c.args.least.now c.take_singles.new.least (map (λ a. a ∷ []) accesses))
    (c.as_slice.ensures ∙ c.in_ok-accesses.ensures) c.take_singles.ensures
