use Rattle.std.proofs.Common.{w32, ◌∙◌}
use mir.Syntax.{w128}
use Rattle.std.proofs.lemmas.Int.{to_z-of_z}
use Rattle.fraction.proofs.RangeLemmas.{grid_is_kept_from}
use Rattle.fraction.proofs.rational_points.RatPoint.of_grid.Goals as goal

pub invariant_of-result : goal.invariant_of-result
invariant_of-result c = grid_is_kept_from c.args.at _ _
    (to_z-of_z w128 _ (record { sfits = c.from.type_inv }) ∙ c.from.ensures ∙ to_z-of_z w32 _ (record { sfits = c.x.type_inv }) ∙ c.x.ensures.value)
    (to_z-of_z w128 _ (record { sfits = c.from-2.type_inv }) ∙ c.from-2.ensures ∙ to_z-of_z w32 _ (record { sfits = c.y.type_inv }) ∙ c.y.ensures.value)
    c.x.ensures.on_grid
