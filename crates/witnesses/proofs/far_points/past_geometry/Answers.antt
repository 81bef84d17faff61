use Rattle.std.proofs.Common.{◌∙◌, ap, subst, ℤ, ◌≤ℤ◌}
use Rattle.std.proofs.lemmas.Int.{to_z-of_z}
use mir.Syntax.{w32}
use Rattle.geometry_model.specs.Geometries.{listed}
use Rattle.witnesses.proofs.FarFacts.{reaches_both}
use Rattle.witnesses.proofs.far_points.past_geometry.Goals as goal

pub returns-clause-reaches : goal.returns-clause-reaches
returns-clause-reaches c = reaches_both c.past_edges-passed.result c.past_positions.result _ c.args.valid.now c.segments.result.now c.listed.result.now c.segments.ensures (c.listed.ensures.listed ∙ ap listed c.geometry.ensures.same) c.past_edges-passed.ensures.edges c.past_positions.ensures.positions
    (subst (λ (z : ℤ). z ≤ℤ c.past_positions.result) (to_z-of_z w32 c.past_edges-passed.result (record { sfits = c.past_edges-passed.type_inv })) c.past_positions.ensures.from)
    (to_z-of_z w32 c.past_positions.result (record { sfits = c.past_positions.type_inv }))
