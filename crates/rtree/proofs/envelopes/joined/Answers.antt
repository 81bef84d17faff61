use Rattle.std.proofs.Common.{◌∙◌}
use Rattle.std.specs.Int.{w32}
use Rattle.std.proofs.lemmas.Int.{to_z-of_z}
use Rattle.rtree.proofs.EnvelopeLemmas.{as_joined}
use Rattle.rtree.proofs.envelopes.joined.Goals as goal

pub returns : goal.returns
returns c = as_joined _ c.args.one c.args.other _ _ _ _ _ _ _ _ _ _ _ _ (to_z-of_z w32 c.least_x.result (record { sfits = c.least_x.type_inv }) ∙ c.least_x.ensures.value) (to_z-of_z w32 c.least_x-2.result (record { sfits = c.least_x-2.type_inv }) ∙ c.least_x-2.ensures.value) (to_z-of_z w32 c.greatest_x.result (record { sfits = c.greatest_x.type_inv }) ∙ c.greatest_x.ensures) (to_z-of_z w32 c.greatest_x-2.result (record { sfits = c.greatest_x-2.type_inv }) ∙ c.greatest_x-2.ensures)
    (to_z-of_z w32 c.least_y.result (record { sfits = c.least_y.type_inv }) ∙ c.least_y.ensures.value) (to_z-of_z w32 c.least_y-2.result (record { sfits = c.least_y-2.type_inv }) ∙ c.least_y-2.ensures.value) (to_z-of_z w32 c.greatest_y.result (record { sfits = c.greatest_y.type_inv }) ∙ c.greatest_y.ensures) (to_z-of_z w32 c.greatest_y-2.result (record { sfits = c.greatest_y-2.type_inv }) ∙ c.greatest_y-2.ensures)
    (to_z-of_z w32 c.lesser.result (record { sfits = c.lesser.type_inv }) ∙ c.lesser.ensures.value) (to_z-of_z w32 c.greater.result (record { sfits = c.greater.type_inv }) ∙ c.greater.ensures.value) (to_z-of_z w32 c.lesser-2.result (record { sfits = c.lesser-2.type_inv }) ∙ c.lesser-2.ensures.value) (to_z-of_z w32 c.greater-2.result (record { sfits = c.greater-2.type_inv }) ∙ c.greater-2.ensures.value) c.bounded.ensures
