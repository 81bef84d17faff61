use Rattle.std.proofs.Common.{◌∙◌}
use Rattle.std.specs.Int.{w32}
use Rattle.std.proofs.lemmas.Int.{to_z-of_z}
use Rattle.rtree.proofs.EnvelopeLemmas.{as_overlap}
use Rattle.rtree.proofs.envelopes.overlap.Goals as goal

pub returns : goal.returns
returns c = as_overlap c.args.one c.args.other _ _ _ _ _ _ _ _ c.both.result c.both-2.result c.both-3.result (to_z-of_z w32 c.least_x.result (record { sfits = c.least_x.type_inv }) ∙ c.least_x.ensures.value) (to_z-of_z w32 c.greatest_x.result (record { sfits = c.greatest_x.type_inv }) ∙ c.greatest_x.ensures) (to_z-of_z w32 c.least_x-2.result (record { sfits = c.least_x-2.type_inv }) ∙ c.least_x-2.ensures.value) (to_z-of_z w32 c.greatest_x-2.result (record { sfits = c.greatest_x-2.type_inv }) ∙ c.greatest_x-2.ensures)
    (to_z-of_z w32 c.least_y.result (record { sfits = c.least_y.type_inv }) ∙ c.least_y.ensures.value) (to_z-of_z w32 c.greatest_y.result (record { sfits = c.greatest_y.type_inv }) ∙ c.greatest_y.ensures) (to_z-of_z w32 c.least_y-2.result (record { sfits = c.least_y-2.type_inv }) ∙ c.least_y-2.ensures.value) (to_z-of_z w32 c.greatest_y-2.result (record { sfits = c.greatest_y-2.type_inv }) ∙ c.greatest_y-2.ensures)
    c.both.ensures c.both-2.ensures c.both-3.ensures
