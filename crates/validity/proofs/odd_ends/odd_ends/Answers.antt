use Rattle.std.proofs.Common.{ap, ◌∙◌, flat_map}
use Rattle.geometry_model.specs.Locations.{ends}
use Rattle.validity.proofs.OddEndFacts.{odd_ends_found}
use Rattle.validity.proofs.odd_ends.odd_ends.Goals as goal

pub returns : goal.returns
returns c = odd_ends_found (λ v. v.items) c.odd_ones.result _ c.in_ok-ends.ends.items c.sort_unstable.new.self.items c.as_slice.result.now (c.in_ok-ends.ensures ∙ ap (flat_map ends) c.ended_lines.ensures)
    c.sort_unstable.ensures.permutation c.as_slice.ensures.value c.odd_ones.ensures.ascend c.odd_ones.ensures.parity
