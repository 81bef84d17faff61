use Rattle.std.proofs.Common.{map, subst, IsPermutation}
use Rattle.std.proofs.lemmas.List.Sorted.{IsPermutation-map}
use Rattle.edge_boxes.specs.declared.reordering.Placed.{Placed}
use Rattle.edge_boxes.proofs.reordering.along_curve.Goals as goal

pub returns : goal.returns
returns c =
    let edge = λ (one : Placed). one.edge in
    let moved = IsPermutation-map edge c.in_ok-placed.placed.items c.sort_by_key.new.self.items
    c.sort_by_key.ensures.permutation in
    rw c.in_ok-found.ensures (rw c.as_slice.ensures.value
    (subst (λ es. IsPermutation es (map edge c.sort_by_key.new.self.items)) c.in_ok-placed.ensures moved))
