use Rattle.std.proofs.Common.{◌≡◌, map, take}
use Rattle.edge_boxes.proofs.reordering.with_places.Given as goal

-- the edges before this place are there
abbrev pub invariant-loop-at : goal.invariant-loop-at
invariant-loop-at l = map (λ one. one.edge) l.placed.items ≡ take l.at l.edges
