use Rattle.std.proofs.Common.{◌≡◌, ◌≤◌, ◌++◌, length, drop, reverse}
use Rattle.edge_boxes.specs.BoxLists.{covered}
use Rattle.edge_boxes.specs.Sharings.{places_asked}
use Rattle.edge_boxes.proofs.sharing_edges.push_asked.Given as goal

-- the edges from where the boxes before the place end were asked
abbrev pub invariant-loop-found : goal.invariant-loop-found
invariant-loop-found l = record {
  within : l.place ≤ length l.boxes;
  found : l.found.items ≡ l.fn.found.items ++ reverse (places_asked l.asked (covered l.boxes l.place) (drop (covered l.boxes l.place) l.edges));
}

abbrev pub decreases-loop-found : goal.decreases-loop-found
decreases-loop-found l = l.place
