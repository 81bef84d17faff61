use Rattle.std.proofs.Common.{◌≡◌, ◌⊎◌, ◌≤◌, ◌-◌, length}
use Rattle.edge_boxes.specs.BoxLists.{AreBoxes}
use Rattle.edge_boxes.specs.Builds.{covered_by_all}
use Rattle.edge_boxes.proofs.building.push_boxes.Given as goal

-- the boxes are those of the edges up to the next leaf's first one
abbrev pub invariant-loop-first : goal.invariant-loop-first
invariant-loop-first l = record {
  boxes : AreBoxes l.boxes.items l.edges;
  first : (covered_by_all l.boxes.items ≡ l.first) ⊎ (length l.edges ≡ l.first);
  within : l.first ≤ length l.edges;
  leaves : l.leaves ≤ l.first;
  chains : l.chains ≤ l.first;
}

abbrev pub decreases-loop-first : goal.decreases-loop-first
decreases-loop-first l = length l.edges - l.first
