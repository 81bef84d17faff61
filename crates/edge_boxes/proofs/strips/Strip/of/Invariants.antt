use Rattle.std.proofs.Common.{◌<ℤ◌, pos, take}
use Rattle.std.specs.List.{AllByRecursion}
use Rattle.edge_boxes.specs.Strips.{LiesInStrip}
use Rattle.edge_boxes.proofs.strips.Strip.of.Given as goal

-- the strip goes to the right, and the edges before this one lie in it
abbrev pub invariant-loop-edge : goal.invariant-loop-edge
invariant-loop-edge l = record {
  rightward : pos 0 <ℤ l.strip.direction.dx;
  lies : AllByRecursion (LiesInStrip l.strip) (take l.edge-index l.edges);
}
