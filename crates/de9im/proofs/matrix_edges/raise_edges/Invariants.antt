use Rattle.std.proofs.Common.{◌≤◌, length, drop}
use Rattle.std.specs.List.{All}
use Rattle.geometry_model.specs.Geometries.{edges}
use Rattle.matrix_laws.specs.Cells.{Covers}
use Rattle.noding.specs.Merging.{AreMerged}
use Rattle.de9im.specs.Raising.{Grows}
use Rattle.de9im.proofs.matrix_edges.raise_edges.Given as goal

-- the edges from here on are covered, and what is merged is of the second geometry's edges
abbrev pub invariant-loop-left : goal.invariant-loop-left
invariant-loop-left l = record {
  within : l.left ≤ length (edges l.first);
  grows : Grows l.first l.second l.initial.matrix l.matrix;
  covers : All (Covers l.first l.second l.matrix) (drop l.left (edges l.first));
  merged : AreMerged (edges l.second) l.merged;
}

abbrev pub decreases-loop-left : goal.decreases-loop-left
decreases-loop-left l = l.left
