use Rattle.std.proofs.Common.{take}
use Rattle.std.specs.List.{All}
use Rattle.geometry_model.specs.Geometries.{edges}
use Rattle.matrix_laws.specs.Cells.{Covers}
use Rattle.noding.specs.Merging.{AreMerged}
use Rattle.de9im.specs.Raising.{Grows}
use Rattle.de9im.proofs.matrix_edges.raise_few_edges.Given as goal

-- the edges before this one are covered, and what is merged is of the second geometry's edges
abbrev pub invariant-loop-edge : goal.invariant-loop-edge
invariant-loop-edge l = record {
  grows : Grows l.first l.second l.initial.matrix l.matrix;
  covers : All (Covers l.first l.second l.matrix) (take l.edge-index l.edge-items);
  merged : AreMerged (edges l.second) l.merged;
}
