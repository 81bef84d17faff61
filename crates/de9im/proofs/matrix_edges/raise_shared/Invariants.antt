use Rattle.std.proofs.Common.{take}
use Rattle.std.specs.List.{All}
use Rattle.geometry_model.specs.Locations.{locate}
use Rattle.geometry_model.specs.declared.point_sets.Dimension.TheVariants.{Zero}
use Rattle.matrix_laws.specs.Cells.{Shows}
use Rattle.de9im.specs.Raising.{Grows}
use Rattle.de9im.proofs.matrix_edges.raise_shared.Given as goal

-- the points before this one are shown
abbrev pub invariant-loop-p : goal.invariant-loop-p
invariant-loop-p l = record {
  grows : Grows l.first l.second l.initial.matrix l.matrix;
  shows : All (λ p. Shows l.matrix (locate l.first p) (locate l.second p) Zero) (take l.p-index l.shared);
}
