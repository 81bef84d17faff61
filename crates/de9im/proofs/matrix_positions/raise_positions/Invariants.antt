use Rattle.std.proofs.Common.{take}
use Rattle.std.specs.List.{All}
use Rattle.geometry_model.specs.Geometries.{Geometry}
use Rattle.matrix_laws.specs.Cells.{CoversPosition}
use Rattle.de9im.specs.Raising.{Grows, LiesIn}
use Rattle.de9im.proofs.matrix_positions.raise_positions.Given as goal

-- the positions before this one are shown
abbrev pub invariant-loop-position : goal.invariant-loop-position
invariant-loop-position l = record {
  grows : (a : Geometry) → All (LiesIn l.part a) l.positions → Grows a l.second l.initial.matrix l.matrix;
  shows : (a : Geometry) → All (LiesIn l.part a) l.positions → All (CoversPosition a l.second l.matrix) (take l.position-index l.positions);
}
