use Rattle.std.proofs.Common.{◌≤◌, length}
use Rattle.std.specs.Prelude.{IfSome, slice_range}
use Rattle.std.specs.List.{All}
use Rattle.geometry_model.specs.Geometries.{edges}
use Rattle.matrix_laws.specs.Cells.{Covers}
use Rattle.de9im.specs.Raising.{Grows, LiesOff}
use Rattle.de9im.proofs.apart.raise_run_apart.Given as goal

-- the edges from here to the end are covered, and a position is known at most where it lies so
abbrev pub invariant-loop-left : goal.invariant-loop-left
invariant-loop-left l = record {
  least : l.from ≤ l.left;
  before : l.left ≤ l.end;
  within : l.left ≤ length (edges l.first);
  grows : Grows l.first l.second l.initial.matrix l.matrix;
  covers : All (Covers l.first l.second l.matrix) (slice_range (edges l.first) l.left l.end);
  known : IfSome l.known (λ k. LiesOff l.second k.part k.at);
}

abbrev pub decreases-loop-left : goal.decreases-loop-left
decreases-loop-left l = l.left
