use Rattle.std.proofs.Common.{take}
use Rattle.std.specs.List.{All}
use Rattle.geometry_model.specs.Pieces.{stretches}
use Rattle.de9im.specs.Raising.{Grows, ShowsGapIn}
use Rattle.de9im.proofs.gap_cells.raise_gaps.Given as goal

-- the gaps up to the stop before this one are shown
abbrev pub invariant-loop-place : goal.invariant-loop-place
invariant-loop-place l = record {
  grows : Grows l.first l.second l.initial.matrix l.matrix;
  shows : All (λ c. ShowsGapIn l.pass l.first l.second l.matrix l.edge c.lesser c.greater) (stretches (take l.place l.stops));
}
