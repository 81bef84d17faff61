use Rattle.std.proofs.Common.{◌≡◌, ◌≤◌, ◌+◌, ◌-◌, ◌^◌, min, length, drop, List}
use Rattle.geometry_model.specs.Points.{Position}
use Rattle.noding.specs.NodeRanges.{overlapping_pairs}
use Rattle.noding.specs.Sweeps.{SweptTo}
use Rattle.noding.proofs.sweeps.sweep.Given as goal

-- the segments before this one are tried with all that follow, and the count is that of their pairs
abbrev pub invariant-loop-place : goal.invariant-loop-place
invariant-loop-place l = record {
  lengths : length l.breaks ≡ length l.order;
  swept : (ps : List Position) → SweptTo l.order ps 0 1 l.initial.breaks → SweptTo l.order ps l.place (l.place + 1) l.breaks;
  within : l.tests ≤ 2 ^ 64 - 1;
  counted : min (l.tests + overlapping_pairs (drop l.place l.order)) (2 ^ 64 - 1) ≡ min (overlapping_pairs l.order) (2 ^ 64 - 1);
}
