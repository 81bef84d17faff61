use Rattle.std.proofs.Common.{◌≡◌, ◌≤◌, ◌+◌, ◌-◌, ◌^◌, min, length, drop, List}
use Rattle.geometry_model.specs.Points.{Position}
use Rattle.noding.specs.NodeRanges.{overlaps_with_first, overlaps_of_first}
use Rattle.noding.specs.Sweeps.{SweptTo}
use Rattle.noding.proofs.sweeps.try_following.Given as goal

-- the segment is tried with those before this one, and the count is that of these pairs
abbrev pub invariant-loop-next : goal.invariant-loop-next
invariant-loop-next l = record {
  lengths : length l.breaks ≡ length l.order;
  swept : (ps : List Position) → SweptTo l.order ps l.place (l.place + 1) l.initial.breaks → SweptTo l.order ps l.place l.next l.breaks;
  within : l.tests ≤ 2 ^ 64 - 1;
  counted : min (l.tests + overlaps_with_first (drop l.place l.order) (drop l.next l.order)) (2 ^ 64 - 1) ≡ min (l.initial.tests + overlaps_of_first (drop l.place l.order)) (2 ^ 64 - 1);
}
