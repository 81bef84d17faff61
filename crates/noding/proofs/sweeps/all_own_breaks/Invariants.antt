use Rattle.std.proofs.Common.{◌≡◌, map, take, All}
use Rattle.noding.specs.Sweeps.{own_breaks, IsWide}
use Rattle.noding.proofs.sweeps.all_own_breaks.Given as goal

-- the segments before this one
abbrev pub invariant-loop-segment : goal.invariant-loop-segment
invariant-loop-segment l = record {
  values : l.breaks.items ≡ map (own_breaks l.listed) (take l.segment-index l.segments);
  wide : All IsWide (take l.segment-index l.segments);
}
