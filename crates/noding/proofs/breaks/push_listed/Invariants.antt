use Rattle.std.proofs.Common.{◌≡◌, ◌++◌, map, filter, take}
use Rattle.geometry_model.specs.Points.{point_at}
use Rattle.geometry_model.specs.Sides.{on}
use Rattle.noding.proofs.breaks.push_listed.Given as goal

-- the positions before this one that are on the segment
abbrev pub invariant-loop-place : goal.invariant-loop-place
invariant-loop-place l = l.breaks ≡ l.initial.breaks ++ filter (on l.segment) (map point_at (take l.place l.listed))
