use Rattle.std.proofs.Common.{◌≡◌, ◌++◌, take}
use Rattle.noding.proofs.nodings.push_points.Given as goal

-- the points before this one
abbrev pub invariant-loop-point : goal.invariant-loop-point
invariant-loop-point l = l.nodes.items ≡ l.initial.nodes.items ++ take l.point-index l.breaks
