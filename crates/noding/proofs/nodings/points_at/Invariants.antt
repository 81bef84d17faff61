use Rattle.std.proofs.Common.{◌≡◌, map, take}
use Rattle.geometry_model.specs.Points.{point_at}
use Rattle.noding.proofs.nodings.points_at.Given as goal

-- the positions before this one
abbrev pub invariant-loop-position : goal.invariant-loop-position
invariant-loop-position l = l.points.items ≡ map point_at (take l.position-index l.listed)
