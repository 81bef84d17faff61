-- The lesser end, and the points before this one that don't end the edge.
use Rattle.std.proofs.Common.{◌≡◌, not, ◌∷◌, filter, take}
use Rattle.std.specs.Ordering.{ord_min}
use Rattle.geometry_model.specs.Points.{point_at}
use Rattle.geometry_model.specs.CutPoints.{is_end}
use Rattle.fraction.specs.Orders.{position_order}
use Rattle.noding.proofs.stops.set_stops.Given as goal

abbrev pub invariant-loop-point : goal.invariant-loop-point
invariant-loop-point l = l.stops.items ≡ point_at (ord_min position_order l.edge.start l.edge.end) ∷ filter (λ p. not (is_end l.edge p)) (take l.point-index l.shared)
