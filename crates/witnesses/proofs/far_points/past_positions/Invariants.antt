use Rattle.std.proofs.Common.{ℕ, ◌<◌, get_or, pos, ◌≤ℤ◌}
use Rattle.geometry_model.specs.Points.{Position}
use Rattle.geometry_model.specs.WellKnownText.{coordinate_limit}
use Rattle.witnesses.proofs.far_points.past_positions.Given as goal

-- the greatest of the number and the positions before this one
abbrev pub invariant-loop-position : goal.invariant-loop-position
invariant-loop-position l = record { limit : l.greatest ≤ℤ pos coordinate_limit; from : l.fn.from ≤ℤ l.greatest; positions : (k : ℕ) (d : Position) → k < l.position-index → (get_or l.positions k d).x ≤ℤ l.greatest }
