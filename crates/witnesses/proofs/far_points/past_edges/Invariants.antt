use Rattle.std.proofs.Common.{ℕ, ◌<◌, get_or, pos, ◌≤ℤ◌}
use Rattle.geometry_model.specs.Geometries.{Edge}
use Rattle.geometry_model.specs.WellKnownText.{coordinate_limit}
use Rattle.witnesses.proofs.far_points.past_edges.Given as goal

-- the greatest of the number and the ends of the edges before this one
abbrev pub invariant-loop-edge : goal.invariant-loop-edge
invariant-loop-edge l = record { limit : l.greatest ≤ℤ pos coordinate_limit; from : l.fn.from ≤ℤ l.greatest; edges : (k : ℕ) (d : Edge) → k < l.edge-index → ((get_or l.edges k d).start.x ≤ℤ l.greatest) × ((get_or l.edges k d).end.x ≤ℤ l.greatest) }
