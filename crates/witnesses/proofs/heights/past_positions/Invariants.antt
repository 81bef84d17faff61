use Rattle.std.proofs.Common.{ℕ, ◌<◌, get_or}
use Rattle.geometry_model.specs.Points.{Position}
use Rattle.witnesses.specs.Heights.{IsHeight, Keeps, ClearsPosition}
use Rattle.witnesses.proofs.heights.past_positions.Given as goal

-- the height keeps what the first one did, and clears the positions before this one
abbrev pub invariant-loop-position : goal.invariant-loop-position
invariant-loop-position l = record { height : IsHeight l.least; keeps : Keeps l.side l.p l.fn.nearest l.least; clears : (k : ℕ) (d : Position) → k < l.position-index → ClearsPosition l.side l.p l.least (get_or l.positions k d) }
