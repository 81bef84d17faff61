use Rattle.std.proofs.Common.{ℕ, ◌<◌, get_or}
use Rattle.geometry_model.specs.Geometries.{Edge}
use Rattle.witnesses.specs.Heights.{IsHeight, Keeps, ClearsEdge}
use Rattle.witnesses.proofs.heights.past_edges.Given as goal

-- the height keeps what the first one did, and clears the edges before this one
abbrev pub invariant-loop-edge : goal.invariant-loop-edge
invariant-loop-edge l = record { height : IsHeight l.least; keeps : Keeps l.side l.p l.fn.nearest l.least; clears : (k : ℕ) (d : Edge) → k < l.edge-index → ClearsEdge l.side l.p l.least (get_or l.edges k d) }
