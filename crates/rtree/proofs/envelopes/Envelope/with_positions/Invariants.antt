use Rattle.std.proofs.Common.{◌≡◌, ◌≤◌, ◌++◌, List, drop, length}
use Rattle.geometry_model.specs.Envelopes.{envelope_of_positions}
use Rattle.geometry_model.specs.Points.{Position}
use Rattle.rtree.proofs.envelopes.Envelope.with_positions.Given as goal

-- the envelope of the positions from this one on, and of what follows
abbrev pub invariant-loop-left : goal.invariant-loop-left
invariant-loop-left l = record {
  within : l.left ≤ length l.positions;
  so_far : (later : List Position) → l.fn.following ≡ envelope_of_positions later → l.all ≡ envelope_of_positions (drop l.left l.positions ++ later);
}

abbrev pub decreases-loop-left : goal.decreases-loop-left
decreases-loop-left l = l.left
