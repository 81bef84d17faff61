use Rattle.std.proofs.Common.{◌≡◌, ℕ, ◌*◌, ◌<◌, ◌≤◌, get_or, length}
use Rattle.geometry_model.specs.Points.{Position}
use Rattle.tiles.proofs.sampling.Sampler.thin.Given as goal

-- the first `place` corners are those at even places, and the others are as before
abbrev pub invariant-loop-place : goal.invariant-loop-place
invariant-loop-place l = record {
  column : l.self.column ≡ l.fn.self.column;
  since : l.self.since ≡ l.fn.self.since;
  stride : l.self.stride ≡ l.fn.self.stride;
  size : length l.self.corners.items ≡ length l.fn.self.corners.items;
  moved : (i : ℕ) (d : Position) → i < l.place → get_or l.self.corners.items i d ≡ get_or l.fn.self.corners.items (i * 2) d;
  left : (i : ℕ) (d : Position) → l.place ≤ i → get_or l.self.corners.items i d ≡ get_or l.fn.self.corners.items i d;
}
