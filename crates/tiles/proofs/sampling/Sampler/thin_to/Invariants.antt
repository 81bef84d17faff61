use Rattle.std.proofs.Common.{◌≡◌, ◌⊎◌, ◌*◌, ◌^◌, ◌<◌, ◌≤◌, List}
use Rattle.geometry_model.specs.Points.{Position}
use Rattle.tiles.specs.Samples.{Samples}
use Rattle.tiles.proofs.sampling.Sampler.thin_to.Given as goal

-- the stride was doubled `turn` times, unless it can't be doubled any more
abbrev pub invariant-loop-turn : goal.invariant-loop-turn
invariant-loop-turn l = record {
  column : l.self.column ≡ l.fn.self.column;
  since : l.self.since ≡ l.fn.self.since;
  sample : (all : List Position) → Samples all l.fn.self → Samples all l.self;
  doubled : 1 ≤ l.fn.self.stride → 2 ^ l.turn ≤ l.self.stride;
  least : (l.self.stride ≡ l.fn.self.stride) ⊎ (l.self.stride < 2 * l.stride);
}
