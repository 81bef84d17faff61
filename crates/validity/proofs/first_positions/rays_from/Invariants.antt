-- The positions before this one have theirs.
use Rattle.std.proofs.Common.{◌≡◌, map, take}
use Rattle.validity.specs.Rays.{ray}
use Rattle.validity.proofs.first_positions.rays_from.Given as goal

abbrev pub invariant-loop-first : goal.invariant-loop-first
invariant-loop-first l = l.envelopes.items ≡ map (ray l.way) (take l.first-index l.positions)
