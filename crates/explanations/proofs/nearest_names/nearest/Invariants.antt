-- The nearest of the names so far, and how far it is away.
use Rattle.std.proofs.Common.{◌≡◌, ◌⊎◌, ◌≤◌, ◌<◌, ℕ, List, slice_get, Some}
use Rattle.explanations.specs.Names.{distance}
use Rattle.explanations.proofs.nearest_names.nearest.Given as goal
use denote.Ref.{Bor}

abbrev pub invariant-loop-place : goal.invariant-loop-place
invariant-loop-place l = record {
  best : (l.least ≡ 18446744073709551615)
      ⊎ ((name : Bor (List ℕ)) × (slice_get l.names l.best ≡ Some name) × (l.least ≡ distance l.word name.now)
      × ((k : ℕ) (other : Bor (List ℕ)) → k < l.best → slice_get l.names k ≡ Some other
      → l.least < distance l.word other.now));
  least : (k : ℕ) (other : Bor (List ℕ)) → k < l.place → slice_get l.names k ≡ Some other → l.least ≤ distance l.word other.now;
}
