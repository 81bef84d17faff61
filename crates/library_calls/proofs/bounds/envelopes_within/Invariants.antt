use Rattle.std.specs.Prelude.{◌≡◌, drop, map, take}
use Rattle.library_calls.specs.Indexes.{bounded, first_unbounded}
use Rattle.library_calls.proofs.bounds.envelopes_within.Given as goal

abbrev pub invariant-loop-at : goal.invariant-loop-at
invariant-loop-at l = record {
  items : l.found.items ≡ map bounded (take l.at l.fn.bounds);
  passed : first_unbounded 0 l.fn.bounds ≡ first_unbounded l.at (drop l.at l.fn.bounds);
}
