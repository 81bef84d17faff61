use Rattle.std.specs.Prelude.{◌≡◌, drop}
use Rattle.library_calls.specs.Rounding.{first_infinite}
use Rattle.library_calls.proofs.rounding.first_infinite.Given as goal

abbrev pub invariant-loop-at : goal.invariant-loop-at
invariant-loop-at l = first_infinite 0 l.fn.positions ≡ first_infinite l.at (drop l.at l.fn.positions)
