use Rattle.std.specs.Prelude.{◌≡◌, map, take}
use Rattle.library_calls.specs.Rounding.{rounded}
use Rattle.library_calls.proofs.rounding.all_steps.Given as goal

abbrev pub invariant-loop-position : goal.invariant-loop-position
invariant-loop-position l = l.found.items ≡ map (rounded l.grid) (take l.position-index l.fn.positions)
