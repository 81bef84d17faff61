use Rattle.std.specs.Prelude.{◌≡◌, drop}
use Rattle.library_calls.specs.Written.{use_up}
use Rattle.library_calls.proofs.sizes.use_up.Given as goal

abbrev pub invariant-loop-size : goal.invariant-loop-size
invariant-loop-size l = use_up l.fn.sizes l.fn.count ≡ use_up (drop l.size-index l.sizes) l.left
