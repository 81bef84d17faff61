use Rattle.std.proofs.Common.{◌≡◌, drop}
use Rattle.executor.specs.ValueOrder as spec
use Rattle.executor.proofs.value_order.values_order.Given as goal

-- the keys that are left decide
abbrev pub invariant-loop-key : goal.invariant-loop-key
invariant-loop-key g l = spec.values_order (drop l.key-index l.keys) l.table l.a l.b
    ≡ spec.values_order l.keys l.table l.a l.b
