use Rattle.std.proofs.Common.{All}
use Rattle.executor.specs.ValueOrder.{IsKey}
use Rattle.executor.proofs.order_keys.keys_of.Given as goal

-- each is a key
abbrev pub invariant-loop-read : goal.invariant-loop-read
invariant-loop-read g l = All (IsKey l.table) l.keys.items
