use Rattle.std.proofs.Common.{◌≡◌, length}
use Rattle.executor.specs.ValueOrder.{HoldTexts}
use Rattle.executor.proofs.order_keys.texts_of.Given as goal

-- there is a text for each row that was looked at
abbrev pub invariant-loop-place : goal.invariant-loop-place
invariant-loop-place g l = (length l.texts.items ≡ l.place) × HoldTexts l.column l.table l.texts.items
