use Rattle.std.proofs.Common.{◌≡◌, ◌++◌, drop, map}
use Rattle.sfq_tables.specs.NamedColumns.{named_in_item}
use Rattle.sfq_tables.proofs.named_columns.in_items.Given as goal

abbrev pub invariant-loop-item : goal.invariant-loop-item
invariant-loop-item l = l.found.items ++ map named_in_item (drop l.item-index l.items) ≡ map named_in_item l.items
