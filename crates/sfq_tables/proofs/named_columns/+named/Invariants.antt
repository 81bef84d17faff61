use Rattle.std.proofs.Common.{◌≡◌, ◌++◌, drop}
use Rattle.std.specs.List.{flat_map}
use Rattle.sfq_tables.specs.NamedColumns.{named_in_condition}
use Rattle.sfq_tables.proofs.named_columns.+named.Given as goal

abbrev pub invariant-push_conditions-loop-condition : goal.invariant-push_conditions-loop-condition
invariant-push_conditions-loop-condition l =
    l.found.items ++ flat_map named_in_condition (drop l.condition-index l.conditions)
    ≡ l.initial.found.items ++ flat_map named_in_condition l.conditions
