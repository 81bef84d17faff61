use Rattle.std.proofs.Common.{◌≡◌, ◌++◌, drop}
use Rattle.std.specs.List.{flat_map}
use Rattle.sfq_tables.specs.QueryForms.{operands_in}
use Rattle.sfq_tables.proofs.operands.+operands.Given as goal

abbrev pub invariant-push_conditions-loop-condition : goal.invariant-push_conditions-loop-condition
invariant-push_conditions-loop-condition l =
    l.found.items ++ flat_map (operands_in l.conjunct) (drop l.condition-index l.conditions)
    ≡ l.initial.found.items ++ flat_map (operands_in l.conjunct) l.conditions
