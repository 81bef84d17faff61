use Rattle.std.proofs.Common.{◌≡◌, take}
use Rattle.table_model.specs.Plans as spec
use Rattle.planner.proofs.chosen_plans.row_counts.Given as goal

abbrev pub invariant-loop-reference : goal.invariant-loop-reference
invariant-loop-reference g l = l.counts.items ≡ spec.row_counts l.database.tables (take l.reference-index l.references)
