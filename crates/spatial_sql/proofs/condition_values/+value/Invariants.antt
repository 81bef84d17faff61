use Rattle.std.proofs.Common.{◌≡◌, ◌≤◌, ◌+◌, drop, fold, map, sum}
use Rattle.table_model.specs.Arguments.{denoted}
use Rattle.table_model.specs.RunOutcomes.{ByEveryMatrix, kept_count}
use Rattle.table_model.specs.Truths as spec
use Rattle.table_model.specs.Work.{computed}
use Rattle.spatial_sql.specs.Evaluation.{joined_by, of_none}
use Rattle.spatial_sql.proofs.condition_values.+value.Given as goal

abbrev pub invariant-joined_parts-loop-part : goal.invariant-joined_parts-loop-part
invariant-joined_parts-loop-part l = record {
  truth : ByEveryMatrix (λ matrix. fold (joined_by l.junction) l.truth (map (spec.truth matrix denoted l.rows) (drop l.part-index l.parts)) ≡ fold (joined_by l.junction) (of_none l.junction) (map (spec.truth matrix denoted l.rows) l.parts));
  counted : kept_count (l.work + sum (map (computed denoted l.rows) (drop l.part-index l.parts))) ≡ kept_count (l.fn.work + sum (map (computed denoted l.rows) l.parts));
  kept : kept_count l.fn.work ≤ kept_count l.work;
}
