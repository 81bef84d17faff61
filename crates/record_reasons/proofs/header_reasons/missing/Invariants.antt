-- No column before this one has a reason.
use Rattle.std.proofs.Common.{◌≡◌, ◌<◌, ℕ, Some}
use Rattle.std.specs.Prelude.{slice_get}
use Rattle.csv.specs.Records.{fields_of}
use Rattle.record_reasons.specs.Reasons.{IsMissingName}
use Rattle.record_reasons.specs.declared.reason.Reason.{Reason}
use Rattle.table_model.specs.GeometryColumns.{ColumnShape}
use Rattle.table_model.specs.declared.definitions.ColumnDef.{ColumnDef}
use Rattle.record_reasons.proofs.header_reasons.missing.Given as goal

abbrev pub invariant-loop-column : goal.invariant-loop-column
invariant-loop-column l =
    (k : ℕ) (c : ColumnDef ColumnShape) → k < l.column-index → slice_get l.table.columns k ≡ Some c
    → (reason : Reason) × IsMissingName (fields_of l.header) c reason → ⊥
