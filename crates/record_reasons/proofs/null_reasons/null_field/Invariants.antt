-- No column before this one has a reason.
use Rattle.std.proofs.Common.{◌≡◌, ◌<◌, ℕ, Some}
use Rattle.std.specs.Prelude.{slice_get}
use Rattle.csv.specs.Records.{fields_of}
use Rattle.record_reasons.specs.Reasons.{IsNullIn}
use Rattle.record_reasons.specs.declared.reason.Reason.{Reason}
use Rattle.table_model.specs.GeometryColumns.{ColumnShape}
use Rattle.table_model.specs.Loading.{field_under, is_required}
use Rattle.table_model.specs.declared.definitions.ColumnDef.{ColumnDef}
use Rattle.record_reasons.proofs.null_reasons.null_field.Given as goal

abbrev pub invariant-loop-place : goal.invariant-loop-place
invariant-loop-place l =
    (k : ℕ) (c : ColumnDef ColumnShape) → k < l.place → slice_get l.table.columns k ≡ Some c
    → (reason : Reason) × IsNullIn (is_required l.table (k, c)) c (field_under (fields_of l.header) (fields_of l.«record») c.name) reason → ⊥
