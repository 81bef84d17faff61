-- A key's fault by its keys, any other by its header and its record.
use Rattle.std.proofs.Common.{◌≡◌, ℕ, List, Option, Some, Result, Ok, IfOk, IfSome, refl, subst, sym}
use Rattle.csv.specs.Records.{fields_of}
use Rattle.record_reasons.specs.Reasons.{Finds, HasReason, IsReasonOf}
use Rattle.record_reasons.specs.declared.reason.Reason.{Reason}
use Rattle.table_model.specs.GeometryColumns.{ColumnShape}
use Rattle.table_model.specs.Loading.{Record}
use Rattle.table_model.specs.declared.definitions.TableDef.{TableDef}
use Rattle.table_model.specs.declared.faults.LoadFault.{LoadFault}
use Rattle.table_model.specs.declared.faults.LoadFault.TheVariants as fault
use Rattle.engine.proofs.commands.found_reason.Goals as goal

-- the reason of a fault that isn't one of a key
of-record : {E : Type 0} (r : Result (Option Reason) E) (known : Option (List ℕ)) (table : TableDef ColumnShape)
    (header last : Record)
    (f : LoadFault) → ((number : ℕ) → f ≡ fault.DoubleKey number → ⊥) → IfOk r (Finds (HasReason table header last f))
    → IfOk r (λ found. IfSome found (IsReasonOf known table header last f))
of-record r known table header last (fault.DoubleKey number) other finds = absurd (other number refl)
of-record (Ok (Some reason)) known table header last _ other finds = finds
of-record _ known table header last _ other finds = tt

pub returns-in_default : goal.returns-in_default
returns-in_default c =
    of-record c.reason_of.result (Some c.args.text.now) c.args.table.now (fields_of c.args.last.now.header)
    (fields_of c.args.last.now.record) c.args.fault c.in_default.not-DoubleKey c.reason_of.ensures.finds

pub returns-in-DoubleKey : goal.returns-in-DoubleKey
returns-in-DoubleKey c =
    let known = Some c.args.text.now in
    subst
    (λ f. IfOk c.repeated_key_reason.result (λ found. IfSome found
    (IsReasonOf known c.args.table.now (fields_of c.args.last.now.header)
    (fields_of c.args.last.now.record) f))) (sym c.in-DoubleKey.is)
    c.repeated_key_reason.ensures
