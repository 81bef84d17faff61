-- Each fault by its own kind of reason; any other is of a column.
use Rattle.std.proofs.Common.{subst, sym}
use Rattle.csv.specs.Records.{fields_of}
use Rattle.record_reasons.specs.Reasons.{Finds, HasReason}
use Rattle.record_reasons.proofs.ReasonLemmas.{of-column}
use Rattle.record_reasons.proofs.reason.reason_of.Goals as goal

pub returns-in_default-clause-finds : goal.returns-in_default-clause-finds
returns-in_default-clause-finds c =
    of-column c.reason_in_columns.result c.args.table.now (fields_of c.args.header.now) (fields_of c.args.record.now) c.args.fault
    c.in_default.not-MissingColumn c.in_default.not-DoubleHeader c.in_default.not-UnequalRecord c.in_default.not-NullNotAllowed c.reason_in_columns.ensures.finds

pub returns-in-MissingColumn-clause-finds : goal.returns-in-MissingColumn-clause-finds
returns-in-MissingColumn-clause-finds c =
    subst (λ f. Finds (HasReason c.args.table.now (fields_of c.args.header.now) (fields_of c.args.record.now) f) c.missing.result) (sym c.in-MissingColumn.is)
    c.missing.ensures

pub returns-in-DoubleHeader-clause-finds : goal.returns-in-DoubleHeader-clause-finds
returns-in-DoubleHeader-clause-finds c =
    subst (λ f. Finds (HasReason c.args.table.now (fields_of c.args.header.now) (fields_of c.args.record.now) f) c.repeated.result) (sym c.in-DoubleHeader.is)
    c.repeated.ensures

pub returns-in-NullNotAllowed-clause-finds : goal.returns-in-NullNotAllowed-clause-finds
returns-in-NullNotAllowed-clause-finds c =
    subst (λ f. Finds (HasReason c.args.table.now (fields_of c.args.header.now) (fields_of c.args.record.now) f) c.null_field.result)
    (sym c.in-NullNotAllowed.is) c.null_field.ensures
