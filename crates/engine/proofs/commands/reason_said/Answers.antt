-- The line of the reason that was found, or none.
use Rattle.std.proofs.Common.{IfSome, Some, inr, subst}
use Rattle.csv.specs.Records.{fields_of}
use Rattle.record_reasons.specs.Reasons.{IsReasonOf}
use Rattle.engine.proofs.commands.reason_said.Goals as goal

pub returns : goal.returns
returns c =
    let last = c.args.last.now in
    inr (
      c.in-Some.reason,
      subst
          (λ found. IfSome found (IsReasonOf (Some c.args.text.now) c.args.table.now (fields_of last.header)
          (fields_of last.record) c.args.fault))
          c.in-Some.is c.in-Ok.ensures,
      c.in-Ok-line_said.ensures,
    )
