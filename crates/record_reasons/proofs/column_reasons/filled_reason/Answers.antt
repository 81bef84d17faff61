-- Any other fault is one of a geometry.
use Rattle.record_reasons.proofs.ReasonLemmas.{of-geometry}
use Rattle.record_reasons.proofs.column_reasons.filled_reason.Goals as goal

pub returns-in_default : goal.returns-in_default
returns-in_default c = record {
  finds = of-geometry c.geometry_reason.result c.args.column.now c.args.field.now c.args.fault c.in_default.not-NotUtf8 c.in_default.not-BadInteger
      c.geometry_reason.ensures.finds;
  fails = c.geometry_reason.ensures.fails;
}
