use Rattle.std.proofs.Common.{◌∙◌, sym}
use Rattle.wkt.proofs.PlainNumbers.{text_further}
use Rattle.wkt.proofs.plain_positions.digits.Goals as goal

pub loop-left-preserved : goal.loop-left-preserved
loop-left-preserved c =
    let further = text_further c.loop-left.value c.from.result c.loop-left.left.now c.in-len1-up.len_at_least (sym c.if-not-is_ascii_digit.ensures.value) (c.from.ensures ∙ c.saturating_sub.ensures) in
    record {
      within = c.if-value-gt-GREATEST_MAGNITUDE.false;
      value = sym further.0 ∙ c.loop-left.invariant.value;
      rest = sym further.1 ∙ c.loop-left.invariant.rest;
    }
