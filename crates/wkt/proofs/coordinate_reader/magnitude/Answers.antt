use Rattle.std.proofs.Common.{◌+◌, ◌*◌, ◌∙◌, sym, drop, suc, add-one, arith}
use Rattle.wkt.proofs.Digits.{grows, next_digit, next_value}
use Rattle.wkt.proofs.coordinate_reader.magnitude.Goals as goal

pub returns-then-value-gt-GREATEST_MAGNITUDE : goal.returns-then-value-gt-GREATEST_MAGNITUDE
returns-then-value-gt-GREATEST_MAGNITUDE c =
    let same = next_value c.loop-byte.value c.from.result c.loop-byte.byte-index c.args.digits.now c.loop-byte-test.true
    c.loop-byte.invariant.digits (c.from.ensures ∙ c.saturating_sub.ensures) in
    rw (sym c.loop-byte.invariant.same ∙ same)
    (omega (arith, grows (c.loop-byte.value * 10 + c.from.result) (drop (suc c.loop-byte.byte-index) c.args.digits.now)))

pub loop-byte-preserved : goal.loop-byte-preserved
loop-byte-preserved c =
    let same = next_value c.loop-byte.value c.from.result c.loop-byte.byte-index c.args.digits.now c.loop-byte-test.true
    c.loop-byte.invariant.digits (c.from.ensures ∙ c.saturating_sub.ensures) in
    record {
      within = omega arith;
      digits = rw add-one (next_digit c.args.digits.now c.loop-byte.byte-index c.loop-byte-test.true c.loop-byte.invariant.digits).1;
      same = rw add-one (sym same ∙ c.loop-byte.invariant.same);
    }
