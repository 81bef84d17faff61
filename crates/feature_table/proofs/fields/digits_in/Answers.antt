use Rattle.std.proofs.Common.{◌∙◌, Some, ap, arith, sym}
use Rattle.std.proofs.lemmas.Int.{to_z_pos}
use Rattle.std.proofs.lemmas.Int.Digits.{digits_value_more}
use Rattle.std.proofs.lemmas.List.{take_all}
use Rattle.std.specs.Int.{w64}
use Rattle.feature_table.proofs.FieldLemmas.{digits-more, digits-number}
use Rattle.feature_table.proofs.fields.digits_in.Goals as goal

pub loop-byte-preserved : goal.loop-byte-preserved
loop-byte-preserved c =
    let inv = c.loop-byte.invariant in
    let more = digits_value_more 10 c.args.text.now c.loop-byte.byte-index c.loop-byte-test.true in
    record {
      digits = digits-more c.args.text.now c.loop-byte.byte-index c.loop-byte-test.true inv.digits c.in_ok-digit.ensures.digit;
      value = omega (arith, more, inv.value, c.in_ok-digit.ensures.value);
      fits = omega (arith, c.in_ok-digit.ensures.below);
    }

pub returns : goal.returns
returns c =
    let inv = c.loop-byte.invariant in
    let all = take_all c.loop-byte.byte-index c.args.text.now c.loop-byte-test.false in
    digits-number c.args.text.now c.loop-byte.number (sym c.is_empty.ensures ∙ c.if-is_empty.false) (rw all at inv.digits) (rw all at inv.value) inv.fits
    ∙ ap Some (sym (to_z_pos w64 c.loop-byte.number inv.fits))
