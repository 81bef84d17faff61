-- A field that isn't longer is its own beginning.
use Rattle.std.proofs.Common.{◌≤◌, arith, length, sym}
use Rattle.std.proofs.lemmas.List.{take_all}
use Rattle.record_reasons.proofs.shown_texts.front.Goals as goal

pub returns-then-field-le-SHOWN_BYTES : goal.returns-then-field-le-SHOWN_BYTES
returns-then-field-le-SHOWN_BYTES c =
    let within : length c.args.field.now ≤ 60 = omega (arith, c.if-field-le-SHOWN_BYTES.true) in
    sym (take_all 60 c.args.field.now within)
