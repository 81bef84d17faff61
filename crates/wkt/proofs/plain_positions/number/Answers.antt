use Rattle.std.proofs.Common.{◌≡◌, ◌==◌, false, sym, subst, rules}
use Rattle.geometry_model.specs.TextReading.{begins_with}
use Rattle.wkt.specs.PlainText.{BeginsWithNumber, signed_size}
use Rattle.wkt.proofs.PlainNumbers.{begins_with_number, absent}
use Rattle.wkt.proofs.plain_positions.number.Goals as goal

pub returns : goal.returns
returns c =
    let no_point : begins_with (λ b. b == 46) c.in_ok-size.rest.now ≡ false = absent c.after.result _ _ c.if-is_some.ensures c.after.ensures in
    let found : BeginsWithNumber c.args.text.now (signed_size c.unsigned-minus.result.0 c.in_ok-size.size) c.in_ok-size.rest.now = begins_with_number c.args.text.now c.unsigned-minus.result.0 c.unsigned-minus.result.1.now c.in_ok-size.rest.now c.in_ok-size.size
    c.unsigned-minus.ensures c.in_ok-size.ensures c.if-rest-unsigned.false no_point in
    let moved : BeginsWithNumber c.args.text.now c.signed.result c.in_ok-size.rest.now = subst (λ x. BeginsWithNumber c.args.text.now x c.in_ok-size.rest.now) (sym c.signed.ensures) found in
    search rules
