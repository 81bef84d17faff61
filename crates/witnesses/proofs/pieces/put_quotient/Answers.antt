-- The denominator isn't 1, so both numbers are written.
use Rattle.std.proofs.Common.{◌∙◌, ap}
use Rattle.std.specs.Fmt.{signed_decimal}
use Rattle.std.proofs.lemmas.Int.{to_z-of_z}
use mir.Syntax.{w128}
use mir.Val.{of_z}
use Rattle.streams.proofs.PartLemmas.{front-same}
use Rattle.witnesses.proofs.TextLemmas.{over_quotient}
use Rattle.witnesses.proofs.pieces.put_quotient.Goals as goal

pub returns-clause-front : goal.returns-clause-front
returns-clause-front g c =
    front-same c.put_over.result _ _ _ _ (over_quotient c.args.numerator c.args.denominator _ _
    (c.format-first.ensures.text ∙ ap signed_decimal (to_z-of_z w128 c.args.numerator c.ranges.numerator))
    (c.format.ensures.text ∙ ap signed_decimal (to_z-of_z w128 c.args.denominator c.ranges.denominator))
    (λ h. c.if-denominator-eq1.false (ap (of_z w128) h))) c.put_over.ensures.front
