-- The three numbers are those of the point.
use Rattle.std.proofs.Common.{◌∙◌, w64}
use Rattle.std.proofs.lemmas.Int.{to_z-of_z}
use mir.Syntax.{w128}
use Rattle.streams.proofs.PartLemmas.{front-same}
use Rattle.witnesses.proofs.TextLemmas.{same_triple}
use Rattle.witnesses.proofs.pieces.put_rational.Goals as goal

pub returns-clause-front : goal.returns-clause-front
returns-clause-front g c =
    front-same c.put_point.result _ _ _ _ (same_triple c.args.p.now _ _ _
    (to_z-of_z w128 _ (record { sfits = c.numerator_x.type_inv }) ∙ c.numerator_x.ensures.value)
    (to_z-of_z w128 _ (record { sfits = c.numerator_y.type_inv }) ∙ c.numerator_y.ensures.value)
    (to_z-of_z w128 _ (record { sfits = c.from-denominator.type_inv }) ∙ c.from-denominator.ensures ∙ to_z-of_z w64 _ (record { sfits = c.denominator.type_inv }) ∙ c.denominator.ensures.value))
    c.put_point.ensures.front
