use Rattle.std.proofs.Common.{ap, ◌∙◌}
use mir.Syntax.{w64, w128}
use Rattle.geometry_model.specs.Sides.{side}
use Rattle.orient.proofs.Bounds.{read}
use Rattle.orient.proofs.sides.signed_side.Goals as goal

pub returns-in-Some : goal.returns-in-Some
returns-in-Some c =
    read w128 c.from.result _ (record { sfits = c.from.type_inv }) (c.from.ensures ∙ read w64 c.side_of_position.result _ (record { sfits = c.side_of_position.type_inv }) c.side_of_position.ensures.value)
    ∙ ap (side c.args.from c.args.to) c.in-Some.ensures.at

pub returns-in-None : goal.returns-in-None
returns-in-None c = read w128 c.side_of_point.result _ (record { sfits = c.side_of_point.type_inv }) c.side_of_point.ensures.value
