use Rattle.std.proofs.Common.{ap₂, ◌∙◌}
use mir.Syntax.{w64}
use Rattle.geometry_model.specs.Points.{Position, point_at}
use Rattle.geometry_model.specs.Sides.{side}
use Rattle.orient.proofs.Bounds.{read}
use Rattle.orient.proofs.sides.side_number.Goals as goal

pub returns-clause-value : goal.returns-clause-value
returns-clause-value c =
    read w64 c.side_of_position.result _ (record { sfits = c.side_of_position.type_inv })
    (c.side_of_position.ensures.value ∙ ap₂ (λ (a b : Position). side a b (point_at c.args.at)) c.start.ensures c.end.ensures.value)

pub returns-clause-differ : goal.returns-clause-differ
returns-clause-differ c = c.end.ensures.differ

pub returns-clause-position : goal.returns-clause-position
returns-clause-position c = c.side_of_position.ensures.on_grid
