use Rattle.std.proofs.Common.{◌≡◌, ◌∙◌, ap, subst}
use Rattle.geometry_model.specs.Points.{point_at}
use Rattle.geometry_model.specs.Locations.{locate}
use Rattle.geometry_model.specs.declared.point_sets.Location.{Location}
use Rattle.geometry_model.specs.declared.point_sets.Dimension.TheVariants.{Zero}
use Rattle.matrix_laws.specs.Cells.{Shows}
use Rattle.de9im.proofs.Growth.{grows_itself, raised_one}
use Rattle.de9im.proofs.ListedPositions.{position_grows, position_shown}
use Rattle.de9im.proofs.matrix_positions.raise_position.Goals as goal

pub returns-then-shows_outside-clause-grows : goal.returns-then-shows_outside-clause-grows
returns-then-shows_outside-clause-grows c = λ a _. grows_itself a c.args.second.now c.args.matrix.now

pub returns-then-shows_outside-clause-shows : goal.returns-then-shows_outside-clause-shows
returns-then-shows_outside-clause-shows c = λ a lies. position_shown a c.args.second.now c.args.at c.args.part c.args.matrix.now lies
    (c.shows_outside.ensures c.if-shows_outside.true)

pub returns-clause-grows : goal.returns-clause-grows
returns-clause-grows c = λ a lies. position_grows a c.args.second.now c.args.at c.args.part c.locate-other.result c.args.matrix.now c.raise.new.self lies
    (c.locate-other.ensures ∙ ap (locate c.args.second.now) c.of_grid.ensures) c.raise.ensures

pub returns-clause-shows : goal.returns-clause-shows
returns-clause-shows c = λ a lies.
    let there : c.locate-other.result ≡ locate c.args.second.now (point_at c.args.at) = c.locate-other.ensures ∙ ap (locate c.args.second.now) c.of_grid.ensures in
    position_shown a c.args.second.now c.args.at c.args.part c.raise.new.self lies (subst (λ (k : Location). Shows c.raise.new.self c.args.part k Zero) there
    ((raised_one c.args.matrix.now c.raise.new.self c.args.part c.locate-other.result Zero c.raise.ensures).shows))
