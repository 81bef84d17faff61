use Rattle.std.proofs.Common.{◌∙◌, ap}
use Rattle.geometry_model.specs.Locations.{locate}
use Rattle.de9im.proofs.PointsAndArea.{one_gives, points_give}
use Rattle.de9im.proofs.points_and_area.find_beside_area.Goals as goal

pub returns-in-Some-clause-labelled : goal.returns-in-Some-clause-labelled
returns-in-Some-clause-labelled c =
    let a = c.args.points.now in
    let b = c.args.area.now in
    let there = c.locate.ensures ∙ ap (locate b) c.of_grid.ensures in
    one_gives a b c.in-Some.at c.locate.result c.beside_one.result c.requires.points c.requires.area
    c.geometry-points.ensures.valid c.geometry-area.ensures.valid c.in-Some.ensures.one there c.beside_one.ensures

pub returns-in-None-clause-labelled : goal.returns-in-None-clause-labelled
returns-in-None-clause-labelled c = points_give c.args.points.now c.args.area.now c.beside_all.result c.requires.points c.requires.area
    c.geometry-points.ensures.valid c.geometry-area.ensures.valid c.beside_all.ensures.grows c.beside_all.ensures.shows
