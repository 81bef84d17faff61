use Rattle.std.proofs.Common.{ap, sym, ◌∙◌}
use Rattle.std.proofs.lemmas.Bool.{false≢true}
use Rattle.geometry_model.specs.Points.{point_at}
use Rattle.geometry_model.specs.Locations.{locate}
use Rattle.de9im.proofs.CommonPoints.{start_is_outside}
use Rattle.de9im.proofs.deciding.starts_outside.Goals as goal

pub returns-clause-outside : goal.returns-clause-outside
returns-clause-outside c h =
    let b = c.args.second.now in
    start_is_outside c.args.first.now b c.args.edge.now c.requires
    (sym (c.locate.ensures ∙ ap (locate b) (c.of_grid.ensures ∙ ap point_at c.start.ensures)) ∙ c.is_exterior.ensures.0 h)

pub returns-clause-inside : goal.returns-clause-inside
returns-clause-inside c h out =
    let b = c.args.second.now in
    false≢true (sym h ∙ c.is_exterior.ensures.1
    (c.locate.ensures ∙ ap (locate b) (c.of_grid.ensures ∙ ap point_at c.start.ensures) ∙ out))
