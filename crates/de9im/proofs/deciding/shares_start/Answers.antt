use Rattle.std.proofs.Common.{ap, subst, ◌≢◌, ◌∙◌}
use Rattle.geometry_model.specs.Points.{point_at}
use Rattle.geometry_model.specs.Locations.{locate}
use Rattle.geometry_model.specs.declared.point_sets.Location.{Location}
use Rattle.geometry_model.specs.declared.point_sets.Location.TheVariants.{Exterior}
use Rattle.de9im.proofs.CommonPoints.{start_is_shared}
use Rattle.de9im.proofs.deciding.shares_start.Goals as goal

pub returns : goal.returns
returns c h =
    let b = c.args.second.now in
    start_is_shared c.args.first.now b c.args.edge.now c.requires
    (subst (λ (l : Location). l ≢ Exterior) (c.locate.ensures ∙ ap (locate b) (c.of_grid.ensures ∙ ap point_at c.start.ensures)) (c.is_no_exterior.ensures h))
