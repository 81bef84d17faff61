use Rattle.std.proofs.Common.{◌∙◌, ap, IfSome, subst, sym}
use Rattle.geometry_model.specs.Locations.{locate}
use Rattle.library_calls.proofs.PointFacts.{held_of_point}
use Rattle.library_calls.specs.Kept.{HasRelation}
use Rattle.library_calls.proofs.point_relations.holds_of_point.Goals as goal

pub returns : goal.returns
returns c =
    subst (λ g. IfSome c.holds_in.result (HasRelation c.args.number c.args.first.now g)) (sym c.in_ok-position.ensures)
    (held_of_point c.args.number c.args.relation c.args.first.now c.in_ok-position.position c.locate.result c.holds_in.result
    c.requires c.geometry-first.ensures.valid (sym (c.locate.ensures ∙ ap (locate c.args.first.now) c.of_grid.ensures))
    c.holds_in.ensures.held)
