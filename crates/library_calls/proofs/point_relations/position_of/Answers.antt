use Rattle.std.proofs.Common.{◌∙◌, ap, sym}
use Rattle.wkt.specs.Shapes.{geometry_in}
use Rattle.library_calls.proofs.PointFacts.{is_one_point}
use Rattle.library_calls.proofs.point_relations.position_of.Goals as goal

pub returns-in-Point : goal.returns-in-Point
returns-in-Point c =
    is_one_point c.args.geometry.now c.in-Point.position
    (sym c.geometry.ensures.same ∙ c.shape.ensures ∙ ap geometry_in c.in-Point.is)
