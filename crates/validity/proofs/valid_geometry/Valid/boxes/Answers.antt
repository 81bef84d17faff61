use Rattle.std.proofs.Common.{◌∙◌, sym, ap}
use Rattle.validity.specs.Contents.{content_geometry}
use Rattle.validity.proofs.Kept.{boxes_of_point, boxes_of_same}
use Rattle.validity.proofs.valid_geometry.Valid.boxes.Goals as goal

pub returns-in-Point : goal.returns-in-Point
returns-in-Point c = boxes_of_point c.self.inside.content c.args.self.now c.in-Point.field-0 c.in-Point.boxes c.self.view_is c.self.invariant c.in-Point.is

pub returns-in-Larger : goal.returns-in-Larger
returns-in-Larger c =
    let kept = rw c.in-Larger.is at c.self.invariant in
    let same = ap content_geometry (sym c.in-Larger.is) ∙ c.self.view_is in
    rw c.deref.ensures (boxes_of_same c.in-Larger.searched.value.outline c.args.self.now c.in-Larger.searched.value.boxes same kept.0.over_edges)
