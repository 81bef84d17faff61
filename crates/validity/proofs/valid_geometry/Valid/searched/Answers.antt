use Rattle.std.proofs.Common.{◌∙◌, sym, ap, subst}
use Rattle.validity.specs.Contents.{content_geometry}
use Rattle.validity.specs.ValidGeometries.{AreSearched}
use Rattle.validity.proofs.Kept.{searched_of_point}
use Rattle.validity.proofs.valid_geometry.Valid.searched.Goals as goal

pub returns-in-Point : goal.returns-in-Point
returns-in-Point c = searched_of_point c.self.inside.content c.args.self.now c.in-Point.geometry c.in-Point.field-1 c.listed.result.now c.self.view_is c.self.invariant c.in-Point.is c.listed.ensures.listed

pub returns-in-Larger : goal.returns-in-Larger
returns-in-Larger c =
    let kept = rw c.in-Larger.is at c.self.invariant in
    let same = ap content_geometry (sym c.in-Larger.is) ∙ c.self.view_is in
    rw (c.as_slice.ensures.value, c.deref.ensures) (subst (AreSearched c.in-Larger.searched.value.positions.items) same kept.1)
