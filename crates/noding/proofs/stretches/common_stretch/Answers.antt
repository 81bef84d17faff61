use Rattle.std.proofs.Common.{◌≡◌, sym, ap, ap₂, subst, ◌∙◌}
use Rattle.std.specs.declared.cmp.Ordering.{Ordering}
use Rattle.std.specs.Ordering.{ord_max, ord_min}
use Rattle.geometry_model.specs.Points.{Position, Point, point_at, same_point, compare}
use Rattle.geometry_model.specs.Geometries.{Edge}
use Rattle.fraction.specs.Orders.{position_order}
use Rattle.noding.specs.Meetings.{IsCommonStretch}
use Rattle.noding.proofs.OneLine.{Lined, lined, from_of, to_of, apart_on_line, touching_on_line, along_the_line}
use Rattle.noding.proofs.NamedCuts.{CutOf, one_cut, two_cuts, from_is_cut, to_is_cut}
use Rattle.noding.proofs.LeastPositions.{one_is_least, two_are_least}
use Rattle.noding.proofs.stretches.common_stretch.Goals as goal

-- the ends that the code reads, and how it compares the two that it chooses
from_is : (e f : Edge) (a b c d m n r : Position) → a ≡ e.start → b ≡ e.end → c ≡ f.start → d ≡ f.end → m ≡ ord_min position_order a b → n ≡ ord_min position_order c d → r ≡ ord_max position_order m n → r ≡ from_of e f
from_is e f a b c d m n r ea eb ec ed em en er = er ∙ ap₂ (ord_max position_order) (em ∙ ap₂ (ord_min position_order) ea eb) (en ∙ ap₂ (ord_min position_order) ec ed)

to_is : (e f : Edge) (a b c d m n r : Position) → a ≡ e.start → b ≡ e.end → c ≡ f.start → d ≡ f.end → m ≡ ord_max position_order a b → n ≡ ord_max position_order c d → r ≡ ord_min position_order m n → r ≡ to_of e f
to_is e f a b c d m n r ea eb ec ed em en er = er ∙ ap₂ (ord_min position_order) (em ∙ ap₂ (ord_max position_order) ea eb) (en ∙ ap₂ (ord_max position_order) ec ed)

order_is : (e f : Edge) (m n : Position) (o : Ordering) → m ≡ from_of e f → n ≡ to_of e f → o ≡ compare (point_at m) (point_at n) → compare (point_at (from_of e f)) (point_at (to_of e f)) ≡ o
order_is e f m n o em en eo = ap₂ (λ (a b : Position). compare (point_at a) (point_at b)) (sym em) (sym en) ∙ sym eo

pub returns-in-Less-clause-exact : goal.returns-in-Less-clause-exact
returns-in-Less-clause-exact c =
    let e : Edge = c.args.first.now in
    let f : Edge = c.args.second.now in
    let l : Lined e f = lined e f c.end-b.ensures.differ c.end-d.ensures.differ c.requires.one_line in
    let low = from_is e f c.start-a.result c.end-b.result c.start-c.result c.end-d.result c.min.result c.min-2.result c.max-from.result c.start-a.ensures c.end-b.ensures.value c.start-c.ensures c.end-d.ensures.value c.min.ensures c.min-2.ensures c.max-from.ensures in
    let high = to_is e f c.start-a.result c.end-b.result c.start-c.result c.end-d.result c.max.result c.max-2.result c.min-to.result c.start-a.ensures c.end-b.ensures.value c.start-c.ensures c.end-d.ensures.value c.max.ensures c.max-2.ensures c.min-to.ensures in
    subst (λ (p : Point). IsCommonStretch e f (record { lesser = p; greater = c.of_grid-in-Less.result })) (sym (c.of_grid.ensures ∙ ap point_at low))
    (subst (λ (q : Point). IsCommonStretch e f (record { lesser = point_at (from_of e f); greater = q })) (sym (c.of_grid-in-Less.ensures ∙ ap point_at high))
    (along_the_line e f l (order_is e f c.max-from.result c.min-to.result c.cmp.result low high c.cmp.ensures.exact ∙ c.in-Less.is)))

pub returns-in-Equal-clause-exact : goal.returns-in-Equal-clause-exact
returns-in-Equal-clause-exact c q hq =
    let e : Edge = c.args.first.now in
    let f : Edge = c.args.second.now in
    let l : Lined e f = lined e f c.end-b.ensures.differ c.end-d.ensures.differ c.requires.one_line in
    let low = from_is e f c.start-a.result c.end-b.result c.start-c.result c.end-d.result c.min.result c.min-2.result c.max-from.result c.start-a.ensures c.end-b.ensures.value c.start-c.ensures c.end-d.ensures.value c.min.ensures c.min-2.ensures c.max-from.ensures in
    let high = to_is e f c.start-a.result c.end-b.result c.start-c.result c.end-d.result c.max.result c.max-2.result c.min-to.result c.start-a.ensures c.end-b.ensures.value c.start-c.ensures c.end-d.ensures.value c.max.ensures c.max-2.ensures c.min-to.ensures in
    touching_on_line e f l (order_is e f c.max-from.result c.min-to.result c.cmp.result low high c.cmp.ensures.exact ∙ c.in-Equal.is) q hq
    ∙ ap (λ (p : Point). same_point p q) (sym (c.of_grid-in-Equal.ensures ∙ ap point_at low))

pub returns-in-Greater-clause-exact : goal.returns-in-Greater-clause-exact
returns-in-Greater-clause-exact c p hp =
    let e : Edge = c.args.first.now in
    let f : Edge = c.args.second.now in
    let l : Lined e f = lined e f c.end-b.ensures.differ c.end-d.ensures.differ c.requires.one_line in
    let low = from_is e f c.start-a.result c.end-b.result c.start-c.result c.end-d.result c.min.result c.min-2.result c.max-from.result c.start-a.ensures c.end-b.ensures.value c.start-c.ensures c.end-d.ensures.value c.min.ensures c.min-2.ensures c.max-from.ensures in
    let high = to_is e f c.start-a.result c.end-b.result c.start-c.result c.end-d.result c.max.result c.max-2.result c.min-to.result c.start-a.ensures c.end-b.ensures.value c.start-c.ensures c.end-d.ensures.value c.max.ensures c.max-2.ensures c.min-to.ensures in
    apart_on_line e f l (order_is e f c.max-from.result c.min-to.result c.cmp.result low high c.cmp.ensures.exact ∙ c.in-Greater.is) p hp

pub returns-in-Less-clause-cuts : goal.returns-in-Less-clause-cuts
returns-in-Less-clause-cuts c =
    let e : Edge = c.args.first.now in
    let f : Edge = c.args.second.now in
    let l : Lined e f = lined e f c.end-b.ensures.differ c.end-d.ensures.differ c.requires.one_line in
    let low = from_is e f c.start-a.result c.end-b.result c.start-c.result c.end-d.result c.min.result c.min-2.result c.max-from.result c.start-a.ensures c.end-b.ensures.value c.start-c.ensures c.end-d.ensures.value c.min.ensures c.min-2.ensures c.max-from.ensures in
    let high = to_is e f c.start-a.result c.end-b.result c.start-c.result c.end-d.result c.max.result c.max-2.result c.min-to.result c.start-a.ensures c.end-b.ensures.value c.start-c.ensures c.end-d.ensures.value c.max.ensures c.max-2.ensures c.min-to.ensures in
    two_cuts e f c.of_grid.result c.of_grid-in-Less.result (subst (CutOf e f) (sym (c.of_grid.ensures ∙ ap point_at low)) (from_is_cut e f l)) (subst (CutOf e f) (sym (c.of_grid-in-Less.ensures ∙ ap point_at high)) (to_is_cut e f l))

pub returns-in-Equal-clause-cuts : goal.returns-in-Equal-clause-cuts
returns-in-Equal-clause-cuts c =
    let e : Edge = c.args.first.now in
    let f : Edge = c.args.second.now in
    let l : Lined e f = lined e f c.end-b.ensures.differ c.end-d.ensures.differ c.requires.one_line in
    let low = from_is e f c.start-a.result c.end-b.result c.start-c.result c.end-d.result c.min.result c.min-2.result c.max-from.result c.start-a.ensures c.end-b.ensures.value c.start-c.ensures c.end-d.ensures.value c.min.ensures c.min-2.ensures c.max-from.ensures in
    one_cut e f c.of_grid-in-Equal.result (subst (CutOf e f) (sym (c.of_grid-in-Equal.ensures ∙ ap point_at low)) (from_is_cut e f l))

pub returns-in-Less-clause-least : goal.returns-in-Less-clause-least
returns-in-Less-clause-least c = two_are_least c.of_grid.result c.of_grid-in-Less.result c.max-from.result c.min-to.result c.of_grid.ensures c.of_grid-in-Less.ensures

pub returns-in-Equal-clause-least : goal.returns-in-Equal-clause-least
returns-in-Equal-clause-least c = one_is_least c.of_grid-in-Equal.result c.max-from.result c.of_grid-in-Equal.ensures
