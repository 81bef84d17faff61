use Rattle.std.proofs.Common.{◌≡◌, sym, ap, ap₂, subst, ◌∙◌, pos, ◌≤ℤ◌}
use Rattle.geometry_model.specs.Points.{Point, mediant, least_form}
use Rattle.fraction.specs.declared.rational_points.RatPoint.TheInside.{Inside}
use Rattle.fraction.specs.Ranges.{IsInRange, IsKeptPoint, meeting_limit}
use Rattle.fraction.specs.Between.{IsBetween}
use Rattle.fraction.proofs.RangeLemmas.{sum_in_range, sums_are_read}
use Rattle.fraction.proofs.MediantLemmas.{least_mediant_is_between}
use Rattle.fraction.proofs.rational_points.RatPoint.mediant.Goals as goal

-- the point whose triple the fields are
abbrev of_fields : Inside → Point
of_fields s = record { X = s.numerator_x; Y = s.numerator_y; W = s.denominator }

sum_from_fields : (s t : Inside) (p q : Point) → of_fields s ≡ p → of_fields t ≡ q → IsKeptPoint (of_fields s) → IsKeptPoint (of_fields t) → p.W ≤ℤ pos meeting_limit → q.W ≤ℤ pos meeting_limit
    → IsInRange (mediant (of_fields s) (of_fields t))
sum_from_fields s t p q e f hs ht k l = sum_in_range (of_fields s) (of_fields t) hs.range ht.range
    (subst (λ (r : Point). r.W ≤ℤ pos meeting_limit) (sym e) k) (subst (λ (r : Point). r.W ≤ℤ pos meeting_limit) (sym f) l)

pub reduced-requires : goal.reduced-requires
reduced-requires c =
    let sum : IsInRange (mediant (of_fields c.a.inside) (of_fields c.b.inside)) = sum_from_fields c.a.inside c.b.inside c.args.a.now c.args.b.now c.a.view_is c.b.view_is c.a.invariant c.b.invariant c.requires.first c.requires.second in
    record { in_range = subst IsInRange (sym (sums_are_read (of_fields c.a.inside) (of_fields c.b.inside) c.a.invariant.range c.b.invariant.range sum)) sum }

pub returns-clause-exact : goal.returns-clause-exact
returns-clause-exact c =
    let sum : IsInRange (mediant (of_fields c.a.inside) (of_fields c.b.inside)) = sum_from_fields c.a.inside c.b.inside c.args.a.now c.args.b.now c.a.view_is c.b.view_is c.a.invariant c.b.invariant c.requires.first c.requires.second in
    c.reduced.ensures.exact ∙ ap least_form (sums_are_read (of_fields c.a.inside) (of_fields c.b.inside) c.a.invariant.range c.b.invariant.range sum) ∙ ap₂ (λ p q. least_form (mediant p q)) c.a.view_is c.b.view_is

pub returns-clause-between : goal.returns-clause-between
returns-clause-between c =
    let one : IsKeptPoint c.args.a.now = subst IsKeptPoint c.a.view_is c.a.invariant in
    let other : IsKeptPoint c.args.b.now = subst IsKeptPoint c.b.view_is c.b.invariant in
    let sum : IsInRange (mediant c.args.a.now c.args.b.now) = sum_in_range c.args.a.now c.args.b.now one.range other.range c.requires.first c.requires.second in
    subst (λ m. IsBetween c.args.a.now m c.args.b.now) (sym (returns-clause-exact c)) (least_mediant_is_between c.args.a.now c.args.b.now one.range.positive other.range.positive sum.positive)
