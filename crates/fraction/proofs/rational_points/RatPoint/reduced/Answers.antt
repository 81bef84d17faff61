use Rattle.std.proofs.Common.{◌≡◌, sym, ap, ap₂, subst, ◌∙◌, pos, w64}
use Rattle.std.specs.Prelude.{unsigned_abs, int_div}
use Rattle.std.proofs.lemmas.Int.{to_z-of_z}
use mir.Syntax.{w128}
use mir.Val.{to_z, of_z}
use Rattle.geometry_model.specs.Points.{Point, same_point, gcd, least_form}
use Rattle.geometry_model.proofs.LeastFormFacts.{least_is_same}
use Rattle.fraction.specs.Ranges.{IsKeptPoint}
use Rattle.fraction.proofs.DivisorLemmas.{least_is_kept, quotients_are}
use Rattle.fraction.proofs.rational_points.RatPoint.reduced.Goals as goal

abbrev given : goal.After-short_quotient → Point
given c = record { X = c.args.x; Y = c.args.y; W = c.args.w }

abbrev made : goal.After-short_quotient → Point
made c = record { X = to_z w128 (of_z w128 c.quotient.result); Y = to_z w128 (of_z w128 c.quotient-2.result); W = to_z w64 (of_z w64 c.short_quotient.result) }

made_is : (c : goal.After-short_quotient) → made c ≡ least_form (given c)
made_is c = quotients_are (given c) _ _ _ c.divisor_of_three-divisor.result
    (c.divisor_of_three-divisor.ensures.exact ∙ ap₂ (λ n w. pos (gcd n (unsigned_abs w))) (ap₂ (λ x y. gcd (unsigned_abs x) (unsigned_abs y)) (to_z-of_z w128 c.args.x c.ranges.x) (to_z-of_z w128 c.args.y c.ranges.y)) (to_z-of_z w64 c.args.w c.ranges.w))
    (to_z-of_z w128 _ (record { sfits = c.quotient.type_inv }) ∙ c.quotient.ensures ∙ ap₂ int_div (to_z-of_z w128 c.args.x c.ranges.x) divisor_fits)
    (to_z-of_z w128 _ (record { sfits = c.quotient-2.type_inv }) ∙ c.quotient-2.ensures ∙ ap₂ int_div (to_z-of_z w128 c.args.y c.ranges.y) divisor_fits)
    (to_z-of_z w64 _ (record { sfits = c.short_quotient.type_inv }) ∙ c.short_quotient.ensures ∙ ap₂ int_div (to_z-of_z w64 c.args.w c.ranges.w) divisor_fits)
  where
    divisor_fits : to_z w64 (of_z w64 c.divisor_of_three-divisor.result) ≡ c.divisor_of_three-divisor.result
    divisor_fits = to_z-of_z w64 _ (record { sfits = c.divisor_of_three-divisor.type_inv })

pub invariant_of-result : goal.invariant_of-result
invariant_of-result c = subst IsKeptPoint (sym (made_is c)) (least_is_kept (given c) c.requires.in_range)

pub returns-clause-exact : goal.returns-clause-exact
returns-clause-exact c = made_is c

pub returns-clause-same : goal.returns-clause-same
returns-clause-same c = ap (λ p. same_point p (given c)) (made_is c) ∙ least_is_same (given c)

pub returns-clause-kept : goal.returns-clause-kept
returns-clause-kept c = invariant_of-result c
