use Rattle.std.proofs.Common.{◌≡◌, ◌∙◌, ap, subst, ℤ, pos, ◌+ℤ◌, ◌≤ℤ◌, to_z, of_z, arith}
use Rattle.std.proofs.lemmas.Int.{ints, to_z-of_z}
use mir.Syntax.{w32, w128}
use mir.Val.{SFits}
use Rattle.orient.proofs.Bounds.{read}
use Rattle.witnesses.proofs.FarFacts.{far_face, reaches_further}
use Rattle.witnesses.proofs.far_points.far_point.Goals as goal

-- one more than the number
more : (x' x : ℤ) → SFits w128 x' → SFits w32 x → x' ≡ x → to_z w128 (of_z w128 (to_z w128 (of_z w128 x') +ℤ pos 1)) ≡ x +ℤ pos 1
more x' x fx f e = ap (λ (z : ℤ). to_z w128 (of_z w128 (z +ℤ pos 1))) (read w128 x' x fx e) ∙ to_z-of_z w128 (x +ℤ pos 1) (fits x f)
  where
    fits : (x : ℤ) → SFits w32 x → SFits w128 (x +ℤ pos 1)
    fits x f = omega (arith, ints)

pub returns-clause-far : goal.returns-clause-far
returns-clause-far c = (
  c.past_geometry-of_both.result,
  reaches_further c.past_geometry-of_first.result c.past_geometry-of_both.result c.args.first.now
      (subst (λ (z : ℤ). z ≤ℤ c.past_geometry-of_both.result)
      (to_z-of_z w32 c.past_geometry-of_first.result (record { sfits = c.past_geometry-of_first.type_inv }))
      c.past_geometry-of_both.ensures.from)
      c.past_geometry-of_first.ensures.reaches,
  c.past_geometry-of_both.ensures.reaches,
  c.new.ensures ∙ (λ i. record {
    X = more c.from.result c.past_geometry-of_both.result (record { sfits = c.from.type_inv })
        (record { sfits = c.past_geometry-of_both.type_inv })
        (c.from.ensures ∙ to_z-of_z w32 c.past_geometry-of_both.result (record { sfits = c.past_geometry-of_both.type_inv })) i;
    Y = pos 0;
    W = pos 1;
  }),
)

pub returns-clause-shows : goal.returns-clause-shows
returns-clause-shows c =
    let far = returns-clause-far c in far_face c.args.first.now c.args.second.now far.0 c.new.result far.1 far.2 far.3
