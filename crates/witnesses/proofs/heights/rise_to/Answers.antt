use Rattle.std.proofs.Common.{◌≡◌, ℤ, pos, ◌-ℤ◌, ◌*ℤ◌, sym, ap, ◌∙◌, [], ◌∷◌}
use Rattle.basics.proofs.Ring.{solve, var, lit, ◌⊖◌, ◌⊗◌}
use Rattle.geometry_model.specs.Points.{point_at}
use Rattle.witnesses.specs.Heights.{ahead}
use Rattle.orient.proofs.Bounds.{beyond_read}
use Rattle.witnesses.proofs.NumberReads.{before_read}
use Rattle.witnesses.proofs.heights.rise_to.Goals as goal

above : (a w y : ℤ) → a *ℤ w -ℤ y ≡ a *ℤ w -ℤ y *ℤ pos 1
above a w y = solve (a ∷ w ∷ y ∷ []) (var 0 ⊗ var 1 ⊖ var 2) (var 0 ⊗ var 1 ⊖ var 2 ⊗ lit (pos 1)) tt

below : (a w y : ℤ) → y -ℤ a *ℤ w ≡ y *ℤ pos 1 -ℤ a *ℤ w
below a w y = solve (a ∷ w ∷ y ∷ []) (var 2 ⊖ var 0 ⊗ var 1) (var 2 ⊗ lit (pos 1) ⊖ var 0 ⊗ var 1) tt

pub returns-in-Upper-clause-value : goal.returns-in-Upper-clause-value
returns-in-Upper-clause-value c = before_read c.before-in-Upper.result c.numerator_y.result c.y.result c.denominator.result c.args.p.now.Y c.args.at.y c.args.p.now.W (record { sfits = c.before-in-Upper.type_inv }) (record { sfits = c.numerator_y.type_inv }) (record { sfits = c.y.type_inv }) (record { sfits = c.denominator.type_inv })
    c.before-in-Upper.ensures.value c.numerator_y.ensures.value c.y.ensures.value c.denominator.ensures.value
    ∙ above c.args.at.y c.args.p.now.W c.args.p.now.Y ∙ ap (λ s. ahead s c.args.p.now (point_at c.args.at)) (sym c.in-Upper.is)

pub returns-in-Lower-clause-value : goal.returns-in-Lower-clause-value
returns-in-Lower-clause-value c = beyond_read c.beyond.result c.numerator_y-in-Lower.result c.y-in-Lower.result c.denominator-in-Lower.result c.args.p.now.Y c.args.at.y c.args.p.now.W (record { sfits = c.beyond.type_inv }) (record { sfits = c.numerator_y-in-Lower.type_inv }) (record { sfits = c.y-in-Lower.type_inv }) (record { sfits = c.denominator-in-Lower.type_inv })
    c.beyond.ensures.value c.numerator_y-in-Lower.ensures.value c.y-in-Lower.ensures.value c.denominator-in-Lower.ensures.value
    ∙ below c.args.at.y c.args.p.now.W c.args.p.now.Y ∙ ap (λ s. ahead s c.args.p.now (point_at c.args.at)) (sym c.in-Lower.is)
