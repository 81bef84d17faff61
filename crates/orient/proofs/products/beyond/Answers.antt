use Rattle.std.proofs.Common.{◌≡◌, sym, ap, ap₂, ◌∙◌, subst, refl, ℤ, ◌-ℤ◌, ◌*ℤ◌, ◌≤◌, ◌*◌, unsigned_abs, to_z, of_z}
use Rattle.std.proofs.lemmas.Int.{to_z-of_z}
use Rattle.basics.proofs.Numbers.{product_within}
use mir.Syntax.{w32, w64, w128}
use mir.Val.{SFits}
use Rattle.geometry_model.specs.WellKnownText.{coordinate_limit}
use Rattle.fraction.specs.Ranges.{denominator_limit}
use Rattle.orient.proofs.Bounds.{BeyondFits, beyond_fits, product_read}
use Rattle.orient.proofs.products.beyond.Goals as goal

-- the difference, each number read where it comes from, and that it fits
record Difference (numerator product coordinate denominator : ℤ) : Type 0 where
  fits : BeyondFits numerator (coordinate *ℤ denominator)
  is : to_z w128 (of_z w128 numerator) -ℤ to_z w128 (of_z w128 product) ≡ numerator -ℤ coordinate *ℤ denominator

difference : (n p z w : ℤ) → SFits w128 n → SFits w128 p → SFits w32 z → SFits w64 w → p ≡ to_z w32 (of_z w32 z) *ℤ to_z w64 (of_z w64 w)
    → unsigned_abs n ≤ coordinate_limit * denominator_limit → unsigned_abs w ≤ denominator_limit → unsigned_abs z ≤ coordinate_limit → Difference n p z w
difference n p z w fn fp fz fw e hn hw hz = record {
  fits = beyond_fits n (z *ℤ w) hn (product_within z w coordinate_limit denominator_limit hz hw);
  is = ap₂ (λ (x y : ℤ). x -ℤ y) (to_z-of_z w128 n fn) (product_read p z w z w fp fz fw e refl refl);
}

pub overflow_sub-result : goal.overflow_sub-result
overflow_sub-result c =
    let d = difference c.args.numerator c.numerator_over.result c.args.coordinate c.args.denominator c.ranges.numerator (record { sfits = c.numerator_over.type_inv }) c.ranges.coordinate c.ranges.denominator
    c.numerator_over.ensures c.requires.numerator_bound c.requires.denominator_bound c.requires.coordinate_bound in
    subst (SFits w128) (sym d.is) d.fits.difference

pub returns : goal.returns
returns c =
    let d = difference c.args.numerator c.numerator_over.result c.args.coordinate c.args.denominator c.ranges.numerator (record { sfits = c.numerator_over.type_inv }) c.ranges.coordinate c.ranges.denominator
    c.numerator_over.ensures c.requires.numerator_bound c.requires.denominator_bound c.requires.coordinate_bound in
    let value = ap (λ (z : ℤ). to_z w128 (of_z w128 z)) d.is ∙ to_z-of_z w128 _ d.fits.difference in
    record { value = value; bound = subst (λ (z : ℤ). unsigned_abs z ≤ 2 * coordinate_limit * denominator_limit) (sym value) d.fits.bound }
