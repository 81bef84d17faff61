-- Numbers of calls, each read where it comes from.
use Rattle.std.proofs.Common.{◌≡◌, ap, ap₂, ◌∙◌, ◌*◌, ◌≤◌, ℤ, ◌+ℤ◌, ◌-ℤ◌, ◌*ℤ◌, unsigned_abs, to_z, of_z, arith}
use Rattle.std.proofs.lemmas.Int.{ints, to_z-of_z}
use Rattle.basics.proofs.Numbers.{product_within}
use mir.Syntax.{w32, w64, w128}
use mir.Val.{SFits}
use Rattle.geometry_model.specs.WellKnownText.{coordinate_limit}
use Rattle.orient.proofs.Bounds.{read}
use Rattle.fraction.specs.Ranges.{denominator_limit}
use Rattle.witnesses.specs.Heights.{rise_limit}

-- how far a numerator lies before a coordinate over the denominator
pub before_read : (e n' z' w' n z w : ℤ) → SFits w128 e → SFits w128 n' → SFits w32 z' → SFits w64 w' → e ≡ to_z w32 (of_z w32 z') *ℤ to_z w64 (of_z w64 w') -ℤ to_z w128 (of_z w128 n') → n' ≡ n → z' ≡ z → w' ≡ w
    → to_z w128 (of_z w128 e) ≡ z *ℤ w -ℤ n
before_read e n' z' w' n z w fe fn fz fw i en ez ew =
    read w128 e (z *ℤ w -ℤ n) fe (i ∙ ap₂ (λ (x y : ℤ). x -ℤ y) (ap₂ (λ (x y : ℤ). x *ℤ y) (read w32 z' z fz ez) (read w64 w' w fw ew)) (read w128 n' n fn en))

-- ---- products of a rise and a run
-- a rise fits 128 bits
pub rise_fits : (a : ℤ) → unsigned_abs a ≤ rise_limit → SFits w128 a
rise_fits a h = omega (arith, ints)

pub run_fits_twice : (a : ℤ) → unsigned_abs a ≤ 2 * coordinate_limit → SFits w128 a
run_fits_twice a h = omega (arith, ints)

-- and so does their product
pub product_fits : (a b : ℤ) → unsigned_abs a ≤ rise_limit → unsigned_abs b ≤ 2 * coordinate_limit → SFits w128 (a *ℤ b)
product_fits a b h k = fits (a *ℤ b) (product_within a b rise_limit (2 * coordinate_limit) h k)
  where
    fits : (z : ℤ) → unsigned_abs z ≤ rise_limit * (2 * coordinate_limit) → SFits w128 z
    fits z h = omega (arith, ints)

pub wide_product_read : (a b : ℤ) → SFits w128 a → SFits w128 b → SFits w128 (a *ℤ b) → to_z w128 (of_z w128 (to_z w128 (of_z w128 a) *ℤ to_z w128 (of_z w128 b))) ≡ a *ℤ b
wide_product_read a b fa fb f = ap (λ (z : ℤ). to_z w128 (of_z w128 z)) (ap₂ (λ (x y : ℤ). x *ℤ y) (to_z-of_z w128 a fa) (to_z-of_z w128 b fb)) ∙ to_z-of_z w128 (a *ℤ b) f

-- ---- a scaled coordinate
scaled_fits : (a b : ℤ) → unsigned_abs a ≤ 4 * coordinate_limit → unsigned_abs b ≤ coordinate_limit * denominator_limit → SFits w128 (a *ℤ b)
scaled_fits a b h k = fits (a *ℤ b) (product_within a b (4 * coordinate_limit) (coordinate_limit * denominator_limit) h k)
  where
    fits : (z : ℤ) → unsigned_abs z ≤ 4 * coordinate_limit * (coordinate_limit * denominator_limit) → SFits w128 z
    fits z h = omega (arith, ints)

pub scaled_read : (a n' n : ℤ) → SFits w128 a → SFits w128 n' → n' ≡ n → unsigned_abs a ≤ 4 * coordinate_limit → unsigned_abs n ≤ coordinate_limit * denominator_limit → to_z w128 (of_z w128 (to_z w128 (of_z w128 a) *ℤ to_z w128 (of_z w128 n'))) ≡ a *ℤ n
scaled_read a n' n fa fn e h k = ap (λ (z : ℤ). to_z w128 (of_z w128 z)) (ap₂ (λ (x y : ℤ). x *ℤ y) (to_z-of_z w128 a fa) (read w128 n' n fn e)) ∙ to_z-of_z w128 (a *ℤ n) (scaled_fits a n h k)

-- with a rise added or taken away it still fits
pub sum_fits : (a b r : ℤ) → unsigned_abs a ≤ 4 * coordinate_limit → unsigned_abs b ≤ coordinate_limit * denominator_limit → unsigned_abs r ≤ rise_limit → SFits w128 (a *ℤ b +ℤ r) × SFits w128 (a *ℤ b -ℤ r)
sum_fits a b r h k l = fits (a *ℤ b) r (product_within a b (4 * coordinate_limit) (coordinate_limit * denominator_limit) h k) l
  where
    fits : (z r : ℤ) → unsigned_abs z ≤ 4 * coordinate_limit * (coordinate_limit * denominator_limit) → unsigned_abs r ≤ rise_limit → SFits w128 (z +ℤ r) × SFits w128 (z -ℤ r)
    fits z r h k = (omega (arith, ints), omega (arith, ints))

pub denominator_within : (w : ℤ) → unsigned_abs w ≤ denominator_limit → unsigned_abs w ≤ coordinate_limit * denominator_limit
denominator_within w h = omega (arith, ints)
