-- The numbers that a side is made of: at points with denominator 1 they fit 64 bits, at others 128.
use Rattle.std.specs.Prelude.{◌≡◌, ℕ, ◌*◌, ◌^◌, ◌≤◌, [], ◌∷◌, ℤ, pos, ◌-ℤ◌, ◌*ℤ◌, unsigned_abs}
use Rattle.std.proofs.Common.{sym, ap, ap₂, ◌∙◌, subst, arith, to_z, of_z}
use Rattle.std.proofs.lemmas.Int.{ints, to_z-of_z}
use mir.Syntax.{Width, w32, w64, w128}
use mir.Val.{SFits}
use Rattle.basics.proofs.Ring.{solve, var, lit, ◌⊖◌, ◌⊗◌}
use Rattle.basics.proofs.Numbers.{product_within}
use Rattle.geometry_model.specs.Points.{Position, Point}
use Rattle.geometry_model.specs.Sides.{side}
use Rattle.geometry_model.specs.WellKnownText.{coordinate_limit}
use Rattle.fraction.specs.Ranges.{IsKeptPoint, denominator_limit}
use Rattle.orient.specs.SideLimit.{side_limit}

-- ---- numbers that fit a width, each read where it comes from
pub read : (w : Width) (z y : ℤ) → SFits w z → z ≡ y → to_z w (of_z w z) ≡ y
read w z y f e = to_z-of_z w z f ∙ e

pub read_within : (w : Width) (n : ℕ) (z y : ℤ) → SFits w z → z ≡ y → unsigned_abs y ≤ n → unsigned_abs (to_z w (of_z w z)) ≤ n
read_within w n z y f e h = subst (λ (x : ℤ). unsigned_abs x ≤ n) (sym (read w z y f e)) h

-- the difference of two numbers
pub step_read : (d b' a' b a : ℤ) → SFits w64 d → SFits w32 b' → SFits w32 a' → d ≡ to_z w32 (of_z w32 b') -ℤ to_z w32 (of_z w32 a') → b' ≡ b → a' ≡ a → to_z w64 (of_z w64 d) ≡ b -ℤ a
step_read d b' a' b a fd fb fa e eb ea = read w64 d (b -ℤ a) fd (e ∙ ap₂ (λ (x y : ℤ). x -ℤ y) (read w32 b' b fb eb) (read w32 a' a fa ea))

-- a numerator over a denominator
pub product_read : (p z' w' z w : ℤ) → SFits w128 p → SFits w32 z' → SFits w64 w' → p ≡ to_z w32 (of_z w32 z') *ℤ to_z w64 (of_z w64 w') → z' ≡ z → w' ≡ w → to_z w128 (of_z w128 p) ≡ z *ℤ w
product_read p z' w' z w fp fz fw e ez ew = read w128 p (z *ℤ w) fp (e ∙ ap₂ (λ (x y : ℤ). x *ℤ y) (read w32 z' z fz ez) (read w64 w' w fw ew))

-- how far a numerator lies beyond a coordinate over the denominator
pub beyond_read : (e n' z' w' n z w : ℤ) → SFits w128 e → SFits w128 n' → SFits w32 z' → SFits w64 w' → e ≡ to_z w128 (of_z w128 n') -ℤ to_z w32 (of_z w32 z') *ℤ to_z w64 (of_z w64 w') → n' ≡ n → z' ≡ z → w' ≡ w
    → to_z w128 (of_z w128 e) ≡ n -ℤ z *ℤ w
beyond_read e n' z' w' n z w fe fn fz fw i en ez ew =
    read w128 e (n -ℤ z *ℤ w) fe (i ∙ ap₂ (λ (x y : ℤ). x -ℤ y) (read w128 n' n fn en) (ap₂ (λ (x y : ℤ). x *ℤ y) (read w32 z' z fz ez) (read w64 w' w fw ew)))

-- a vector product of numbers that are equal
pub vector_of : (p q r s a b c d : ℤ) → p ≡ a → q ≡ b → r ≡ c → s ≡ d → p *ℤ q -ℤ r *ℤ s ≡ a *ℤ b -ℤ c *ℤ d
vector_of p q r s a b c d e f g h = ap₂ (λ (x y : ℤ). x -ℤ y) (ap₂ (λ (x y : ℤ). x *ℤ y) e f) (ap₂ (λ (x y : ℤ). x *ℤ y) g h)

-- such a product, each of its two products kept in a width in between
pub vector_read : (w : Width) (p q r s a b c d : ℤ) → p ≡ a → q ≡ b → r ≡ c → s ≡ d → SFits w (a *ℤ b) → SFits w (c *ℤ d) → to_z w (of_z w (p *ℤ q)) -ℤ to_z w (of_z w (r *ℤ s)) ≡ a *ℤ b -ℤ c *ℤ d
vector_read w p q r s a b c d e f g h first second = ap₂ (λ (x y : ℤ). x -ℤ y)
    (ap₂ (λ (x y : ℤ). to_z w (of_z w (x *ℤ y))) e f ∙ to_z-of_z w (a *ℤ b) first) (ap₂ (λ (x y : ℤ). to_z w (of_z w (x *ℤ y))) g h ∙ to_z-of_z w (c *ℤ d) second)

-- ---- a coordinate over a denominator
pub record NumeratorFits (z w : ℤ) : Type 0 where
  pub one : SFits w128 z
  pub other : SFits w128 w
  pub product : SFits w128 (z *ℤ w)

pub numerator_fits : (z w : ℤ) → SFits w32 z → SFits w64 w → NumeratorFits z w
numerator_fits z w f g = record { one = omega (arith, ints); other = omega (arith, ints); product = fits (z *ℤ w) (product_within z w (2 ^ 31) (2 ^ 63) (omega (arith, ints)) (omega (arith, ints))) }
  where
    fits : (z : ℤ) → unsigned_abs z ≤ 2 ^ 31 * 2 ^ 63 → SFits w128 z
    fits z h = omega (arith, ints)

-- the product of a coordinate and a denominator, both widened
pub widened_product : (z w : ℤ) → SFits w32 z → SFits w64 w → to_z w128 (of_z w128 (to_z w32 (of_z w32 z))) *ℤ to_z w128 (of_z w128 (to_z w64 (of_z w64 w))) ≡ z *ℤ w
widened_product z w f g =
    let fits : NumeratorFits z w = numerator_fits z w f g in
    ap₂ (λ (x y : ℤ). x *ℤ y) (ap (λ (x : ℤ). to_z w128 (of_z w128 x)) (to_z-of_z w32 z f) ∙ to_z-of_z w128 z fits.one) (ap (λ (x : ℤ). to_z w128 (of_z w128 x)) (to_z-of_z w64 w g) ∙ to_z-of_z w128 w fits.other)

-- ---- the numbers of a kept point
pub record PointWithin (p : Point) : Type 0 where
  pub x : unsigned_abs p.X ≤ coordinate_limit * denominator_limit
  pub y : unsigned_abs p.Y ≤ coordinate_limit * denominator_limit
  pub denominator : unsigned_abs p.W ≤ denominator_limit

pub point_within : (p : Point) → IsKeptPoint p → PointWithin p
point_within p h = record { x = within p.X p.W h.range.x is_denominator; y = within p.Y p.W h.range.y is_denominator; denominator = is_denominator }
  where
    within : (z w : ℤ) → unsigned_abs z ≤ coordinate_limit * unsigned_abs w → unsigned_abs w ≤ denominator_limit → unsigned_abs z ≤ coordinate_limit * denominator_limit
    within z w h k = omega (arith, ints)

    is_denominator : unsigned_abs p.W ≤ denominator_limit
    is_denominator = omega (arith, ints, h.range.positive, h.range.denominator)

-- ---- how far a coordinate lies beyond that of a position
pub record BeyondFits (n z : ℤ) : Type 0 where
  pub difference : SFits w128 (n -ℤ z)
  pub bound : unsigned_abs (n -ℤ z) ≤ 2 * coordinate_limit * denominator_limit

pub beyond_fits : (n z : ℤ) → unsigned_abs n ≤ coordinate_limit * denominator_limit → unsigned_abs z ≤ coordinate_limit * denominator_limit → BeyondFits n z
beyond_fits n z h k = record { difference = omega (arith, ints); bound = omega (arith, ints) }

-- ---- a vector product of steps: the side of a position, with denominator 1
pub side_at : (a b : Position) (x y : ℤ) → side a b (record { X = x; Y = y; W = pos 1 }) ≡ (b.x -ℤ a.x) *ℤ (y -ℤ a.y) -ℤ (b.y -ℤ a.y) *ℤ (x -ℤ a.x)
side_at a b x y = solve (a.x ∷ a.y ∷ b.x ∷ b.y ∷ x ∷ y ∷ [])
    ((var 2 ⊖ var 0) ⊗ (var 5 ⊖ var 1 ⊗ lit (pos 1)) ⊖ (var 3 ⊖ var 1) ⊗ (var 4 ⊖ var 0 ⊗ lit (pos 1))) ((var 2 ⊖ var 0) ⊗ (var 5 ⊖ var 1) ⊖ (var 3 ⊖ var 1) ⊗ (var 4 ⊖ var 0)) tt

pub record ShortVectorFits (dx dy ex ey : ℤ) : Type 0 where
  pub first : SFits w64 (dx *ℤ ey)
  pub second : SFits w64 (dy *ℤ ex)
  pub difference : SFits w64 (dx *ℤ ey -ℤ dy *ℤ ex)

pub short_vector_fits : (dx dy ex ey : ℤ) → unsigned_abs dx ≤ 2 * coordinate_limit → unsigned_abs dy ≤ 2 * coordinate_limit → unsigned_abs ex ≤ 2 * coordinate_limit
    → unsigned_abs ey ≤ 2 * coordinate_limit → ShortVectorFits dx dy ex ey
short_vector_fits dx dy ex ey hdx hdy hex hey =
    let y : unsigned_abs (dx *ℤ ey) ≤ 2 * coordinate_limit * (2 * coordinate_limit) = product_within dx ey (2 * coordinate_limit) (2 * coordinate_limit) hdx hey in
    let z : unsigned_abs (dy *ℤ ex) ≤ 2 * coordinate_limit * (2 * coordinate_limit) = product_within dy ex (2 * coordinate_limit) (2 * coordinate_limit) hdy hex in
    record { first = fits (dx *ℤ ey) y; second = fits (dy *ℤ ex) z; difference = differ (dx *ℤ ey) (dy *ℤ ex) y z }
  where
    fits : (z : ℤ) → unsigned_abs z ≤ 2 * coordinate_limit * (2 * coordinate_limit) → SFits w64 z
    fits z h = omega (arith, ints)

    differ : (y z : ℤ) → unsigned_abs y ≤ 2 * coordinate_limit * (2 * coordinate_limit) → unsigned_abs z ≤ 2 * coordinate_limit * (2 * coordinate_limit) → SFits w64 (y -ℤ z)
    differ y z h k = omega (arith, ints)

-- ---- a vector product of a step and of what lies beyond its start
pub record VectorFits (dx dy ex ey : ℤ) : Type 0 where
  pub one : SFits w128 dx
  pub other : SFits w128 dy
  pub first : SFits w128 (dx *ℤ ey)
  pub second : SFits w128 (dy *ℤ ex)
  pub difference : SFits w128 (dx *ℤ ey -ℤ dy *ℤ ex)
  pub bound : unsigned_abs (dx *ℤ ey -ℤ dy *ℤ ex) ≤ side_limit

-- the greatest product
abbrev product_limit : ℕ
product_limit = 2 * coordinate_limit * (2 * coordinate_limit * denominator_limit)

pub vector_fits : (dx dy ex ey : ℤ) → unsigned_abs dx ≤ 2 * coordinate_limit → unsigned_abs dy ≤ 2 * coordinate_limit → unsigned_abs ex ≤ 2 * coordinate_limit * denominator_limit
    → unsigned_abs ey ≤ 2 * coordinate_limit * denominator_limit → VectorFits dx dy ex ey
vector_fits dx dy ex ey hdx hdy hex hey =
    let y : unsigned_abs (dx *ℤ ey) ≤ product_limit = product_within dx ey (2 * coordinate_limit) (2 * coordinate_limit * denominator_limit) hdx hey in
    let z : unsigned_abs (dy *ℤ ex) ≤ product_limit = product_within dy ex (2 * coordinate_limit) (2 * coordinate_limit * denominator_limit) hdy hex in
    record { one = widened dx hdx; other = widened dy hdy; first = fits (dx *ℤ ey) y; second = fits (dy *ℤ ex) z; difference = differ (dx *ℤ ey) (dy *ℤ ex) y z; bound = within (dx *ℤ ey) (dy *ℤ ex) y z }
  where
    widened : (z : ℤ) → unsigned_abs z ≤ 2 * coordinate_limit → SFits w128 z
    widened z h = omega (arith, ints)

    fits : (z : ℤ) → unsigned_abs z ≤ product_limit → SFits w128 z
    fits z h = omega (arith, ints)

    differ : (y z : ℤ) → unsigned_abs y ≤ product_limit → unsigned_abs z ≤ product_limit → SFits w128 (y -ℤ z)
    differ y z h k = omega (arith, ints)

    within : (y z : ℤ) → unsigned_abs y ≤ product_limit → unsigned_abs z ≤ product_limit → unsigned_abs (y -ℤ z) ≤ side_limit
    within y z h k = omega (arith, ints)
