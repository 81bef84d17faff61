-- The numbers that meeting points are made of: numerators fit 128 bits, denominators 64, and they keep the limit.
use Rattle.std.specs.Prelude.{◌≡◌, ℕ, ◌*◌, ◌≤◌, [], ◌∷◌, ℤ, pos, ◌+ℤ◌, ◌-ℤ◌, ◌*ℤ◌, ◌≤ℤ◌, ◌<ℤ◌, unsigned_abs}
use Rattle.std.proofs.Common.{arith}
use Rattle.std.proofs.lemmas.Int.{ints}
use mir.Syntax.{w64, w128}
use mir.Val.{SFits}
use Rattle.basics.proofs.Ring.{solve, var, lit, ◌⊖◌, ◌⊗◌}
use Rattle.basics.proofs.Numbers.{product_within}
use Rattle.basics.proofs.Orders.{sum_weak, at_most_at_most}
use Rattle.geometry_model.specs.Points.{Position, Point, IsPoint, point_at, gcd, least_form}
use Rattle.geometry_model.specs.Sides.{side}
use Rattle.geometry_model.specs.WellKnownText.{coordinate_limit}
use Rattle.fraction.proofs.DivisorLemmas.{quotient_at_most}
use Rattle.fraction.specs.Ranges.{IsOnGrid, IsInRange, meeting_limit}

-- ---- a vector product of steps
-- two products of coordinate differences differ by no more than the limit of a denominator
difference_within : (y z : ℤ) → unsigned_abs y ≤ 2 * coordinate_limit * (2 * coordinate_limit) → unsigned_abs z ≤ 2 * coordinate_limit * (2 * coordinate_limit) → unsigned_abs (y -ℤ z) ≤ meeting_limit
difference_within y z h k = omega (arith, ints)

-- the vector product of two steps on the grid keeps the limit of a denominator
vector_within : (dx dy ex ey : ℤ) → unsigned_abs dx ≤ 2 * coordinate_limit → unsigned_abs dy ≤ 2 * coordinate_limit → unsigned_abs ex ≤ 2 * coordinate_limit → unsigned_abs ey ≤ 2 * coordinate_limit
    → unsigned_abs (dx *ℤ ey -ℤ dy *ℤ ex) ≤ meeting_limit
vector_within dx dy ex ey hdx hdy hex hey = difference_within (dx *ℤ ey) (dy *ℤ ex)
    (product_within dx ey (2 * coordinate_limit) (2 * coordinate_limit) hdx hey) (product_within dy ex (2 * coordinate_limit) (2 * coordinate_limit) hdy hex)

-- ---- a sum with weights
-- all that is computed on the way to a weighted sum fits 128 bits; it is within the limit of coordinates times the weights
pub record SumFits (m a n b : ℤ) : Type 0 where
  pub first_weight : SFits w128 m
  pub second_weight : SFits w128 n
  pub one : SFits w128 a
  pub other : SFits w128 b
  pub first : SFits w128 (m *ℤ a)
  pub second : SFits w128 (n *ℤ b)
  pub sum : SFits w128 (m *ℤ a +ℤ n *ℤ b)
  pub bound : unsigned_abs (m *ℤ a +ℤ n *ℤ b) ≤ coordinate_limit * unsigned_abs (m +ℤ n)

-- so it is where both weights are at least 0 and together keep the limit, and both coordinates are on the grid
pub sum_fits : (m a n b : ℤ) → pos 0 ≤ℤ m → pos 0 ≤ℤ n → (m +ℤ n) ≤ℤ pos meeting_limit → unsigned_abs a ≤ coordinate_limit → unsigned_abs b ≤ coordinate_limit → SumFits m a n b
sum_fits m a n b hm hn h ha hb = record {
  first_weight = weight m n hm hn h;
  second_weight = weight' m n hm hn h;
  one = short a ha;
  other = short b hb;
  first = part m n (m *ℤ a) hm hn h one;
  second = part' m n (n *ℤ b) hm hn h other;
  sum = whole m n (m *ℤ a +ℤ n *ℤ b) h (sum_weak m n hm hn) both;
  bound = both;
}
  where
    short : (z : ℤ) → unsigned_abs z ≤ coordinate_limit → SFits w128 z
    short z h = omega (arith, ints)

    weight : (m n : ℤ) → pos 0 ≤ℤ m → pos 0 ≤ℤ n → (m +ℤ n) ≤ℤ pos meeting_limit → SFits w128 m
    weight m n h k l = omega (arith, ints)

    weight' : (m n : ℤ) → pos 0 ≤ℤ m → pos 0 ≤ℤ n → (m +ℤ n) ≤ℤ pos meeting_limit → SFits w128 n
    weight' m n h k l = omega (arith, ints)

    one : unsigned_abs (m *ℤ a) ≤ unsigned_abs m * coordinate_limit
    one = product_within m a (unsigned_abs m) coordinate_limit (omega arith) ha

    other : unsigned_abs (n *ℤ b) ≤ unsigned_abs n * coordinate_limit
    other = product_within n b (unsigned_abs n) coordinate_limit (omega arith) hb

    part : (m n z : ℤ) → pos 0 ≤ℤ m → pos 0 ≤ℤ n → (m +ℤ n) ≤ℤ pos meeting_limit → unsigned_abs z ≤ unsigned_abs m * coordinate_limit → SFits w128 z
    part m n z h k l e = omega (arith, ints)

    part' : (m n z : ℤ) → pos 0 ≤ℤ m → pos 0 ≤ℤ n → (m +ℤ n) ≤ℤ pos meeting_limit → unsigned_abs z ≤ unsigned_abs n * coordinate_limit → SFits w128 z
    part' m n z h k l e = omega (arith, ints)

    whole : (m n z : ℤ) → (m +ℤ n) ≤ℤ pos meeting_limit → pos 0 ≤ℤ (m +ℤ n) → unsigned_abs z ≤ coordinate_limit * unsigned_abs (m +ℤ n) → SFits w128 z
    whole m n z h k e = omega (arith, ints)

    together : (m n y z : ℤ) → pos 0 ≤ℤ m → pos 0 ≤ℤ n → unsigned_abs y ≤ unsigned_abs m * coordinate_limit → unsigned_abs z ≤ unsigned_abs n * coordinate_limit → unsigned_abs (y +ℤ z) ≤ coordinate_limit * unsigned_abs (m +ℤ n)
    together m n y z h k e f = omega (arith, ints)

    both : unsigned_abs (m *ℤ a +ℤ n *ℤ b) ≤ coordinate_limit * unsigned_abs (m +ℤ n)
    both = together m n (m *ℤ a) (n *ℤ b) hm hn one other

-- ---- the weights of both ends, and the point that they make
-- such weights together fit 64 bits
pub weights_fit : (m n : ℤ) → pos 0 ≤ℤ m → pos 0 ≤ℤ n → (m +ℤ n) ≤ℤ pos meeting_limit → SFits w64 (m +ℤ n)
weights_fit m n h k l = omega (arith, ints)

-- two such sums over their weights are a point in range
pub sum_in_range : (x y w : ℤ) → pos 0 <ℤ w → w ≤ℤ pos meeting_limit → unsigned_abs x ≤ coordinate_limit * unsigned_abs w → unsigned_abs y ≤ coordinate_limit * unsigned_abs w → IsInRange (record { X = x; Y = y; W = w })
sum_in_range x y w h k ex ey = record { positive = h; denominator = omega (arith, ints); x = ex; y = ey }

-- the least form has no greater denominator
pub least_within : (p : Point) (l : ℕ) → IsPoint p → p.W ≤ℤ pos l → (least_form p).W ≤ℤ pos l
least_within p l h k = at_most_at_most (least_form p).W p.W (pos l) (quotient_at_most p.W (gcd (gcd (unsigned_abs p.X) (unsigned_abs p.Y)) (unsigned_abs p.W)) h) k

-- ---- the sides of two positions differ by no more than the limit
-- the sides of two positions differ by the vector product of the two steps
sides_differ : (a b c d : Position) → side a b (point_at d) -ℤ side a b (point_at c) ≡ (b.x -ℤ a.x) *ℤ (d.y -ℤ c.y) -ℤ (b.y -ℤ a.y) *ℤ (d.x -ℤ c.x)
sides_differ a b c d = solve (a.x ∷ a.y ∷ b.x ∷ b.y ∷ c.x ∷ c.y ∷ d.x ∷ d.y ∷ [])
    (((var 2 ⊖ var 0) ⊗ (var 7 ⊖ var 1 ⊗ lit (pos 1)) ⊖ (var 3 ⊖ var 1) ⊗ (var 6 ⊖ var 0 ⊗ lit (pos 1))) ⊖ ((var 2 ⊖ var 0) ⊗ (var 5 ⊖ var 1 ⊗ lit (pos 1)) ⊖ (var 3 ⊖ var 1) ⊗ (var 4 ⊖ var 0 ⊗ lit (pos 1))))
    ((var 2 ⊖ var 0) ⊗ (var 7 ⊖ var 5) ⊖ (var 3 ⊖ var 1) ⊗ (var 6 ⊖ var 4)) tt

-- so for positions of the grid they keep the limit
pub sides_within : (a b c d : Position) → IsOnGrid a → IsOnGrid b → IsOnGrid c → IsOnGrid d → (side a b (point_at d) -ℤ side a b (point_at c)) ≤ℤ pos meeting_limit
sides_within a b c d ha hb hc hd = at_most (side a b (point_at d) -ℤ side a b (point_at c)) _ (sides_differ a b c d)
    (vector_within (b.x -ℤ a.x) (b.y -ℤ a.y) (d.x -ℤ c.x) (d.y -ℤ c.y) (apart a.x b.x ha.x hb.x) (apart a.y b.y ha.y hb.y) (apart c.x d.x hc.x hd.x) (apart c.y d.y hc.y hd.y))
  where
    apart : (x y : ℤ) → unsigned_abs x ≤ coordinate_limit → unsigned_abs y ≤ coordinate_limit → unsigned_abs (y -ℤ x) ≤ 2 * coordinate_limit
    apart x y h k = omega (arith, ints)

    at_most : (y z : ℤ) → y ≡ z → unsigned_abs z ≤ meeting_limit → y ≤ℤ pos meeting_limit
    at_most y z e h = omega (arith, ints)

-- ---- the weights that the sides of both ends give
-- the one side taken the other way round, as a weight: at least 0, and with the other one above 0 and within the limit
pub record WeightsFit (s t : ℤ) : Type 0 where
  pub opposite : SFits w64 (pos 0 -ℤ s)
  pub positive : pos 0 ≤ℤ (pos 0 -ℤ s)
  pub some : pos 0 <ℤ (t +ℤ (pos 0 -ℤ s))
  pub limit : (t +ℤ (pos 0 -ℤ s)) ≤ℤ pos meeting_limit

-- a side that is at most 0 and a greater one that is at least 0 make such weights
pub side_weights_fit : (s t : ℤ) → s ≤ℤ pos 0 → pos 0 ≤ℤ t → s <ℤ t → (t -ℤ s) ≤ℤ pos meeting_limit → WeightsFit s t
side_weights_fit s t h k d l = record { opposite = omega (arith, ints); positive = omega (arith, ints); some = omega (arith, ints); limit = omega (arith, ints) }
