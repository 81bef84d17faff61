-- The order of points from left to right, at denominators above 0.
use Rattle.std.proofs.Common.{ℤ, pos, ◌+ℤ◌, ◌-ℤ◌, ◌*ℤ◌, ◌≤ℤ◌, ◌<ℤ◌, int_le, ◌≡◌, true, false, arith}
use borrow.Author.Differences.{ints}
use Rattle.geometry_model.specs.Points.{Point, IsPoint}
use Rattle.basics.proofs.Signs.{plus_plus, strict_plus_plus, cancel_nonnegative, cancel_positive}
use Rattle.basics.proofs.Orders.{weak_positive}
use Rattle.geometry_laws.proofs.Plane.{right, reaches}
use Rattle.geometry_laws.proofs.Identities.{way, right_turned}

-- ---- over plain numbers: x c + y a = z b
-- two ways to the right that aren't below 0 make one that isn't
weak_weak : (x y z a b c : ℤ) → pos 0 <ℤ a → pos 0 <ℤ b → pos 0 <ℤ c → x *ℤ c +ℤ y *ℤ a ≡ z *ℤ b → pos 0 ≤ℤ x → pos 0 ≤ℤ y → pos 0 ≤ℤ z
weak_weak x y z a b c ha hb hc e hx hy = cancel_nonnegative b z hb (omega (arith, ints, plus_plus x c hx (omega (arith, ints)), plus_plus y a hy (omega (arith, ints))))

-- it is above 0 where the first is
strict_weak : (x y z a b c : ℤ) → pos 0 <ℤ a → pos 0 <ℤ b → pos 0 <ℤ c → x *ℤ c +ℤ y *ℤ a ≡ z *ℤ b → pos 0 <ℤ x → pos 0 ≤ℤ y → pos 0 <ℤ z
strict_weak x y z a b c ha hb hc e hx hy = cancel_positive b z (omega (arith, ints)) (omega (arith, ints, strict_plus_plus x c hx hc, plus_plus y a hy (omega (arith, ints))))

-- and where the second is
weak_strict : (x y z a b c : ℤ) → pos 0 <ℤ a → pos 0 <ℤ b → pos 0 <ℤ c → x *ℤ c +ℤ y *ℤ a ≡ z *ℤ b → pos 0 ≤ℤ x → pos 0 <ℤ y → pos 0 <ℤ z
weak_strict x y z a b c ha hb hc e hx hy = cancel_positive b z (omega (arith, ints)) (omega (arith, ints, plus_plus x c hx (omega (arith, ints)), strict_plus_plus y a hy ha))

-- ---- over points
-- where b isn't to the left of a, nor c of b, c isn't to the left of a
pub right_trans : (a b c : Point) → IsPoint a → IsPoint b → IsPoint c → pos 0 ≤ℤ right a b → pos 0 ≤ℤ right b c → pos 0 ≤ℤ right a c
right_trans a b c ha hb hc = weak_weak (right a b) (right b c) (right a c) a.W b.W c.W ha hb hc (way a b c)

-- and it is to the right of a where b is
pub right_trans_first : (a b c : Point) → IsPoint a → IsPoint b → IsPoint c → pos 0 <ℤ right a b → pos 0 ≤ℤ right b c → pos 0 <ℤ right a c
right_trans_first a b c ha hb hc = strict_weak (right a b) (right b c) (right a c) a.W b.W c.W ha hb hc (way a b c)

-- and where it is to the right of b
pub right_trans_last : (a b c : Point) → IsPoint a → IsPoint b → IsPoint c → pos 0 ≤ℤ right a b → pos 0 <ℤ right b c → pos 0 <ℤ right a c
right_trans_last a b c ha hb hc = weak_strict (right a b) (right b c) (right a c) a.W b.W c.W ha hb hc (way a b c)

-- ---- what the test says
-- where a isn't to the right of b, b is 0 or more to the right of a
pub reaches_means : (a b : Point) → reaches a b ≡ true → pos 0 ≤ℤ right a b
reaches_means a b e = omega (arith, ints)

-- where the test fails a is to the right of b
pub not_reaches_means : (a b : Point) → reaches a b ≡ false → pos 0 <ℤ right b a
not_reaches_means a b e = turned (right a b) (right b a) (right_turned a b) e
  where
    turned : (x y : ℤ) → y ≡ pos 0 -ℤ x → int_le (pos 0) x ≡ false → pos 0 <ℤ y
    turned x y e h = omega (arith, ints)

-- and so not to the left of it
pub not_reaches_turned : (a b : Point) → reaches a b ≡ false → pos 0 ≤ℤ right b a
not_reaches_turned a b e = weak_positive (right b a) (not_reaches_means a b e)
