-- Positions of the grid and rational points of the plane.
use Rattle.std.specs.Prelude.{◌≡◌, ℕ, zero, suc, ◌+◌, ◌%◌, Bool, ◌&&◌, ℤ, pos, ◌+ℤ◌, ◌*ℤ◌, ◌<ℤ◌, unsigned_abs, int_div}
use Rattle.std.specs.declared.cmp.Ordering.{Ordering}
use Rattle.std.specs.Ordering.{int_cmp, int_eq, ordering_then}
use Prim.Native.Nat.{◌∣◌}

-- a position of the grid: two whole numbers (06-103r4, 6.1.4; whole numbers alone: this project's choice)
pub record Position : Type 0 where
  pub x : ℤ
  pub y : ℤ

-- a point of the plane: (X/W, Y/W) (06-103r4, 6.1.4; rational coordinates alone: this project's choice)
pub record Point : Type 0 where
  pub X : ℤ
  pub Y : ℤ
  pub W : ℤ

-- a triple is a point if its W is at least 1
abbrev pub IsPoint : Point → Type 0
IsPoint p = pos 0 <ℤ p.W

-- the point at a position
abbrev pub point_at : Position → Point
point_at a = record { X = a.x; Y = a.y; W = pos 1 }

-- two triples are the same point: X/W and Y/W are equal, compared without division
abbrev pub same_point : Point → Point → Bool
same_point p q = int_eq (p.X *ℤ q.W) (q.X *ℤ p.W) && int_eq (p.Y *ℤ q.W) (q.Y *ℤ p.W)

-- the order of two points' x coordinates
abbrev pub compare_x : Point → Point → Ordering
compare_x p q = int_cmp (p.X *ℤ q.W) (q.X *ℤ p.W)

-- the order of their y coordinates
abbrev pub compare_y : Point → Point → Ordering
compare_y p q = int_cmp (p.Y *ℤ q.W) (q.Y *ℤ p.W)

-- the order of points: by x, then by y
abbrev pub compare : Point → Point → Ordering
compare p q = ordering_then (compare_x p q) (compare_y p q)

-- a point strictly between two different points: the sum of their triples, number by number
abbrev pub mediant : Point → Point → Point
mediant p q = record { X = p.X +ℤ q.X; Y = p.Y +ℤ q.Y; W = p.W +ℤ q.W }

-- a triple is in least form: only 1 divides all three numbers
abbrev pub IsLeast : Point → Type 0
IsLeast p = (d : ℕ) → d ∣ unsigned_abs p.X → d ∣ unsigned_abs p.Y → d ∣ unsigned_abs p.W → d ≡ 1

-- Euclid's algorithm, with this many turns at most
abbrev pub last_divisor : ℕ → ℕ → ℕ → ℕ
last_divisor zero a b = a
last_divisor (suc turns) a zero = a
last_divisor (suc turns) a (suc b) = last_divisor turns (suc b) (a % suc b)

-- the greatest common divisor; each remainder is less than the one before, so b + 1 turns are enough
abbrev pub gcd : ℕ → ℕ → ℕ
gcd a b = last_divisor (b + 1) a b

-- the numbers of a triple, each divided by g
abbrev pub divided : Point → ℕ → Point
divided p g = record { X = int_div p.X (pos g); Y = int_div p.Y (pos g); W = int_div p.W (pos g) }

-- the same point in least form
abbrev pub least_form : Point → Point
least_form p = divided p (gcd (gcd (unsigned_abs p.X) (unsigned_abs p.Y)) (unsigned_abs p.W))
