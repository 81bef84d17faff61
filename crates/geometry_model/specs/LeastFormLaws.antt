-- Laws of least forms, each as one statement.
use Rattle.std.specs.Prelude.{◌≡◌, ℕ, true}
use Rattle.std.specs.Int.{IsGcd}
use Rattle.geometry_model.specs.Points.{Point, IsPoint, same_point, IsLeast, gcd, least_form}

-- `gcd` is the greatest common divisor
abbrev pub GcdIsGcd : Type 0
GcdIsGcd = (a b : ℕ) → IsGcd a b (gcd a b)

-- the least form of a point is a point in least form, and the same point
abbrev pub LeastFormIsLeast : Type 0
LeastFormIsLeast = (p : Point) → IsPoint p → IsPoint (least_form p) × (same_point (least_form p) p ≡ true) × IsLeast (least_form p)

-- two triples in least form that are the same point are equal
abbrev pub LeastFormIsUnique : Type 0
LeastFormIsUnique = (p q : Point) → IsPoint p → IsPoint q → IsLeast p → IsLeast q → same_point p q ≡ true → p ≡ q
