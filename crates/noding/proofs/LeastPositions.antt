-- The point at a position is in least form.
use Rattle.std.proofs.Common.{[], ◌∷◌, All, ◌≡◌, sym, subst}
use native.Mathlib.Nat.{eq-one_of_dvd-one}
use Rattle.geometry_model.specs.Points.{Position, Point, IsLeast, point_at}
use Rattle.matrix_laws.proofs.MatrixLists.{all_from_each}

-- a position's denominator is 1, and only 1 divides that
pub position_is_least : (a : Position) → IsLeast (point_at a)
position_is_least a = λ d hx hy hw. eq-one_of_dvd-one hw

pub point_is_least : (p : Point) (a : Position) → p ≡ point_at a → IsLeast p
point_is_least p a e = subst IsLeast (sym e) (position_is_least a)

pub one_is_least : (p : Point) (a : Position) → p ≡ point_at a → All IsLeast (p ∷ [])
one_is_least p a e = all_from_each IsLeast (p ∷ []) (point_is_least p a e, tt)

pub two_are_least : (p q : Point) (a b : Position) → p ≡ point_at a → q ≡ point_at b → All IsLeast (p ∷ q ∷ [])
two_are_least p q a b e f = all_from_each IsLeast (p ∷ q ∷ []) (point_is_least p a e, (point_is_least q b f, tt))
