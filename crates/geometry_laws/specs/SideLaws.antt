-- Laws of the side of a line.
use Rattle.std.specs.Prelude.{◌≡◌, ◌↔◌, ℤ, pos, ◌+ℤ◌, ◌-ℤ◌, ◌*ℤ◌, ◌<ℤ◌}
use Rattle.geometry_model.specs.Points.{Position, Point}
use Rattle.geometry_model.specs.Sides.{side}

-- exchanging the two positions of a line changes the sign of a point's side
abbrev pub SideIsAntisymmetric : Type 0
SideIsAntisymmetric = (a b : Position) (p : Point) → side b a p ≡ pos 0 -ℤ side a b p

-- p is on the line through a and b: a multiple of p is a weighted sum of the two
pub record IsOnLine (a b : Position) (p : Point) : Type 0 where
  pub multiple : ℤ
  pub of_a : ℤ
  pub of_b : ℤ
  pub positive : pos 0 <ℤ multiple
  pub x_is : multiple *ℤ p.X ≡ of_a *ℤ a.x +ℤ of_b *ℤ b.x
  pub y_is : multiple *ℤ p.Y ≡ of_a *ℤ a.y +ℤ of_b *ℤ b.y
  pub w_is : multiple *ℤ p.W ≡ of_a +ℤ of_b

-- the side of a line through two different positions is 0 exactly at the points on the line
abbrev pub SideIsZeroOnTheLine : Type 0
SideIsZeroOnTheLine = (a b : Position) (p : Point) → (a ≡ b → ⊥) → (side a b p ≡ pos 0) ↔ IsOnLine a b p
