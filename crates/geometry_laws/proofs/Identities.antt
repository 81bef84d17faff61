-- Identities of areas and of distances to the right, each solved by computation.
use Rattle.std.proofs.Common.{ℤ, pos, ◌+ℤ◌, ◌-ℤ◌, ◌*ℤ◌, ◌≡◌, List, [], ◌∷◌}
use Rattle.geometry_model.specs.Points.{Point}
use Rattle.basics.proofs.Ring.{Expr, var, lit, ◌⊕◌, ◌⊖◌, ◌⊗◌, solve}
use Rattle.geometry_model.specs.Dimensions.{area}
use Rattle.geometry_laws.proofs.Plane.{right}

-- ---- the expressions of points whose coordinates are variables
pub record Triple : Type 0 where
  pub X : Expr
  pub Y : Expr
  pub W : Expr

abbrev pub area' : Triple → Triple → Triple → Expr
area' a b c = a.X ⊗ (b.Y ⊗ c.W ⊖ c.Y ⊗ b.W) ⊖ a.Y ⊗ (b.X ⊗ c.W ⊖ c.X ⊗ b.W) ⊕ a.W ⊗ (b.X ⊗ c.Y ⊖ c.X ⊗ b.Y)

abbrev pub right' : Triple → Triple → Expr
right' a b = b.X ⊗ a.W ⊖ a.X ⊗ b.W

abbrev pub zero' : Expr
zero' = lit (pos 0)

abbrev pub U : Triple
U = record { X = var 0; Y = var 1; W = var 2 }

abbrev pub V : Triple
V = record { X = var 3; Y = var 4; W = var 5 }

abbrev pub P : Triple
P = record { X = var 6; Y = var 7; W = var 8 }

abbrev pub Q : Triple
Q = record { X = var 9; Y = var 10; W = var 11 }

abbrev pub values : Point → Point → Point → Point → List ℤ
values u v p q = u.X ∷ u.Y ∷ u.W ∷ v.X ∷ v.Y ∷ v.W ∷ p.X ∷ p.Y ∷ p.W ∷ q.X ∷ q.Y ∷ q.W ∷ []

-- ---- turning
-- seen from the other point the distance to the right has the other sign
pub right_turned : (a b : Point) → right b a ≡ pos 0 -ℤ right a b
right_turned a b = solve (values a b a b) (right' V U) (zero' ⊖ right' U V) tt

-- swapping two corners turns the sign of a triangle's area
pub area_turned : (a b c : Point) → area b a c ≡ pos 0 -ℤ area a b c
area_turned a b c = solve (values a b c c) (area' V U P) (zero' ⊖ area' U V P) tt

-- ---- distances
-- the ways to the right from a to b and from b to c add up to that from a to c, over the denominators
pub way : (a b c : Point) → right a b *ℤ c.W +ℤ right b c *ℤ a.W ≡ right a c *ℤ b.W
way a b c = solve (values a b c c) (right' U V ⊗ P.W ⊕ right' V P ⊗ U.W) (right' U P ⊗ V.W) tt

-- ---- the areas of an edge u v and a stretch p q
-- four identities tie the areas of p and q at the edge to those of u and v at the stretch; here by the distances to v
pub by_v : (u v p q : Point) → right q v *ℤ area u v p ≡ right p v *ℤ area u v q +ℤ right u v *ℤ area p q v
by_v u v p q = solve (values u v p q) (right' Q V ⊗ area' U V P) (right' P V ⊗ area' U V Q ⊕ right' U V ⊗ area' P Q V) tt

-- by the distances to u
pub by_u : (u v p q : Point) → right u p *ℤ area u v q ≡ right u q *ℤ area u v p +ℤ right u v *ℤ area p q u
by_u u v p q = solve (values u v p q) (right' U P ⊗ area' U V Q) (right' U Q ⊗ area' U V P ⊕ right' U V ⊗ area' P Q U) tt

-- by the distances to q
pub by_q : (u v p q : Point) → right q v *ℤ area p q u +ℤ right u q *ℤ area p q v +ℤ right p q *ℤ area u v q ≡ pos 0
by_q u v p q = solve (values u v p q) (right' Q V ⊗ area' P Q U ⊕ right' U Q ⊗ area' P Q V ⊕ right' P Q ⊗ area' U V Q) zero' tt

-- by the distances to p
pub by_p : (u v p q : Point) → right p v *ℤ area p q u +ℤ right u p *ℤ area p q v +ℤ right p q *ℤ area u v p ≡ pos 0
by_p u v p q = solve (values u v p q) (right' P V ⊗ area' P Q U ⊕ right' U P ⊗ area' P Q V ⊕ right' P Q ⊗ area' U V P) zero' tt

-- ---- the point that both lines have: a sum of p and q that is a sum of u and v
-- the weight of each point is the area of its fellow at the other line, one of the two turned: X
pub common_x : (u v p q : Point) → area u v q *ℤ p.X +ℤ (pos 0 -ℤ area u v p) *ℤ q.X ≡ (pos 0 -ℤ area p q v) *ℤ u.X +ℤ area p q u *ℤ v.X
common_x u v p q = solve (values u v p q) (area' U V Q ⊗ P.X ⊕ (zero' ⊖ area' U V P) ⊗ Q.X) ((zero' ⊖ area' P Q V) ⊗ U.X ⊕ area' P Q U ⊗ V.X) tt

-- and Y
pub common_y : (u v p q : Point) → area u v q *ℤ p.Y +ℤ (pos 0 -ℤ area u v p) *ℤ q.Y ≡ (pos 0 -ℤ area p q v) *ℤ u.Y +ℤ area p q u *ℤ v.Y
common_y u v p q = solve (values u v p q) (area' U V Q ⊗ P.Y ⊕ (zero' ⊖ area' U V P) ⊗ Q.Y) ((zero' ⊖ area' P Q V) ⊗ U.Y ⊕ area' P Q U ⊗ V.Y) tt

-- and the denominators
pub common_w : (u v p q : Point) → area u v q *ℤ p.W +ℤ (pos 0 -ℤ area u v p) *ℤ q.W ≡ (pos 0 -ℤ area p q v) *ℤ u.W +ℤ area p q u *ℤ v.W
common_w u v p q = solve (values u v p q) (area' U V Q ⊗ P.W ⊕ (zero' ⊖ area' U V P) ⊗ Q.W) ((zero' ⊖ area' P Q V) ⊗ U.W ⊕ area' P Q U ⊗ V.W) tt

-- the same with all weights turned, for areas of the other signs: X
pub common_back_x : (u v p q : Point) → (pos 0 -ℤ area u v q) *ℤ p.X +ℤ area u v p *ℤ q.X ≡ area p q v *ℤ u.X +ℤ (pos 0 -ℤ area p q u) *ℤ v.X
common_back_x u v p q = solve (values u v p q) ((zero' ⊖ area' U V Q) ⊗ P.X ⊕ area' U V P ⊗ Q.X) (area' P Q V ⊗ U.X ⊕ (zero' ⊖ area' P Q U) ⊗ V.X) tt

-- and Y
pub common_back_y : (u v p q : Point) → (pos 0 -ℤ area u v q) *ℤ p.Y +ℤ area u v p *ℤ q.Y ≡ area p q v *ℤ u.Y +ℤ (pos 0 -ℤ area p q u) *ℤ v.Y
common_back_y u v p q = solve (values u v p q) ((zero' ⊖ area' U V Q) ⊗ P.Y ⊕ area' U V P ⊗ Q.Y) (area' P Q V ⊗ U.Y ⊕ (zero' ⊖ area' P Q U) ⊗ V.Y) tt

-- and the denominators
pub common_back_w : (u v p q : Point) → (pos 0 -ℤ area u v q) *ℤ p.W +ℤ area u v p *ℤ q.W ≡ area p q v *ℤ u.W +ℤ (pos 0 -ℤ area p q u) *ℤ v.W
common_back_w u v p q = solve (values u v p q) ((zero' ⊖ area' U V Q) ⊗ P.W ⊕ area' U V P ⊗ Q.W) (area' P Q V ⊗ U.W ⊕ (zero' ⊖ area' P Q U) ⊗ V.W) tt
