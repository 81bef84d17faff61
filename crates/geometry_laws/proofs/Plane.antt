-- Points of any triple, and the few tests of them by which edges and stretches are treated alike.
use Rattle.std.specs.Prelude.{ℤ, pos, ◌+ℤ◌, ◌-ℤ◌, ◌*ℤ◌, ◌≤ℤ◌, ◌<ℤ◌, int_lt, int_le, Bool, cond, not, ◌&&◌, ◌≡◌}
use Rattle.geometry_model.specs.Points.{Point}
use Rattle.geometry_model.specs.Dimensions.{area}

-- how far b lies to the right of a, times the two denominators
abbrev pub right : Point → Point → ℤ
right a b = b.X *ℤ a.W -ℤ a.X *ℤ b.W

-- a isn't to the right of b
abbrev pub reaches : Point → Point → Bool
reaches a b = int_le (pos 0) (right a b)

-- the line from u to v passes strictly above p, its left end counted and its right end not
abbrev pub above : Point → Point → Point → Bool
above u v p = cond (reaches u p) (not (reaches v p) && int_lt (area u v p) (pos 0)) (reaches v p && int_lt (pos 0) (area u v p))

-- u is strictly above the line from p to q, whose left end isn't counted and whose right end is
abbrev pub over : Point → Point → Point → Bool
over p q u = cond (reaches u p) (not (reaches u q) && int_lt (area p q u) (pos 0)) (reaches u q && int_lt (pos 0) (area p q u))

-- the sum of two points with weights of any sign
abbrev pub combined : ℤ → Point → ℤ → Point → Point
combined m p n q = record { X = m *ℤ p.X +ℤ n *ℤ q.X; Y = m *ℤ p.Y +ℤ n *ℤ q.Y; W = m *ℤ p.W +ℤ n *ℤ q.W }

-- some sum of p and q is a sum of u and v: the two stretches meet
pub record Meets (u v p q : Point) : Type 0 where
  pub m : ℤ
  pub n : ℤ
  pub k : ℤ
  pub l : ℤ
  pub from_m : pos 0 ≤ℤ m
  pub from_n : pos 0 ≤ℤ n
  pub from_k : pos 0 ≤ℤ k
  pub from_l : pos 0 ≤ℤ l
  pub some : pos 0 <ℤ (m +ℤ n)
  pub in_x : (combined m p n q).X ≡ (combined k u l v).X
  pub in_y : (combined m p n q).Y ≡ (combined k u l v).Y
  pub in_w : (combined m p n q).W ≡ (combined k u l v).W
