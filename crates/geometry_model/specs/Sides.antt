-- On which side of a line a point lies, and whether it lies on an edge.
use Rattle.std.specs.Prelude.{Bool, ◌&&◌, ◌||◌, ℤ, pos, ◌-ℤ◌, ◌*ℤ◌, int_le}
use Rattle.std.specs.Ordering.{int_eq}
use Rattle.geometry_model.specs.Points.{Position, Point, point_at}
use Rattle.geometry_model.specs.Geometries.{Edge}

-- the side of the line from a to b on which p lies: above 0 on its left, below 0 on its right, 0 on the line
abbrev pub side : Position → Position → Point → ℤ
side a b p = (b.x -ℤ a.x) *ℤ (p.Y -ℤ a.y *ℤ p.W) -ℤ (b.y -ℤ a.y) *ℤ (p.X -ℤ a.x *ℤ p.W)

-- the coordinate n/w is between s and t, or equal to one of them
abbrev pub between : ℤ → ℤ → ℤ → ℤ → Bool
between s t n w = (int_le (s *ℤ w) n && int_le n (t *ℤ w)) || (int_le (t *ℤ w) n && int_le n (s *ℤ w))

-- p lies on the edge: on its line, and within its ends in both coordinates (06-103r4, 6.1.7: Line)
abbrev pub on : Edge → Point → Bool
on e p = int_eq (side e.start e.end p) (pos 0) && between e.start.x e.end.x p.X p.W && between e.start.y e.end.y p.Y p.W

-- two edges lie on one line
abbrev pub on_one_line : Edge → Edge → Bool
on_one_line e f = int_eq (side e.start e.end (point_at f.start)) (pos 0) && int_eq (side e.start e.end (point_at f.end)) (pos 0)
