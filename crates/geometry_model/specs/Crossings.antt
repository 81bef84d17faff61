-- Which edges pass above a point, and whether their number is odd.
use Rattle.std.specs.Prelude.{ℕ, ◌%◌, Bool, true, false, not, ◌==◌, ◌&&◌, List, if◌then◌else◌, ℤ, pos, ◌*ℤ◌, int_lt, int_le, count_by}
use Rattle.geometry_model.specs.Points.{Position, Point}
use Rattle.geometry_model.specs.Geometries.{Edge, edges_of_lines}
use Rattle.geometry_model.specs.Sides.{side}

-- the position's x is at most the point's
abbrev pub reaches : Position → Point → Bool
reaches a p = int_le (a.x *ℤ p.W) p.X

-- exactly one of the two is true
abbrev pub exactly_one : Bool → Bool → Bool
exactly_one true b = not b
exactly_one false b = b

-- the edge spans the point: exactly one end has an x of at most the point's; a vertical edge spans none, and a ring that
-- passes over the point at a corner counts once
abbrev pub spans : Edge → Point → Bool
spans e p = exactly_one (reaches e.start p) (reaches e.end p)

-- the side of the edge, read from left to right, on which the point lies: below 0 if it is below the edge
abbrev pub side_rightward : Edge → Point → ℤ
side_rightward e p = if int_le e.start.x e.end.x then side e.start e.end p else side e.end e.start p

-- the edge spans the point and lies strictly above it
abbrev pub strictly_above : Edge → Point → Bool
strictly_above e p = spans e p && int_lt (side_rightward e p) (pos 0)

-- the edge spans the point and lies above it or goes through it
abbrev pub at_or_above : Edge → Point → Bool
at_or_above e p = spans e p && int_le (side_rightward e p) (pos 0)

-- the number is odd
abbrev pub odd : ℕ → Bool
odd n = n % 2 == 1

-- an odd number of the rings' edges lie strictly above the point: if it is on no ring, it is inside them
-- (06-103r4, 6.1.11.1; by counting: this project's choice)
abbrev pub odd_above : List (List Position) → Point → Bool
odd_above rings p = odd (count_by (λ e. strictly_above e p) (edges_of_lines rings))

-- an odd number of the rings' edges lie above the point or go through it
abbrev pub odd_at_or_above : List (List Position) → Point → Bool
odd_at_or_above rings p = odd (count_by (λ e. at_or_above e p) (edges_of_lines rings))
