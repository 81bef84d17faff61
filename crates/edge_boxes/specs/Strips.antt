-- Strips: the part of the plane between two parallel lines.
use Rattle.std.specs.Prelude.{◌≡◌, Bool, ◌&&◌, ◌||◌, List, ℤ, pos, ◌-ℤ◌, ◌*ℤ◌, ◌≤ℤ◌, ◌<ℤ◌, int_lt}
use Rattle.std.specs.List.{AllByRecursion}
use Rattle.geometry_model.specs.Points.{Position}
use Rattle.geometry_model.specs.Geometries.{Edge}
use Rattle.edge_boxes.specs.declared.strips.Direction.{Direction}
use Rattle.edge_boxes.specs.declared.strips.Strip.{Strip}
use Rattle.edge_boxes.specs.declared.cells.Cell.{Cell}

-- how far a position lies above the line through the origin in this direction, times the x of the direction
abbrev pub rise : Direction → ℤ → ℤ → ℤ
rise d x y = d.dx *ℤ y -ℤ d.dy *ℤ x

-- the position lies in the strip, its two lines counted
pub record IsInStrip (s : Strip) (a : Position) : Type 0 where
  pub least : s.least ≤ℤ rise s.direction a.x a.y
  pub greatest : rise s.direction a.x a.y ≤ℤ s.greatest

-- the edge lies in the strip
pub record LiesInStrip (s : Strip) (e : Edge) : Type 0 where
  pub start : IsInStrip s e.start
  pub end : IsInStrip s e.end

-- the strip goes to the right, and the edges lie in it
pub record IsStripOf (s : Strip) (es : List Edge) : Type 0 where
  pub rightward : pos 0 <ℤ s.direction.dx
  pub lies : AllByRecursion (LiesInStrip s) es

-- the wider strip has the same direction, and has all that lies in the other
pub record IsWider (s wider : Strip) : Type 0 where
  pub same : wider.direction.dx ≡ s.direction.dx
  pub holds : (a : Position) → IsInStrip s a → IsInStrip wider a

-- the strip is entirely below the lower side of the cell
abbrev pub lies_under : Strip → Cell → Bool
lies_under s c = int_lt s.greatest (rise s.direction c.floor_x c.floor_y) && int_lt s.greatest (rise s.direction c.ceiling_x c.floor_y)

-- the strip is entirely above the upper side of the cell
abbrev pub lies_over : Strip → Cell → Bool
lies_over s c = int_lt (rise s.direction c.floor_x c.ceiling_y) s.least && int_lt (rise s.direction c.ceiling_x c.ceiling_y) s.least

-- the edge is entirely below the strip, or entirely above it
abbrev pub lies_beside : Strip → Edge → Bool
lies_beside s e =
    int_lt (rise s.direction e.start.x e.start.y) s.least && int_lt (rise s.direction e.end.x e.end.y) s.least
    || int_lt s.greatest (rise s.direction e.start.x e.start.y) && int_lt s.greatest (rise s.direction e.end.x e.end.y)
