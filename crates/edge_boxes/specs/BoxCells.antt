-- The cell of the grid in which a point lies: the whole numbers next to its coordinates.
use Rattle.std.specs.Prelude.{◌≡◌, ℤ, ◌*ℤ◌, int_le}
use Rattle.geometry_model.specs.Points.{Point, IsPoint}
use Rattle.edge_boxes.specs.declared.cells.Cell.{Cell}

-- a whole number is at most n/w exactly where it is at most the floor
abbrev pub IsFloor : ℤ → ℤ → ℤ → Type 0
IsFloor n w floor = (a : ℤ) → int_le (a *ℤ w) n ≡ int_le a floor

-- a whole number is at least n/w exactly where it is at least the ceiling
abbrev pub IsCeiling : ℤ → ℤ → ℤ → Type 0
IsCeiling n w ceiling = (a : ℤ) → int_le n (a *ℤ w) ≡ int_le ceiling a

-- the cell's numbers are the floors and ceilings of the point's coordinates
pub record IsCellOf (c : Cell) (p : Point) : Type 0 where
  pub positive : IsPoint p
  pub floor_x : IsFloor p.X p.W c.floor_x
  pub ceiling_x : IsCeiling p.X p.W c.ceiling_x
  pub floor_y : IsFloor p.Y p.W c.floor_y
  pub ceiling_y : IsCeiling p.Y p.W c.ceiling_y
