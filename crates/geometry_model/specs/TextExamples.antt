-- Short names for worked examples of texts.
use Rattle.std.specs.Prelude.{ℕ, ◌+◌, ℤ, pos, List, [], ◌∷◌}
use Rattle.geometry_model.specs.Points.{Position}
use Rattle.geometry_model.specs.TextReading.{Input}

-- the position of two numbers
abbrev pub at : ℤ → ℤ → Position
at x y = record { x = x; y = y }

-- the ring of a square of side 4
abbrev pub square : List Position
square = at (pos 0) (pos 0) ∷ at (pos 4) (pos 0) ∷ at (pos 4) (pos 4) ∷ at (pos 0) (pos 4) ∷ at (pos 0) (pos 0) ∷ []

-- the ring of a right triangle with two sides of length 1, whose right angle is at (n, n)
abbrev pub corner : ℕ → List Position
corner n = at (pos n) (pos n) ∷ at (pos (n + 1)) (pos n) ∷ at (pos n) (pos (n + 1)) ∷ at (pos n) (pos n) ∷ []

-- a text to be read from its first byte on
abbrev pub input : List ℕ → Input
input text = record { left = text; at = 0 }
