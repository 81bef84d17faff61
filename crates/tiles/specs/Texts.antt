-- What the texts of cells get.
use Rattle.std.specs.Prelude.{ℕ, ◌==◌, if◌then◌else◌, List, [], filter, Option}
use Rattle.std.specs.List.{flat_map}
use Rattle.std.specs.Io.KnownBytes.{Appends}

-- the text of each cell, by the cell's number; None where nobody knows it
abbrev pub Texts : Type 0
Texts = ℕ → Option (List ℕ)

-- the known text of each cell grows by what is given for the cell
abbrev pub Grow : Texts → Texts → (ℕ → List ℕ) → Type 0
Grow old new added = (cell : ℕ) → Appends (old cell) (new cell) (added cell)

-- one cell gets a line, and the others nothing
abbrev pub in_cell : ℕ → List ℕ → ℕ → List ℕ
in_cell number line cell = if number == cell then line else []

-- what a cell gets where the cells of some numbers get a line each
abbrev pub gets_of : (ℕ → List ℕ) → List ℕ → ℕ → List ℕ
gets_of line numbers cell = flat_map line (filter (λ number. number == cell) numbers)
