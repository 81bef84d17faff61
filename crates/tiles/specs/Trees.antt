-- The tree of the lines of a cut: which boxes it has, and with what numbers.
use Rattle.std.specs.Prelude.{Bool, true, ◌&&◌, ℕ, ℤ, int_lt, int_le, List, [], ◌∷◌, ◌++◌}
use Rattle.geometry_model.specs.Envelopes.{Envelope}
use Rattle.tiles.specs.Lines.{low_part, high_part}
use Rattle.tiles.specs.declared.lines.Axis.{Axis}
use Rattle.tiles.specs.declared.lines.Axis.TheVariants.{X, Y}
use Rattle.tiles.specs.declared.trees.Tree.{Tree, Whole, Parted'}

-- the boxes that a box is cut into, each with its number, in the order of the cut
abbrev pub numbered_boxes : Tree → Envelope → List (ℕ × Envelope)
numbered_boxes (Whole number) box = (number, box) ∷ []
numbered_boxes (Parted' line p low q high) box =
    numbered_boxes low (low_part line.axis line.at box) ++ numbered_boxes high (high_part line.axis line.at box)

-- whether a line passes through a box: both sides of it have some of the box
abbrev pub passes : Axis → ℤ → Envelope → Bool
passes X at box = int_lt box.least_x at && int_le at box.greatest_x
passes Y at box = int_lt box.least_y at && int_le at box.greatest_y

-- whether each line of a tree passes through the box that it parts
abbrev pub is_parted : Tree → Envelope → Bool
is_parted (Whole number) box = true
is_parted (Parted' line p low q high) box =
    passes line.axis line.at box && is_parted low (low_part line.axis line.at box) && is_parted high (high_part line.axis line.at box)
