-- What a line makes of a box.
use Rattle.std.specs.Prelude.{◌≡◌, ℕ, List, count_by, ℤ, pos, negsuc, ◌-ℤ◌, ◌≤ℤ◌, ◌<ℤ◌}
use Rattle.geometry_model.specs.Envelopes.{Envelope}
use Rattle.geometry_model.specs.Points.{Position}
use Rattle.fraction.specs.Ranges.{IsOnGrid}
use Rattle.table_laws.specs.Cells.{is_within}
use Rattle.tiles.specs.declared.lines.Axis.{Axis}
use Rattle.tiles.specs.declared.lines.Axis.TheVariants.{X, Y}
use Rattle.tiles.specs.declared.lines.Line.{Line}

-- the coordinate of a position along an axis
abbrev pub coordinate : Axis → Position → ℤ
coordinate X p = p.x
coordinate Y p = p.y

-- the line passes through a box: both sides of it have some of the box
abbrev pub PassesThrough : Axis → ℤ → Envelope → Type 0
PassesThrough X at box = (box.least_x <ℤ at) × (at ≤ℤ box.greatest_x)
PassesThrough Y at box = (box.least_y <ℤ at) × (at ≤ℤ box.greatest_y)

-- the part of a box with the lesser coordinates
abbrev pub low_part : Axis → ℤ → Envelope → Envelope
low_part X at box = record { least_x = box.least_x; greatest_x = at -ℤ pos 1; least_y = box.least_y; greatest_y = box.greatest_y }
low_part Y at box = record { least_x = box.least_x; greatest_x = box.greatest_x; least_y = box.least_y; greatest_y = at -ℤ pos 1 }

-- the part of a box with the other coordinates
abbrev pub high_part : Axis → ℤ → Envelope → Envelope
high_part X at box = record { least_x = at; greatest_x = box.greatest_x; least_y = box.least_y; greatest_y = box.greatest_y }
high_part Y at box = record { least_x = box.least_x; greatest_x = box.greatest_x; least_y = at; greatest_y = box.greatest_y }

-- a line parts a box into these two
pub record Parts (line : Line) (box low high : Envelope) : Type 0 where
  pub passes : PassesThrough line.axis line.at box
  pub low_is : low ≡ low_part line.axis line.at box
  pub high_is : high ≡ high_part line.axis line.at box

-- how many of some boxes hold a position
abbrev pub times_within : Position → List Envelope → ℕ
times_within p boxes = count_by (λ box. is_within box p) boxes

-- the whole grid
abbrev pub whole : Envelope
whole = record { least_x = negsuc 9999999; greatest_x = pos 10000000; least_y = negsuc 9999999; greatest_y = pos 10000000 }

-- a box is within the grid: its least and its greatest corner are positions of it
abbrev pub IsInGrid : Envelope → Type 0
IsInGrid box = IsOnGrid (record { x = box.least_x; y = box.least_y }) × IsOnGrid (record { x = box.greatest_x; y = box.greatest_y })

-- the least coordinate of a box along an axis
abbrev pub least_along : Axis → Envelope → ℤ
least_along X box = box.least_x
least_along Y box = box.least_y

-- the greatest coordinate of a box along an axis
abbrev pub greatest_along : Axis → Envelope → ℤ
greatest_along X box = box.greatest_x
greatest_along Y box = box.greatest_y
