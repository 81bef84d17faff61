-- How a box is cut at medians of a sample of positions, and when it is left whole (this project's choice).
use Rattle.std.specs.Prelude.{◌≡◌, ◌⊎◌, ℕ, zero, suc, ◌+◌, ◌*◌, ◌<◌, ◌≤◌, true, if◌then◌else◌, List, [], ◌∷◌, ◌++◌, length, count_by, ℤ, ◌-ℤ◌, ◌≤ℤ◌, ◌<ℤ◌, int_lt}
use Rattle.std.specs.List.{All, Any}
use Rattle.std.specs.List.Sorted.{IsPermutation}
use Rattle.geometry_model.specs.Envelopes.{Envelope}
use Rattle.geometry_model.specs.Points.{Position}
use Rattle.fraction.specs.Ranges.{IsOnGrid}
use Rattle.table_laws.specs.Cells.{is_within}
use Rattle.tiles.specs.Lines.{coordinate, low_part, high_part}
use Rattle.tiles.specs.declared.lines.Axis.{Axis}
use Rattle.tiles.specs.declared.lines.Axis.TheVariants.{X, Y}
use Rattle.tiles.specs.declared.lines.Line.{Line}

-- the other axis
abbrev pub other : Axis → Axis
other X = Y
other Y = X

-- the axis along which a box is longer; the first where both sides are equal
abbrev pub longer : Envelope → Axis
longer box = if int_lt (box.greatest_x -ℤ box.least_x) (box.greatest_y -ℤ box.least_y) then Y else X

-- all of a sample has one coordinate along an axis, so no line across it parts the sample
abbrev pub HasOneCoordinate : Axis → List Position → Type 0
HasOneCoordinate axis sample = (z : ℤ) × All (λ p. coordinate axis p ≡ z) sample

-- a line is at the median of a sample, of which these lie before it and those behind: it is at the coordinate of one of them, and fewer
-- than half are past that; some are before it, but no more than half, unless all these have one coordinate
pub record IsMedian (line : Line) (before behind : List Position) : Type 0 where
  pub less : All (λ p. coordinate line.axis p <ℤ line.at) before
  pub not_less : All (λ p. line.at ≤ℤ coordinate line.axis p) behind
  pub some : 0 < length before
  pub reached : Any (λ p. coordinate line.axis p ≡ line.at) behind
  pub few_past : 2 * count_by (λ p. int_lt line.at (coordinate line.axis p)) behind < length before + length behind
  pub few_before : (length before ≤ length behind) ⊎ HasOneCoordinate line.axis before

-- some of a sample that is on the grid is before a line, and some is at it
abbrev pub HasBothSides : Line → List Position → Type 0
HasBothSides line sample =
    Any (λ p. IsOnGrid p × (coordinate line.axis p <ℤ line.at)) sample × Any (λ p. IsOnGrid p × (coordinate line.axis p ≡ line.at)) sample

-- what a sample has of the grid is within a box
abbrev pub LiesWithin : List Position → Envelope → Type 0
LiesWithin sample box = All (λ p. IsOnGrid p → is_within box p ≡ true) sample

-- a box is left whole if it has at most `most` of the sample, or all that it has lies at one position
abbrev pub StaysWhole : ℕ → List Position → Type 0
StaysWhole most sample = (length sample ≤ most) ⊎ ((axis : Axis) → HasOneCoordinate axis sample)

-- a box with more of the sample is cut in two at a median, along its longer side unless all has one coordinate there; how the two parts
-- are cut, `rest` says
pub record IsHalved (rest : List Position → Envelope → List Envelope → Type 0) (most : ℕ) (sample : List Position) (box : Envelope) (boxes : List Envelope) : Type 0 where
  pub line : Line
  pub before : List Position
  pub behind : List Position
  pub low : List Envelope
  pub high : List Envelope
  pub many : most < length sample
  pub parts : IsPermutation sample (before ++ behind)
  pub median : IsMedian line before behind
  pub along : (line.axis ≡ longer box) ⊎ HasOneCoordinate (longer box) sample
  pub joined : boxes ≡ low ++ high
  pub cut_low : rest before (low_part line.axis line.at box) low
  pub cut_high : rest behind (high_part line.axis line.at box) high

-- a box with a sample is cut into these boxes, each behind at most so many lines
unfoldable pub IsCutAtMedians : ℕ → ℕ → List Position → Envelope → List Envelope → Type 0
IsCutAtMedians zero most sample box boxes = boxes ≡ box ∷ []
IsCutAtMedians (suc lines) most sample box boxes =
    (StaysWhole most sample × (boxes ≡ box ∷ [])) ⊎ IsHalved (IsCutAtMedians lines most) most sample box boxes
