-- A grid: which whole coordinates the positions of a source have, and how far a position is from its point of the grid.
use Rattle.std.specs.Prelude.{ℕ, ◌+◌, ◌*◌, ◌/◌, ◌^◌, ◌<◌, ◌≤◌, Bool, ℤ, pos, neg_ℤ, ◌+ℤ◌, ◌-ℤ◌, ◌*ℤ◌, ◌≤ℤ◌, ◌<ℤ◌, unsigned_abs}
use Rattle.std.specs.Int.{int_div_euclid}
use Rattle.std.specs.Ordering.{int_eq}
use Rattle.wkb.specs.Doubles.{one}

-- one axis of a grid: the size of a step and where 0 is, both counted in parts, and how many parts a unit of the source has (this project's choice)
pub record Axis : Type 0 where
  pub step : ℕ
  pub origin : ℤ
  pub parts : ℕ

-- the most parts of a step, and of a unit: 10 to the power of 15 (this project's choice)
abbrev pub unit_limit : ℕ
unit_limit = 1000000000000000

-- the furthest origin, in parts either way: 2 to the power of 63 (this project's choice)
abbrev pub origin_limit : ℕ
origin_limit = 2 ^ 63

-- a step has at least one part, and a unit does; neither is past the limit
pub record IsAxis (axis : Axis) : Type 0 where
  pub some_step : 0 < axis.step
  pub short_step : axis.step ≤ unit_limit
  pub some_parts : 0 < axis.parts
  pub few_parts : axis.parts ≤ unit_limit
  pub near_origin : unsigned_abs axis.origin ≤ origin_limit

-- how far a value is past a coordinate: in parts, each of them counted as a double is
abbrev pub past : Axis → ℤ → ℤ → ℤ
past axis value coordinate = value *ℤ pos axis.parts -ℤ (axis.origin +ℤ coordinate *ℤ pos axis.step) *ℤ pos one

-- no coordinate is nearer to the value, and of two that are as near this is the greater one: twice the way from it is at least a step back, and less than a step ahead
pub record IsNearest (axis : Axis) (value coordinate : ℤ) : Type 0 where
  pub not_before : neg_ℤ (pos (axis.step * one)) ≤ℤ (pos 2 *ℤ past axis value coordinate)
  pub not_behind : (pos 2 *ℤ past axis value coordinate) <ℤ pos (axis.step * one)

-- the nearest coordinate to a value: the greatest whole number of steps that isn't past it by more than half a step
unfoldable pub nearest : Axis → ℤ → ℤ
nearest axis value = int_div_euclid (pos 2 *ℤ past axis value (pos 0) +ℤ pos (axis.step * one)) (pos (2 * axis.step * one))

-- a tick is a part divided by 2 to the power of 20 (this project's choice)
abbrev pub ticks : ℕ
ticks = 2 ^ 20

-- whether a value is on the grid
unfoldable pub is_on : Axis → ℤ → Bool
is_on axis value = int_eq (past axis value (nearest axis value)) (pos 0)

-- how far a value is from its coordinate, in whole ticks: what is less than a tick doesn't count
unfoldable pub ticks_away : Axis → ℤ → ℕ
ticks_away axis value = unsigned_abs (past axis value (nearest axis value)) * ticks / one
