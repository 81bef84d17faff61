-- What rounding a double to an axis finds.
use Rattle.std.specs.Prelude.{◌≡◌, ◌≤◌, ℤ, unsigned_abs}
use Rattle.geometry_model.specs.WellKnownText.{coordinate_limit}
use Rattle.wkb.specs.Grids.{Axis, nearest, is_on, ticks_away}
use Rattle.wkb.specs.declared.grids.Rounded.{Rounded}

-- the nearest coordinate, which is within the limit, whether the value is exactly there, and how far it is from there
pub record IsRounded (axis : Axis) (value : ℤ) (found : Rounded) : Type 0 where
  pub coordinate : found.coordinate ≡ nearest axis value
  pub within : unsigned_abs found.coordinate ≤ coordinate_limit
  pub is_on : found.is_on ≡ is_on axis value
  pub moved : found.moved ≡ ticks_away axis value
