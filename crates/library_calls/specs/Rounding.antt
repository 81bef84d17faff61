-- Positions of doubles, rounded to a grid.
use Rattle.std.specs.Prelude.{ℕ, suc, ℤ, pos, unsigned_abs, nat_le, if◌then◌else◌, cond, List, [], ◌∷◌, length, Option, Some, None}
use Rattle.std.specs.Option.{option_map_or}
use Rattle.geometry_model.specs.Points.{Position}
use Rattle.geometry_model.specs.WellKnownText.{coordinate_limit}
use Rattle.wkb.specs.BinaryReading.{are_finite}
use Rattle.wkb.specs.Doubles.{value}
use Rattle.wkb.specs.Grids.{Axis, nearest}
use Rattle.wkb.specs.declared.grids.Grid.{Grid}
use Rattle.wkb.specs.declared.pairs.Pair.{Pair}
use Rattle.library_calls.specs.Refusals.{first_refused, ok, too_small}

-- the nearest coordinate to a value; where it is past the limit, a number that is past it too (this project's choice)
abbrev pub rounded_step : Axis → ℤ → ℤ
rounded_step axis value = if nat_le (unsigned_abs (nearest axis value)) coordinate_limit then nearest axis value else pos 10000001

-- the nearest position to two doubles
abbrev pub rounded : Grid → Pair → Position
rounded grid p = record { x = rounded_step grid.x (value p.x); y = rounded_step grid.y (value p.y) }

-- the number of the first position of which a double is infinite or no number, counted from a number on
abbrev pub first_infinite : ℕ → List Pair → Option ℕ
first_infinite at [] = None
first_infinite at (p ∷ ps) = if are_finite p then first_infinite (suc at) ps else Some at

-- the status of rounding where memory is enough
abbrev pub status_of_rounding : List Pair → List Position → ℕ
status_of_rounding ps room = option_map_or (λ _. first_refused) (first_infinite 0 ps) (cond (nat_le (length ps) (length room)) ok too_small)
