-- The double that is nearest to a coordinate of a grid, by its bits.
use Rattle.std.specs.Prelude.{ℕ, zero, suc, ◌+◌, ◌*◌, ◌/◌, ◌%◌, ◌^◌, ◌==◌, Bool, ◌&&◌, ◌||◌, cond, ℤ, pos, negsuc, ◌+ℤ◌, ◌*ℤ◌, ◌≤◌, unsigned_abs, nat_lt, nat_le, if◌then◌else◌}
use Rattle.wkb.specs.Doubles.{one}
use Rattle.wkb.specs.Grids.{Axis}

-- the exponent of a size that is counted in the least double above 0 and then in parts: the greatest one, up to `most`, whose significands begin at the size or below; else 0 (IEEE 754-2019, 3.4)
unfoldable pub exponent_of : ℕ → ℕ → ℕ → ℕ
exponent_of zero parts size = 0
exponent_of (suc most) parts size = if nat_le (2 ^ 52 * (parts * 2 ^ suc most)) size then suc most else exponent_of most parts size

-- whether a quotient is rounded up: its rest is more than half of the unit, or half of it after an odd number (IEEE 754-2019, 4.3.1: roundTiesToEven)
abbrev pub goes_up : ℕ → ℕ → ℕ → Bool
goes_up quotient rest unit = nat_lt unit (rest * 2) || (rest * 2 == unit && quotient % 2 == 1)

-- a quotient rounded to the nearest whole number, and of two to the even one
abbrev pub rounded_to_even : ℕ → ℕ → ℕ
rounded_to_even size unit = size / unit + cond (goes_up (size / unit) (size % unit) unit) 1 0

-- the double of this exponent that is nearest to a size: its first significand, 2 to the power of 52, is written as 1 more in the exponent
abbrev pub double_of_exponent : ℕ → ℕ → ℕ → ℕ
double_of_exponent exponent parts size = exponent * 2 ^ 52 + rounded_to_even size (parts * 2 ^ exponent)

-- the greatest exponent of a double that is a number, less 1 (IEEE 754-2019, 3.4)
abbrev pub most_exponent : ℕ
most_exponent = 2045

-- the double that is nearest to so many parts of a unit that has so many parts, and of two the even one (IEEE 754-2019, 4.3.1: roundTiesToEven)
unfoldable pub nearest_size : ℕ → ℕ → ℕ
nearest_size number parts = double_of_exponent (exponent_of most_exponent parts (number * one)) parts (number * one)

-- the same with a sign; there is no -0
abbrev pub nearest_double : ℤ → ℕ → ℕ
nearest_double (pos number) parts = nearest_size number parts
nearest_double (negsuc number) parts = 2 ^ 63 + nearest_size (number + 1) parts

-- where a coordinate is in the source, in parts
abbrev pub place_of : Axis → ℤ → ℤ
place_of axis coordinate = coordinate *ℤ pos axis.step +ℤ axis.origin

-- the origin is at most 10 to the power of 14 steps away from 0 (this project's choice)
abbrev pub IsNear : Axis → Type 0
IsNear axis = unsigned_abs axis.origin ≤ 100000000000000 * axis.step

-- the double that is nearest to a coordinate
abbrev pub double_at : Axis → ℤ → ℕ
double_at axis coordinate = nearest_double (place_of axis coordinate) axis.parts
