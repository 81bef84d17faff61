-- What is found on the way to the nearest double.
use Rattle.std.specs.Prelude.{◌≡◌, ℕ, ◌-◌, ◌*◌, ◌^◌, ◌<◌, ◌≤◌}
use Rattle.wkb.specs.Doubles.{one}
use Rattle.wkb.specs.declared.nearest_doubles.Scaled.{Scaled}

-- the quotient is that of the number and the unit of its exponent, as both are multiples of the same power of 2
pub record IsAlike (number parts : ℕ) (found : Scaled) : Type 0 where
  pub short_shift : found.shift ≤ 1074
  pub doubled : number * one ≡ found.number * 2 ^ (1074 - found.shift)
  pub measured : parts * 2 ^ found.exponent ≡ 2 ^ (1074 - found.shift) * found.unit
  pub some : 0 < found.unit
  pub short : found.unit < 2 ^ 126
  pub few : found.exponent < 2000

-- it is from 2 to the power of 52 up to 2 to the power of 54
pub record IsScaled (number parts : ℕ) (found : Scaled) : Type 0 where
  pub alike : IsAlike number parts found
  pub least : 2 ^ 52 * found.unit ≤ found.number
  pub most : found.number < 2 ^ 54 * found.unit
  pub tiny : found.unit < 2 ^ 75
  pub low : found.exponent < 1200

-- it is from 2 to the power of 52 up to 2 to the power of 53
pub record IsSignificand (number parts : ℕ) (found : Scaled) : Type 0 where
  pub alike : IsAlike number parts found
  pub least : 2 ^ 52 * found.unit ≤ found.number
  pub most : found.number < 2 ^ 53 * found.unit
