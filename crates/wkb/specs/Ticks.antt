-- Values counted in ticks: what the functions find on the way to a coordinate.
use Rattle.std.specs.Prelude.{◌≡◌, ℕ, ◌+◌, ◌-◌, ◌*◌, ◌/◌, ◌%◌, ◌^◌, ◌<◌, ◌≤◌, ◌==◌, Bool, true, false, not, cond, ℤ, pos, negsuc, neg_ℤ, ◌+ℤ◌, ◌*ℤ◌, ◌-ℤ◌, unsigned_abs}
use Rattle.std.specs.Int.{int_div_euclid}
use Rattle.std.specs.Ordering.{int_eq}
use Rattle.wkb.specs.Doubles.{magnitude, value, one}
use Rattle.wkb.specs.Grids.{Axis, ticks}
use Rattle.wkb.specs.declared.doubles.Parts.{Parts}
use Rattle.wkb.specs.declared.doubles.Ticks.{Ticks}

-- the size of a double times so many parts and the ticks of a part, counted as a double is
abbrev pub size : ℕ → ℕ → ℕ
size bits parts = magnitude bits * parts * ticks

-- a size has so many whole ticks, and a rest or none
pub record IsCounted (size : ℕ) (found : Parts) : Type 0 where
  pub whole : found.whole ≡ size / one
  pub rest : found.has_rest ≡ not (size % one == 0)
  pub within : found.whole < 2 ^ 124

-- whole ticks and perhaps a rest, rounded down once the sign is known
abbrev pub rounded_down : Bool → ℕ → Bool → ℤ
rounded_down false whole has_rest = pos whole
rounded_down true whole has_rest = neg_ℤ (pos (whole + cond has_rest 1 0))

-- a value times the parts of a unit and the ticks of a part, counted as a double is
abbrev pub in_ticks : ℕ → ℤ → ℤ
in_ticks parts value = value *ℤ pos parts *ℤ pos ticks

-- a way has so many ticks, rounded down, and a rest or none
pub record IsRoundedDown (way : ℤ) (found : Ticks) : Type 0 where
  pub down : found.down ≡ int_div_euclid way (pos one)
  pub rest : found.has_rest ≡ not (int_eq (found.down *ℤ pos one) way)
  pub within : unsigned_abs found.down ≤ 2 ^ 124

-- a way has 2 to the power of 96 ticks or more, either way
abbrev pub IsFar : ℤ → Type 0
IsFar way = 2 ^ 96 ≤ unsigned_abs (int_div_euclid way (pos one))

-- the nearest coordinate to a place, by the ticks from the origin on and half a step
abbrev pub nearest_tick : Axis → ℤ → ℤ
nearest_tick axis down = int_div_euclid (down +ℤ (pos axis.step *ℤ pos 524288 -ℤ axis.origin *ℤ pos 1048576)) (pos (axis.step * 1048576))

-- how many ticks a place is past a coordinate
abbrev pub ticks_past : Axis → ℤ → ℤ → ℤ
ticks_past axis down coordinate = down -ℤ axis.origin *ℤ pos 1048576 -ℤ coordinate *ℤ (pos axis.step *ℤ pos 1048576)

-- the whole ticks of a way that is rounded down to so many, and has a rest or none
abbrev pub whole_size : ℤ → Bool → ℕ
whole_size (pos n) has_rest = n
whole_size (negsuc n) has_rest = n + 1 - cond has_rest 1 0
