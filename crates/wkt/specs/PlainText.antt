-- Numbers and positions as most writers spell them: what the readers find where a text begins with one.
use Rattle.std.specs.Prelude.{◌≡◌, ℕ, ◌+◌, ◌-◌, ◌<◌, ◌≤◌, ◌==◌, ℤ, pos, neg_ℤ, Bool, true, false, List, ◌∷◌, length, take, drop, Ok}
use Rattle.std.specs.Char.{is_ascii_digit}
use Rattle.std.specs.List.{prefix_len}
use Rattle.std.specs.Str.Parse.{digits_value}
use Rattle.geometry_model.specs.Points.{Position}
use Rattle.geometry_model.specs.TextReading.{Reader, ◌>>=◌, begins_with, numeral, coordinate, position}
use Rattle.geometry_model.specs.WellKnownText.{coordinate_limit, is_white}

-- the reader finds this value at the beginning of the text, wherever that is, and leaves the rest
abbrev pub Finds : {A : Type 0} → Reader A → List ℕ → A → List ℕ → Type 0
Finds step text x rest = (at : ℕ) → step (record { left = text; at = at }) ≡ Ok (x, record { left = rest; at = at + (length text - length rest) })

-- a number, and then the coordinate that it writes
abbrev pub whole_number : Reader ℤ
whole_number = numeral >>= coordinate

-- the text is this one, behind a minus or not
abbrev pub IsSigned : List ℕ → Bool → List ℕ → Type 0
IsSigned text true unsigned = text ≡ 45 ∷ unsigned
IsSigned text false unsigned = (unsigned ≡ text) × (begins_with (λ b. b == 45) text ≡ false)

-- the digits at the beginning of the text write this number within the limit, and the rest comes after them
pub record IsDigits (text : List ℕ) (n : ℕ) (rest : List ℕ) : Type 0 where
  pub value : n ≡ digits_value 10 (take (prefix_len is_ascii_digit text) text)
  pub rest_is : rest ≡ drop (prefix_len is_ascii_digit text) text
  pub within : n ≤ coordinate_limit

-- the coordinate of this size, negative behind a minus
abbrev pub signed_size : Bool → ℕ → ℤ
signed_size false size = pos size
signed_size true size = neg_ℤ (pos size)

-- the text begins with a number, which writes this coordinate, and the rest comes after it
pub record BeginsWithNumber (text : List ℕ) (x : ℤ) (rest : List ℕ) : Type 0 where
  pub found : Finds whole_number text x rest
  pub shorter : length rest ≤ length text
  pub not_white : begins_with is_white text ≡ false

-- the text begins with this position, and the rest comes after it
pub record BeginsWithPosition (text : List ℕ) (p : Position) (rest : List ℕ) : Type 0 where
  pub found : (room : ℕ) → 0 < room → Finds (position room) text p rest
  pub shorter : length rest ≤ length text
