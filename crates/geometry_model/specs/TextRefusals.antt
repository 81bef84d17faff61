-- Which texts are refused, and with which fault. This is said without a reader, by the bytes before the fault.
use Rattle.std.specs.Prelude.{◌≡◌, ℕ, ◌+◌, ◌<◌, ◌==◌, ◌||◌, ◌⊎◌, Bool, true, false, List, ◌++◌, length, codes}
use Rattle.std.specs.List.{list_any}
use Rattle.std.specs.Char.{is_ascii_digit}
use Rattle.std.specs.Str.Parse.{digits_value}
use Rattle.geometry_model.specs.Geometries.{Geometry}
use Rattle.geometry_model.specs.WellKnownText.{begins_with, Numeral, Writes, Spells, Begins, is_whole, coordinate_limit, position_limit, part_limit, written_positions, written_parts}
use Rattle.geometry_model.specs.declared.text_faults.TextFault.{TextFault}
use Rattle.geometry_model.specs.declared.text_faults.TextFault.TheVariants.{Syntax, OffGrid, OutOfRange, TooLong}

-- a number can follow this front of a text: a plus sign can, and it only ever begins a number
abbrev pub TakesNumber : List ℕ → Type 0
TakesNumber front = Begins (front ++ codes "+")

-- the longest number at the front of the text has this sign and these digits: no digit follows it, and no point unless it has one
-- (06-103r4, 7.2.2: signed numeric literal)
pub record IsFirstNumber (text : List ℕ) (minus : Bool) (whole fraction : List ℕ) : Type 0 where
  pub number : List ℕ
  pub rest : List ℕ
  pub split : text ≡ number ++ rest
  pub numeral : Numeral minus whole fraction number
  pub no_digit : begins_with is_ascii_digit rest ≡ false
  pub no_point : (begins_with (λ c. c == 46) rest ≡ false) ⊎ (list_any (λ c. c == 46) number ≡ true)

-- at this byte a number may begin, and one with this sign and these digits does
pub record HasNumber (text : List ℕ) (at : ℕ) (minus : Bool) (whole fraction : List ℕ) : Type 0 where
  pub front : List ℕ
  pub tail : List ℕ
  pub split : text ≡ front ++ tail
  pub place : at ≡ length front
  pub begins : TakesNumber front
  pub number : IsFirstNumber tail minus whole fraction

-- W2: a digit after the number's point isn't 0
pub record IsOffGrid (text : List ℕ) (at : ℕ) : Type 0 where
  pub minus : Bool
  pub whole : List ℕ
  pub fraction : List ℕ
  pub number : HasNumber text at minus whole fraction
  pub not_whole : is_whole fraction ≡ false

-- W3: the number is whole and past the limit
pub record IsOutOfRange (text : List ℕ) (at : ℕ) : Type 0 where
  pub minus : Bool
  pub whole : List ℕ
  pub fraction : List ℕ
  pub number : HasNumber text at minus whole fraction
  pub is_whole : is_whole fraction ≡ true
  pub past : coordinate_limit < digits_value 10 whole

-- a byte with which a number or a part can go on or begin: a digit, or an opening parenthesis
abbrev pub begins_more : ℕ → Bool
begins_more c = is_ascii_digit c || c == 40

-- W4 for a position: the first position past the limit begins here, as `+0 0` and parentheses after the front show
pub record HasTooManyPositions (text : List ℕ) : Type 0 where
  pub front : List ℕ
  pub tail : List ℕ
  pub split : text ≡ front ++ tail
  pub minus : Bool
  pub whole : List ℕ
  pub fraction : List ℕ
  pub number : IsFirstNumber tail minus whole fraction
  pub closing : List ℕ
  pub no_more : list_any begins_more closing ≡ false
  pub written : Geometry
  pub spelled : Writes written (front ++ codes "+0 0" ++ closing)
  pub counted : length (written_positions written) ≡ position_limit + 1

-- W4 for a part: the first part past the limit begins here, shown in the same way
pub record HasTooManyParts (text : List ℕ) : Type 0 where
  pub front : List ℕ
  pub tail : List ℕ
  pub split : text ≡ front ++ codes "(" ++ tail
  pub closing : List ℕ
  pub no_more : list_any begins_more closing ≡ false
  pub written : Geometry
  pub spelled : Writes written (front ++ codes "(+0 0" ++ closing)
  pub counted : length (written_parts written) ≡ part_limit + 1

-- the fault is W2, W3 or W4, and applies
abbrev pub IsRefusedAs : List ℕ → TextFault → Type 0
IsRefusedAs text (Syntax at) = ⊥
IsRefusedAs text (OffGrid at) = IsOffGrid text at
IsRefusedAs text (OutOfRange at) = IsOutOfRange text at
IsRefusedAs text TooLong = HasTooManyPositions text ⊎ HasTooManyParts text

-- the refusal of a text; W1 applies if it spells nothing and no other applies (only examples show the byte of W1)
abbrev pub IsRefused : List ℕ → TextFault → Type 0
IsRefused text (Syntax at) = ((g : Geometry) → Spells text g → ⊥) × ((fault : TextFault) → IsRefusedAs text fault → ⊥)
IsRefused text (OffGrid at) = IsOffGrid text at
IsRefused text (OutOfRange at) = IsOutOfRange text at
IsRefused text TooLong = HasTooManyPositions text ⊎ HasTooManyParts text
