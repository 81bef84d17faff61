-- The line of a text that a place is in. Lines end at line feeds (this project's choice).
use Rattle.std.specs.Prelude.{◌≡◌, ◌≢◌, ◌⊎◌, ◌+◌, ◌-◌, ◌≤◌, ◌<◌, ◌==◌, ◌||◌, ℕ, Bool, true, List, length, slice_index, take}
use Rattle.std.specs.List.{count_by}

-- whether a byte ends a line: a line feed, which is 10
abbrev pub ends_line : ℕ → Bool
ends_line byte = byte == 10

-- the number of the line of a place, from 1: one more than the line feeds before the place
abbrev pub line_number : List ℕ → ℕ → ℕ
line_number text place = count_by ends_line (take place text) + 1

-- the line of a place is from this place of the text to that one: before it is nothing or a line feed, after it the text's end or a line
-- feed, and in it none
pub record IsLine (text : List ℕ) (place start end : ℕ) : Type 0 where
  pub from : start ≤ place
  pub to : place ≤ end
  pub within : end ≤ length text
  pub begins : (start ≡ 0) ⊎ (slice_index text (start - 1) ≡ 10)
  pub ends : (end ≡ length text) ⊎ (slice_index text end ≡ 10)
  pub whole : (k : ℕ) → start ≤ k → k < end → slice_index text k ≢ 10

-- whether a byte is white space: a blank, a tab, a line feed or a carriage return
abbrev pub is_white : ℕ → Bool
is_white byte = byte == 32 || byte == 9 || byte == 10 || byte == 13

-- the bytes of a text from one place to another are white space
abbrev pub IsWhite : List ℕ → ℕ → ℕ → Type 0
IsWhite text from to = (k : ℕ) → from ≤ k → k < to → is_white (slice_index text k) ≡ true
