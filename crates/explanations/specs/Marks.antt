-- How a line is shown, with a caret below a place of it (this project's choice).
use Rattle.std.specs.Prelude.{◌≡◌, ◌++◌, ◌-◌, ◌+◌, ◌≤◌, ◌<◌, ◌&&◌, ◌||◌, ◌==◌, not, Option, Some, None, ℕ, Bool, true, false, List, [], ◌∷◌, codes, decimal, drop, if◌then◌else◌, length, min, nat_le, nat_lt, replicate, take}
use Rattle.std.specs.List.{count_by, flat_map, list_any}
use Rattle.std.specs.Str.{chars, is_utf8}
use Rattle.std.specs.Char.Escape.{escape_ascii}
use Rattle.explanations.specs.Lines.{IsLine, IsWhite, line_number}

-- whether a byte is shown as it is: printable ASCII; and one of a character that isn't ASCII, in a text that is shown in UTF-8
abbrev pub is_shown : Bool → ℕ → Bool
is_shown utf8 byte = (nat_le 32 byte && nat_lt byte 127) || (utf8 && nat_le 128 byte)

-- a byte as it is shown: itself, or its escape, as in Rust
abbrev pub shown_byte : Bool → ℕ → List ℕ
shown_byte utf8 byte = if is_shown utf8 byte then byte ∷ [] else escape_ascii byte

-- whether a character isn't seen, or is obeyed by terminals: one of control, of direction or of no width (which: this project's choice)
abbrev pub is_hidden : ℕ → Bool
is_hidden code =
    (nat_le 128 code && nat_lt code 160) || (code == 1564) || (nat_le 8203 code && nat_lt code 8208)
    || (nat_le 8232 code && nat_lt code 8239) || (nat_le 8288 code && nat_lt code 8304) || (code == 65279)
    || (nat_le 917504 code && nat_lt code 917632)

-- whether bytes are shown as the characters that they spell: they are UTF-8, and none of these is hidden
abbrev pub is_plain : List ℕ → Bool
is_plain bytes = is_utf8 bytes && not (list_any is_hidden (chars bytes))

-- bytes as they are shown
abbrev pub shown : Bool → List ℕ → List ℕ
shown utf8 bytes = flat_map (shown_byte utf8) bytes

-- whether a byte begins a character of UTF-8
abbrev pub begins_character : ℕ → Bool
begins_character byte = nat_lt byte 128 || nat_le 192 byte

-- how many characters a text in UTF-8 has
abbrev pub characters : List ℕ → ℕ
characters bytes = count_by begins_character bytes

-- how many columns a byte takes that is shown, at most: four of an escape, two of that of a tab or a carriage return, and none of a byte behind the
-- first of its character
abbrev pub width : Bool → ℕ → ℕ
width utf8 byte =
    if utf8 && not (begins_character byte) then 0
    else if is_shown utf8 byte then 1
    else if byte == 9 || byte == 13 then 2
    else 4

-- how many columns bytes take that are shown, at most
abbrev pub columns : Bool → List ℕ → ℕ
columns utf8 [] = 0
columns utf8 (byte ∷ more) = width utf8 byte + columns utf8 more

-- two dots where a line is cut
abbrev pub dots : Bool → List ℕ
dots true = codes ".."
dots false = []

-- a number in at least three columns
abbrev pub numbered : ℕ → List ℕ
numbered number = replicate (3 - length (decimal number)) 32 ++ decimal number

-- two lines: a number, a bar and a text; and a bar and a caret below the place where the text's second part begins
abbrev pub two_lines : List ℕ → List ℕ → List ℕ → List ℕ
two_lines number before after =
    number ++ codes " | " ++ before ++ after ++ codes "\n"
    ++ replicate (length number) 32 ++ codes " | " ++ replicate (characters before) 32 ++ codes "^\n"

-- one line: a number, a bar and a text in two parts
abbrev pub one_line : List ℕ → List ℕ → List ℕ → List ℕ
one_line number before after = number ++ codes " | " ++ before ++ after ++ codes "\n"

-- the lines with a caret or without
abbrev pub shown_lines : Bool → List ℕ → List ℕ → List ℕ → List ℕ
shown_lines true number before after = two_lines number before after
shown_lines false number before after = one_line number before after

-- the two lines show the line of a place: with the line's number, and with the caret below the byte at the place. They show the line from
-- one place of the text to another, with dots where it goes on, which is where one more byte may take more than 100 columns before the place, or more
-- than 60 from it on; white space at its end is left out. Without a caret it is the first of the two
pub record IsMarkAt (has_caret : Bool) (text : List ℕ) (place : ℕ) (lines : List ℕ) : Type 0 where
  pub start : ℕ
  pub end : ℕ
  pub line : IsLine text place start end
  pub from : ℕ
  pub to : ℕ
  pub last : ℕ
  pub from_within : (start ≤ from) × (from ≤ place)
  pub to_within : (place ≤ to) × (to ≤ last) × (last ≤ end)
  pub white : IsWhite text last end
  pub utf8 : Bool
  pub plain : utf8 ≡ is_plain (drop start (take end text))
  pub fits_before : columns utf8 (drop from (take place text)) ≤ 100
  pub cut_before : start < from → 96 < columns utf8 (drop from (take place text))
  pub fits_after : columns utf8 (drop place (take to text)) ≤ 60
  pub cut_after : to < last → 56 < columns utf8 (drop place (take to text))
  pub is : lines ≡ shown_lines has_caret (numbered (line_number text place))
      (dots (nat_lt start from) ++ shown utf8 (drop from (take place text)))
      (shown utf8 (drop place (take to text)) ++ dots (nat_lt to last))

-- the same, but a place in the white space at a text's end, or past it, is shown as that where this white space begins
pub record IsShown (has_caret : Bool) (text : List ℕ) (place : ℕ) (lines : List ℕ) : Type 0 where
  pub end : ℕ
  pub within : end ≤ length text
  pub white : IsWhite text end (length text)
  pub marks : IsMarkAt has_caret text (min place end) lines

abbrev pub IsMark : List ℕ → ℕ → List ℕ → Type 0
IsMark text place lines = IsShown true text place lines

-- a path is shown from one of its bytes on, with dots if that isn't the first, since one more byte may take more than 100 columns
pub record IsPath (path shown_path : List ℕ) : Type 0 where
  pub from : ℕ
  pub within : from ≤ length path
  pub utf8 : Bool
  pub plain : utf8 ≡ is_plain path
  pub fits : columns utf8 (drop from path) ≤ 100
  pub cut : 0 < from → 96 < columns utf8 (drop from path)
  pub is : shown_path ≡ dots (nat_lt 0 from) ++ shown utf8 (drop from path)

-- ---- explanations

-- a line that says something
abbrev pub said : List ℕ → List ℕ
said sentence = codes "sfq: " ++ sentence ++ codes "\n"

-- an explanation of a fault at a place of a text, or of one without a place: the two lines that show the place, and a sentence
abbrev pub IsExplanation : List ℕ → Option ℕ → List ℕ → Type 0
IsExplanation text None explanation = (sentence : List ℕ) × (explanation ≡ said sentence)
IsExplanation text (Some place) explanation =
    (lines sentence : List ℕ) × IsMark text place lines × (explanation ≡ lines ++ said sentence)

-- the explanation that has this sentence
abbrev pub IsExplanationBy : List ℕ → List ℕ → Option ℕ → List ℕ → Type 0
IsExplanationBy sentence text None explanation = explanation ≡ said sentence
IsExplanationBy sentence text (Some place) explanation =
    (lines : List ℕ) × IsMark text place lines × (explanation ≡ lines ++ said sentence)

-- what is said of the file at a path: the path, and these words
abbrev pub SaysOfFile : List ℕ → List ℕ → List ℕ → Type 0
SaysOfFile path words line = (shown_path : List ℕ) × IsPath path shown_path × (line ≡ said (shown_path ++ words))
