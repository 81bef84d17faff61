-- The line that says which field of a table holds a line end (this project's choice).
use Rattle.std.specs.Prelude.{ℕ, suc, zero, List, ◌++◌, codes, decimal}
use Rattle.record_reasons.specs.declared.line_ends.LineEnd.{LineEnd}

-- the words of the record of a number; that of number 0 is the header
abbrev pub record_words : ℕ → List ℕ
record_words zero = codes "header"
record_words (suc k) = codes "record " ++ decimal (suc k)

-- the line of a table with this name
abbrev pub note_line : List ℕ → LineEnd → List ℕ
note_line name at_field =
    codes "sfq: note: " ++ name ++ codes " " ++ record_words at_field.number ++ codes ": field " ++ decimal at_field.field ++ codes " holds a line end\n"
