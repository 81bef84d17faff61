-- The text of a field as a line shows it (this project's choice).
use Rattle.std.specs.Prelude.{ℕ, List, ◌++◌, [], codes, if◌then◌else◌, length, nat_lt, take}
use Rattle.std.specs.List.{flat_map}
use Rattle.std.specs.Char.Escape.{escape_ascii}
use Rattle.record_reasons.specs.declared.shown_texts.TheConstants.{SHOWN_BYTES}

-- bytes, with each quote, each backslash and each that isn't printable ASCII escaped as in Rust
abbrev pub escaped : List ℕ → List ℕ
escaped bytes = flat_map escape_ascii bytes

-- two dots after a field of more than 60 bytes
abbrev pub dots_after : List ℕ → List ℕ
dots_after field = if nat_lt SHOWN_BYTES (length field) then codes ".." else []

-- the first 60 bytes of a field, escaped, and two dots if it has more
abbrev pub shown_text : List ℕ → List ℕ
shown_text field = escaped (take SHOWN_BYTES field) ++ dots_after field
