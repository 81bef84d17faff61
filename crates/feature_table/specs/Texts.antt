-- Texts in one list of bytes.
use Rattle.std.specs.Prelude.{◌-◌, ◌≤◌, ℕ, List, drop, take}
use Rattle.std.specs.Str.{IsCharBoundary}
use Rattle.feature_table.specs.declared.texts.Cut.{Cut}

-- the text of a cut
abbrev pub text_at : List ℕ → Cut → List ℕ
text_at all cut = take (cut.end - cut.start) (drop cut.start all)

-- a cut is between characters
abbrev pub IsCut : List ℕ → Cut → Type 0
IsCut all cut = (cut.start ≤ cut.end) × IsCharBoundary all cut.start × IsCharBoundary all cut.end
