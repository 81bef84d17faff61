-- Notes on queries (this project's choice).
use Rattle.std.specs.Prelude.{◌≡◌, ◌⊎◌, ◌++◌, ℕ, List, [], codes}
use Rattle.explanations.specs.Marks.{IsMark}

-- the line of a note
abbrev pub noted : List ℕ → List ℕ
noted sentence = codes "sfq: note: " ++ sentence ++ codes "\n"

-- the two lines that show a place of a text, and the line of a note
abbrev pub IsNoteAt : List ℕ → ℕ → List ℕ → Type 0
IsNoteAt text place note = (lines sentence : List ℕ) × IsMark text place lines × (note ≡ lines ++ noted sentence)

-- nothing, or a note on a place of a text
abbrev pub IsNote : List ℕ → List ℕ → Type 0
IsNote text note = (note ≡ []) ⊎ ((place : ℕ) × IsNoteAt text place note)

-- the second text is the first with a note behind it, or with nothing
abbrev pub AddsNote : List ℕ → List ℕ → List ℕ → Type 0
AddsNote text before notes = (more : List ℕ) × IsNote text more × (notes ≡ before ++ more)

-- at most two notes, one behind the other
abbrev pub AreNotes : List ℕ → List ℕ → Type 0
AreNotes text notes = (first : List ℕ) × IsNote text first × AddsNote text first notes
