-- What is written beside the lines of pairs, where more is asked for.
use Rattle.std.specs.Prelude.{◌≡◌, ◌++◌, ◌+◌, ◌≤◌, ◌⊎◌, ⊤, ℕ, Bool, true, false, List, [], ◌∷◌, Option, Some, Result, Ok, Err, codes, decimal, length, slice_get}
use Rattle.std.specs.Io.KnownBytes.{Appends}
use Rattle.std.specs.List.{concat}
use Rattle.basics.specs.Counts.{one_more}
use Rattle.explanations.specs.Marks.{said}
use Rattle.failures.specs.Ends.{Writes}
use Rattle.failures.specs.declared.failure.Failure.{Failure}
use Rattle.geometry_model.specs.declared.geometry_faults.GeometryFault.{GeometryFault}
use Rattle.streams.specs.Sinks.{AppendsFront}
use Rattle.streams.specs.declared.sink.SinkFault.{SinkFault}
use Rattle.table_model.specs.Loading.{Record}
use Rattle.text_commands.specs.Explanations.{HasFirst, HasNone}
use Rattle.text_commands.specs.Pairs.{AreRead, IsUnequal, field, pairs_before}
use Rattle.text_commands.specs.declared.pair_notes.Notes.{Notes}
use Rattle.text_commands.specs.declared.pair_notes.Notes.TheVariants as n

-- what is said of a record of this number (the form: this project's choice)
abbrev pub noted : ℕ → List ℕ → List ℕ → List ℕ
noted number word sentence = codes "record " ++ decimal number ++ codes ": " ++ word ++ codes ": " ++ sentence

-- a line notes a text that this word names: it has a fault
abbrev pub NotesText : ℕ → List ℕ → List ℕ → List ℕ → Type 0
NotesText number word text line =
    (fault : GeometryFault) × HasFirst text fault × ((sentence : List ℕ) × (line ≡ said (noted number word sentence)))

-- a line notes the record of this number: its first geometry has a fault, or only its second
abbrev pub IsNote : ℕ → Record → List ℕ → Type 0
IsNote number fields line =
    NotesText number (codes "first") (field fields 0) line
    ⊎ (HasNone (field fields 0) × NotesText number (codes "second") (field fields 1) line)

-- a line notes one of these records, by its number from 1
abbrev pub IsNoteOf : List Record → List ℕ → Type 0
IsNoteOf records line = (place : ℕ) × (fields : Record) × (slice_get records place ≡ Some fields) × IsNote (place + 1) fields line

-- each line does
abbrev pub AreNotes : List Record → List (List ℕ) → Type 0
AreNotes records [] = ⊤
AreNotes records (line ∷ lines) = IsNoteOf records line × AreNotes records lines

-- the first record that hasn't two fields has this number, from 1, and so many fields
abbrev pub IsFirstUnequal : Option (List ℕ) → ℕ → ℕ → Type 0
IsFirstUnequal known number fields =
    (records : List Record) × (uneven : Record) × AreRead known records × (slice_get records (pairs_before records) ≡ Some uneven)
    × (number ≡ pairs_before records + 1) × (fields ≡ length uneven)

-- what is said of a record of this number with so many fields in place of two (the form: this project's choice)
abbrev pub unequal_text : ℕ → ℕ → List ℕ
unequal_text number fields =
    codes "record " ++ decimal number ++ codes ": the number of its fields is " ++ decimal fields
    ++ codes ": write two geometries in a record, one with a comma in quotes"

-- a run ends at the record of this number, which hasn't two fields
abbrev pub EndsUnequal : {A : Type 0} → Result A Failure → ℕ → Type 0
EndsUnequal result number = (failure : Failure) × (result ≡ Err failure) × IsUnequal number failure

-- the line on the end of a run: none, or that of the record that isn't a pair
abbrev pub ExplainsEnd : {A : Type 0} → Option (List ℕ) → Result A Failure → List ℕ → Type 0
ExplainsEnd known result line =
    (line ≡ []) ⊎ ((number fields : ℕ) × EndsUnequal result number × IsFirstUnequal known number fields × (line ≡ said (unequal_text number fields)))

-- lines that note some of the records were written, at most 100, and behind them that on the end of the run; or a beginning of that if the sink
-- failed
pub record NotesPairs {A : Type 0} (known : Option (List ℕ)) (result : Result A Failure) (old new : Option (List ℕ)) (before after : ℕ) : Type 0 where
  pub records : List Record
  pub read : AreRead known records
  pub lines : List (List ℕ)
  pub note : AreNotes records lines
  pub few : length lines ≤ 100
  pub last : List ℕ
  pub explains : ExplainsEnd known result last
  pub written : Writes old new before after (concat lines ++ last)

-- nothing was written of pairs, or what notes them
abbrev pub MayNotePairs : {A E : Type 0} → (E → Option (List ℕ)) → (E → ℕ) → E → E → Option (List ℕ) → Result A Failure → Type 0
MayNotePairs taken failures old new known result =
    (new ≡ old) ⊎ NotesPairs known result (taken old) (taken new) (failures old) (failures new)

-- no pair was noted yet
abbrev pub IsFirst : Notes → Type 0
IsFirst (n.Open count) = count ≡ 0
IsFirst n.Closed = ⊤

-- what noting a record returns and writes: its line, or a beginning of it, or nothing
abbrev pub PutsNote : ℕ → Record → Result Bool SinkFault → Option (List ℕ) → Option (List ℕ) → ℕ → ℕ → Type 0
PutsNote number fields (Ok true) old new before after =
    (line : List ℕ) × IsNote number fields line × Appends old new line × (after ≡ before)
PutsNote number fields (Ok false) old new before after = (new ≡ old) × (after ≡ before)
PutsNote number fields (Err fault) old new before after =
    (line : List ℕ) × IsNote number fields line × AppendsFront old new line × (after ≡ one_more before)

-- how many records are noted, after one that may be
abbrev pub counted : ℕ → Bool → ℕ
counted count true = count + 1
counted count false = count

-- what noting the pair of a record writes and leaves: where notes are open and one of its geometries is refused, its line, and there is one more; or
-- a beginning of it, and they are closed; or nothing
abbrev pub NotesPair : Notes → ℕ → Record → Notes → Option (List ℕ) → Option (List ℕ) → ℕ → ℕ → Type 0
NotesPair (n.Open count) number fields (n.Open next) old new before after =
    ((next ≡ count) × (new ≡ old) × (after ≡ before))
    ⊎ ((count ≤ 99) × (next ≡ count + 1) × PutsNote number fields (Ok true) old new before after)
NotesPair (n.Open count) number fields n.Closed old new before after =
    (count ≤ 99) × ((fault : SinkFault) × PutsNote number fields (Err fault) old new before after)
NotesPair n.Closed number fields n.Closed old new before after = (new ≡ old) × (after ≡ before)
NotesPair n.Closed number fields (n.Open next) old new before after = ⊥
