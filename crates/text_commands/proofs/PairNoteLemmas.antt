-- What was noted of the pairs of a text so far.
use Rattle.std.proofs.Common.{◌≡◌, ◌∙◌, ◌+◌, ◌++◌, ◌≤◌, ◌⊎◌, inl, inr}
use Rattle.std.proofs.Common.{ℕ, Bool, true, false, List, [], ◌∷◌, Option, Some, Result, Ok, Err}
use Rattle.std.proofs.Common.{ap, arith, length, refl, subst, sym, append-nil, length-append}
use Rattle.std.specs.Prelude.{slice_get}
use Rattle.std.specs.Io.KnownBytes.{Appends}
use Rattle.std.specs.List.{concat}
use Rattle.std.proofs.lemmas.List.Folds.{concat-append}
use Rattle.basics.proofs.Lists.{behind, found_in_front}
use Rattle.basics.specs.Counts.{one_more}
use Rattle.failures.specs.Ends.{End, Writes}
use Rattle.failures.specs.declared.failure.Failure.{Failure}
use Rattle.streams.proofs.SinkLemmas.{Appends-none, Appends-then, AppendsFront-then}
use Rattle.table_model.specs.Loading.{Record}
use Rattle.text_commands.specs.PairNotes.{AreNotes, ExplainsEnd, IsFirst, IsNote, IsNoteOf, NotesPair, NotesPairs, PutsNote, counted}
use Rattle.text_commands.specs.TextCommands.{end_of}
use Rattle.text_commands.specs.declared.pair_notes.Notes.{Notes}
use Rattle.text_commands.specs.declared.pair_notes.Notes.TheVariants as n
use Rattle.text_commands.specs.declared.runs.Pairs.{Pairs}

-- what notes some records notes records of a longer list
pub notes_longer : (read more : List Record) (lines : List (List ℕ)) → AreNotes read lines → AreNotes (read ++ more) lines
notes_longer read more [] notes = tt
notes_longer read more (line ∷ lines) ((place, fields, is, note), rest) =
    ((place, fields, found_in_front read more place fields is, note), notes_longer read more lines rest)

-- one note more
notes_more : (read : List Record) (lines : List (List ℕ)) (line : List ℕ) → AreNotes read lines → IsNoteOf read line
    → AreNotes read (lines ++ line ∷ [])
notes_more read [] line notes note = (note, tt)
notes_more read (first ∷ lines) line (here, rest) note = (here, notes_more read lines line rest note)

-- how many lines note pairs: as many as are counted, while pairs are noted, and at most 100
abbrev pub HasLines : Notes → ℕ → Type 0
HasLines (n.Open count) lines = (lines ≡ count) × (lines ≤ 100)
HasLines n.Closed lines = lines ≤ 100

-- a text was written; where pairs are noted no more, perhaps only a beginning of it
abbrev pub WritesNotes : Notes → Option (List ℕ) → Option (List ℕ) → ℕ → ℕ → List ℕ → Type 0
WritesNotes (n.Open count) old new before after text = Appends old new text × (after ≡ before)
WritesNotes n.Closed old new before after text = Writes old new before after text

-- these records were read, and lines that note some of them were written
pub record Noted (read : List Record) (notes : Notes) (old new : Option (List ℕ)) (before after : ℕ) : Type 0 where
  pub lines : List (List ℕ)
  pub note : AreNotes read lines
  pub few : HasLines notes (length lines)
  pub written : WritesNotes notes old new before after (concat lines)

-- before the first record nothing was noted
pub none_noted : (notes : Notes) (old : Option (List ℕ)) (before : ℕ) → IsFirst notes → Noted [] notes old old before before
none_noted (n.Open count) old before first =
    record { lines = []; note = tt; few = (sym first, omega arith); written = (Appends-none old, refl) }
none_noted n.Closed old before first =
    record { lines = []; note = tt; few = omega arith; written = inl (Appends-none old, refl) }

-- at most 100 lines were written, or a beginning of them
pub ended : (notes : Notes) {read : List Record} {old new : Option (List ℕ)} {before after : ℕ}
    (m : Noted read notes old new before after) → (length m.lines ≤ 100) × Writes old new before after (concat m.lines)
ended (n.Open count) m = (m.few.1, inl m.written)
ended n.Closed m = (m.few, m.written)

-- a text was written behind another
writes_then : (a b c : Option (List ℕ)) (before between after : ℕ) (x y : List ℕ) → Appends a b x → between ≡ before
    → Writes b c between after y → Writes a c before after (x ++ y)
writes_then a b c before between after x y put same (inl w) = inl (Appends-then a b c x y put w.0, w.1 ∙ same)
writes_then a b c before between after x y put same (inr w) =
    inr (AppendsFront-then a b c x y put w.0, w.1 ∙ ap one_more same)

-- and behind the lines that note pairs, or nothing was
pub last_written : {M : Type 0} (taken : M → Option (List ℕ)) (failures : M → ℕ) (first last more : M) (text : List ℕ)
    {read : List Record} (notes : Notes) (m : Noted read notes (taken first) (taken last) (failures first) (failures last))
    → (notes ≡ n.Closed → more ≡ last)
    → (more ≡ last) ⊎ Writes (taken last) (taken more) (failures last) (failures more) text
    → (more ≡ last) ⊎ Writes (taken first) (taken more) (failures first) (failures more) (concat m.lines ++ text)
last_written taken failures first last more text notes m closed (inl same) = inl same
last_written taken failures first last more text (n.Open count) m closed (inr w) =
    inr (writes_then (taken first) (taken last) (taken more) (failures first) (failures last) (failures more) (concat m.lines)
    text m.written.0 m.written.1 w)
last_written taken failures first last more text n.Closed m closed (inr w) = inl (closed refl)

-- the record after some isn't noted
passed : {read : List Record} {notes : Notes} {old new : Option (List ℕ)} {before after : ℕ} (fields : Record)
    → Noted read notes old new before after → Noted (read ++ fields ∷ []) notes old new before after
passed {read = read} fields m =
    record { lines = m.lines; note = notes_longer read (fields ∷ []) m.lines m.note; few = m.few; written = m.written }

-- the notes of some records, and that of the next
with_note : (read : List Record) (fields : Record) (place : ℕ) (lines : List (List ℕ)) (line : List ℕ) → length read ≡ place
    → AreNotes read lines → IsNote (place + 1) fields line → AreNotes (read ++ fields ∷ []) (lines ++ line ∷ [])
with_note read fields place lines line size notes note =
    notes_more (read ++ fields ∷ []) lines line (notes_longer read (fields ∷ []) lines notes) (
      place,
      fields,
      subst (λ n. slice_get (read ++ fields ∷ []) n ≡ Some fields) (omega (arith, size)) (behind read (fields ∷ []) 0),
      note,
    )

-- the lines of some notes and one more
lines_more : (lines : List (List ℕ)) (line : List ℕ) → concat (lines ++ line ∷ []) ≡ concat lines ++ line
lines_more lines line = concat-append lines (line ∷ []) ∙ ap (λ l. concat lines ++ l) (append-nil line)

-- the record after some was taken, and noted if it is refused
pub next_note : (read : List Record) (fields : Record) (place : ℕ) (notes next : Notes) (old middle new : Option (List ℕ))
    (before between last : ℕ) → length read ≡ place → Noted read notes old middle before between
    → NotesPair notes (place + 1) fields next middle new between last → Noted (read ++ fields ∷ []) next old new before last
next_note read fields place (n.Open count) (n.Open next) old middle new before between last size m (inl (is, kept, same)) =
    rw (is, kept, same) (passed fields m)
next_note read fields place (n.Open count) (n.Open next) old middle new before between last size m
    (inr (few, is, (line, note, put, same))) =
    let more = length-append m.lines (line ∷ []) in
    let counted = m.few.0 in record {
      lines = m.lines ++ line ∷ [];
      note = with_note read fields place m.lines line size m.note note;
      few = (omega (arith, more, counted, is), omega (arith, more, counted, few));
      written = (
        rw lines_more (Appends-then old middle new (concat m.lines) line m.written.0 put),
        same ∙ m.written.1,
      );
    }
next_note read fields place (n.Open count) n.Closed old middle new before between last size m
    (few, (fault, (line, note, front, more))) =
    let further = length-append m.lines (line ∷ []) in
    let counted = m.few.0 in record {
      lines = m.lines ++ line ∷ [];
      note = with_note read fields place m.lines line size m.note note;
      few = omega (arith, further, counted, few);
      written = inr (
        rw lines_more (AppendsFront-then old middle new (concat m.lines) line m.written.0 front),
        more ∙ ap one_more m.written.1,
      );
    }
next_note read fields place n.Closed (n.Open next) old middle new before between last size m puts = absurd puts
next_note read fields place n.Closed n.Closed old middle new before between last size m (kept, same) =
    rw (kept, same) (passed fields m)

-- a line was written that notes the pair of a record, or none was to be
pub noted_pair : (count next number : ℕ) (fields : Record) (is_noted : Bool) (old new : Option (List ℕ)) (before after : ℕ)
    → count ≤ 99 → PutsNote number fields (Ok is_noted) old new before after → next ≡ counted count is_noted
    → NotesPair (n.Open count) number fields (n.Open next) old new before after
noted_pair count next number fields true old new before after few puts is = inr (few, is, puts)
noted_pair count next number fields false old new before after few puts is = inl (is, puts.0, puts.1)

-- how a run over pairs ended is how its command does
explains_end : (known : Option (List ℕ)) (result : Result Pairs Failure) (end : End) (line : List ℕ) → end ≡ end_of result
    → ExplainsEnd known result line → ExplainsEnd known end line
explains_end known result end line is (inl none) = inl none
explains_end known (Ok pairs) end line is (inr e) = absurd (cc e.2.1)
explains_end known (Err failure) end line is (inr e) =
    let same : failure ≡ e.2.0 = cc e.2.1 in
    inr (e.0, e.1, (e.2.0, is ∙ ap Err same, e.2.2), e.3, e.4)

pub notes_end : (known : Option (List ℕ)) (result : Result Pairs Failure) (end : End) (old new : Option (List ℕ))
    (before after : ℕ) → end ≡ end_of result → NotesPairs known result old new before after
    → NotesPairs known end old new before after
notes_end known result end old new before after is noted = record {
  records = noted.records;
  read = noted.read;
  lines = noted.lines;
  note = noted.note;
  few = noted.few;
  last = noted.last;
  explains = explains_end known result end noted.last is noted.explains;
  written = noted.written;
}
