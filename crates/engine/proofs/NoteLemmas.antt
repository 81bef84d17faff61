-- What is written of tables that have loaded, one after another.
use Rattle.std.proofs.Common.{◌≡◌, ◌+◌, ◌≤◌, inl, inr, ℕ, Bool, true, List, [], ◌∷◌, ◌++◌, length, take, add-one, refl, subst, sym, Option, Some}
use Rattle.std.specs.Prelude.{slice_get}
use Rattle.std.proofs.lemmas.List.{take_all}
use Rattle.engine.proofs.FileLemmas.{take-more}
use Rattle.engine.specs.Commands.{MayNoteText, NotesTable, NotesTables, ReadsAgain}
use Rattle.text_commands.specs.Files.{Opening}

module _ {F R E : Type 0} (files : Opening F R) (remaining : R → Option (List ℕ)) (taken : E → Option (List ℕ))
    (failures : E → ℕ) (directory : List ℕ) where
  -- a text that was read again is noted, or isn't
  pub noted : (name : List ℕ) (before after : F) (old new : E) (text : List ℕ) (whole : Bool)
      → ReadsAgain files remaining directory name before after text whole → whole ≡ true
      → MayNoteText taken failures name text old new
      → NotesTable files remaining taken failures directory name before after old new
  noted name before after old new text whole read is said =
      inr (text, subst (ReadsAgain files remaining directory name before after text) is read, said)

  pub not-noted : (name : List ℕ) (before after : F) (sink : E) (text : List ℕ) (whole : Bool)
      → ReadsAgain files remaining directory name before after text whole
      → NotesTable files remaining taken failures directory name before after sink sink
  not-noted name before after sink text whole read = inl (inr (Some read.reader, read.opened), refl)

  -- one table more
  one-more : (names : List (List ℕ)) (name : List ℕ) (before middle after : F) (old next new : E)
      → NotesTables files remaining taken failures directory names before middle old next
      → NotesTable files remaining taken failures directory name middle after next new
      → NotesTables files remaining taken failures directory (names ++ name ∷ []) before after old new
  one-more [] name before middle after old next new had note =
      let of_sink = subst (λ e. NotesTable files remaining taken failures directory name middle after e new) had.1 note in (
        after,
        new,
        subst (λ s. NotesTable files remaining taken failures directory name s after old new) had.0 of_sink,
        (refl, refl),
      )
  one-more (n ∷ names) name before middle after old next new had note =
      (had.0, had.1, had.2, one-more names name had.0 middle after had.1 next new had.3 note)

  -- that at a place
  pub note-next : (names : List (List ℕ)) (i : ℕ) (name : List ℕ) (before middle after : F) (old next new : E) → slice_get
      names i ≡ Some name
      → NotesTables files remaining taken failures directory (take i names) before middle old next
      → NotesTable files remaining taken failures directory name middle after next new
      → NotesTables files remaining taken failures directory (take (i + 1) names) before after old new
  note-next names i name before middle after old next new there had note =
      rw add-one (subst (λ ns. NotesTables files remaining taken failures directory ns before after old new)
      (sym (take-more names i name there))
      (one-more (take i names) name before middle after old next new had note))

  -- all of them
  pub all-noted : (names : List (List ℕ)) (i : ℕ) (before after : F) (old new : E) → length names ≤ i
      → NotesTables files remaining taken failures directory (take i names) before after old new
      → NotesTables files remaining taken failures directory names before after old new
  all-noted names i before after old new past notes =
      subst (λ ns. NotesTables files remaining taken failures directory ns before after old new) (take_all i names past) notes
