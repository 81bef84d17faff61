-- What a word of a command line gives: its own text, or that of the file that it names.
use Rattle.std.specs.Prelude.{◌≡◌, ◌⊎◌, ◌≤◌, ◌<◌, ◌==◌, ⊤, ℕ, List, [], ◌∷◌, codes, length, if◌then◌else◌, Option, Some, None, IfSome, Result, Ok, Err}
use denote.Ref.{Bor}
use Rattle.failures.specs.declared.failure.Failure.{Failure}
use Rattle.failures.specs.declared.failure.Failure.TheVariants as f
use Rattle.table_model.specs.Tokens.{most_bytes}
use Rattle.table_model.specs.declared.faults.QueryFault.TheVariants as q
use Rattle.text_commands.specs.Files.{Opening}
use Rattle.text_commands.specs.declared.files.File.TheVariants as role

-- the path of the file that a word names: what comes after its `@`, which is 64
abbrev pub file_named : List ℕ → Option (List ℕ)
file_named [] = None
file_named (first ∷ rest) = if first == 64 then Some rest else None

-- the text of a reader is this one, if its bytes are known
abbrev pub IsTextOf : Option (List ℕ) → List ℕ → Type 0
IsTextOf None text = ⊤
IsTextOf (Some bytes) text = text ≡ bytes

-- the most bytes of a geometry's file: 16 MiB
abbrev pub most_geometry_bytes : ℕ
most_geometry_bytes = 16777216

-- the failure says that the file of this name can't be opened or read
abbrev pub IsUnreadable : List ℕ → Failure → Type 0
IsUnreadable name failure = (shown : Bor (List ℕ)) × (failure ≡ f.Unreadable shown) × (shown.now ≡ name)

-- the same, or that memory ran out
abbrev pub IsUnread : List ℕ → Failure → Type 0
IsUnread name failure = IsUnreadable name failure ⊎ (failure ≡ f.OutOfMemory)

-- the failure is that of a query that is too long, and a file whose bytes are known has too many
abbrev pub IsTooLong : Option (List ℕ) → Failure → Type 0
IsTooLong known failure = (failure ≡ f.Query q.TooLong) × IfSome known (λ bytes. most_bytes < length bytes)

-- what the file of the geometry of this name gives: its text, of at most 16 MiB; or it isn't read. No file is there where it
-- can't be opened
abbrev pub ReadsGeometry : {R : Type 0} → (R → Option (List ℕ)) → List ℕ → Option R → Result (List ℕ) Failure → Type 0
ReadsGeometry remaining name None (Ok text) = ⊥
ReadsGeometry remaining name None (Err failure) = IsUnreadable name failure
ReadsGeometry remaining name (Some reader) (Ok text) = IsTextOf (remaining reader) text × (length text ≤ most_geometry_bytes)
ReadsGeometry remaining name (Some reader) (Err failure) = IsUnread name failure

-- what the file of a query gives: its text, not longer than a query may be; or it is too long, or isn't read
abbrev pub ReadsQuery : {R : Type 0} → (R → Option (List ℕ)) → Option R → Result (List ℕ) Failure → Type 0
ReadsQuery remaining None (Ok text) = ⊥
ReadsQuery remaining None (Err failure) = IsUnreadable (codes "query") failure
ReadsQuery remaining (Some reader) (Ok text) = IsTextOf (remaining reader) text × (length text ≤ most_bytes)
ReadsQuery remaining (Some reader) (Err failure) = IsTooLong (remaining reader) failure ⊎ IsUnread (codes "query") failure

-- what a word gives that names no file, or the file at this path: itself, unless memory ran out; or what the file gives, which is
-- opened at the path
abbrev pub GivesBy : {F R : Type 0} → (F → List ℕ → Option R → F → Type 0) → (Option R → Result (List ℕ) Failure → Type 0)
    → F → List ℕ → Option (List ℕ) → Result (List ℕ) Failure → F → Type 0
GivesBy opens Reads opener word None (Ok text) after = (text ≡ word) × (after ≡ opener)
GivesBy opens Reads opener word None (Err failure) after = (failure ≡ f.OutOfMemory) × (after ≡ opener)
GivesBy {R = R} opens Reads opener word (Some path) result after = (file : Option R) × opens opener path file after × Reads file result

-- what a word gives, by a function that opens files and by what their text has to be
abbrev pub Gives : {F R : Type 0} → (F → List ℕ → Option R → F → Type 0) → (Option R → Result (List ℕ) Failure → Type 0)
    → F → List ℕ → Result (List ℕ) Failure → F → Type 0
Gives opens Reads opener word = GivesBy opens Reads opener word (file_named word)

module _ {F R : Type 0} (opens : Opening F R) (remaining : R → Option (List ℕ)) where
  -- what the word of the geometry of this name gives
  abbrev pub GivesGeometry : List ℕ → F → List ℕ → Result (List ℕ) Failure → F → Type 0
  GivesGeometry name = Gives (opens role.Geometry) (ReadsGeometry remaining name)

  -- two words give these texts, the first one's first
  abbrev pub GivesBoth : F → List ℕ → List ℕ → List ℕ → List ℕ → Type 0
  GivesBoth opener first second one other = (next after : F)
      × GivesGeometry (codes "first") opener first (Ok one) next
      × GivesGeometry (codes "second") next second (Ok other) after

  -- the first of them that gives none has this failure
  abbrev pub GivesNotBoth : F → List ℕ → List ℕ → Failure → Type 0
  GivesNotBoth opener first second failure =
      ((next : F) × GivesGeometry (codes "first") opener first (Err failure) next)
      ⊎ ((next after : F) × (one : List ℕ)
      × GivesGeometry (codes "first") opener first (Ok one) next
      × GivesGeometry (codes "second") next second (Err failure) after)
