-- What a writer of records holds, and what writing one does to a sink's count of failures.
use Rattle.std.specs.Prelude.{◌≡◌, ◌==◌, ℕ, Bool, true, false, not, List, [], ◌∷◌, ◌++◌, length, if◌then◌else◌, Option, OnErr, OnOk, Result, Ok, Err}
use Rattle.std.specs.Io.KnownBytes.{Appends}
use Rattle.csv.specs.Writing.{comma, default_writer, row_body, tail_text}
use Rattle.basics.specs.Counts.{one_more}
use Rattle.streams.specs.Sinks.{AppendsFront}
use Rattle.streams.specs.declared.put_fault.PutFault.{PutFault}
use Rattle.streams.specs.declared.put_fault.PutFault.TheVariants as put
use Rattle.streams.specs.declared.record_writer.RecordWriter.{RecordWriter}

-- the next record can be written: nothing is left of those before it
abbrev pub IsReady : RecordWriter → Type 0
IsReady w = (w.line.items ≡ []) × (w.has_field ≡ false) × (w.is_begun ≡ false)

-- how many failures a call that may also run out of memory adds to a sink's count: one if the sink failed, else none
abbrev pub CountsPut : {A : Type 0} → ℕ → ℕ → Result A PutFault → Type 0
CountsPut old new (Ok a) = new ≡ old
CountsPut old new (Err put.Sink) = new ≡ one_more old
CountsPut old new (Err put.Memory) = new ≡ old

-- what comes before a field: a comma, if the record has a field already
abbrev pub separator : Bool → List ℕ
separator has_field = if has_field then comma ∷ [] else []

-- what ends the line of a record: two quotes before the line feed, if it has shown no byte
abbrev pub line_end : Bool → List ℕ
line_end has_shown = tail_text default_writer has_shown 0

-- a writer makes a record, which has these fields so far. Since the sink had taken `old`, their text has been written to it, as a
-- default `csv` writer makes it, but for the line
pub record Holds (w : RecordWriter) (fields : List (List ℕ)) (old new : Option (List ℕ)) : Type 0 where
  pub front : List ℕ
  pub split : row_body default_writer fields ≡ front ++ w.line.items
  pub written : Appends old new front
  pub begun : w.is_begun ≡ not (length front == 0)
  pub some : w.has_field ≡ not (length fields == 0)

-- what a call does that adds a field to the record that a writer makes: at Ok the record has one field more; else a beginning of its
-- text was written since it began
pub record PutsField {A : Type 0} (result : Result A PutFault) (field : List ℕ) (was is : RecordWriter) (old new : Option (List ℕ)) (before after : ℕ) : Type 0 where
  pub added : (fields : List (List ℕ)) (start : Option (List ℕ)) → Holds was fields start old → OnOk result (Holds is (fields ++ field ∷ []) start new)
  pub front : (fields : List (List ℕ)) (start : Option (List ℕ)) → Holds was fields start old → OnErr result (AppendsFront start new (row_body default_writer (fields ++ field ∷ [])))
  pub failures : CountsPut before after result
