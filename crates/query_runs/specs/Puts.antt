-- What a call wrote that makes a text in memory and writes it.
use Rattle.std.specs.Prelude.{ℕ, List, Option, OnErr, OnOk, Result}
use Rattle.std.specs.Io.KnownBytes.{Appends}
use Rattle.streams.specs.RecordWriters.{CountsPut}
use Rattle.streams.specs.declared.put_fault.PutFault.{PutFault}
use Rattle.streams.specs.Sinks.{AppendsFront}

-- at Ok all of a text was written, else a beginning of it; where the sink failed it counts one failure more
pub record PutsText {A : Type 0} (result : Result A PutFault) (text : List ℕ) (old new : Option (List ℕ)) (before after : ℕ) : Type 0 where
  pub whole : OnOk result (Appends old new text)
  pub front : OnErr result (AppendsFront old new text)
  pub failures : CountsPut before after result
