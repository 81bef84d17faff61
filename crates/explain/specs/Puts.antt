-- What a call promises that writes a text into a sink.
use Rattle.std.specs.Prelude.{ℕ, List, Option, OnErr, OnOk, Result}
use Rattle.std.specs.Io.KnownBytes.{Appends}
use Rattle.streams.specs.Sinks.{AppendsFront, CountsFailure}

-- ok: the sink took the text; front: at Err it took a beginning of it; failures: it counts one more at Err, and none at Ok
pub record Puts {S A E : Type 0} (taken : S → Option (List ℕ)) (count : S → ℕ) (old new : S) (result : Result A E) (text : List ℕ) : Type 0 where
  pub ok : OnOk result (Appends (taken old) (taken new) text)
  pub front : OnErr result (AppendsFront (taken old) (taken new) text)
  pub failures : CountsFailure (count old) (count new) result
