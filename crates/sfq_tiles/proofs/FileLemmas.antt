-- How the bytes of a file are written.
use Rattle.std.proofs.Common.{◌+◌, ◌-◌, ℕ, List, Option, Result, Ok, Err, drop, length, sym, take}
use Rattle.std.proofs.lemmas.List.{take-append-drop}
use Rattle.std.specs.Io.KnownBytes.{Appends, WriteAppends}
use Rattle.streams.proofs.SinkLemmas.{put_all-front, put_all-more}
use Rattle.streams.specs.Sinks.{AppendsFront}

-- after the bytes before a place, one write of the rest leaves a front of them all
pub write_front : {E : Type 0} (a b c : Option (List ℕ)) (at : ℕ) (bytes : List ℕ) (r : Result ℕ E) → Appends a b (take at bytes)
    → WriteAppends b c r (take (length bytes - at) (drop at bytes)) → AppendsFront a c bytes
write_front a b c at bytes (Ok n) before wrote = (take (at + n) bytes, drop (at + n) bytes, sym (take-append-drop (at + n) bytes), put_all-more a b c at n bytes before wrote)
write_front a b c at bytes (Err e) before kept = put_all-front a b c at bytes before kept
