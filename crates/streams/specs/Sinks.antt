-- What a call does to the bytes that a sink took and to its count of failures.
use Rattle.std.specs.Prelude.{◌≡◌, ℕ, List, ◌++◌, Option, Result, Ok, Err}
use Rattle.std.specs.Io.KnownBytes.{Appends}
use Rattle.basics.specs.Counts.{one_more}

-- the known bytes grew by a beginning of these bytes
abbrev pub AppendsFront : Option (List ℕ) → Option (List ℕ) → List ℕ → Type 0
AppendsFront old new bytes = (front rest : List ℕ) × (bytes ≡ front ++ rest) × Appends old new front

-- no failure at Ok, and at Err one more
abbrev pub CountsFailure : {A E : Type 0} → ℕ → ℕ → Result A E → Type 0
CountsFailure old new (Ok a) = new ≡ old
CountsFailure old new (Err e) = new ≡ one_more old
