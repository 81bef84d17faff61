-- Laws of the refusals of well-known text: reading returns exactly the fault that applies.
use Rattle.std.specs.Prelude.{◌≡◌, ℕ, List, Err}
use Rattle.geometry_model.specs.Geometries.{Geometry}
use Rattle.geometry_model.specs.WellKnownText.{Writes, IsWithinCounts}
use Rattle.geometry_model.specs.TextReading.{read_text}
use Rattle.geometry_model.specs.TextRefusals.{IsRefusedAs, IsRefused}
use Rattle.geometry_model.specs.declared.text_faults.TextFault.{TextFault}
use Rattle.geometry_model.specs.declared.text_faults.TextFault.TheVariants.{Syntax, TooLong}

-- where W2, W3 or W4 applies, reading returns it: so no two of them apply, and none at two bytes
abbrev pub RefusalIsReturned : Type 0
RefusalIsReturned = (text : List ℕ) (fault : TextFault) → IsRefusedAs text fault → read_text text ≡ Err fault

-- where W1 applies, reading returns it, at some byte
abbrev pub SyntaxIsReturned : Type 0
SyntaxIsReturned = (text : List ℕ) (at : ℕ) → IsRefused text (Syntax at) → (byte : ℕ) × (read_text text ≡ Err (Syntax byte))

-- the fault that reading returns applies: W1 where the text spells nothing and no other fault applies
abbrev pub AnswerIsGiven : Type 0
AnswerIsGiven = (text : List ℕ) (fault : TextFault) → read_text text ≡ Err fault → IsRefused text fault

-- a text of the grammar with more positions or parts than the counts allow is W4
abbrev pub TooManyIsTooLong : Type 0
TooManyIsTooLong = (text : List ℕ) (written : Geometry) → Writes written text → ¬ (IsWithinCounts written) → read_text text ≡ Err TooLong
