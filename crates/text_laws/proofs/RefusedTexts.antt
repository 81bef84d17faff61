-- What reading returns is what applies.
use Rattle.std.proofs.Common.{◌≡◌, refl, sym, ◌∙◌, ℕ, inl, inr, List, Result, Ok, Err}
use Rattle.geometry_model.specs.Geometries.{Geometry}
use Rattle.geometry_model.specs.TextReading.{read_text}
use Rattle.geometry_model.specs.TextRefusals.{IsRefusedAs}
use Rattle.geometry_model.specs.declared.text_faults.TextFault.{TextFault}
use Rattle.geometry_model.specs.declared.text_faults.TextFault.TheVariants.{Syntax, OffGrid, OutOfRange, TooLong}
use Rattle.text_laws.proofs.TextSound.{read_is_spelled}
use Rattle.text_laws.proofs.TextComplete.{spelled_is_read}
use Rattle.text_laws.proofs.TextRefused.{refusals_apply}
use Rattle.text_laws.proofs.RefusedNumbers.{off_grid_is_returned, out_of_range_is_returned}
use Rattle.text_laws.proofs.OpenParts.{too_many_parts_are_too_long}
use Rattle.text_laws.proofs.LastPositions.{too_many_positions_are_too_long}
use Rattle.text_laws.specs.RefusalLaws.{RefusalIsReturned, SyntaxIsReturned, AnswerIsGiven}

-- each fault but W1 that applies is returned: reading comes to the number, position or part that is refused, and no further
pub refusal_is_returned : RefusalIsReturned
refusal_is_returned text (Syntax at) h = absurd h
refusal_is_returned text (OffGrid at) h = off_grid_is_returned text at h
refusal_is_returned text (OutOfRange at) h = out_of_range_is_returned text at h
refusal_is_returned text TooLong (inl h) = too_many_positions_are_too_long text h
refusal_is_returned text TooLong (inr h) = too_many_parts_are_too_long text h

-- an answer other than W1 would be a geometry that the text spells or a fault that applies, and there is none of either
pub syntax_is_returned : SyntaxIsReturned
syntax_is_returned text at h = go (read_text text) refl
  where
    go : (r : Result Geometry TextFault) → read_text text ≡ r → (byte : ℕ) × (read_text text ≡ Err (Syntax byte))
    go (Ok g) e = absurd (h.0 g (read_is_spelled text g e))
    go (Err (Syntax byte)) e = (byte, e)
    go (Err (OffGrid byte)) e = absurd (h.1 (OffGrid byte) ((refusals_apply text byte).0 e))
    go (Err (OutOfRange byte)) e = absurd (h.1 (OutOfRange byte) ((refusals_apply text byte).1 e))
    go (Err TooLong) e = absurd (h.1 TooLong ((refusals_apply text 0).2 e))

-- W1 is no other fault
other : (byte : ℕ) (text : List ℕ) → read_text text ≡ Err (Syntax byte) → (fault : TextFault) → IsRefusedAs text fault → ⊥
other byte text e (Syntax at) h = h
other byte text e (OffGrid at) h = let k : Err (Syntax byte) ≡ Err (OffGrid at) = sym e ∙ refusal_is_returned text (OffGrid at) h in absurd (cc)
other byte text e (OutOfRange at) h = let k : Err (Syntax byte) ≡ Err (OutOfRange at) = sym e ∙ refusal_is_returned text (OutOfRange at) h in absurd (cc)
other byte text e TooLong h = let k : Err (Syntax byte) ≡ Err TooLong = sym e ∙ refusal_is_returned text TooLong h in absurd (cc)

-- W1 is returned only where nothing is spelled and no other fault applies, since reading would return that instead
pub answer_is_given : AnswerIsGiven
answer_is_given text (Syntax byte) e = ((λ g h. let k : Err (Syntax byte) ≡ Ok g = sym e ∙ spelled_is_read text g h in absurd (cc)), other byte text e)
answer_is_given text (OffGrid byte) e = (refusals_apply text byte).0 e
answer_is_given text (OutOfRange byte) e = (refusals_apply text byte).1 e
answer_is_given text TooLong e = (refusals_apply text 0).2 e
