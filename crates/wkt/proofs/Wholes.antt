-- Whole texts, by what comes after the white space at their front.
use Rattle.std.proofs.Common.{◌≡◌, refl, sym, ap, ◌∙◌, ℕ, Bool, List, Option, Some, None, Result, Ok, Err, IfSome}
use Rattle.std.specs.List.{prefix_len}
use Rattle.geometry_model.specs.CanonicalText.{canonical_text}
use Rattle.geometry_model.specs.Geometries.{Geometry}
use Rattle.geometry_model.specs.TextReading.{Input, Reader, ◌>>◌, and_then, pure, after, run, end, tagged, whole, outcome, read_text}
use Rattle.geometry_model.specs.TextRefusals.{IsRefused}
use Rattle.geometry_model.specs.WellKnownText.{is_white, geometry_of, Spells}
use Rattle.geometry_model.specs.declared.text_faults.TextFault.{TextFault}
use Rattle.text_laws.proofs.RefusedTexts.{answer_is_given}
use Rattle.text_laws.proofs.TextComplete.{spelled_is_read}
use Rattle.text_laws.proofs.TextPrinted.{canonical_text_spells}
use Rattle.text_laws.proofs.TextSound.{read_is_spelled}
use Rattle.wkt.specs.KeptGeometries.{IsKept}
use Rattle.wkt.specs.ReadingSteps.{meant}
use Rattle.wkt.specs.TextFaults.{text_fault}
use Rattle.wkt.specs.declared.wkt_fault.WktFault.{WktFault}
use Rattle.wkt.specs.declared.wkt_fault.WktFault.TheVariants as faults
use Rattle.wkt.proofs.KeptFacts.{spelled_is_kept}

-- white space, and the end of the text
abbrev pub finish : Geometry → Reader Geometry
finish g = do
  run is_white
  end
  pure g

-- whether the meant geometry is made before or after the end of the text is looked for, the outcome is one
ended : (g : Geometry) (r : Result (Bool × Input) TextFault)
    → and_then (and_then r (λ _. pure g)) (λ w. pure (geometry_of w)) ≡ and_then r (λ _. pure (geometry_of g))
ended g (Ok found) = refl
ended g (Err fault) = refl

-- the same with white space before the end
finished : (r : Result (Geometry × Input) TextFault)
    → and_then (and_then (and_then r (λ x. run is_white >> pure x)) (λ g. end >> pure g)) (λ w. pure (geometry_of w))
    ≡ and_then (and_then r (λ w. pure (geometry_of w))) finish
finished (Ok found) = ended found.0 (end (after (prefix_len is_white found.1.left) found.1))
finished (Err fault) = refl

-- a whole text, by what comes after its first white space
pub whole_by_tagged : (i : Input)
    → meant whole i ≡ and_then (meant tagged (after (prefix_len is_white i.left) i)) finish
unfolding whole
whole_by_tagged i = finished (tagged (after (prefix_len is_white i.left) i))

-- what was found, without what is left
abbrev pub found_of : Result (Geometry × Input) TextFault → Result Geometry TextFault
found_of (Ok found) = Ok found.0
found_of (Err fault) = Err fault

-- the answer is the geometry that is meant, or the fault
found_meant : (r : Result (Geometry × Input) TextFault) → outcome r ≡ found_of (and_then r (λ w. pure (geometry_of w)))
found_meant (Ok found) = refl
found_meant (Err fault) = refl

abbrev pub start : List ℕ → Input
start text = record { left = text; at = 0 }

-- the definition, by the readers that the code follows
read_by_whole : (text : List ℕ) → read_text text ≡ found_of (meant whole (start text))
unfolding read_text
read_by_whole text = found_meant (whole (start text))

-- ---- what was found
-- what a whole text is found to mean is what the definition answers
pub found_is : (text : List ℕ) (g : Geometry) (j : Input) → meant whole (start text) ≡ Ok (g, j) → read_text text ≡ Ok g
found_is text g j read = read_by_whole text ∙ ap found_of read

-- the text spells what is returned
pub found_spells : (text : List ℕ) (g : Geometry) → read_text text ≡ Ok g → Spells text g
found_spells text g read = read_is_spelled text g read

-- so it is kept
pub found_is_kept : (text : List ℕ) (g : Geometry) → read_text text ≡ Ok g → IsKept g
found_is_kept text g read = spelled_is_kept text g (read_is_spelled text g read)

-- and the text spells nothing else
pub found_alone : (text : List ℕ) (g : Geometry) → read_text text ≡ Ok g → (h : Geometry) → Spells text h → g ≡ h
found_alone text g read h spelled = let same : Ok g ≡ Ok h = sym read ∙ spelled_is_read text h spelled in cc

-- its canonical text is read as it again, since that spells it
pub found_again : (text : List ℕ) (g : Geometry) → read_text text ≡ Ok g → read_text (canonical_text g) ≡ Ok g
found_again text g read = spelled_is_read (canonical_text g) g (canonical_text_spells text g (read_is_spelled text g read))

-- ---- the fault
if_some : {P : TextFault → Type 0} (o : Option TextFault) → ((fault : TextFault) → o ≡ Some fault → P fault) → IfSome o P
if_some None said = tt
if_some (Some fault) said = said fault refl

-- the fault that is said of the text is what the definition answers; where memory ran out, none is said
pub fault_is : (text : List ℕ) (e : WktFault) → ((fault : TextFault) → text_fault e ≡ Some fault → meant whole (start text) ≡ Err fault)
    → IfSome (text_fault e) (λ fault. read_text text ≡ Err fault)
fault_is text e read = if_some (text_fault e) (λ fault said. read_by_whole text ∙ ap found_of (read fault said))

-- of a text that is read no fault can be said, so memory ran out
read_or_memory : (e : WktFault) (r : Result Geometry TextFault) (g : Geometry) → IfSome (text_fault e) (λ fault. r ≡ Err fault) → r ≡ Ok g → e ≡ faults.OutOfMemory
read_or_memory (faults.Syntax at) r g h e = cc
read_or_memory (faults.OffGrid at) r g h e = cc
read_or_memory (faults.OutOfRange at) r g h e = cc
read_or_memory faults.TooLong r g h e = cc
read_or_memory faults.OutOfMemory r g h e = refl

-- what is spelled is read, or memory runs out
pub fault_is_memory : (text : List ℕ) (e : WktFault) → IfSome (text_fault e) (λ fault. read_text text ≡ Err fault) → (g : Geometry) → Spells text g → e ≡ faults.OutOfMemory
fault_is_memory text e fault g spelled = read_or_memory e (read_text text) g fault (spelled_is_read text g spelled)

-- a fault that is returned is
pub fault_applies : (text : List ℕ) (o : Option TextFault) → IfSome o (λ fault. read_text text ≡ Err fault) → IfSome o (IsRefused text)
fault_applies text (Some fault) e = answer_is_given text fault e
fault_applies text None e = e
