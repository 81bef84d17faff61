-- The first fault of a text, by the failure that it has as the first of two.
use Rattle.std.proofs.Common.{◌≡◌, inl, inr, List, ℕ, Result, Ok, Err}
use Rattle.failures.specs.declared.failure.Failure.{Failure}
use Rattle.failures.specs.declared.failure.Failure.TheVariants as f
use Rattle.failures.specs.declared.failure.GeometryWord.{GeometryWord}
use Rattle.failures.specs.declared.failure.GeometryWord.TheVariants.{First}
use Rattle.geometry_model.specs.CheckedTexts.{tested}
use Rattle.geometry_model.specs.Geometries.{Geometry}
use Rattle.geometry_model.specs.TextReading.{read_text}
use Rattle.geometry_model.specs.declared.geometry_faults.GeometryFault.{GeometryFault}
use Rattle.text_commands.specs.Explanations.{HasFirst}
use Rattle.text_commands.specs.Relations.{IsFailureOf, geometry_in_word, or_refused}

-- the fault that a failure shows is that of what was read
shown-fault : (r : Result Geometry GeometryFault) (word : GeometryWord) (failure : Failure) (fault : GeometryFault)
    → failure ≡ f.Refused word fault → or_refused First r ≡ Err failure → r ≡ Err fault
shown-fault (Ok g) word failure fault shown is = cc
shown-fault (Err e) word failure fault shown is = cc

-- the geometry that a text gives is that of what was read
pub spelled : (r : Result Geometry GeometryFault) (g : Geometry) → or_refused First r ≡ Ok g → r ≡ Ok g
spelled (Ok x) g is = cc
spelled (Err e) g is = cc

-- so a refusal of a text shows its first fault
pub first-fault : (text : List ℕ) (failure : Failure) (word : GeometryWord) (fault : GeometryFault)
    → failure ≡ f.Refused word fault → IsFailureOf (geometry_in_word First text) failure → HasFirst text fault
first-fault text failure word fault shown (inl memory) =
    let none : ⊥ = cc in
    absurd none
first-fault text failure word fault shown (inr is) = shown-fault (tested (read_text text)) word failure fault shown is
