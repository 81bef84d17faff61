-- The failure of a text that isn't well-known text.
use Rattle.std.proofs.Common.{◌≡◌, ◌∙◌, sym, ap, inl, inr, ℕ, List, Option, Some, None, Err}
use Rattle.std.specs.Prelude.{IfSome, option_map}
use Rattle.geometry_model.specs.TextReading.{read_text}
use Rattle.geometry_model.specs.declared.geometry_faults.GeometryFault.TheVariants as g
use Rattle.geometry_model.specs.declared.text_faults.TextFault.{TextFault}
use Rattle.failures.specs.declared.failure.Failure.{Failure}
use Rattle.failures.specs.declared.failure.GeometryWord.TheVariants.{First}
use Rattle.text_commands.specs.Relations.{IsFailureOf, refused_or_memory}
use Rattle.text_commands.specs.TextVerdicts.{or_unread, spelled_geometry}

-- the failure for a fault of reading is that of the text
pub unread : (text : List ℕ) (fault : Option TextFault) (failure : Failure) → IfSome fault (λ found. read_text text ≡ Err found)
    → failure ≡ refused_or_memory First (option_map g.Text fault) → IsFailureOf (spelled_geometry text) failure
unread text None failure read e = inl e
unread text (Some found) failure read e = inr (ap or_unread read ∙ ap Err (sym e))
