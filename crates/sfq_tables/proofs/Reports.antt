-- What a call reports of a fault of a text.
use Rattle.std.proofs.Common.{◌≡◌, ◌∙◌, ℕ, Bool, false, Result, Err, inl, inr, sym, ap}
use Rattle.std.proofs.lemmas.Bool.{false≢true}
use Rattle.feature_table.specs.Outcomes.{IsFailure}
use Rattle.library_calls.specs.Refusals.{first_refused, out_of_memory}
use Rattle.sfq_tables.specs.TableFaults.{IsRefusedWith, IsReported, has_failed_load}
use Rattle.sfq_tables.specs.declared.table_faults.TablesFault.{TablesFault}
use Rattle.table_model.specs.declared.faults.LoadFault.{LoadFault}

-- a text that is refused leaves its fault, if a fault of the text is that of reading it
pub reported_fault : {Y F : Type 0} (has_failed : F → Bool) (in_numbers : F → TablesFault) (reading : Result Y F) (found : F)
    (old new : TablesFault) (status : ℕ) → (has_failed found ≡ false → reading ≡ Err found)
    → IsReported has_failed in_numbers found old new status → status ≡ first_refused → IsRefusedWith in_numbers reading new
reported_fault has_failed in_numbers reading found old new status is (inl failed) one =
    let k : out_of_memory ≡ first_refused = sym failed.1 ∙ one in absurd (cc)
reported_fault has_failed in_numbers reading found old new status is (inr refused) one = (found, is refused.0, refused.2)

-- a fault of a table that isn't of memory or of reading
pub of_table_text : (found : LoadFault) → has_failed_load found ≡ false → ¬ (IsFailure found)
of_table_text found other (inl reading) = false≢true (sym other ∙ ap has_failed_load reading)
of_table_text found other (inr memory) = false≢true (sym other ∙ ap has_failed_load memory)
