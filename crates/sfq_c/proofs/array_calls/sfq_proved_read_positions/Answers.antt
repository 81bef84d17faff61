-- The fault that is reported is that of the arrays, and of each text with the same numbers.
use Rattle.std.proofs.Common.{◌≡◌, ◌∙◌, refl, sym}
use Rattle.geometry_model.specs.Geometries.{Geometry}
use Rattle.library_calls.specs.Arrays.{IsRefusedArray}
use Rattle.library_calls.specs.Refusals.{IsRefusalOf, fault_after, first_refused, out_of_memory, status_of}
use Rattle.library_calls.specs.declared.faults.Fault.{Fault}
use Rattle.library_calls.specs.declared.faults.Refusal.{Refusal}
use Rattle.library_calls.specs.declared.faults.Refusal.TheVariants as refusal
use Rattle.library_calls.specs.ArrayLaws.{ArraysAreAsTexts}
use Rattle.library_calls.specs.Written.{geometry_in_arrays, written_as}
use Rattle.sfq_c.proofs.array_calls.sfq_proved_read_positions.Goals as goal

array_refused : ArraysAreAsTexts → (w : Geometry) (r : Refusal) (old : Fault) → IsRefusalOf (geometry_in_arrays w) r → status_of r ≡ first_refused → IsRefusedArray w (fault_after r old)
array_refused law w (refusal.First fault) old is status = record { fault = fault; refused = is; in_numbers = refl; as_text = λ text writes. law w text writes ∙ is }
array_refused law w (refusal.Second fault) old is status = absurd is
array_refused law w refusal.OutOfMemory old is status = let k : out_of_memory ≡ first_refused = status in absurd (cc)

pub returns-in-Err-clause-refused : goal.returns-in-Err-clause-refused
returns-in-Err-clause-refused c = λ status. record {
  geometry_type = c.in-Some.fitting;
  fits = sym c.fitting_type.ensures ∙ c.in-Some.is;
  refused = rw c.report.ensures.fault
      (array_refused c.arrays_are_as_texts.ensures (written_as c.in-Some.fitting c.args.positions.now c.args.lines.now c.args.polygons.now)
      c.in-Err.refusal _ c.in-Err.ensures.refused (sym c.report.ensures.status ∙ status));
}
