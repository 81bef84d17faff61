-- How commands end, by what their steps return.
use Rattle.std.proofs.Common.{◌≡◌, inl, inr, ℕ, List, Option, Result, Ok, Err, OnErr, OnOk, refl, ◌∙◌, ap}
use Rattle.std.specs.Io.KnownBytes.{Appends}
use Rattle.std.proofs.KnownBytes.{Keeps-refl}
use Rattle.text_commands.specs.TextCommands.{RelateEnds, relate_outcome, relate_text}
use Rattle.failures.specs.Ends.{Writes}
use Rattle.text_commands.specs.Ends.{Answers, failed_writes}
use Rattle.failures.specs.declared.failure.Failure.{Failure}
use Rattle.failures.specs.declared.failure.Failure.TheVariants as f
use Rattle.failures.specs.declared.failure.GeometryWord.{GeometryWord}
use Rattle.failures.specs.declared.failure.GeometryWord.TheVariants.{First, Second}
use Rattle.geometry_model.specs.CheckedTexts.{tested}
use Rattle.geometry_model.specs.Dimensions.{Matrix}
use Rattle.geometry_model.specs.Geometries.{Geometry}
use Rattle.geometry_model.specs.Labels.{labelled_matrix}
use Rattle.geometry_model.specs.TextReading.{read_text}
use Rattle.geometry_model.specs.declared.geometry_faults.GeometryFault.{GeometryFault}
use Rattle.streams.specs.Sinks.{AppendsFront, CountsFailure}
use Rattle.table_model.specs.RunOutcomes.{MatrixOf}
use Rattle.text_commands.specs.Relations.{IsFailureOf, and_then, or_refused, relation}

-- what a call wrote that stops at the first failed put
pub writes : {A E : Type 0} (r : Result A E) (old new : Option (List ℕ)) (before after : ℕ) (text : List ℕ)
    → OnOk r (Appends old new text)
    → OnErr r (AppendsFront old new text) → CountsFailure before after r → Writes old new before after text
writes (Ok a) old new before after text whole front count = inl (whole, count)
writes (Err e) old new before after text whole front count = inr (front, count)

-- ---- relate

-- a failure of two texts is that one of them is refused
refused : (a b : Result Geometry GeometryFault) (matrix : MatrixOf) (failure : Failure)
    → and_then (or_refused First a) (λ x. and_then (or_refused Second b) (λ y. Ok (matrix x y))) ≡ Err failure
    → (word : GeometryWord) × (fault : GeometryFault) × (failure ≡ f.Refused word fault)
refused (Err e) b matrix failure is = (First, e, cc is)
refused (Ok x) (Err e) matrix failure is = (Second, e, cc is)
refused (Ok x) (Ok y) matrix failure is = cc is

-- nothing is written then, and no write fails
refused-answers : (matrix : MatrixOf) (first second : List ℕ) (failure : Failure) (old : Option (List ℕ)) (before : ℕ)
    → IsFailureOf (relation matrix first second) failure
    → Answers (relate_outcome matrix first second) (Err failure) old old × (before ≡ failed_writes before (Err failure))
refused-answers matrix first second failure old before (inl is) = rw is (Keeps-refl old, refl)
refused-answers matrix first second failure old before (inr is) =
    let r = refused (tested (read_text first)) (tested (read_text second)) matrix failure is in
    let outcome : relate_outcome matrix first second ≡ Err (f.Refused r.0 r.1) =
    ap (λ o. and_then o (λ m. Ok (relate_text m))) is ∙ ap Err r.2 in
    rw r.2 ((outcome, Keeps-refl old), refl)

-- two texts of which one is refused, or memory ran out
pub relate-refused : (first second : List ℕ) (failure : Failure) (old : Option (List ℕ)) (before : ℕ)
    → ((matrix : MatrixOf) → IsFailureOf (relation matrix first second) failure)
    → RelateEnds first second (Err failure) old old before before
relate-refused first second failure old before is = record {
  answers = λ matrix gives. (refused-answers matrix first second failure old before (is matrix)).0;
  failures = (refused-answers labelled_matrix first second failure old before (is labelled_matrix)).1;
}

-- the outcome of two texts of which this is the matrix
pub relate-text : (matrix : MatrixOf) (first second : List ℕ) (m : Matrix) → relation matrix first second ≡ Ok m
    → relate_outcome matrix first second ≡ Ok (relate_text m)
relate-text matrix first second m is = ap (λ r. and_then r (λ x. Ok (relate_text x))) is
