-- A report of several candidates or rows changes an observer as reports of each of them do.
use Rattle.std.proofs.Common.{◌≡◌, ◌∙◌, ◌<◌, ◌^◌, ℕ, suc, zero, false, refl, sym, ap, arith}
use Rattle.std.specs.Prelude.{◌==◌, if◌then◌else◌}
use Rattle.std.specs.Fn.{iterate}
use Rattle.std.proofs.lemmas.Bool.Decides.{nat_tests}
use Rattle.basics.specs.Counts.{one_more}
use Rattle.streams.proofs.RunLemmas.{more-twice, more_by}
use Rattle.streams.specs.RowCounts.{after_candidate, after_row}
use Rattle.streams.specs.declared.rows.RowCount.{RowCount}

-- ---- counts

some : (count : ℕ) → (one_more count == 0) ≡ false
some count = grind (arith, nat_tests)

-- the counts after so many candidates, at least one
abbrev pub after_candidates : ℕ → ℕ → RowCount → RowCount
after_candidates left n count = record count {
  candidates = more_by n count.candidates;
  first_left = if count.candidates == 0 then left else count.first_left;
  last_left = left;
}

more-candidates : (left n : ℕ) (count : RowCount)
    → after_candidates left (suc n) (after_candidate left count) ≡ after_candidates left (suc (suc n)) count
more-candidates left n count =
    let first = if count.candidates == 0 then left else count.first_left in
    let made : ℕ → ℕ → RowCount = λ candidates kept. record {
      candidates = candidates;
      first_left = kept;
      last_left = left;
      rows = count.rows;
    } in
    ap (λ x. made x (if one_more count.candidates == 0 then left else first)) (more-twice count.candidates (suc n))
    ∙ ap (λ is_none. made (more_by (suc (suc n)) count.candidates) (if is_none then left else first)) (some count.candidates)

pub candidates_counted : (left n : ℕ) (count : RowCount) → 0 < n
    → after_candidates left n count ≡ iterate (after_candidate left) n count
candidates_counted left zero count l = absurd (omega (arith, l))
candidates_counted left (suc zero) count l = refl
candidates_counted left (suc (suc n)) count l =
    sym (more-candidates left n count) ∙ candidates_counted left (suc n) (after_candidate left count) (omega arith)

-- the counts after so many rows
pub rows_counted : (n : ℕ) (count : RowCount) → count.rows < 2 ^ 64
    → record count { rows = more_by n count.rows } ≡ iterate after_row n count
rows_counted zero count l = ap (λ x. record count { rows = x }) (omega (arith, l))
rows_counted (suc n) count l =
    ap (λ x. record count { rows = x }) (sym (more-twice count.rows n)) ∙ rows_counted n (after_row count) (omega arith)

-- ---- observers that hand reports on

iterated : {B : Type 0} (whole : RowCount → B) (f : RowCount → RowCount) (g : B → B)
    → ((x : RowCount) → whole (f x) ≡ g (whole x))
    → (n : ℕ) (x : RowCount) → whole (iterate f n x) ≡ iterate g n (whole x)
iterated whole f g each zero x = refl
iterated whole f g each (suc n) x = iterated whole f g each n (f x) ∙ ap (iterate g n) (each x)

-- an observer whose reports change only the one that it hands them to is changed by several as that one is
pub handed_on : {B : Type 0} (whole : RowCount → B) (f : RowCount → RowCount) (g : B → B)
    → ((x : RowCount) → whole (f x) ≡ g (whole x))
    → (n : ℕ) (x new : RowCount) → new ≡ iterate f n x → whole new ≡ iterate g n (whole x)
handed_on whole f g each n x new is = ap whole is ∙ iterated whole f g each n x
