-- Names that the fields of a header have.
use Rattle.std.proofs.Common.{◌≡◌, ◌∙◌, ◌+◌, ◌≤◌, ℕ, Bool, true, false, List, [], ◌∷◌, None, arith, cond, length, nat_lt, refl, sym, unwrap_or}
use Rattle.std.proofs.lemmas.Bool.Decides.{nat_tests}
use Rattle.std.proofs.lemmas.List.{take_all}
use Rattle.std.specs.List.{count_by, position, position_or_len}
use Rattle.feature_table.proofs.HeaderLemmas.{IsFound}
use Rattle.feature_table.proofs.OrderLemmas.{count-cons}

-- where no element passes, the search ends at the length
ends : {X : Type 0} (p : X → Bool) (xs : List X) → count_by p xs ≡ 0 → position_or_len p xs ≡ length xs
ends p [] none = refl
ends p (x ∷ xs) none = go (p x) refl (sym (count-cons p x xs) ∙ none) (ends p xs)
  where
    go : (b : Bool) → p x ≡ b → cond (p x) 1 0 + count_by p xs ≡ 0 → (count_by p xs ≡ 0 → position_or_len p xs ≡ length xs)
        → position_or_len p (x ∷ xs) ≡ length (x ∷ xs)
    go true e n later = let one : 1 + count_by p xs ≡ 0 = rw e at n in absurd (omega (arith, one))
    go false e n later =
        let rest : 0 + count_by p xs ≡ 0 = rw e at n in
        let more = later (omega (arith, rest)) in
        rw e (omega (arith, more))

-- so no place is found, which is taken as the first
pub no-place : {X : Type 0} (p : X → Bool) (xs : List X) (i : ℕ) → length xs ≤ i → IsFound p xs i None → unwrap_or (position p xs) 0 ≡ 0
no-place p xs i past found =
    let none : count_by p xs ≡ 0 = rw (take_all i xs past) at found in
    let at_end = ends p xs none in
    let outside : nat_lt (length xs) (length xs) ≡ false = grind (arith, nat_tests) in
    rw (at_end, outside) refl
