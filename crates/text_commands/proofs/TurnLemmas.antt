-- A search in a list from its last element on.
use Rattle.std.proofs.Common.{◌≡◌, ◌<◌, ◌≤◌, ◌+◌, ◌-◌, ◌⊎◌, inl, inr, ℕ, List, [], arith, get_or, length, subst}
use Rattle.std.proofs.lemmas.Bool.{cases_lt}

module _ (texts : List (List ℕ)) (No : List ℕ → Type 0) where
  -- so many of the last texts have been passed
  abbrev pub LastPassed : ℕ → Type 0
  LastPassed turn = (k : ℕ) → length texts ≤ k + turn → k < length texts → No (get_or texts k [])

  -- none has been passed at first
  pub passed-none : LastPassed 0
  passed-none k late within = absurd (omega (arith, late, within))

  -- one more has been passed
  pub passed-more : (turn place : ℕ) → turn < length texts → place ≡ length texts - 1 - turn → No (get_or texts place [])
      → LastPassed turn → LastPassed (turn + 1)
  passed-more turn place small is fact passed k late within = go (cases_lt (k + turn) (length texts))
    where
      go : ((k + turn < length texts) ⊎ (length texts ≤ k + turn)) → No (get_or texts k [])
      go (inr before) = passed k before within
      go (inl here) =
          let same : place ≡ k = omega (arith, is, small, late, here) in
          subst (λ i. No (get_or texts i [])) same fact

  -- those behind a place have been passed
  pub passed-behind : (turn place : ℕ) → turn < length texts → place ≡ length texts - 1 - turn → LastPassed turn
      → (later : ℕ) → place < later → later < length texts → No (get_or texts later [])
  passed-behind turn place small is passed later behind within = passed later (omega (arith, is, small, behind)) within
