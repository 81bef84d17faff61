-- What is left of a list from a place on.
use Rattle.std.proofs.Common.{◌≡◌, sym, ap, ◌∙◌, ℕ, suc, ◌+◌, ◌<◌, List, ◌∷◌, drop, drop-cons, get_or, length, arith}

-- the item at a place, found by its number, and what is left behind it
pub at_index : {A : Type 0} (more : List A) (i : ℕ) (d end : A) → i < length more → end ≡ get_or more i d → drop i more ≡ end ∷ drop (i + 1) more
at_index more i d end within is =
    drop-cons more i d within ∙ (ap (λ x. x ∷ drop (suc i) more) (sym is) ∙ ap (λ n. end ∷ drop n more) (add_one i))
  where
    add_one : (n : ℕ) → suc n ≡ n + 1
    add_one n = omega arith
