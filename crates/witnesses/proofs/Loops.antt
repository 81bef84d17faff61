-- What holds of the elements so far, and of one more.
use Rattle.std.proofs.Common.{◌≡◌, ℕ, ◌+◌, ◌<◌, ◌⊎◌, inl, inr, List, length, get_or, sym, ap, subst, ◌∙◌}
use Rattle.std.proofs.lemmas.List.{get_or_default}
use Rattle.basics.proofs.Numbers.{earlier_or_last}

pub so_far : {X : Type 0} (P : X → Type 0) (xs : List X) (i : ℕ) (x : X) → i < length xs → x ≡ get_or xs i x → P x → ((k : ℕ) (d : X) → k < i → P (get_or xs k d)) → (k : ℕ) (d : X) → k < i + 1 → P (get_or xs k d)
so_far {X} P xs i x within is px before k d l = go (earlier_or_last k i l)
  where
    go : (k < i) ⊎ (k ≡ i) → P (get_or xs k d)
    go (inl h) = before k d h
    go (inr e) = subst P (is ∙ get_or_default xs i x d within ∙ ap (λ (j : ℕ). get_or xs j d) (sym e)) px
