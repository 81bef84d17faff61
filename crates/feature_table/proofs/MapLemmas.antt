-- One more of a mapped list.
use Rattle.std.proofs.Common.{◌≡◌, ◌∙◌, ◌+◌, ◌++◌, ◌∷◌, [], ◌<◌, ℕ, List, length, map, take, get_or, sym, ap, ap₂}
use Rattle.std.proofs.lemmas.List.{map_more}

pub one_more_mapped : {X Y : Type 0} (f : X → Y) (xs : List X) (i : ℕ) (x : X) (y : Y) (items new : List Y) → i < length xs → x ≡ get_or xs i x → items ≡ map f (take i xs) → y ≡ f x → new ≡ items ++ y ∷ []
    → new ≡ map f (take (i + 1) xs)
one_more_mapped f xs i x y items new within is before made grew =
    grew ∙ ap₂ (λ l e. l ++ e ∷ []) before (made ∙ ap f is) ∙ sym (map_more f xs i x within)
