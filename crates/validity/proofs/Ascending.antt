-- Positions in ascending order, each once.
use Rattle.std.proofs.Common.{◌≡◌, ◌∙◌, refl, sym, ap, Bool, true, false, ◌||◌, List, [], ◌∷◌, cond, IsPermutation, rules}
use Rattle.std.specs.List.{list_any, dedup, dedup_from}
use Rattle.std.specs.Ordering.{eq_by_cmp}
use Rattle.std.proofs.lemmas.List.Sorted.{list_any-IsPermutation}
use Rattle.geometry_model.specs.Points.{Position}
use Rattle.geometry_model.specs.Locations.{is_at}
use Rattle.geometry_model.specs.WellKnownText.{same_position}
use Rattle.fraction.specs.Orders.{position_order}
use Rattle.validity.specs.ValidGeometries.{HoldAlike}
use Rattle.validity.proofs.OddEndFacts.{same_is}
use Rattle.std.specs.Cmp.Rules.{comparing}

-- a position that is listed twice in a row passes a test where it does once
again : (f : Position → Bool) (k : Position) (xs : List Position) → list_any f (dedup_from same_position k xs) ≡ list_any f (k ∷ xs)
again f k [] = refl
again f k (x ∷ xs) = go (same_position x k) refl (again f k xs) (again f x xs)
  where
    twice : (a b : Bool) → (a || b) ≡ (a || (a || b))
    twice true b = refl
    twice false b = refl

    rest : Position → Type 0
    rest y = list_any f (dedup_from same_position y xs) ≡ list_any f (y ∷ xs)

    chosen : {t : Bool} → same_position x k ≡ t → list_any f (dedup_from same_position k (x ∷ xs)) ≡ list_any f (cond t (dedup_from same_position k xs) (k ∷ dedup_from same_position x xs))
    chosen e = ap (λ t. list_any f (cond t (dedup_from same_position k xs) (k ∷ dedup_from same_position x xs))) e

    go : (t : Bool) → same_position x k ≡ t → rest k → rest x → list_any f (dedup_from same_position k (x ∷ xs)) ≡ list_any f (k ∷ x ∷ xs)
    go true e of_k of_x = chosen e ∙ of_k ∙ twice (f k) (list_any f xs) ∙ ap (λ y. f k || (f y || list_any f xs)) (sym (same_is x k e))
    go false e of_k of_x = chosen e ∙ ap (λ b. f k || b) of_x

-- the same of a whole list
each_once : (f : Position → Bool) (xs : List Position) → list_any f (dedup same_position xs) ≡ list_any f xs
each_once f [] = refl
each_once f (x ∷ xs) = again f x xs

-- sorted, and each once, a list holds the same points
pub held_alike : (given copy sorted found : List Position) → copy ≡ given → IsPermutation copy sorted → found ≡ dedup same_position sorted → HoldAlike found given
held_alike given copy sorted found e moved is p =
    ap (list_any (is_at p)) is ∙ each_once (is_at p) sorted ∙ sym (list_any-IsPermutation (is_at p) copy sorted moved) ∙ ap (list_any (is_at p)) e

-- equal positions are those that compare as equal
pub ties : (a b : Position) → same_position a b ≡ eq_by_cmp position_order a b
ties a b = search (comparing, rules)
