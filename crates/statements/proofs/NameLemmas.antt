-- The fields of the header.
use Rattle.std.proofs.Common.{◌≡◌, ◌∙◌, [], ◌∷◌, ℕ, zero, suc, List, Option, ap, refl, slice_get}
use Rattle.csv.specs.Records.{field_at}

-- the field of a record at a place
at_place : (fields : List (List ℕ)) (i : ℕ) → field_at fields i ≡ slice_get fields i
unfolding field_at
at_place [] i = refl
at_place (field ∷ fields) zero = refl
at_place (field ∷ fields) (suc i) = at_place fields i

pub name_at : (fields names : List (List ℕ)) (i : ℕ) (name text : Option (List ℕ))
    → name ≡ field_at fields i → fields ≡ names → text ≡ name → text ≡ slice_get names i
name_at fields names i name text at same is = is ∙ at ∙ at_place fields i ∙ ap (λ these. slice_get these i) same
