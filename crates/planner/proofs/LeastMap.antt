-- The first of least number among the images of elements.
use Rattle.std.specs.Prelude.{◌≡◌, refl, ℕ, ◌&&◌, Bool, true, false, cond, nat_le, List, [], ◌∷◌, map, find, Some, option_map}
use Rattle.std.specs.List.{list_all}
use Rattle.std.proofs.Common.{ap, ◌∙◌}
use Rattle.table_model.specs.Plans.{first_of_least}

all_map : {X Y : Type 0} (f : X → Y) (test : Y → Bool) (xs : List X) → list_all test (map f xs) ≡ list_all (λ x. test (f x)) xs
all_map f test [] = refl
all_map f test (x ∷ xs) = ap (λ b. test (f x) && b) (all_map f test xs)

-- what is found among images is the image of what is found
find_map : {X Y : Type 0} (f : X → Y) (test : Y → Bool) (xs : List X) → find test (map f xs) ≡ option_map f (find (λ x. test (f x)) xs)
find_map f test [] = refl
find_map {X = X} {Y = Y} f test (x ∷ xs) = go (test (f x)) (find_map f test xs)
  where
    go : (b : Bool) → find test (map f xs) ≡ option_map f (find (λ z. test (f z)) xs) → cond b (Some (f x)) (find test (map f xs)) ≡ option_map f (cond b (Some x) (find (λ z. test (f z)) xs))
    go true e = refl
    go false e = e

find_same : {X : Type 0} (s t : X → Bool) → ((x : X) → s x ≡ t x) → (xs : List X) → find s xs ≡ find t xs
find_same s t e [] = refl
find_same s t e (x ∷ xs) = ap (λ b. cond b (Some x) (find s xs)) (e x) ∙ ap (λ o. cond (t x) (Some x) o) (find_same s t e xs)

-- the first of least number among images is the image of the first whose image has the least number
pub least_map : {X Y : Type 0} (f : X → Y) (number : Y → ℕ) (xs : List X) → first_of_least number (map f xs) ≡ option_map f (first_of_least (λ x. number (f x)) xs)
least_map f number xs =
    find_map f (λ y. list_all (λ z. nat_le (number y) (number z)) (map f xs)) xs
    ∙ ap (option_map f)
    (find_same (λ x. list_all (λ z. nat_le (number (f x)) (number z)) (map f xs)) (λ x. list_all (λ z. nat_le (number (f x)) (number (f z))) xs)
    (λ x. all_map f (λ z. nat_le (number (f x)) (number z)) xs) xs)
