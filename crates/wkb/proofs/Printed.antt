-- One item more of a list that is printed.
use Rattle.std.proofs.Common.{◌≡◌, sym, ap, ◌∙◌, ℕ, ◌+◌, ◌<◌, ◌≤◌, List, [], ◌∷◌, ◌++◌, length, take, get_or, append_assoc, Result, Ok, Err, OnOk}
use Rattle.std.specs.List.{flat_map}
use Rattle.std.proofs.lemmas.List.{flat_map_more, take_more, take_all}

pub item_more : {X : Type 0} (f : X → List ℕ) (bs now : List ℕ) (xs : List X) (i : ℕ) (x d : X) → i < length xs
    → x ≡ get_or xs i d
    → now ≡ bs ++ flat_map f (take i xs) → now ++ f x ≡ bs ++ flat_map f (take (i + 1) xs)
item_more f bs now xs i x d within is before = ap (λ l. l ++ f x) before
    ∙ (flat_map_more f bs (take i xs) x
    ∙ ap (λ l. bs ++ flat_map f l) (ap (λ y. take i xs ++ y ∷ []) is ∙ sym (take_more xs i d within)))

pub all_items : {X : Type 0} (f : X → List ℕ) (bs now : List ℕ) (xs : List X) (i : ℕ) → length xs ≤ i
    → now ≡ bs ++ flat_map f (take i xs) → now ≡ bs ++ flat_map f xs
all_items f bs now xs i past before = before ∙ ap (λ l. bs ++ flat_map f l) (take_all i xs past)

-- what comes behind a part comes behind what was before it
pub behind_part : {A E : Type 0} (r : Result A E) (now middle before part rest : List ℕ) → middle ≡ before ++ part
    → OnOk r (now ≡ middle ++ rest) → OnOk r (now ≡ before ++ (part ++ rest))
behind_part (Ok x) now middle before part rest first is = is ∙ (ap (λ l. l ++ rest) first ∙ append_assoc before part rest)
behind_part (Err e) now middle before part rest first is = tt
