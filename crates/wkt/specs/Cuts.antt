-- A list cut into parts, one after another, by the places at which they end.
use Rattle.std.specs.Prelude.{◌≡◌, ◌≤◌, ℕ, zero, suc, ◌-◌, List, [], ◌∷◌, take, drop}

-- the parts of the items from a place on, where each part ends at its place
abbrev pub cut_at : {A : Type 0} → ℕ → List ℕ → List A → List (List A)
cut_at start [] items = []
cut_at start (end ∷ ends) items = take (end - start) (drop start items) ∷ cut_at end ends items

-- the places don't descend, from the start on, and the last of them is `count`
abbrev pub AreEnds : ℕ → List ℕ → ℕ → Type 0
AreEnds start [] count = start ≡ count
AreEnds start (end ∷ ends) count = (start ≤ end) × AreEnds end ends count

-- where a part begins: at the end of the part before it
abbrev pub start_of : ℕ → List ℕ → ℕ → ℕ
start_of start ends zero = start
start_of start [] (suc index) = start
start_of start (end ∷ ends) (suc index) = start_of end ends index
