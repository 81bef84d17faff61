-- Texts that are handed in one after another.
use Rattle.std.specs.Prelude.{ℕ, List, [], ◌∷◌, drop, take}

-- a text cut into pieces of these lengths, which are shorter where it ends
abbrev pub pieces : List ℕ → List ℕ → List (List ℕ)
pieces text [] = []
pieces text (n ∷ more) = take n text ∷ pieces (drop n text) more
