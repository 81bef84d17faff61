-- Strings as they are written between their quotes.
use Rattle.std.specs.Prelude.{ℕ, ◌&&◌, if◌then◌else◌, ◌==◌, List, [], ◌∷◌}

-- what comes after the first byte of a string's value, where two quotes in a row are one byte of it
abbrev pub after_first : List ℕ → List ℕ
after_first [] = []
after_first (byte ∷ []) = []
after_first (byte ∷ next ∷ more) = if byte == 39 && next == 39 then more else next ∷ more
