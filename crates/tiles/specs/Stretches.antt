-- What is done of stretches while records are read.
use Rattle.std.specs.Prelude.{◌≡◌, ◌+◌, ◌*◌, ◌<◌, ◌≤◌, if◌then◌else◌, ℕ, All, List, [], ◌∷◌, length, map, nat_lt, replicate}
use Rattle.std.specs.List.{flat_map}
use Rattle.table_model.specs.Loading.{Record}
use Rattle.tiles.specs.Copies.{lines_of, stretch_of, stretches}
use Rattle.tiles.specs.Texts.{Grow, Texts}

-- what the text of a number got, where the stretches up to one are begun
abbrev pub begun_at : Record → (Record → Record) → ℕ → List Record → ℕ → ℕ → List ℕ
begun_at header row size read last number = if nat_lt last number then [] else lines_of (header ∷ map row (stretch_of size read number))

-- the stretches before the last one are full, and it has so many of the records that were read
pub record AreFilled (old new : Texts) (header : Record) (row : Record → Record) (size : ℕ) (read : List Record) (counts : List ℕ) (rows : ℕ) : Type 0 where
  pub texts : Grow old new (begun_at header row size read (length counts))
  pub full : counts ≡ replicate (length counts) size
  pub sum : length read ≡ length counts * size + rows

-- together stretches have the records, in their order, each once, and none has more than its size (this project's choice)
abbrev pub StretchesAreWhole : Type 0
StretchesAreWhole = (size : ℕ) (rows : List Record) → 0 < size → (flat_map (λ stretch. stretch) (stretches size rows) ≡ rows) × All (λ stretch. length stretch ≤ size) (stretches size rows)
