-- What a search over envelopes finds: the positions in the list of those that meet the one asked for.
use Rattle.std.specs.Prelude.{ℕ, Bool, List, map, Option, filter}
use Rattle.std.specs.List.{enumerate_from}
use Rattle.geometry_model.specs.Envelopes.{Envelope, meets}

-- whether an envelope, with its position, meets the one asked for
abbrev pub placed_meets : Option Envelope → ℕ × Option Envelope → Bool
placed_meets asked placed = meets placed.1 asked

-- the positions, ascending, of the envelopes of a list that meet the one asked for
abbrev pub meeting_places : List (Option Envelope) → Option Envelope → List ℕ
meeting_places envelopes asked = map (λ placed. placed.0) (filter (placed_meets asked) (enumerate_from 0 envelopes))
