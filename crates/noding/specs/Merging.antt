-- Edges that were made of others, so that each of their points is on some of those.
use Rattle.std.specs.Prelude.{ℕ, List, All, ◌++◌, take, drop}
use Rattle.geometry_model.specs.Geometries.{Edge}
use Rattle.matrix_laws.specs.Covering.{IsHeld}

-- each point of the second edges is on some of the first
abbrev pub AreMerged : List Edge → List Edge → Type 0
AreMerged es merged = All (IsHeld es) merged

-- what holds the edges of the first list holds those of the second
abbrev pub KeepsHeld : List Edge → List Edge → Type 0
KeepsHeld before after = (es : List Edge) → AreMerged es before → AreMerged es after

-- the first of the edges, which are kept, and those from a place on, which are still to be joined
abbrev pub left_of : List Edge → ℕ → ℕ → List Edge
left_of merged kept place = take kept merged ++ drop place merged
