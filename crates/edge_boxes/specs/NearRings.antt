-- Edges near an edge: those that share a point with it, each with its place.
use Rattle.std.specs.Prelude.{ℕ, suc, Bool, ◌&&◌, nat_le, cond, List, [], ◌∷◌}
use Rattle.geometry_model.specs.Geometries.{Edge}
use Rattle.geometry_model.specs.FirstFaults.{share_point}

-- the edge at this place isn't before the first one asked for, and shares a point with this one
abbrev pub is_near : Edge → ℕ → ℕ → Edge → Bool
is_near e from place f = nat_le from place && share_point e f

-- the edges from a place on that share a point with an edge, with their places, ascending, where the first of these edges is at this place
abbrev pub numbered_from : Edge → ℕ → ℕ → List Edge → List (ℕ × Edge)
numbered_from e from place [] = []
numbered_from e from place (f ∷ fs) = cond (is_near e from place f) ((place, f) ∷ numbered_from e from (suc place) fs) (numbered_from e from (suc place) fs)

-- the edges from a place on that share a point with an edge, with their places, ascending
abbrev pub numbered_sharing : Edge → ℕ → List Edge → List (ℕ × Edge)
numbered_sharing e from edges = numbered_from e from 0 edges
