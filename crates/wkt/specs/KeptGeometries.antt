-- What is true of each value of the type `Geometry` in the code.
use Rattle.std.specs.Prelude.{◌≡◌, ◌≢◌, ◌<◌, ◌≤◌, ℕ, List, length, All}
use Rattle.geometry_model.specs.Points.{Position}
use Rattle.geometry_model.specs.Geometries.{Geometry, edges, edges_of_line}
use Rattle.geometry_model.specs.WellKnownText.{IsWithinCounts, Spells, position_limit, without_repeats, written_parts}

-- no position of a line or ring repeats the one before it, so the ends of each edge differ (06-103r4, 6.1.7; the count and repeats: this project's choice)
pub record IsKeptLine (line : List Position) : Type 0 where
  pub counted : length line ≤ position_limit
  pub no_repeats : without_repeats line ≡ line
  pub ends_differ : All (λ edge. edge.start ≢ edge.end) (edges_of_line line)

-- positions and parts are within their limits; the ends of each edge differ; each ring and element has positions (06-103r4, 6.1.7 and 6.1.11; the counts and repeats: this project's choice)
pub record IsKept (g : Geometry) : Type 0 where
  pub counts : IsWithinCounts g
  pub ends_differ : All (λ edge. edge.start ≢ edge.end) (edges g)
  pub parts_have_positions : All (λ part. 0 < length part) (written_parts g)

-- each geometry that a text spells is such a value: the type leaves none out (06-103r4, 7.2)
abbrev pub SpelledIsKept : Type 0
SpelledIsKept = (text : List ℕ) (g : Geometry) → Spells text g → IsKept g
