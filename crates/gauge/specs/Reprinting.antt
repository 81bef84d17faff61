-- What is written for a text: its geometry's canonical text.
use Rattle.std.specs.Prelude.{ℕ, List, Option}
use Rattle.std.specs.Io.KnownBytes.{Appends}
use Rattle.geometry_model.specs.Geometries.{Geometry}
use Rattle.geometry_model.specs.WellKnownText.{Spells}
use Rattle.geometry_model.specs.CanonicalText.{canonical_text}

-- a sink took the canonical text of the geometry that a text spells (06-103r4, 7.2)
abbrev pub Reprints : List ℕ → Option (List ℕ) → Option (List ℕ) → Type 0
Reprints text old new = (g : Geometry) × Spells text g × Appends old new (canonical_text g)
