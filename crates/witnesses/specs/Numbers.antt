-- The numbers of the rings of a polygon, which count through all polygons.
use Rattle.std.specs.Prelude.{◌≡◌, ℕ, ◌+◌, ◌<◌, ◌≤◌, List, length, Some, slice_get, Contains}
use Rattle.geometry_model.specs.Points.{Position}
use Rattle.geometry_model.specs.Geometries.{Geometry}
use Rattle.geometry_model.specs.Validity.{Element, numbered_elements, IsRing}

-- the polygon that has the ring of this number has this many rings, numbered from the first on (06-103r4, 6.1.11.1)
pub record AreNumbersAround (g : Geometry) (number first count : ℕ) : Type 0 where
  pub place : ℕ
  pub rings : List (List Position)
  pub numbered : slice_get (numbered_elements g) place ≡ Some (record { first = first; rings = rings })
  pub counted : count ≡ length rings
  pub from : first ≤ number
  pub before : number < first + count

-- no polygon has a ring of this number
abbrev pub IsNumberOfNone : Geometry → ℕ → Type 0
IsNumberOfNone g number = (e : Element) (k : ℕ) (ring : List Position) → Contains (numbered_elements g) e → IsRing e k number ring → ⊥
