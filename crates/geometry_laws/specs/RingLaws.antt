-- Laws of rings: inside and outside don't change along a straight stretch that misses them.
use Rattle.std.specs.Prelude.{◌≡◌, ℕ, ◌+◌, ◌<◌, false, List, [], ◌∷◌, All}
use Rattle.geometry_model.specs.Points.{Position, Point, IsPoint}
use Rattle.geometry_model.specs.Geometries.{Edge, edges_of_lines}
use Rattle.geometry_model.specs.Sides.{on}
use Rattle.geometry_model.specs.Crossings.{odd_above}
use Rattle.geometry_model.specs.Dimensions.{weighted}
use Rattle.geometry_model.specs.Locations.{last_after}

-- a ring ends where it starts (06-103r4, 6.1.7: LinearRing)
abbrev pub IsClosed : List Position → Type 0
IsClosed [] = Unit {0}
IsClosed (a ∷ rest) = last_after a rest ≡ a

-- no point of the straight stretch from p to q is on the edge
abbrev pub Misses : Point → Point → Edge → Type 0
Misses p q e = (m n : ℕ) → 0 < m + n → on e (weighted m p n q) ≡ false

-- two points joined by a straight stretch that misses all edges of closed rings are both inside the rings or both outside (06-103r4, 6.1.11.1)
abbrev pub ParityIsKept : Type 0
ParityIsKept = (rings : List (List Position)) (p q : Point) → IsPoint p → IsPoint q → All IsClosed rings → All (Misses p q) (edges_of_lines rings)
    → odd_above rings p ≡ odd_above rings q
