-- What can be seen from a point straight up and straight down, and laws of where such a view ends.
use Rattle.std.specs.Prelude.{◌≡◌, false, All}
use Rattle.geometry_model.specs.Points.{Point, IsPoint, point_at}
use Rattle.geometry_model.specs.Geometries.{Geometry, edges, listed}
use Rattle.geometry_model.specs.Sides.{on}
use Rattle.geometry_model.specs.Locations.{locate}
use Rattle.geometry_model.specs.Labels.{above, below}
use Rattle.geometry_laws.specs.PieceLaws.{IsOff}
use Rattle.geometry_laws.specs.CoverLaws.{IsStraightOver, IsLower}

-- z is on the way from s straight up to m: straight above s, and not above m
pub record IsOnTheWayUp (s m z : Point) : Type 0 where
  pub straight : IsStraightOver z s
  pub higher : IsLower s z
  pub not_past : IsLower m z → ⊥

-- z is on the way from s straight down to m: straight below s, and not below m
pub record IsOnTheWayDown (s m z : Point) : Type 0 where
  pub straight : IsStraightOver z s
  pub lower : IsLower z s
  pub not_past : IsLower z m → ⊥

-- m is straight above s and seen from there: on the way from s to m, with m and without s, are no point of an edge and no listed position
pub record SeesUp (g : Geometry) (s m : Point) : Type 0 where
  pub is_point : IsPoint m
  pub straight : IsStraightOver m s
  pub higher : IsLower s m
  pub edges : All (λ e. (z : Point) → IsPoint z → IsOnTheWayUp s m z → on e z ≡ false) (edges g)
  pub positions : All (λ a. IsOnTheWayUp s m (point_at a) → ⊥) (listed g)

-- the same straight below s
pub record SeesDown (g : Geometry) (s m : Point) : Type 0 where
  pub is_point : IsPoint m
  pub straight : IsStraightOver m s
  pub lower : IsLower m s
  pub edges : All (λ e. (z : Point) → IsPoint z → IsOnTheWayDown s m z → on e z ≡ false) (edges g)
  pub positions : All (λ a. IsOnTheWayDown s m (point_at a) → ⊥) (listed g)

-- what is seen straight above s is off all edges and listed positions, and lies where `above` says of s (06-103r4, 6.1.11.1)
abbrev pub FacePointAbove : Type 0
FacePointAbove = (g : Geometry) (s m : Point) → IsPoint s → SeesUp g s m → IsOff g m × (locate g m ≡ above g s)

-- what is seen straight below s is off all edges and listed positions, and lies where `below` says of s (06-103r4, 6.1.11.1)
abbrev pub FacePointBelow : Type 0
FacePointBelow = (g : Geometry) (s m : Point) → IsPoint s → SeesDown g s m → IsOff g m × (locate g m ≡ below g s)
