-- Laws of pieces and neighbourhoods: on which stretches and around which points labels are constant.
use Rattle.std.specs.Prelude.{◌≡◌, false, true, List, ◌++◌, All}
use Rattle.std.specs.declared.cmp.Ordering.TheVariants.{Less}
use Rattle.geometry_model.specs.Points.{Position, Point, IsPoint, compare}
use Rattle.geometry_model.specs.Geometries.{Edge, Geometry, edges, listed, rings}
use Rattle.geometry_model.specs.Sides.{on}
use Rattle.geometry_model.specs.Dimensions.{HasTriangle, common}
use Rattle.geometry_model.specs.Locations.{is_at, locate}
use Rattle.geometry_model.specs.Labels.{above, below, is_upright, edges_of_both}
use Rattle.geometry_model.specs.Pieces.{Piece, IsPiece}
use Rattle.geometry_laws.specs.RingLaws.{IsClosed}

-- a point strictly within a piece: on its edge, after its lesser end and before its greater
pub record Inside (es : List Edge) (ps : List Position) (c : Piece) (h : IsPiece es ps c) (x : Point) : Type 0 where
  pub is_point : IsPoint x
  pub is_on : on h.edge x ≡ true
  pub after : compare c.lesser x ≡ Less
  pub before : compare x c.greater ≡ Less

-- every ring of the geometry is closed (06-103r4, 6.1.7 and 6.1.11.1)
abbrev pub HasClosedRings : Geometry → Type 0
HasClosedRings g = All IsClosed (rings g)

-- c is a piece of a and b
abbrev pub IsPieceOf : Geometry → Geometry → Piece → Type 0
IsPieceOf a b c = IsPiece (edges_of_both a b) (listed a ++ listed b) c

-- x is strictly within a piece of a and b
abbrev pub IsInside : (a b : Geometry) (c : Piece) → IsPieceOf a b c → Point → Type 0
IsInside a b c h x = Inside (edges_of_both a b) (listed a ++ listed b) c h x

-- all points strictly within a piece have one label
abbrev pub LabelsAreConstant : Type 0
LabelsAreConstant = (a b : Geometry) → HasClosedRings a → HasClosedRings b → (c : Piece) (h : IsPieceOf a b c) → (x y : Point) → IsInside a b c h x → IsInside a b c h y
    → (locate a x ≡ locate a y) × (locate b x ≡ locate b y)

-- and if the piece isn't vertical, their upper sides have one label, and so do their lower sides
abbrev pub SidesAreConstant : Type 0
SidesAreConstant = (a b : Geometry) → HasClosedRings a → HasClosedRings b → (c : Piece) (h : IsPieceOf a b c) → is_upright c ≡ false → (x y : Point) → IsInside a b c h x → IsInside a b c h y
    → ((above a x ≡ above a y) × (above b x ≡ above b y)) × ((below a x ≡ below a y) × (below b x ≡ below b y))

-- no edge goes through the point, and no listed position is there
pub record IsOff (g : Geometry) (p : Point) : Type 0 where
  pub edges : All (λ e. on e p ≡ false) (edges g)
  pub positions : All (λ a. is_at p a ≡ false) (listed g)

-- around a point off both geometries there is a triangle of points that lie where it does
abbrev pub OffHasTriangle : Type 0
OffHasTriangle = (a b : Geometry) → HasClosedRings a → HasClosedRings b → (p : Point) → IsPoint p → IsOff a p → IsOff b p → HasTriangle (common a (locate a p) b (locate b p))
