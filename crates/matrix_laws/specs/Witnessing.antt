-- What shows that two parts of two geometries have something in common, and laws of what shows it.
use Rattle.std.specs.Prelude.{◌≡◌, false, pos}
use Rattle.std.specs.declared.cmp.Ordering.TheVariants.{Less}
use Rattle.geometry_model.specs.Points.{Point, IsPoint, compare}
use Rattle.geometry_model.specs.Geometries.{Geometry}
use Rattle.geometry_model.specs.Locations.{locate}
use Rattle.geometry_model.specs.Dimensions.{area, HasSegment, HasTriangle, common}
use Rattle.geometry_model.specs.Labels.{above, below, is_upright}
use Rattle.geometry_model.specs.Pieces.{Piece, sample}
use Rattle.geometry_model.specs.declared.point_sets.Location.{Location}
use Rattle.geometry_laws.specs.PieceLaws.{HasClosedRings, IsPieceOf, IsOff}
use Rattle.geometry_laws.specs.CoverLaws.{MissesUprights}
use Rattle.geometry_laws.specs.FaceLaws.{SeesUp, SeesDown}

-- x is strictly between p and q: a point on their straight line, after p and before q (06-103r4, 6.1.7: Line)
pub record IsStrictlyBetween (p q x : Point) : Type 0 where
  pub is_point : IsPoint x
  pub on_line : area p q x ≡ pos 0
  pub after : compare p x ≡ Less
  pub before : compare x q ≡ Less

-- the set holds the open stretch from p to q: all points strictly between the two, which needn't be in it themselves (06-103r4, 6.1.15.2)
pub record HoldsStretch (S : Point → Type 0) (p q : Point) : Type 0 where
  pub p_is_point : IsPoint p
  pub q_is_point : IsPoint q
  pub in_order : compare p q ≡ Less
  pub within : (x : Point) → IsStrictlyBetween p q x → S x

-- a face point of part l of a and part k of b: a point in both that is off all edges and listed positions of both, so that the points all around it are in both too (06-103r4, 6.1.15.2; face points: this project's choice)
pub record IsFacePoint (a : Geometry) (l : Location) (b : Geometry) (k : Location) (p : Point) : Type 0 where
  pub is_point : IsPoint p
  pub within : common a l b k p
  pub off_first : IsOff a p
  pub off_second : IsOff b p

-- two parts that hold an open stretch hold a segment (06-103r4, 6.1.15.2)
abbrev pub StretchHasSegment : Type 0
StretchHasSegment = (a b : Geometry) (l k : Location) (p q : Point) → HoldsStretch (common a l b k) p q → HasSegment (common a l b k)

-- around a face point of two parts there is a triangle in both (06-103r4, 6.1.15.2)
abbrev pub FacePointHasTriangle : Type 0
FacePointHasTriangle = (a b : Geometry) → HasClosedRings a → HasClosedRings b → (l k : Location) (p : Point) → IsFacePoint a l b k p → HasTriangle (common a l b k)

-- the parts in which a piece's sample lies hold the open stretch between the piece's ends
abbrev pub PieceIsStretch : Type 0
PieceIsStretch = (a b : Geometry) → HasClosedRings a → HasClosedRings b → (c : Piece) → IsPieceOf a b c
    → HoldsStretch (common a (locate a (sample c)) b (locate b (sample c))) c.lesser c.greater

-- what is seen straight above a point in both geometries is a face point of the parts that lie just above
abbrev pub SeenAboveIsFacePoint : Type 0
SeenAboveIsFacePoint = (a b : Geometry) (s m : Point) → IsPoint s → SeesUp a s m → SeesUp b s m → IsFacePoint a (above a s) b (above b s) m

-- and what is seen straight below it is one of the parts that lie just below
abbrev pub SeenBelowIsFacePoint : Type 0
SeenBelowIsFacePoint = (a b : Geometry) (s m : Point) → IsPoint s → SeesDown a s m → SeesDown b s m → IsFacePoint a (below a s) b (below b s) m

-- no vertical edge goes through the sample of a piece that isn't vertical, and no listed position is there
abbrev pub SampleMissesUprights : Type 0
SampleMissesUprights = (a b : Geometry) (c : Piece) → IsPieceOf a b c → is_upright c ≡ false → MissesUprights a (sample c) × MissesUprights b (sample c)
