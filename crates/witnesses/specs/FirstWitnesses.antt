-- Which of the witnesses of two parts is shown: the first in the ascending order of pieces and of cut points (this project's choice).
use Rattle.std.specs.Prelude.{◌≡◌, ◌⊎◌, ℕ, ℤ, pos, ◌+ℤ◌, true, false, Option, Some, None, position, slice_get}
use Rattle.geometry_model.specs.Points.{Point, same_point}
use Rattle.geometry_model.specs.Geometries.{Geometry}
use Rattle.geometry_model.specs.Pieces.{Piece, sample}
use Rattle.geometry_model.specs.Labels.{SideLabels, cuts_of_both, is_pair, is_side_pair, labels, side_labels}
use Rattle.geometry_model.specs.declared.point_sets.Location.{Location}
use Rattle.geometry_model.specs.declared.point_sets.Location.TheVariants.{Exterior}
use Rattle.geometry_laws.specs.FaceLaws.{SeesUp, SeesDown}
use Rattle.side_labels.specs.Noding.{pieces_of_both}
use Rattle.witnesses.specs.FarPoints.{Reaches}
use Rattle.witnesses.specs.declared.heights.Side.{Side}
use Rattle.witnesses.specs.declared.heights.Side.TheVariants.{Upper, Lower}
use Rattle.witnesses.specs.declared.witness.Witness.{Witness}
use Rattle.witnesses.specs.declared.witness.Witness.TheVariants as kinds

-- the number of the first piece that has this pair of parts on a side
abbrev pub first_side : Geometry → Location → Geometry → Location → Option ℕ
first_side a l b k = position (is_side_pair l k) (labels a b).of_sides

-- the number of the first piece that has this pair of parts
abbrev pub first_piece : Geometry → Location → Geometry → Location → Option ℕ
first_piece a l b k = position (is_pair l k) (labels a b).of_pieces

-- the number of the first cut point that has this pair of parts
abbrev pub first_point : Geometry → Location → Geometry → Location → Option ℕ
first_point a l b k = position (is_pair l k) (labels a b).of_points

-- the side has the pair, and the lower one is taken only where the upper one hasn't got it
abbrev pub IsFirstOn : Location → Location → Option SideLabels → Side → Type 0
IsFirstOn l k None side = ⊥
IsFirstOn l k (Some s) Upper = is_pair l k s.upper ≡ true
IsFirstOn l k (Some s) Lower = (is_pair l k s.upper ≡ false) × (is_pair l k s.lower ≡ true)

-- m is seen straight above or straight below a point, with nothing of either geometry between
abbrev pub SeesFrom : Geometry → Geometry → Side → Point → Point → Type 0
SeesFrom a b Upper p m = SeesUp a p m × SeesUp b p m
SeesFrom a b Lower p m = SeesDown a p m × SeesDown b p m

-- m is seen so from the sample of a piece
abbrev pub IsSeenBeside : Geometry → Geometry → Piece → Side → Point → Type 0
IsSeenBeside a b c side m = (from : Point) × (same_point from (sample c) ≡ true) × SeesFrom a b side from m

-- m is beside the first piece that has the pair on a side, above it before below it
pub record IsBesideFirst (a : Geometry) (l : Location) (b : Geometry) (k : Location) (m : Point) : Type 0 where
  pub n : ℕ
  pub piece : Piece
  pub side : Side
  pub first : first_side a l b k ≡ Some n
  pub there : slice_get (pieces_of_both a b) n ≡ Some piece
  pub side_first : IsFirstOn l k (side_labels a b piece) side
  pub beside : IsSeenBeside a b piece side m

-- the witness is beside the first piece that has the pair on a side; without one it is the first piece that has it; without one the first cut point
abbrev pub IsFirstWitness : Geometry → Location → Geometry → Location → Witness → Type 0
IsFirstWitness a l b k (kinds.Around m) = IsBesideFirst a l b k m
IsFirstWitness a l b k (kinds.Stretch p q) =
    (first_side a l b k ≡ None)
    × ((n : ℕ) × (first_piece a l b k ≡ Some n) × (slice_get (pieces_of_both a b) n ≡ Some record { lesser = p; greater = q }))
IsFirstWitness a l b k (kinds.Point p) =
    (first_side a l b k ≡ None) × (first_piece a l b k ≡ None)
    × ((n : ℕ) × (first_point a l b k ≡ Some n) × (slice_get (cuts_of_both a b) n ≡ Some p))
IsFirstWitness a l b k kinds.Nothing = (first_side a l b k ≡ None) × (first_piece a l b k ≡ None) × (first_point a l b k ≡ None)

-- m is on the x axis, one step to the right of an x beyond which neither geometry reaches
abbrev pub IsFarRight : Geometry → Geometry → Point → Type 0
IsFarRight a b m = (x : ℤ) × Reaches x a × Reaches x b × (m ≡ record { X = x +ℤ pos 1; Y = pos 0; W = pos 1 })

-- the witness of the two exteriors, which always share an area: without a piece that has them on a side it is to the right of all positions
abbrev pub IsFirstOfExteriors : Geometry → Geometry → Witness → Type 0
IsFirstOfExteriors a b (kinds.Around m) = IsBesideFirst a Exterior b Exterior m ⊎ ((first_side a Exterior b Exterior ≡ None) × IsFarRight a b m)
IsFirstOfExteriors a b w = ⊥

-- the witness of any two parts
abbrev pub IsFirstAt : Geometry → Geometry → Location → Location → Witness → Type 0
IsFirstAt a b Exterior Exterior w = IsFirstOfExteriors a b w
IsFirstAt a b l k w = IsFirstWitness a l b k w

-- each witness is the first of its two parts
abbrev pub AreFirst : Geometry → Geometry → (Location → Location → Witness) → Type 0
AreFirst a b w = (l k : Location) → IsFirstAt a b l k (w l k)
