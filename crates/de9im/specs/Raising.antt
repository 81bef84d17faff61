-- How a matrix of two geometries grows while it is found.
use Rattle.std.specs.Prelude.{◌≡◌, ◌≢◌, ℕ, true, false, Bool, if◌then◌else◌, List, get_or, All, Any}
use Rattle.std.specs.List.{list_any}
use Rattle.geometry_model.specs.Points.{Position, Point, IsPoint, point_at}
use Rattle.geometry_model.specs.Geometries.{Edge, Geometry, kind, edges, lines, listed}
use Rattle.geometry_model.specs.Sides.{on}
use Rattle.geometry_model.specs.Locations.{is_odd_end, locate}
use Rattle.geometry_model.specs.Dimensions.{Matrix}
use Rattle.geometry_model.specs.Envelopes.{Envelope}
use Rattle.geometry_model.specs.Validity.{IsValid}
use Rattle.geometry_model.specs.FirstFaults.{share_point}
use Rattle.geometry_model.specs.declared.shapes.Kind.{Kind}
use Rattle.geometry_model.specs.declared.shapes.Kind.TheVariants as kinds
use Rattle.geometry_model.specs.declared.point_sets.Location.{Location}
use Rattle.geometry_model.specs.declared.point_sets.Location.TheVariants.{Interior, Exterior}
use Rattle.geometry_model.specs.declared.point_sets.Dimension.TheVariants.{Zero, One, Two}
use Rattle.edge_boxes.specs.NearEdges.{is_near}
use Rattle.edge_boxes.specs.RingEdges.{edges_share}
use Rattle.side_labels.specs.declared.piece_sides.Sides.{Sides}
use Rattle.matrix_laws.specs.Gaps.{IsBetween, mostly}
use Rattle.matrix_laws.specs.Cells.{Shows, raised, IsPartOf, IsSound, Covers, CoversPosition}
use Rattle.de9im.specs.Cells.{of_exteriors}
use Rattle.de9im.specs.declared.gap_cells.Pass.{Pass}
use Rattle.de9im.specs.declared.gap_cells.Pass.TheVariants.{First, Second}
use Rattle.matrix_laws.specs.Covering.{IsOffEdges, ShowsOff, ShowsAt}

-- the matrix has grown just far enough to show this: every matrix that it was part of and that shows this, it is still part of
pub record IsRaisedTo (Shown : Matrix → Type 0) (m n : Matrix) : Type 0 where
  pub grown : IsPartOf m n
  pub shows : Shown n
  pub least : (o : Matrix) → IsPartOf m o → Shown o → IsPartOf n o

-- the matrix has grown, and where the geometries are valid it still shows nothing but what is there (06-103r4, 6.1.15.2)
pub record Grows (a b : Geometry) (m n : Matrix) : Type 0 where
  pub grown : IsPartOf m n
  pub sound : IsValid a → IsValid b → IsSound a b m → IsSound a b n

-- the position lies in this part of the geometry
abbrev pub LiesIn : Location → Geometry → Position → Type 0
LiesIn l a p = locate a (point_at p) ≡ l

-- the matrix shows where all odd ends of a's lines lie (06-103r4, 6.1.8.1: the mod 2 rule)
abbrev pub ShowsOddEnds : Geometry → Geometry → Matrix → Type 0
ShowsOddEnds a b m = kind a ≡ kinds.Line → (x : Point) → IsPoint x → is_odd_end (lines a) x ≡ true → Shows m (locate a x) (locate b x) Zero

-- the matrix shows where all listed positions of a lie in b, and all odd ends of its lines
pub record ShowsOwnEnds (a b : Geometry) (m : Matrix) : Type 0 where
  pub positions : All (CoversPosition a b m) (listed a)
  pub odd_ends : ShowsOddEnds a b m

-- the matrix shows of one part that it shares at least a point with each part that a geometry of this kind has
abbrev pub ShowsRow : Location → Kind → Matrix → Type 0
ShowsRow l k m = (b : Geometry) → kind b ≡ k → (p : Point) → Shows m l (locate b p) Zero

-- the matrix shows all that gaps of the edges of a geometry of this kind can show in this part of another, off the other's edges
abbrev pub ShowsAllOff : Kind → Location → Matrix → Type 0
ShowsAllOff k l m = (a : Geometry) → kind a ≡ k → (e : Edge) → ShowsOff a m e l

-- the edge is vertical, and its rectangle doesn't overlap the envelope: it has no sides to show
abbrev pub IsUprightOutside : Envelope → Edge → Type 0
IsUprightOutside around e = (e.start.x ≡ e.end.x) × (is_near around e ≡ false)

-- an area with an edge that isn't vertical (06-103r4, 6.1.11.1)
pub record HasSides (g : Geometry) : Type 0 where
  pub is_area : kind g ≡ kinds.Area
  pub edge : Any (λ e. e.start.x ≢ e.end.x) (edges g)

-- what an area shows beside points, wherever these lie (06-103r4, 6.1.15.2)
abbrev pub of_area : Matrix
of_area = record of_exteriors { exterior_interior = Two; exterior_boundary = One }

-- the matrix of a point and an area, by the part of the area in which the point lies (06-103r4, 6.1.15.2)
abbrev pub beside_area : Location → Matrix
beside_area part = raised of_area Interior part Zero

-- the point is on edges of both geometries
pub record IsOnBoth (a b : Geometry) (p : Point) : Type 0 where
  pub is_point : IsPoint p
  pub on_first : Any (λ e. on e p ≡ true) (edges a)
  pub on_second : Any (λ e. on e p ≡ true) (edges b)

-- off its edges a geometry of this kind has its interior where an odd number of the edges of an area are above, and else its exterior (06-103r4, 6.1.11.1)
abbrev pub off_edges : Kind → Bool → Location
off_edges kinds.Point odd = Exterior
off_edges kinds.Line odd = Exterior
off_edges kinds.Area odd = if odd then Interior else Exterior

-- the matrix with the cells raised of two geometries' lower sides and of their upper ones (06-103r4, 6.1.15.2)
abbrev pub with_sides : Sides → Sides → Matrix → Matrix
with_sides s t m = raised (raised m s.lower t.lower Two) s.upper t.upper Two

-- the matrix shows what a pass looks at of a gap, by a point within the gap: in the second pass what there is off the second geometry's edges
abbrev pub ShowsIn : Pass → Geometry → Geometry → Matrix → Edge → Point → Type 0
ShowsIn First a b m e y = ShowsAt a b m e y
ShowsIn Second a b m e y = IsOffEdges b y → ShowsOff a m e (mostly b y)

-- the matrix shows what a pass looks at of a gap, by some point within it
pub record ShowsGapIn (pass : Pass) (a b : Geometry) (m : Matrix) (e : Edge) (p q : Point) : Type 0 where
  pub sample : Point
  pub between : IsBetween e p q sample
  pub shows : ShowsIn pass a b m e sample

-- the matrix shows what a pass looks at of each gap of the edge, whichever point of the edge is within it
abbrev pub ShowsAllAlong : Pass → Geometry → Geometry → Matrix → Edge → Type 0
ShowsAllAlong pass a b m e = (y : Point) → IsPoint y → on e y ≡ true → ShowsIn pass a b m e y

-- what the matrix has to show before a pass: before the second one it covers the edges of b
abbrev pub IsReady : Pass → Geometry → Geometry → Matrix → Type 0
IsReady First a b m = Unit {0}
IsReady Second a b m = All (Covers a b m) (edges b)

-- the edge shares no point with an edge of the geometry (06-103r4, 6.1.15: intersection of point sets)
abbrev pub IsApart : Edge → Geometry → Type 0
IsApart e b = list_any (share_point e) (edges b) ≡ false

-- no edge of the one geometry shares a point with an edge of the other (06-103r4, 6.1.15: intersection of point sets)
abbrev pub AreApart : Geometry → Geometry → Type 0
AreApart a b = edges_share (edges a) (edges b) ≡ false

-- the position is on no edge of the geometry, and almost all points about it lie in this part
pub record LiesOff (b : Geometry) (l : Location) (at : Position) : Type 0 where
  pub off : IsOffEdges b (point_at at)
  pub part : l ≡ mostly b (point_at at)

-- the edge at this place starts off the geometry's edges, in this part of it
abbrev pub StartsOff : Geometry → Location → List Edge → ℕ → Type 0
StartsOff b l es place = (e : Edge) → e ≡ get_or es place e → LiesOff b l e.start
