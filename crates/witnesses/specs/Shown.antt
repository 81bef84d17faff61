-- Witnesses: what shows each cell of the matrix of two geometries.
use Rattle.std.specs.Prelude.{◌≡◌, ◌≢◌, true, List, All, ◌++◌, Option, Some, None, ◌*ℤ◌, ◌<ℤ◌}
use Rattle.geometry_model.specs.Points.{Point, IsPoint}
use Rattle.geometry_model.specs.Geometries.{Geometry, edges, listed}
use Rattle.geometry_model.specs.Dimensions.{Matrix, matrix_of, HasPoint, common}
use Rattle.geometry_model.specs.CutPoints.{IsCut}
use Rattle.geometry_model.specs.Pieces.{Piece, sample}
use Rattle.geometry_model.specs.Labels.{Labels, SideLabels, labels, labels_of, cuts_of_both, edges_of_both, is_pair, above, below}
use Rattle.geometry_model.specs.declared.point_sets.Location.{Location}
use Rattle.geometry_model.specs.declared.point_sets.Location.TheVariants.{Interior, Boundary, Exterior}
use Rattle.geometry_model.specs.declared.point_sets.Dimension.{Dimension}
use Rattle.geometry_model.specs.declared.point_sets.Dimension.TheVariants.{Empty, Zero, One, Two}
use Rattle.geometry_laws.specs.PieceLaws.{HasClosedRings, IsPieceOf}
use Rattle.noding.specs.Nodings.{HasNodeTriples}
use Rattle.matrix_laws.specs.Witnessing.{HoldsStretch, IsFacePoint}
use Rattle.side_labels.specs.Noding.{pieces_of_both}
use Rattle.witnesses.specs.Heights.{IsAhead, IsPast, ahead, ClearsEdge, ClearsPosition}
use Rattle.witnesses.specs.declared.heights.Side.{Side}
use Rattle.witnesses.specs.declared.heights.Side.TheVariants.{Upper, Lower}
use Rattle.witnesses.specs.declared.heights.Height.{Height}
use Rattle.witnesses.specs.declared.witness.Witness.{Witness}
use Rattle.witnesses.specs.declared.witness.Witness.TheVariants as kinds
use Rattle.witnesses.specs.declared.witness.Witnesses.{Witnesses}

-- the witness of a part of the first geometry and a part of the second
abbrev pub witness_at : Witnesses → Location → Location → Witness
witness_at w Interior Interior = w.interior_interior
witness_at w Interior Boundary = w.interior_boundary
witness_at w Interior Exterior = w.interior_exterior
witness_at w Boundary Interior = w.boundary_interior
witness_at w Boundary Boundary = w.boundary_boundary
witness_at w Boundary Exterior = w.boundary_exterior
witness_at w Exterior Interior = w.exterior_interior
witness_at w Exterior Boundary = w.exterior_boundary
witness_at w Exterior Exterior = w.exterior_exterior

-- the dimension that a witness shows: a point 0, a stretch 1, a face point 2, nothing F (06-103r4, 6.1.15.2)
abbrev pub shown_dimension : Witness → Dimension
shown_dimension kinds.Nothing = Empty
shown_dimension (kinds.Point p) = Zero
shown_dimension (kinds.Stretch p q) = One
shown_dimension (kinds.Around p) = Two

-- the matrix of the dimensions that witnesses show (06-103r4, 6.1.15.2)
abbrev pub shown_matrix : (Location → Location → Witness) → Matrix
shown_matrix w = matrix_of (λ l k. shown_dimension (w l k))

-- the witness shows what part l of a and part k of b have in common: a point of both, an open stretch in both, a face point of both; or nothing, where they have no point in common (06-103r4, 6.1.15.2)
abbrev pub IsShownBy : Geometry → Location → Geometry → Location → Witness → Type 0
IsShownBy a l b k kinds.Nothing = HasPoint (common a l b k) → ⊥
IsShownBy a l b k (kinds.Point p) = IsPoint p × common a l b k p
IsShownBy a l b k (kinds.Stretch p q) = HoldsStretch (common a l b k) p q
IsShownBy a l b k (kinds.Around p) = IsFacePoint a l b k p

-- each witness shows what its two parts have in common (06-103r4, 6.1.15.2)
abbrev pub ShowsAll : Geometry → Geometry → (Location → Location → Witness) → Type 0
ShowsAll a b w = (l k : Location) → IsShownBy a l b k (w l k)

-- ---- steps by which witnesses are found

-- the witness shows what it says it shows, unless it is `Nothing`
abbrev pub ShowsIfAny : Geometry → Location → Geometry → Location → Witness → Type 0
ShowsIfAny a l b k w = w ≢ kinds.Nothing → IsShownBy a l b k w

-- the witness shows this dimension, and shows what it says unless it is `Nothing`
pub record IsWitnessOf (a : Geometry) (l : Location) (b : Geometry) (k : Location) (d : Dimension) (w : Witness) : Type 0 where
  pub dimension : shown_dimension w ≡ d
  pub shows : ShowsIfAny a l b k w

-- all edges and listed positions that are straight ahead of p are past the height
pub record Clears (side : Side) (p : Point) (h : Height) (g : Geometry) : Type 0 where
  pub edges : All (ClearsEdge side p h) (edges g)
  pub positions : All (ClearsPosition side p h) (listed g)

-- m is straight ahead of p, and all that is past the height is further than m
pub record IsHalfWay (side : Side) (p : Point) (h : Height) (m : Point) : Type 0 where
  pub is_ahead : IsAhead side p m
  pub nearer : (z : Point) → IsAhead side p z → IsPast side p h z → (ahead side p m *ℤ z.W) <ℤ (ahead side p z *ℤ m.W)

-- this side of a piece has this pair of parts
abbrev pub HasPairOn : Location → Location → Option SideLabels → Side → Type 0
HasPairOn l k None side = ⊥
HasPairOn l k (Some s) Upper = is_pair l k s.upper ≡ true
HasPairOn l k (Some s) Lower = is_pair l k s.lower ≡ true

-- m is a face point of the parts that lie on this side of the piece
abbrev pub IsBeside : Geometry → Geometry → Piece → Side → Point → Type 0
IsBeside a b c Upper m = IsFacePoint a (above a (sample c)) b (above b (sample c)) m
IsBeside a b c Lower m = IsFacePoint a (below a (sample c)) b (below b (sample c)) m

-- the nodes and the pieces of two geometries whose rings are closed, and their labels
pub record AreLabelled (a b : Geometry) (nodes : List Point) (cs : List Piece) (x : Labels) : Type 0 where
  pub first_closed : HasClosedRings a
  pub second_closed : HasClosedRings b
  pub are_cuts : All (IsCut (edges_of_both a b) (listed a ++ listed b)) nodes
  pub are_pieces : All (IsPieceOf a b) cs
  pub triples : All HasNodeTriples cs
  pub exact_nodes : nodes ≡ cuts_of_both a b
  pub exact_pieces : cs ≡ pieces_of_both a b
  pub exact : x ≡ labels a b
  pub labels : x ≡ labels_of a b nodes cs
