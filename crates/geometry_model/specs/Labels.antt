-- The label matrix: what the cut points, the pieces and their sides show of two geometries.
use Rattle.std.specs.Prelude.{Bool, true, false, ◌&&◌, ◌||◌, List, ◌++◌, map, Option, Some, None, if◌then◌else◌, ◌*ℤ◌}
use Rattle.std.specs.List.{list_any}
use Rattle.std.specs.Ordering.{int_eq}
use Rattle.geometry_model.specs.Points.{Point}
use Rattle.geometry_model.specs.Geometries.{Geometry, Edge, edges, listed, rings}
use Rattle.geometry_model.specs.Crossings.{odd_above, odd_at_or_above}
use Rattle.geometry_model.specs.Locations.{locate}
use Rattle.geometry_model.specs.Dimensions.{Matrix, matrix_of}
use Rattle.geometry_model.specs.CutPoints.{cut_points}
use Rattle.geometry_model.specs.Pieces.{Piece, pieces, sample}
use Rattle.geometry_model.specs.declared.point_sets.Location.{Location}
use Rattle.geometry_model.specs.declared.point_sets.Location.TheVariants.{Interior, Boundary, Exterior}
use Rattle.geometry_model.specs.declared.point_sets.Dimension.{Dimension}
use Rattle.geometry_model.specs.declared.point_sets.Dimension.TheVariants.{Empty, Zero, One, Two}

-- a pair of parts, of the first and the second geometry
pub record Label : Type 0 where
  pub first : Location
  pub second : Location

-- the label of a point: where it lies in both geometries
abbrev pub label : Geometry → Geometry → Point → Label
label a b p = record { first = locate a p; second = locate b p }

-- where the points just below a sample lie: in the interior of an area exactly if an odd number of its edges are at or above the sample; in the exterior of points and lines
abbrev pub below : Geometry → Point → Location
below g p = if odd_at_or_above (rings g) p then Interior else Exterior

-- where the points just above a sample lie: in the interior of an area exactly if an odd number of its edges are strictly above the sample
abbrev pub above : Geometry → Point → Location
above g p = if odd_above (rings g) p then Interior else Exterior

-- the labels of the two sides of a piece
pub record SideLabels : Type 0 where
  pub lower : Label
  pub upper : Label

-- the piece is vertical: its ends have the same x
abbrev pub is_upright : Piece → Bool
is_upright c = int_eq (c.lesser.X *ℤ c.greater.W) (c.greater.X *ℤ c.lesser.W)

-- the labels just below and just above a piece; a vertical piece has none
abbrev pub side_labels : Geometry → Geometry → Piece → Option SideLabels
side_labels a b c =
    if is_upright c then None
    else Some record {
      lower = record { first = below a (sample c); second = below b (sample c) };
      upper = record { first = above a (sample c); second = above b (sample c) };
    }

-- the labels of all cut points, of all pieces at their samples, and of the pieces' sides, in the order of points and pieces
pub record Labels : Type 0 where
  pub of_points : List Label
  pub of_pieces : List Label
  pub of_sides : List (Option SideLabels)

-- the labels of these cut points and pieces
abbrev pub labels_of : Geometry → Geometry → List Point → List Piece → Labels
labels_of a b cuts cs = record {
  of_points = map (label a b) cuts;
  of_pieces = map (λ c. label a b (sample c)) cs;
  of_sides = map (side_labels a b) cs;
}

-- the edges of both geometries
abbrev pub edges_of_both : Geometry → Geometry → List Edge
edges_of_both a b = edges a ++ edges b

-- their cut points: all positions, all crossings
abbrev pub cuts_of_both : Geometry → Geometry → List Point
cuts_of_both a b = cut_points (edges_of_both a b) (listed a ++ listed b)

-- the labels of two geometries
abbrev pub labels : Geometry → Geometry → Labels
labels a b = labels_at (cuts_of_both a b)
  where
    labels_at : List Point → Labels
    labels_at cuts = labels_of a b cuts (pieces cuts (edges_of_both a b))

-- two parts are equal
abbrev pub same_location : Location → Location → Bool
same_location Interior Interior = true
same_location Boundary Boundary = true
same_location Exterior Exterior = true
same_location _ _ = false

-- a label is this pair of parts
abbrev pub is_pair : Location → Location → Label → Bool
is_pair l k x = same_location l x.first && same_location k x.second

-- one of the sides is this pair
abbrev pub is_side_pair : Location → Location → Option SideLabels → Bool
is_side_pair l k None = false
is_side_pair l k (Some s) = is_pair l k s.lower || is_pair l k s.upper

-- the greatest dimension of what has this pair: a side has 2, a piece 1, a point 0
abbrev pub labelled_cell : Labels → Location → Location → Dimension
labelled_cell x l k =
    if list_any (is_side_pair l k) x.of_sides then Two
    else if list_any (is_pair l k) x.of_pieces then One
    else if list_any (is_pair l k) x.of_points then Zero
    else Empty

-- the matrix that labels show; the two exteriors always share an area
abbrev pub matrix_of_labels : Labels → Matrix
matrix_of_labels x = record (matrix_of (labelled_cell x)) { exterior_exterior = Two }

-- the label matrix of two geometries
abbrev pub labelled_matrix : Geometry → Geometry → Matrix
labelled_matrix a b = matrix_of_labels (labels a b)
