-- Laws of cut points and pieces, each as one statement.
use Rattle.std.specs.Prelude.{◌≡◌, ◌↔◌, true, List, All, Any, AllPairs, Contains}
use Rattle.std.specs.declared.cmp.Ordering.TheVariants.{Less}
use Rattle.geometry_model.specs.Points.{Position, Point, IsPoint, IsLeast, same_point, compare}
use Rattle.geometry_model.specs.Geometries.{Geometry, Edge}
use Rattle.geometry_model.specs.Dimensions.{transposed}
use Rattle.geometry_model.specs.CutPoints.{IsCut, cut_points}
use Rattle.geometry_model.specs.Pieces.{Piece, IsPiece, pieces, compare_pieces}
use Rattle.geometry_model.specs.Labels.{labelled_matrix}

-- the list of cut points holds exactly the cuts
abbrev pub CutPointsAreCuts : Type 0
CutPointsAreCuts = (es : List Edge) (ps : List Position) (p : Point) → IsPoint p → IsCut es ps p ↔ Any (λ q. same_point q p ≡ true) (cut_points es ps)

-- the cut points of the list are in least form
abbrev pub CutPointsAreLeast : Type 0
CutPointsAreLeast = (es : List Edge) (ps : List Position) → All (λ p. IsPoint p × IsLeast p) (cut_points es ps)

-- the list of cut points ascends, each point once
abbrev pub CutPointsAscend : Type 0
CutPointsAscend = (es : List Edge) (ps : List Position) → AllPairs (λ p q. compare p q ≡ Less) (cut_points es ps)

-- of stretches whose ends are in least form, the list of pieces holds exactly the pieces
abbrev pub PiecesArePieces : Type 0
PiecesArePieces = (es : List Edge) (ps : List Position) (c : Piece) → IsLeast c.lesser → IsLeast c.greater
    → IsPiece es ps c ↔ Contains (pieces (cut_points es ps) es) c

-- the list of pieces ascends, each piece once
abbrev pub PiecesAscend : Type 0
PiecesAscend = (es : List Edge) (ps : List Position) → AllPairs (λ c d. compare_pieces c d ≡ Less) (pieces (cut_points es ps) es)

-- the label matrix of two geometries the other way round is the transposed one
abbrev pub LabelledIsTransposed : Type 0
LabelledIsTransposed = (a b : Geometry) → labelled_matrix b a ≡ transposed (labelled_matrix a b)
