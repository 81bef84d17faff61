-- The nodes and pieces of edges and listed positions.
use Rattle.std.specs.Prelude.{◌≡◌, ℕ, ◌<◌, Bool, true, ◌&&◌, List, get_or, Contains, Any, All, AllPairs, pos, ◌≤ℤ◌}
use Rattle.std.specs.declared.cmp.Ordering.TheVariants.{Less}
use Rattle.geometry_model.specs.Points.{Position, Point, IsPoint, IsLeast, point_at, same_point, compare}
use Rattle.geometry_model.specs.Geometries.{Edge}
use Rattle.geometry_model.specs.Sides.{on}
use Rattle.geometry_model.specs.CutPoints.{IsCut}
use Rattle.geometry_model.specs.Pieces.{Piece, IsPiece, compare_pieces}
use Rattle.fraction.specs.Ranges.{meeting_limit}

-- two stretches have the same ends
abbrev pub same_piece : Piece → Piece → Bool
same_piece c d = same_point c.lesser d.lesser && same_point c.greater d.greater

-- one of the points is this point
abbrev pub ListsPoint : List Point → Point → Type 0
ListsPoint ps p = Any (λ q. same_point q p ≡ true) ps

-- one of the stretches is this stretch
abbrev pub ListsPiece : List Piece → Piece → Type 0
ListsPiece cs c = Any (λ d. same_piece d c ≡ true) cs

-- the triple of a point is in least form, and its denominator is within the limit
pub record IsNodeTriple (p : Point) : Type 0 where
  pub least : IsLeast p
  pub limit : p.W ≤ℤ pos meeting_limit

-- both ends of the piece have such triples
abbrev pub HasNodeTriples : Piece → Type 0
HasNodeTriples c = IsNodeTriple c.lesser × IsNodeTriple c.greater

-- points in ascending order, each once
abbrev pub AscendingPoints : List Point → Type 0
AscendingPoints ps = AllPairs (λ p q. compare p q ≡ Less) ps

-- stretches in ascending order, each once
abbrev pub AscendingPieces : List Piece → Type 0
AscendingPieces cs = AllPairs (λ c d. compare_pieces c d ≡ Less) cs

-- each cut is one of the points
abbrev pub ListsCuts : List Edge → List Position → List Point → Type 0
ListsCuts es ps nodes = (p : Point) → IsCut es ps p → ListsPoint nodes p

-- each piece is one of the stretches
abbrev pub ListsPieces : List Edge → List Position → List Piece → Type 0
ListsPieces es ps pieces = (c : Piece) → IsPiece es ps c → ListsPiece pieces c

-- nodes and the stretches between them, and how many pairs of edges were tried
pub record Noding : Type 0 where
  pub nodes : List Point
  pub pieces : List Piece
  pub tests : ℕ

-- the piece between two points
abbrev pub piece_of : Point × Point → Piece
piece_of c = record { lesser = c.0; greater = c.1 }

-- ---- steps by which nodes and pieces are found

-- the points are exactly the cuts on one of the edges, ascending, each once
pub record AreBreaks (es : List Edge) (ps : List Position) (e : Edge) (points : List Point) : Type 0 where
  pub on_edge : All (λ p. on e p ≡ true) points
  pub cuts : All (IsCut es ps) points
  pub found : (p : Point) → on e p ≡ true → IsCut es ps p → ListsPoint points p
  pub ascend : AscendingPoints points
  pub triples : All IsNodeTriple points

-- the second list holds the points of the first, ascending, each once
pub record PutsPointsInOrder (given ordered : List Point) : Type 0 where
  pub from : (p : Point) → Contains ordered p → Contains given p
  pub kept : (p : Point) → Contains given p → ListsPoint ordered p
  pub ascend : AscendingPoints ordered

-- the same of stretches
pub record PutsPiecesInOrder (given ordered : List Piece) : Type 0 where
  pub from : (c : Piece) → Contains ordered c → Contains given c
  pub kept : (c : Piece) → Contains given c → ListsPiece ordered c
  pub ascend : AscendingPieces ordered

-- both ends of a stretch are points
abbrev pub HasPointEnds : Piece → Type 0
HasPointEnds c = IsPoint c.lesser × IsPoint c.greater

-- the point is on the edge and a cut of the edges, its triple that of a node
pub record IsBreak (es : List Edge) (ps : List Position) (e : Edge) (p : Point) : Type 0 where
  pub on_edge : on e p ≡ true
  pub is_cut : IsCut es ps p
  pub triple : IsNodeTriple p

-- the points are cuts on the edge, and all of these are there
pub record AllBreaks (es : List Edge) (ps : List Position) (e : Edge) (points : List Point) : Type 0 where
  pub from : (p : Point) → Contains points p → IsBreak es ps e p
  pub found : (p : Point) → on e p ≡ true → IsCut es ps p → ListsPoint points p

-- the listed positions and the cuts on the first of the edges, and nothing but cuts
pub record HoldsNodes (es : List Edge) (ps : List Position) (count : ℕ) (points : List Point) : Type 0 where
  pub cuts : (p : Point) → Contains points p → IsCut es ps p × IsNodeTriple p
  pub listed : (a : Position) → Contains ps a → Contains points (point_at a)
  pub found : (k : ℕ) (d : Edge) → k < count → (p : Point) → on (get_or es k d) p ≡ true → IsCut es ps p → ListsPoint points p

-- the pieces of the first of the edges, and nothing but pieces
pub record HoldsPieces (es : List Edge) (ps : List Position) (count : ℕ) (stretches : List Piece) : Type 0 where
  pub pieces : (c : Piece) → Contains stretches c → IsPiece es ps c × HasNodeTriples c
  pub found : (k : ℕ) (d : Edge) → k < count → (c : Piece) → (h : IsPiece es ps c) → h.edge ≡ get_or es k d → ListsPiece stretches c
