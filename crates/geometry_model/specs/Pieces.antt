-- Pieces: the stretches of edges between neighbouring cuts.
use Rattle.std.specs.Prelude.{◌≡◌, true, List, [], ◌∷◌, filter, flat_map, Contains}
use Rattle.std.specs.declared.cmp.Ordering.{Ordering}
use Rattle.std.specs.declared.cmp.Ordering.TheVariants.{Less}
use Rattle.std.specs.Ordering.{ordering_then}
use Rattle.geometry_model.specs.Points.{Position, Point, IsPoint, compare, mediant}
use Rattle.geometry_model.specs.Geometries.{Edge}
use Rattle.geometry_model.specs.Sides.{on}
use Rattle.geometry_model.specs.CutPoints.{IsCut, ascending}

-- a straight stretch, its lesser end first
pub record Piece : Type 0 where
  pub lesser : Point
  pub greater : Point

-- two neighbouring cuts on one edge: no cut on it lies strictly between them
pub record IsPiece (es : List Edge) (ps : List Position) (c : Piece) : Type 0 where
  pub edge : Edge
  pub among : Contains es edge
  pub lesser_on : on edge c.lesser ≡ true
  pub greater_on : on edge c.greater ≡ true
  pub lesser_is_cut : IsCut es ps c.lesser
  pub greater_is_cut : IsCut es ps c.greater
  pub in_order : compare c.lesser c.greater ≡ Less
  pub neighbours : (p : Point) → IsPoint p → on edge p ≡ true → IsCut es ps p → compare c.lesser p ≡ Less → compare p c.greater ≡ Less → ⊥

-- the stretches between neighbours of an ascending list
abbrev pub stretches : List Point → List Piece
stretches [] = []
stretches (p ∷ []) = []
stretches (p ∷ q ∷ rest) = record { lesser = p; greater = q } ∷ stretches (q ∷ rest)

-- the pieces of an edge, where the cuts ascend
abbrev pub pieces_of_edge : List Point → Edge → List Piece
pieces_of_edge cuts e = stretches (filter (on e) cuts)

-- the order of pieces: by their lesser ends, then by their greater ends
abbrev pub compare_pieces : Piece → Piece → Ordering
compare_pieces c d = ordering_then (compare c.lesser d.lesser) (compare c.greater d.greater)

-- the pieces of all edges, ascending, each once
abbrev pub pieces : List Point → List Edge → List Piece
pieces cuts es = ascending compare_pieces (flat_map (pieces_of_edge cuts) es)

-- a point strictly within a piece, whose label is that of all such points
abbrev pub sample : Piece → Point
sample c = mediant c.lesser c.greater
