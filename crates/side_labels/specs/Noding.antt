-- The nodes and the pieces of two geometries.
use Rattle.std.specs.Prelude.{◌≡◌, List, All, ◌++◌}
use Rattle.geometry_model.specs.Points.{Point}
use Rattle.geometry_model.specs.Geometries.{Geometry, listed}
use Rattle.geometry_model.specs.CutPoints.{IsCut}
use Rattle.geometry_model.specs.Pieces.{Piece, pieces}
use Rattle.geometry_model.specs.Labels.{cuts_of_both, edges_of_both, labels, labels_of}
use Rattle.geometry_laws.specs.PieceLaws.{IsPieceOf}
use Rattle.noding.specs.Nodings.{HasNodeTriples}

-- the pieces of two geometries, in ascending order
abbrev pub pieces_of_both : Geometry → Geometry → List Piece
pieces_of_both a b = pieces (cuts_of_both a b) (edges_of_both a b)

-- these are the nodes and the pieces of two geometries: their labels are all that the geometries have
pub record AreNoded (a b : Geometry) (nodes : List Point) (cs : List Piece) : Type 0 where
  pub are_cuts : All (IsCut (edges_of_both a b) (listed a ++ listed b)) nodes
  pub are_pieces : All (IsPieceOf a b) cs
  pub triples : All HasNodeTriples cs
  pub exact_nodes : nodes ≡ cuts_of_both a b
  pub exact_pieces : cs ≡ pieces_of_both a b
  pub labels : labels_of a b nodes cs ≡ labels a b
