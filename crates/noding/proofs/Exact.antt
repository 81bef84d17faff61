-- The nodes are the list of cut points, and the pieces that of pieces: they have the same members in the same order.
use Rattle.std.proofs.Common.{◌≡◌, ◌⊎◌, inl, inr, true, subst, List, All}
use Rattle.std.specs.declared.cmp.Ordering.TheVariants.{Less, Equal}
use Rattle.std.proofs.lemmas.List.Elements.{All-contains}
use Rattle.std.proofs.lemmas.Bool.{and_parts}
use Rattle.basics.proofs.Orders.{then_less}
use Rattle.geometry_model.specs.Points.{Position, Point, IsPoint, IsLeast, same_point, compare}
use Rattle.geometry_model.specs.Geometries.{Edge}
use Rattle.geometry_model.specs.CutPoints.{IsCut, cut_points}
use Rattle.geometry_model.specs.Pieces.{Piece, IsPiece, compare_pieces, pieces}
use Rattle.geometry_model.proofs.LeastFormFacts.{least_is_unique}
use Rattle.geometry_laws.proofs.Each.{Among, each_of}
use Rattle.matrix_laws.proofs.MatrixLists.{Some_of, contains_from_among, some_from_any}
use Rattle.matrix_laws.proofs.Stretches.{HasPoints, not_before_itself, pieces_are_ordered}
use Rattle.matrix_laws.proofs.CutLists.{IsLeastCut}
use Rattle.matrix_laws.proofs.CutOrder.{listed_is_cut, cut_points-sorted, points_are_ordered}
use Rattle.matrix_laws.proofs.Turned.{same_list}
use Rattle.matrix_laws.proofs.PieceLists.{IsLeastPiece, itself_listed, piece_is, piece_is_listed, pieces-sorted}
use Rattle.noding.specs.Nodings.{same_piece, IsNodeTriple, HasNodeTriples, ListsCuts, ListsPieces, AscendingPoints, AscendingPieces}
use Rattle.noding.proofs.NodeCuts.{cut_is_point}
use Rattle.noding.proofs.NodeSteps.{sorted_from_pairs}

-- ---- nodes
-- the nodes list each cut and nothing else, ascending, in least form; so do the cut points, so the lists are the same
pub nodes_are_cut_points : (es : List Edge) (ps : List Position) (nodes : List Point) → All (IsCut es ps) nodes → ListsCuts es ps nodes → AscendingPoints nodes → All IsNodeTriple nodes → nodes ≡ cut_points es ps
nodes_are_cut_points es ps nodes cuts found ascend triples = same_list IsPoint compare points_are_ordered not_before_itself nodes (cut_points es ps)
    (each_of IsPoint nodes (λ p a. cut_is_point es ps p (cut p a)))
    (each_of IsPoint (cut_points es ps) (λ p a. (listed_is_cut es ps p a).is_point))
    (sorted_from_pairs compare nodes ascend) (cut_points-sorted es ps) (record { there = there; back = λ p a. back p (listed_is_cut es ps p a) })
  where
    cut : (p : Point) → Among p nodes → IsCut es ps p
    cut p a = All-contains (IsCut es ps) nodes p cuts (contains_from_among nodes p a)

    least : (p : Point) → Among p nodes → IsLeast p
    least p a = (All-contains IsNodeTriple nodes p triples (contains_from_among nodes p a)).least

    there : (p : Point) → Among p nodes → Among p (cut_points es ps)
    there p a = itself_listed es ps p (cut_is_point es ps p (cut p a)) (least p a) (cut p a)

    back : (p : Point) → IsLeastCut es ps p → Among p nodes
    back p k = go (some_from_any (λ q. same_point q p ≡ true) nodes (found p k.is_cut))
      where
        go : Some_of (λ q. same_point q p ≡ true) nodes → Among p nodes
        go s = subst (λ q. Among q nodes) (least_is_unique s.found p (cut_is_point es ps s.found (cut s.found s.among)) k.is_point (least s.found s.among) k.is_least s.has) s.among

-- ---- pieces
-- no piece is before itself, since no point is
not_before_itself_piece : (c : Piece) → compare_pieces c c ≡ Less → ⊥
not_before_itself_piece c e = go (then_less (compare c.lesser c.lesser) (compare c.greater c.greater) e)
  where
    go : (compare c.lesser c.lesser ≡ Less) ⊎ ((compare c.lesser c.lesser ≡ Equal) × (compare c.greater c.greater ≡ Less)) → ⊥
    go (inl f) = not_before_itself c.lesser f
    go (inr f) = not_before_itself c.greater f.1

-- the same of pieces, ordered by their lesser and then by their greater ends
pub pieces_are_listed : (es : List Edge) (ps : List Position) (cs : List Piece) → All (IsPiece es ps) cs → ListsPieces es ps cs → AscendingPieces cs → All HasNodeTriples cs → cs ≡ pieces (cut_points es ps) es
pieces_are_listed es ps cs are found ascend triples = same_list HasPoints compare_pieces pieces_are_ordered not_before_itself_piece cs (pieces (cut_points es ps) es)
    (each_of HasPoints cs (λ c a. points c (piece c a)))
    (each_of HasPoints (pieces (cut_points es ps) es) (λ c a. points c (piece_is es ps c a).is_piece))
    (sorted_from_pairs compare_pieces cs ascend) (pieces-sorted es ps) (record { there = there; back = λ c a. back c (piece_is es ps c a) })
  where
    points : (c : Piece) → IsPiece es ps c → HasPoints c
    points c i = (cut_is_point es ps c.lesser i.lesser_is_cut, cut_is_point es ps c.greater i.greater_is_cut)

    piece : (c : Piece) → Among c cs → IsPiece es ps c
    piece c a = All-contains (IsPiece es ps) cs c are (contains_from_among cs c a)

    least : (c : Piece) → Among c cs → HasNodeTriples c
    least c a = All-contains HasNodeTriples cs c triples (contains_from_among cs c a)

    there : (c : Piece) → Among c cs → Among c (pieces (cut_points es ps) es)
    there c a = piece_is_listed es ps c (points c (piece c a)).0 (points c (piece c a)).1 (least c a).0.least (least c a).1.least (piece c a)

    is_one : (d c : Piece) → HasPoints d → HasPoints c → HasNodeTriples d → IsLeast c.lesser → IsLeast c.greater → same_piece d c ≡ true → d ≡ c
    is_one d c hd hc kd kl kg e =
        let both : (same_point d.lesser c.lesser ≡ true) × (same_point d.greater c.greater ≡ true) = and_parts (same_point d.lesser c.lesser) (same_point d.greater c.greater) e in
        λ i. record {
          lesser = least_is_unique d.lesser c.lesser hd.0 hc.0 kd.0.least kl both.0 i;
          greater = least_is_unique d.greater c.greater hd.1 hc.1 kd.1.least kg both.1 i;
        }

    back : (c : Piece) → IsLeastPiece es ps c → Among c cs
    back c k = go (some_from_any (λ d. same_piece d c ≡ true) cs (found c k.is_piece))
      where
        go : Some_of (λ d. same_piece d c ≡ true) cs → Among c cs
        go s = subst (λ d. Among d cs) (is_one s.found c (points s.found (piece s.found s.among)) (points c k.is_piece) (least s.found s.among) k.lesser_is.1 k.greater_is.1 s.has) s.among
