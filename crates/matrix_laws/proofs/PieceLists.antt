-- The list of pieces as a whole: exactly the pieces, ascending.
use Rattle.std.proofs.Common.{◌≡◌, inl, inr, ◌↔◌, true, sym, subst, ◌∙◌, List, Contains, AllPairs, filter, flat_map}
use Rattle.std.specs.declared.cmp.Ordering.TheVariants.{Less, Equal}
use Rattle.basics.proofs.Orders.{then_equal}
use Rattle.geometry_model.specs.Points.{Position, Point, IsPoint, IsLeast, same_point, compare}
use Rattle.geometry_model.specs.Geometries.{Edge}
use Rattle.geometry_model.specs.Sides.{on}
use Rattle.geometry_model.specs.CutPoints.{IsCut, cut_points}
use Rattle.geometry_model.specs.Pieces.{Piece, IsPiece, pieces_of_edge, compare_pieces, pieces}
use Rattle.geometry_model.proofs.LeastFormFacts.{least_is_unique}
use Rattle.geometry_laws.proofs.PointOrder.{same_symmetric, equal_is_same}
use Rattle.geometry_laws.proofs.Respect.{on_respects}
use Rattle.geometry_laws.proofs.Cuts.{piece_ends}
use Rattle.geometry_laws.proofs.Each.{Each, Among, each_of}
use Rattle.matrix_laws.proofs.MatrixLists.{Some_of, among_from_contains, contains_from_among, among_flat_map, flat_map_among, among_filter, filter_among}
use Rattle.matrix_laws.proofs.Sorted.{Sorted, Ties, among_ascending, ascending_among, ascending-sorted, filter-sorted, pairs_from_sorted}
use Rattle.matrix_laws.proofs.CutLists.{IsLeastCut}
use Rattle.matrix_laws.proofs.CutOrder.{listed_is_cut, cut_is_listed, cut_points-sorted}
use Rattle.matrix_laws.proofs.Stretches.{Neighbours, stretch_is, stretch_found, less_right, less_left, HasPoints, pieces_are_ordered}

-- the cuts on an edge, in order
abbrev cuts_on : List Edge → List Position → Edge → List Point
cuts_on es ps e = filter (on e) (cut_points es ps)

-- the listed points on an edge are cuts in least form, and on the edge
on_edge_is_cut : (es : List Edge) (ps : List Position) (e : Edge) (p : Point) → Among p (cuts_on es ps e) → IsLeastCut es ps p × (on e p ≡ true)
on_edge_is_cut es ps e p a = go (among_filter (on e) (cut_points es ps) p a)
  where
    go : Among p (cut_points es ps) × (on e p ≡ true) → IsLeastCut es ps p × (on e p ≡ true)
    go h = (listed_is_cut es ps p h.0, h.1)

-- so they are points
points_on : (es : List Edge) (ps : List Position) (e : Edge) → Each IsPoint (cuts_on es ps e)
points_on es ps e = each_of IsPoint (cuts_on es ps e) (λ p a. (on_edge_is_cut es ps e p a).0.is_point)

-- and they ascend, since a filter leaves the order as it is
sorted_on : (es : List Edge) (ps : List Position) (e : Edge) → Sorted compare (cuts_on es ps e)
sorted_on es ps e = filter-sorted compare (on e) (cut_points es ps) (cut_points-sorted es ps)

-- a cut in least form is itself listed
pub itself_listed : (es : List Edge) (ps : List Position) (p : Point) → IsPoint p → IsLeast p → IsCut es ps p → Among p (cut_points es ps)
itself_listed es ps p hp least c = go (cut_is_listed es ps p hp c)
  where
    go : Some_of (λ q. same_point q p ≡ true) (cut_points es ps) → Among p (cut_points es ps)
    go s = let k : IsLeastCut es ps s.found = listed_is_cut es ps s.found s.among in
        subst (λ q. Among q (cut_points es ps)) (least_is_unique s.found p k.is_point hp k.is_least least s.has) s.among

-- ---- the pieces of one edge
-- a stretch between neighbours of the cuts on an edge is a piece: any cut between its ends would be listed, in least form
piece_of_edge_is : (es : List Edge) (ps : List Position) (e : Edge) → Among e es → (c : Piece) → Among c (pieces_of_edge (cut_points es ps) e) → IsPiece es ps c
piece_of_edge_is es ps e a c b = made (stretch_is (cuts_on es ps e) (points_on es ps e) (sorted_on es ps e) c b)
  where
    made : Neighbours (cuts_on es ps e) c → IsPiece es ps c
    made n =
        let l : IsLeastCut es ps c.lesser × (on e c.lesser ≡ true) = on_edge_is_cut es ps e c.lesser n.lesser in
        let g : IsLeastCut es ps c.greater × (on e c.greater ≡ true) = on_edge_is_cut es ps e c.greater n.greater in
        record {
          edge = e;
          among = contains_from_among es e a;
          lesser_on = l.1;
          greater_on = g.1;
          lesser_is_cut = l.0.is_cut;
          greater_is_cut = g.0.is_cut;
          in_order = n.in_order;
          neighbours = λ p hp h k x y. none n p hp h x y (cut_is_listed es ps p hp k);
        }
      where
        none : Neighbours (cuts_on es ps e) c → (p : Point) → IsPoint p → on e p ≡ true → compare c.lesser p ≡ Less → compare p c.greater ≡ Less → Some_of (λ q. same_point q p ≡ true) (cut_points es ps) → ⊥
        none n p hp h x y s =
            let hq : IsPoint s.found = (listed_is_cut es ps s.found s.among).is_point in
            n.none s.found (filter_among (on e) (cut_points es ps) s.found s.among (on_respects e s.found p hq hp s.has ∙ h))
            (less_right c.lesser p s.found hp hq x (sym (same_symmetric s.found p) ∙ s.has))
            (less_left s.found p c.greater hq hp s.has y)

-- a piece on an edge has both ends among the edge's cuts and none between, so it is one of its stretches
edge_has_piece : (es : List Edge) (ps : List Position) (c : Piece) → IsPoint c.lesser → IsPoint c.greater → IsLeast c.lesser → IsLeast c.greater → (h : IsPiece es ps c) → Among c (pieces_of_edge (cut_points es ps) h.edge)
edge_has_piece es ps c hl hg ll lg h = stretch_found (cuts_on es ps h.edge) (points_on es ps h.edge) (sorted_on es ps h.edge) c.lesser c.greater
    (filter_among (on h.edge) (cut_points es ps) c.lesser (itself_listed es ps c.lesser hl ll h.lesser_is_cut) h.lesser_on)
    (filter_among (on h.edge) (cut_points es ps) c.greater (itself_listed es ps c.greater hg lg h.greater_is_cut) h.greater_on)
    h.in_order
    (λ z a x y. between z (on_edge_is_cut es ps h.edge z a) x y)
  where
    between : (z : Point) → IsLeastCut es ps z × (on h.edge z ≡ true) → compare c.lesser z ≡ Less → compare z c.greater ≡ Less → ⊥
    between z k x y = h.neighbours z k.0.is_point k.1 k.0.is_cut x y

-- ---- the pieces of all edges
abbrev all_pieces : List Edge → List Position → List Piece
all_pieces es ps = flat_map (pieces_of_edge (cut_points es ps)) es

pub record IsLeastPiece (es : List Edge) (ps : List Position) (c : Piece) : Type 0 where
  pub lesser_is : IsPoint c.lesser × IsLeast c.lesser
  pub greater_is : IsPoint c.greater × IsLeast c.greater
  pub is_piece : IsPiece es ps c

-- the cuts on an edge are points in least form
least_pair : (es : List Edge) (ps : List Position) (e : Edge) (p : Point) → Among p (cuts_on es ps e) → IsPoint p × IsLeast p
least_pair es ps e p a = go (on_edge_is_cut es ps e p a)
  where
    go : IsLeastCut es ps p × (on e p ≡ true) → IsPoint p × IsLeast p
    go k = (k.0.is_point, k.0.is_least)

-- each piece of each edge is a piece, its ends in least form
any_piece_is : (es : List Edge) (ps : List Position) (c : Piece) → Among c (all_pieces es ps) → IsLeastPiece es ps c
any_piece_is es ps c a = go (among_flat_map (pieces_of_edge (cut_points es ps)) es c a)
  where
    ends : (e : Edge) → Neighbours (cuts_on es ps e) c → (IsPoint c.lesser × IsLeast c.lesser) × (IsPoint c.greater × IsLeast c.greater)
    ends e n = (least_pair es ps e c.lesser n.lesser, least_pair es ps e c.greater n.greater)

    go : Some_of (λ e. Among c (pieces_of_edge (cut_points es ps) e)) es → IsLeastPiece es ps c
    go s =
        let both : (IsPoint c.lesser × IsLeast c.lesser) × (IsPoint c.greater × IsLeast c.greater) = ends s.found (stretch_is (cuts_on es ps s.found) (points_on es ps s.found) (sorted_on es ps s.found) c s.has) in
        record { lesser_is = both.0; greater_is = both.1; is_piece = piece_of_edge_is es ps s.found s.among c s.has }

-- putting pieces in order adds none
pub piece_is : (es : List Edge) (ps : List Position) (c : Piece) → Among c (pieces (cut_points es ps) es) → IsLeastPiece es ps c
piece_is es ps c a = any_piece_is es ps c (among_ascending compare_pieces (all_pieces es ps) c a)

-- a piece lies on some edge between two of its cuts with none between, so it is a stretch of that edge's cuts
pub piece_is_listed : (es : List Edge) (ps : List Position) (c : Piece) → IsPoint c.lesser → IsPoint c.greater → IsLeast c.lesser → IsLeast c.greater → IsPiece es ps c → Among c (pieces (cut_points es ps) es)
piece_is_listed es ps c hl hg ll lg h = go (ascending_among compare_pieces (all_pieces es ps) c
    (flat_map_among (pieces_of_edge (cut_points es ps)) es h.edge c (among_from_contains es h.edge h.among) (edge_has_piece es ps c hl hg ll lg h)))
  where
    same : (d : Piece) → IsLeastPiece es ps d → (compare c.lesser d.lesser ≡ Equal) × (compare c.greater d.greater ≡ Equal) → d ≡ c
    same d k e = λ i. record {
      lesser = sym (least_is_unique c.lesser d.lesser hl k.lesser_is.0 ll k.lesser_is.1 ((equal_is_same c.lesser d.lesser).0 e.0)) i;
      greater = sym (least_is_unique c.greater d.greater hg k.greater_is.0 lg k.greater_is.1 ((equal_is_same c.greater d.greater).0 e.1)) i;
    }

    tied : (d : Piece) → IsLeastPiece es ps d → Ties compare_pieces c d → d ≡ c
    tied d k (inl e) = e
    tied d k (inr e) = same d k (then_equal (compare c.lesser d.lesser) (compare c.greater d.greater) e)

    go : Some_of (Ties compare_pieces c) (pieces (cut_points es ps) es) → Among c (pieces (cut_points es ps) es)
    go s = subst (λ d. Among d (pieces (cut_points es ps) es)) (tied s.found (piece_is es ps s.found s.among) s.has) s.among

-- a listed piece is a piece, and each piece with its ends in least form is listed
pub pieces_are_pieces : (es : List Edge) (ps : List Position) (c : Piece) → IsLeast c.lesser → IsLeast c.greater
    → IsPiece es ps c ↔ Contains (pieces (cut_points es ps) es) c
pieces_are_pieces es ps c ll lg = (
  λ h. contains_from_among (pieces (cut_points es ps) es) c (piece_is_listed es ps c (piece_ends es ps c h).lesser (piece_ends es ps c h).greater ll lg h),
  λ h. (piece_is es ps c (among_from_contains (pieces (cut_points es ps) es) c h)).is_piece,
)

-- the comparison of pieces is an order, so the pieces that are put in it ascend
pub pieces-sorted : (es : List Edge) (ps : List Position) → Sorted compare_pieces (pieces (cut_points es ps) es)
pieces-sorted es ps = ascending-sorted HasPoints compare_pieces pieces_are_ordered (all_pieces es ps) (each_of HasPoints (all_pieces es ps) (λ c a. points c (any_piece_is es ps c a)))
  where
    points : (c : Piece) → IsLeastPiece es ps c → HasPoints c
    points c k = (k.lesser_is.0, k.greater_is.0)

pub pieces_ascend : (es : List Edge) (ps : List Position) → AllPairs (λ c d. compare_pieces c d ≡ Less) (pieces (cut_points es ps) es)
pieces_ascend es ps = pairs_from_sorted compare_pieces (pieces (cut_points es ps) es) (pieces-sorted es ps)
