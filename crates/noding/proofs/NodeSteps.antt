-- The nodes and the pieces, as they are found one edge after the other.
use Rattle.std.proofs.Common.{◌≡◌, ◌⊎◌, inl, inr, ℕ, suc, ◌+◌, ◌<◌, ◌≤◌, true, sym, ap, subst, ◌∙◌, List, [], ◌∷◌, ◌++◌, length, get_or, map, All, AllPairs, Contains, IsPermutation, arith}
use Rattle.std.specs.declared.cmp.Ordering.{Ordering}
use Rattle.std.specs.declared.cmp.Ordering.TheVariants.{Less}
use Rattle.std.proofs.lemmas.List.{get_or_default}
use Rattle.std.proofs.lemmas.List.Elements.{All-contains, Contains-append_left, Contains-append_cases}
use Rattle.std.proofs.lemmas.List.Sorted.{Contains-permutation, IsPermutation-sym}
use Rattle.std.proofs.lemmas.Bool.{and_parts, and_from}
use Rattle.basics.proofs.Numbers.{earlier_or_last}
use Rattle.geometry_model.specs.Points.{Position, Point, IsPoint, point_at, same_point, compare}
use Rattle.geometry_model.specs.Geometries.{Edge}
use Rattle.geometry_model.specs.Sides.{on}
use Rattle.geometry_model.specs.CutPoints.{IsCut}
use Rattle.geometry_model.specs.CutPoints.IsCut.{AtEnd, Listed, AtCrossing}
use Rattle.geometry_model.specs.Pieces.{Piece, IsPiece, stretches}
use Rattle.geometry_laws.proofs.Each.{Each, Among, each_of}
use Rattle.geometry_laws.proofs.PointOrder.{same_reflexive, same_symmetric, same_transitive}
use Rattle.geometry_laws.proofs.RingParity.{position_is_point}
use Rattle.matrix_laws.proofs.MatrixLists.{Some_of, among_from_contains, contains_from_among, some_from_any, any_from_some, among_map, map_among}
use Rattle.matrix_laws.proofs.Sorted.{Sorted}
use Rattle.matrix_laws.proofs.Stretches.{Neighbours, stretch_is, stretch_found, less_right, less_left}
use Rattle.noding.specs.Nodings.{same_piece, ListsPoint, ListsPiece, IsNodeTriple, HasNodeTriples, HasPointEnds, ListsCuts, ListsPieces, AreBreaks, PutsPointsInOrder, PutsPiecesInOrder, HoldsNodes, HoldsPieces}
use Rattle.noding.proofs.NodeCuts.{cut_is_point, cut_moved, end_is_on_edge}
use Rattle.noding.specs.Sweeps.{AllCut}
use Rattle.noding.proofs.BreakPoints.{some_edge, all_of, any_left, any_right, element_is, position_is_triple, point_kept}

-- ---- the nodes of one more edge
-- the break points of one edge more are the cuts on it, so the nodes hold the cuts on one edge more
pub nodes_more : (es : List Edge) (ps : List Position) (n : ℕ) (f : Edge) (breaks xs ys : List Point) → n < length es → f ≡ get_or es n f → AreBreaks es ps f breaks → ys ≡ xs ++ breaks
    → HoldsNodes es ps n xs → HoldsNodes es ps (n + 1) ys
nodes_more es ps n f breaks xs ys hn hf b grown h = record { cuts = cuts; listed = listed; found = found }
  where
    either : (p : Point) → Contains xs p ⊎ Contains breaks p → IsCut es ps p × IsNodeTriple p
    either p (inl c) = h.cuts p c
    either p (inr c) = (All-contains (IsCut es ps) breaks p b.cuts c, All-contains IsNodeTriple breaks p b.triples c)

    cuts : (p : Point) → Contains ys p → IsCut es ps p × IsNodeTriple p
    cuts p c = either p (Contains-append_cases xs breaks p (subst (λ zs. Contains zs p) grown c))

    listed : (a : Position) → Contains ps a → Contains ys (point_at a)
    listed a c = subst (λ zs. Contains zs (point_at a)) (sym grown) (Contains-append_left xs breaks (point_at a) (h.listed a c))

    found : (k : ℕ) (d : Edge) → k < n + 1 → (p : Point) → on (get_or es k d) p ≡ true → IsCut es ps p → ListsPoint ys p
    found k d l p g c = go (earlier_or_last k n l)
      where
        go : (k < n) ⊎ (k ≡ n) → ListsPoint ys p
        go (inl m) = subst (λ zs. ListsPoint zs p) (sym grown) (any_left (λ q. same_point q p ≡ true) xs breaks (h.found k d m p g c))
        go (inr m) = subst (λ zs. ListsPoint zs p) (sym grown) (any_right (λ q. same_point q p ≡ true) xs breaks
            (b.found p (subst (λ (x : Edge). on x p ≡ true) (element_is es k n f d hn hf m) g) c))

-- ---- the pieces of an edge
-- a list in which each earlier element is less than each later one is sorted
pub sorted_from_pairs : {X : Type 0} (order : X → X → Ordering) (xs : List X) → AllPairs (λ x y. order x y ≡ Less) xs → Sorted order xs
sorted_from_pairs order [] h = tt
sorted_from_pairs {X} order (x ∷ xs) h = (
  each_of (λ y. order x y ≡ Less) xs (λ y a. after y (contains_from_among xs y a)),
  sorted_from_pairs order xs (λ i j d b l. h (suc i) (suc j) d (omega (arith, b)) (omega (arith, l))),
)
  where
    after : (y : X) → Contains xs y → order x y ≡ Less
    after y c = subst (λ z. order x z ≡ Less) c.2 (h 0 (suc c.0) y (omega arith) (omega (arith, c.1)))

-- an edge's break points are points
break_points : (es : List Edge) (ps : List Position) (e : Edge) (xs : List Point) → AreBreaks es ps e xs → Each IsPoint xs
break_points es ps e xs b = each_of IsPoint xs (λ p a. cut_is_point es ps p (All-contains (IsCut es ps) xs p b.cuts (contains_from_among xs p a)))

-- they are cuts
break_is_cut : (es : List Edge) (ps : List Position) (e : Edge) (xs : List Point) → AreBreaks es ps e xs → (p : Point) → Among p xs → IsCut es ps p
break_is_cut es ps e xs b p a = All-contains (IsCut es ps) xs p b.cuts (contains_from_among xs p a)

-- and they lie on it
break_is_on : (es : List Edge) (ps : List Position) (e : Edge) (xs : List Point) → AreBreaks es ps e xs → (p : Point) → Among p xs → on e p ≡ true
break_is_on es ps e xs b p a = All-contains (λ q. on e q ≡ true) xs p b.on_edge (contains_from_among xs p a)

-- between neighbouring break points of an edge there is no cut, since all cuts on it are listed: it is a piece
stretch_is_piece : (es : List Edge) (ps : List Position) (e : Edge) (xs : List Point) → Contains es e → AreBreaks es ps e xs → (c : Piece) → Among c (stretches xs) → IsPiece es ps c × HasNodeTriples c
stretch_is_piece es ps e xs he b c a = made (stretch_is xs (break_points es ps e xs b) (sorted_from_pairs compare xs b.ascend) c a)
  where
    limit : (p : Point) → Among p xs → IsNodeTriple p
    limit p k = All-contains IsNodeTriple xs p b.triples (contains_from_among xs p k)

    made : Neighbours xs c → IsPiece es ps c × HasNodeTriples c
    made n = (
      record {
        edge = e;
        among = he;
        lesser_on = break_is_on es ps e xs b c.lesser n.lesser;
        greater_on = break_is_on es ps e xs b c.greater n.greater;
        lesser_is_cut = break_is_cut es ps e xs b c.lesser n.lesser;
        greater_is_cut = break_is_cut es ps e xs b c.greater n.greater;
        in_order = n.in_order;
        neighbours = λ p hp k cut x y. none p hp x y (some_from_any (λ q. same_point q p ≡ true) xs (b.found p k cut));
      },
      (limit c.lesser n.lesser, limit c.greater n.greater),
    )
      where
        none : (p : Point) → IsPoint p → compare c.lesser p ≡ Less → compare p c.greater ≡ Less → Some_of (λ q. same_point q p ≡ true) xs → ⊥
        none p hp x y s =
            let hq : IsPoint s.found = cut_is_point es ps s.found (break_is_cut es ps e xs b s.found s.among) in
            n.none s.found s.among
            (less_right c.lesser p s.found hp hq x (sym (same_symmetric s.found p) ∙ s.has))
            (less_left s.found p c.greater hq hp s.has y)

-- a piece of the edge lies between two cuts with none between, so these are neighbours among its break points
piece_is_stretch : (es : List Edge) (ps : List Position) (e : Edge) (xs : List Point) → AreBreaks es ps e xs → (c : Piece) → (h : IsPiece es ps c) → h.edge ≡ e → ListsPiece (stretches xs) c
piece_is_stretch es ps e xs b c h at = go
    (some_from_any (λ q. same_point q c.lesser ≡ true) xs (b.found c.lesser (here c.lesser h.lesser_on) h.lesser_is_cut))
    (some_from_any (λ q. same_point q c.greater ≡ true) xs (b.found c.greater (here c.greater h.greater_on) h.greater_is_cut))
  where
    here : (p : Point) → on h.edge p ≡ true → on e p ≡ true
    here p k = subst (λ (x : Edge). on x p ≡ true) at k

    hl : IsPoint c.lesser
    hl = cut_is_point es ps c.lesser h.lesser_is_cut

    hg : IsPoint c.greater
    hg = cut_is_point es ps c.greater h.greater_is_cut

    turned : (p q : Point) → same_point p q ≡ true → same_point q p ≡ true
    turned p q e = sym (same_symmetric p q) ∙ e

    points : (p : Point) → Among p xs → IsPoint p
    points p a = cut_is_point es ps p (break_is_cut es ps e xs b p a)

    made : (p q : Point) → Among p xs → Among q xs → same_point p c.lesser ≡ true → same_point q c.greater ≡ true → ListsPiece (stretches xs) c
    made p q ap aq sp sq = any_from_some (λ d. same_piece d c ≡ true) (stretches xs) (record {
      found = record { lesser = p; greater = q };
      among = stretch_found xs (break_points es ps e xs b) (sorted_from_pairs compare xs b.ascend) p q ap aq
          (less_right p c.greater q hg (points q aq) (less_left p c.lesser c.greater (points p ap) hl sp h.in_order) (turned q c.greater sq))
          none;
      has = and_from (same_point p c.lesser) (same_point q c.greater) sp sq;
    })
      where
        none : (z : Point) → Among z xs → compare p z ≡ Less → compare z q ≡ Less → ⊥
        none z a x y = h.neighbours z (points z a) (subst (λ (x : Edge). on x z ≡ true) (sym at) (break_is_on es ps e xs b z a)) (break_is_cut es ps e xs b z a)
            (less_left c.lesser p z hl (points p ap) (turned p c.lesser sp) x) (less_right z q c.greater (points q aq) hg y sq)

    go : Some_of (λ q. same_point q c.lesser ≡ true) xs → Some_of (λ q. same_point q c.greater ≡ true) xs → ListsPiece (stretches xs) c
    go s t = made s.found t.found s.among t.among s.has t.has

-- the stretches between the break points of one edge more are its pieces
pub pieces_more : (es : List Edge) (ps : List Position) (n : ℕ) (f : Edge) (breaks : List Point) (cs ds : List Piece) → n < length es → f ≡ get_or es n f → AreBreaks es ps f breaks → ds ≡ cs ++ stretches breaks
    → HoldsPieces es ps n cs → HoldsPieces es ps (n + 1) ds
pieces_more es ps n f breaks cs ds hn hf b grown h = record { pieces = pieces; found = found }
  where
    either : (c : Piece) → Contains cs c ⊎ Contains (stretches breaks) c → IsPiece es ps c × HasNodeTriples c
    either c (inl k) = h.pieces c k
    either c (inr k) = stretch_is_piece es ps f breaks (n, hn, sym hf) b c (among_from_contains (stretches breaks) c k)

    pieces : (c : Piece) → Contains ds c → IsPiece es ps c × HasNodeTriples c
    pieces c k = either c (Contains-append_cases cs (stretches breaks) c (subst (λ us. Contains us c) grown k))

    found : (k : ℕ) (d : Edge) → k < n + 1 → (c : Piece) → (i : IsPiece es ps c) → i.edge ≡ get_or es k d → ListsPiece ds c
    found k d l c i at = go (earlier_or_last k n l)
      where
        go : (k < n) ⊎ (k ≡ n) → ListsPiece ds c
        go (inl m) = subst (λ us. ListsPiece us c) (sym grown) (any_left (λ e. same_piece e c ≡ true) cs (stretches breaks) (h.found k d m c i at))
        go (inr m) = subst (λ us. ListsPiece us c) (sym grown) (any_right (λ e. same_piece e c ≡ true) cs (stretches breaks)
            (piece_is_stretch es ps f breaks b c i (at ∙ element_is es k n f d hn hf m)))

-- ---- before the first edge
-- before the first edge the nodes are the listed positions, which are cuts
pub first_nodes : (es : List Edge) (ps : List Position) (xs : List Point) → xs ≡ map point_at ps → HoldsNodes es ps 0 xs
first_nodes es ps xs made = record { cuts = cuts; listed = listed; found = λ k d l. absurd (omega (arith, l)) }
  where
    at : (a : Position) → Among a ps → IsCut es ps (point_at a) × IsNodeTriple (point_at a)
    at a k = (Listed (position_is_point a) a (contains_from_among ps a k) (same_reflexive (point_at a)), position_is_triple a)

    of : (p : Point) → Some_of (λ a. p ≡ point_at a) ps → IsCut es ps p × IsNodeTriple p
    of p s = subst (λ q. IsCut es ps q × IsNodeTriple q) (sym s.has) (at s.found s.among)

    cuts : (p : Point) → Contains xs p → IsCut es ps p × IsNodeTriple p
    cuts p c = of p (among_map point_at ps p (among_from_contains (map point_at ps) p (subst (λ zs. Contains zs p) made c)))

    listed : (a : Position) → Contains ps a → Contains xs (point_at a)
    listed a c = subst (λ zs. Contains zs (point_at a)) (sym made) (contains_from_among (map point_at ps) (point_at a) (map_among point_at ps a (among_from_contains ps a c)))

-- and there are no pieces
pub first_pieces : (es : List Edge) (ps : List Position) (cs : List Piece) → cs ≡ [] → HoldsPieces es ps 0 cs
first_pieces es ps cs none = record { pieces = pieces; found = λ k d l. absurd (omega (arith, l)) }
  where
    nowhere : (c : Piece) → Contains {X = Piece} [] c → IsPiece es ps c × HasNodeTriples c
    nowhere c k = absurd (omega (arith, k.1))

    pieces : (c : Piece) → Contains cs c → IsPiece es ps c × HasNodeTriples c
    pieces c k = nowhere c (subst (λ us. Contains us c) none k)

-- ---- after the last edge
-- nodes are cuts, so they are points
pub nodes_are_points : (es : List Edge) (ps : List Position) (n : ℕ) (xs : List Point) → HoldsNodes es ps n xs → All IsPoint xs
nodes_are_points es ps n xs h = all_of IsPoint xs (λ p c. cut_is_point es ps p (h.cuts p c).0)

-- after the last edge each cut is held: it is listed, or lies on some edge
cut_is_held : (es : List Edge) (ps : List Position) (n : ℕ) (xs : List Point) → length es ≤ n → HoldsNodes es ps n xs → (p : Point) → IsCut es ps p → ListsPoint xs p
cut_is_held es ps n xs all h p cut = go cut
  where
    on_one : (e : Edge) → Contains es e → on e p ≡ true → ListsPoint xs p
    on_one e c k = h.found c.0 e (omega (arith, c.1, all)) p (subst (λ (x : Edge). on x p ≡ true) (sym c.2) k) cut

    go : IsCut es ps p → ListsPoint xs p
    go (AtEnd hp e c k) = on_one e c (end_is_on_edge e p hp k)
    go (Listed hp a c k) = any_from_some (λ q. same_point q p ≡ true) xs (record { found = point_at a; among = among_from_contains xs (point_at a) (h.listed a c); has = k })
    go (AtCrossing hp e f c d apart he hf) = on_one e c he

-- put in order they still list each cut
pub has_cuts : (es : List Edge) (ps : List Position) (n : ℕ) (xs ys : List Point) → length es ≤ n → HoldsNodes es ps n xs → PutsPointsInOrder xs ys → ListsCuts es ps ys
has_cuts es ps n xs ys all h o = λ p cut. point_kept xs ys (nodes_are_points es ps n xs h) o p (cut_is_held es ps n xs all h p cut)

-- and they are nothing but cuts
pub nodes_are_cuts : (es : List Edge) (ps : List Position) (n : ℕ) (xs ys : List Point) → HoldsNodes es ps n xs → PutsPointsInOrder xs ys → All (IsCut es ps) ys
nodes_are_cuts es ps n xs ys h o = all_of (IsCut es ps) ys (λ p c. (h.cuts p (o.from p c)).0)

-- in least form, within the limit
pub nodes_are_triples : (es : List Edge) (ps : List Position) (n : ℕ) (xs ys : List Point) → HoldsNodes es ps n xs → PutsPointsInOrder xs ys → All IsNodeTriple ys
nodes_are_triples es ps n xs ys h o = all_of IsNodeTriple ys (λ p c. (h.cuts p (o.from p c)).1)

-- the ends of a piece are cuts, so they are points
pub pieces_have_points : (es : List Edge) (ps : List Position) (n : ℕ) (cs : List Piece) → HoldsPieces es ps n cs → All HasPointEnds cs
pieces_have_points es ps n cs h = all_of HasPointEnds cs (λ c k. ends c (h.pieces c k).0)
  where
    ends : (c : Piece) → IsPiece es ps c → HasPointEnds c
    ends c i = (cut_is_point es ps c.lesser i.lesser_is_cut, cut_is_point es ps c.greater i.greater_is_cut)

-- two pieces that are the same as a third are the same
same_piece_transitive : (c d e : Piece) → HasPointEnds d → same_piece c d ≡ true → same_piece d e ≡ true → same_piece c e ≡ true
same_piece_transitive c d e hd f g =
    let a : (same_point c.lesser d.lesser ≡ true) × (same_point c.greater d.greater ≡ true) = and_parts (same_point c.lesser d.lesser) (same_point c.greater d.greater) f in
    let b : (same_point d.lesser e.lesser ≡ true) × (same_point d.greater e.greater ≡ true) = and_parts (same_point d.lesser e.lesser) (same_point d.greater e.greater) g in
    and_from (same_point c.lesser e.lesser) (same_point c.greater e.greater) (same_transitive c.lesser d.lesser e.lesser hd.0 a.0 b.0) (same_transitive c.greater d.greater e.greater hd.1 a.1 b.1)

-- put in order the stretches are nothing but pieces
pub pieces_are_pieces : (es : List Edge) (ps : List Position) (n : ℕ) (cs ds : List Piece) → HoldsPieces es ps n cs → PutsPiecesInOrder cs ds → All (IsPiece es ps) ds
pieces_are_pieces es ps n cs ds h o = all_of (IsPiece es ps) ds (λ c k. (h.pieces c (o.from c k)).0)

-- with ends in least form, within the limit
pub pieces_have_triples : (es : List Edge) (ps : List Position) (n : ℕ) (cs ds : List Piece) → HoldsPieces es ps n cs → PutsPiecesInOrder cs ds → All HasNodeTriples ds
pieces_have_triples es ps n cs ds h o = all_of HasNodeTriples ds (λ c k. (h.pieces c (o.from c k)).1)

-- and after the last edge they list each piece, since each is a piece of some edge
pub has_pieces : (es : List Edge) (ps : List Position) (n : ℕ) (cs ds : List Piece) → length es ≤ n → HoldsPieces es ps n cs → PutsPiecesInOrder cs ds → ListsPieces es ps ds
has_pieces es ps n cs ds all h o = λ c i. first c (some_from_any (λ d. same_piece d c ≡ true) cs (h.found i.among.0 i.edge (omega (arith, i.among.1, all)) c i (sym i.among.2)))
  where
    second : (c d : Piece) → HasPointEnds d → same_piece d c ≡ true → Some_of (λ e. same_piece e d ≡ true) ds → ListsPiece ds c
    second c d hd g s = any_from_some (λ e. same_piece e c ≡ true) ds (record { found = s.found; among = s.among; has = same_piece_transitive s.found d c hd s.has g })

    first : (c : Piece) → Some_of (λ d. same_piece d c ≡ true) cs → ListsPiece ds c
    first c s = let k : Contains cs s.found = contains_from_among cs s.found s.among in
        second c s.found (All-contains HasPointEnds cs s.found (pieces_have_points es ps n cs h) k) s.has (some_from_any (λ e. same_piece e s.found ≡ true) ds (o.kept s.found k))

-- ---- the same edges and positions in other orders
-- two lists of edges and two of positions have the same members
pub record SameGiven (es fs : List Edge) (ps qs : List Position) : Type 0 where
  pub edge_there : (e : Edge) → Contains es e → Contains fs e
  pub edge_back : (e : Edge) → Contains fs e → Contains es e
  pub position_there : (a : Position) → Contains ps a → Contains qs a
  pub position_back : (a : Position) → Contains qs a → Contains ps a

-- so it is where the one is the other in another order
pub same_given : (es fs : List Edge) (ps qs : List Position) → IsPermutation es fs → IsPermutation ps qs → SameGiven es fs ps qs
same_given es fs ps qs h k = record {
  edge_there = λ e. Contains-permutation es fs e h;
  edge_back = λ e. Contains-permutation fs es e (IsPermutation-sym es fs h);
  position_there = λ a. Contains-permutation ps qs a k;
  position_back = λ a. Contains-permutation qs ps a (IsPermutation-sym ps qs k);
}

-- and it is mutual
turned : (es fs : List Edge) (ps qs : List Position) → SameGiven es fs ps qs → SameGiven fs es qs ps
turned es fs ps qs s = record { edge_there = s.edge_back; edge_back = s.edge_there; position_there = s.position_back; position_back = s.position_there }

-- a cut by the one is a cut by the other
cut_there : (es fs : List Edge) (ps qs : List Position) → SameGiven es fs ps qs → (p : Point) → IsCut es ps p → IsCut fs qs p
cut_there es fs ps qs s p = cut_moved es fs ps qs p s.edge_there s.position_there

-- and the other way round
cut_back : (es fs : List Edge) (ps qs : List Position) → SameGiven es fs ps qs → (p : Point) → IsCut fs qs p → IsCut es ps p
cut_back es fs ps qs s p = cut_moved fs es qs ps p s.edge_back s.position_back

-- a piece by the one is a piece by the other, since neither its edge nor the cuts change
moved_piece : (es fs : List Edge) (ps qs : List Position) → SameGiven es fs ps qs → (c : Piece) → IsPiece es ps c → IsPiece fs qs c
moved_piece es fs ps qs s c h = record {
  edge = h.edge;
  among = s.edge_there h.edge h.among;
  lesser_on = h.lesser_on;
  greater_on = h.greater_on;
  lesser_is_cut = cut_there es fs ps qs s c.lesser h.lesser_is_cut;
  greater_is_cut = cut_there es fs ps qs s c.greater h.greater_is_cut;
  in_order = h.in_order;
  neighbours = λ p hp k cut x y. h.neighbours p hp k (cut_back es fs ps qs s p cut) x y;
}

-- nodes that are cuts by the edges in order are cuts by the edges as given
pub cuts_of_same : (es fs : List Edge) (ps qs : List Position) (nodes : List Point) → SameGiven es fs ps qs → All (IsCut fs qs) nodes → All (IsCut es ps) nodes
cuts_of_same es fs ps qs nodes s h = λ k d l. cut_back es fs ps qs s (get_or nodes k d) (h k d l)

-- nodes that list all cuts by the edges in order list all by the edges as given
pub lists_cuts_of_same : (es fs : List Edge) (ps qs : List Position) (nodes : List Point) → SameGiven es fs ps qs → ListsCuts fs qs nodes → ListsCuts es ps nodes
lists_cuts_of_same es fs ps qs nodes s h = λ p c. h p (cut_there es fs ps qs s p c)

-- the same of pieces
pub pieces_of_same : (es fs : List Edge) (ps qs : List Position) (cs : List Piece) → SameGiven es fs ps qs → All (IsPiece fs qs) cs → All (IsPiece es ps) cs
pieces_of_same es fs ps qs cs s h = λ k d l. moved_piece fs es qs ps (turned es fs ps qs s) (get_or cs k d) (h k d l)

-- and of listing all of them
pub lists_pieces_of_same : (es fs : List Edge) (ps qs : List Position) (cs : List Piece) → SameGiven es fs ps qs → ListsPieces fs qs cs → ListsPieces es ps cs
lists_pieces_of_same es fs ps qs cs s h = λ c i. h c (moved_piece es fs ps qs s c i)

-- ---- the break points of one of the edges, from a list that is lent
-- the points are the break points of the edge with this number
pub record Row (es : List Edge) (ps : List Position) (n : ℕ) (points : List Point) : Type 0 where
  pub edge : Edge
  pub within : n < length es
  pub is : edge ≡ get_or es n edge
  pub breaks : AreBreaks es ps edge points

-- each lent list is the break points of the edge with its number
pub row : (es fs : List Edge) (ps qs : List Position) (breaks slice : List (List Point)) (item : List Point) (n : ℕ) → fs ≡ es → qs ≡ ps → slice ≡ breaks → AllCut fs qs breaks → n < length slice → item ≡ get_or slice n item → Row es ps n item
row es fs ps qs breaks slice item n he hp hs cut l is = record {
  edge = get_or es n some_edge;
  within = within;
  is = get_or_default es n some_edge (get_or es n some_edge) within;
  breaks = subst (AreBreaks es ps (get_or es n some_edge)) (sym (is ∙ get_or_default slice n item [] l ∙ ap (λ (bs : List (List Point)). get_or bs n []) hs)) (here.all n some_edge within);
}
  where
    here : AllCut es ps breaks
    here = subst (λ (gs : List Edge). AllCut gs ps breaks) he (subst (λ (rs : List Position). AllCut fs rs breaks) hp cut)

    within : n < length es
    within = omega (arith, l, ap length hs, here.same_length)

-- when all lists are seen all edges are
pub all_gone : (es fs : List Edge) (qs : List Position) (breaks slice : List (List Point)) (n : ℕ) → fs ≡ es → slice ≡ breaks → AllCut fs qs breaks → length slice ≤ n → length es ≤ n
all_gone es fs qs breaks slice n he hs cut l = omega (arith, l, ap length hs, ap length he, cut.same_length)
