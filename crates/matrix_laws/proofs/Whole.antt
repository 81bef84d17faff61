-- What covers all edges and listed positions shows all that the labels show; and covering the other way round.
use Rattle.std.proofs.Common.{◌≡◌, ◌⊎◌, inl, inr, Bool, true, false, ◌&&◌, if◌then◌else◌, refl, sym, ap, ◌∙◌, List, ◌++◌, All, Contains, Some, None}
use Rattle.std.proofs.lemmas.Bool.{or_cases}
use Rattle.geometry_model.specs.Points.{Position, Point, IsPoint, point_at, same_point}
use Rattle.geometry_model.specs.Geometries.{Edge, Geometry, edges, listed}
use Rattle.geometry_model.specs.Sides.{on}
use Rattle.geometry_model.specs.CutPoints.{IsCut, is_end}
use Rattle.geometry_model.specs.CutPoints.IsCut.{AtEnd, Listed, AtCrossing}
use Rattle.geometry_model.specs.Pieces.{Piece, sample}
use Rattle.geometry_model.specs.Locations.{locate}
use Rattle.geometry_model.specs.Dimensions.{Matrix, cell, transposed}
use Rattle.geometry_model.specs.Labels.{label, below, above, is_upright, side_labels, edges_of_both, same_location, is_pair, is_side_pair, labelled_matrix}
use Rattle.geometry_model.specs.declared.point_sets.Location.{Location}
use Rattle.geometry_model.specs.declared.point_sets.Location.TheVariants.{Exterior}
use Rattle.geometry_model.specs.declared.point_sets.Dimension.{Dimension}
use Rattle.geometry_model.specs.declared.point_sets.Dimension.TheVariants.{Empty, Zero, One, Two}
use Rattle.geometry_laws.specs.PieceLaws.{HasClosedRings, Inside}
use Rattle.geometry_laws.proofs.Each.{Among, Passing, each_at, among_left, among_right, among_either}
use Rattle.geometry_laws.proofs.RingParity.{each_from_all, position_is_point}
use Rattle.geometry_laws.proofs.Respect.{locate_respects}
use Rattle.geometry_laws.proofs.Locating.{start_is_on, end_is_on}
use Rattle.geometry_laws.proofs.Cuts.{among_from_contains, contains_of_among}
use Rattle.geometry_laws.proofs.WithinPiece.{not_upright_edge}
use Rattle.matrix_laws.proofs.CutOrder.{listed_is_cut}
use Rattle.matrix_laws.proofs.Turned.{labelled_is_transposed}
use Rattle.matrix_laws.proofs.Pieces.{sample_inside}
use Rattle.matrix_laws.proofs.Labelled.{edges', listed', cuts', pieces', some_side, some_piece, some_cut, Apart', pair_is, passing_of, IsListedPiece, listed_piece}
use Rattle.matrix_laws.specs.Cells.{at_most, Shows, ShowsPoint, IsPartOf, IsSound, IsNoCut, Covers, CoversPosition}
use Rattle.matrix_laws.proofs.Growing.{cell_of, part_of_both, shows_at}
use Rattle.matrix_laws.proofs.There.{AreOut, out_or_apart, cell_is, out_is_two}

-- ---- all edges and positions covered
-- it covers all edges and all listed positions of both geometries
pub record CoversAll (a b : Geometry) (m : Matrix) : Type 0 where
  pub edge : (e : Edge) → Among e (edges_of_both a b) → Covers a b m e
  pub position : (p : Position) → Among p (listed a ++ listed b) → CoversPosition a b m p

-- so it does where it covers those of each
all_covered : (a b : Geometry) (m : Matrix) → All (Covers a b m) (edges a) → All (Covers a b m) (edges b) → All (CoversPosition a b m) (listed a) → All (CoversPosition a b m) (listed b) → CoversAll a b m
all_covered a b m ea eb pa pb = record { edge = λ e i. edge e (among_either e (edges a) (edges b) i); position = λ p i. position p (among_either p (listed a) (listed b) i) }
  where
    edge : (e : Edge) → Among e (edges a) ⊎ Among e (edges b) → Covers a b m e
    edge e (inl i) = each_at (Covers a b m) (edges a) e (each_from_all (Covers a b m) (edges a) ea) i
    edge e (inr i) = each_at (Covers a b m) (edges b) e (each_from_all (Covers a b m) (edges b) eb) i

    position : (p : Position) → Among p (listed a) ⊎ Among p (listed b) → CoversPosition a b m p
    position p (inl i) = each_at (CoversPosition a b m) (listed a) p (each_from_all (CoversPosition a b m) (listed a) pa) i
    position p (inr i) = each_at (CoversPosition a b m) (listed b) p (each_from_all (CoversPosition a b m) (listed b) pb) i

-- ---- a piece's sample is a point of its edge that is no cut
-- so the matrix shows what there is at a sample and beside it
sample_shown : (a b : Geometry) (m : Matrix) → CoversAll a b m → (c : Piece) (p : IsListedPiece a b c) → ShowsPoint a b m p.is_piece.edge (sample c) × IsNoCut a b (sample c)
sample_shown a b m h c p = go (sample_inside (edges' a b) (listed' a b) c p.is_piece p.ends)
  where
    go : Inside (edges' a b) (listed' a b) c p.is_piece (sample c) → ShowsPoint a b m p.is_piece.edge (sample c) × IsNoCut a b (sample c)
    go i = (
      h.edge p.is_piece.edge (among_from_contains (edges_of_both a b) p.is_piece.edge p.is_piece.among) (sample c) i.is_point i.is_on,
      λ k. p.is_piece.neighbours (sample c) i.is_point i.is_on k i.after i.before,
    )

-- what a side of some piece shows is shown
side_shown : (a b : Geometry) (m : Matrix) → CoversAll a b m → (l k : Location) → some_side a b l k ≡ true → Shows m l k Two
side_shown a b m h l k e = go (passing_of (side_labels a b) (is_side_pair l k) (pieces' a b) e)
  where
    pick : (c : Piece) (p : IsListedPiece a b c) → ShowsPoint a b m p.is_piece.edge (sample c) × IsNoCut a b (sample c) → (t : Bool) → is_upright c ≡ t
        → is_side_pair l k (if t then None else Some (record { lower = record { first = below a (sample c); second = below b (sample c) }; upper = record { first = above a (sample c); second = above b (sample c) } })) ≡ true → Shows m l k Two
    pick c p s true f g = absurd (let z : false ≡ true = g in cc)
    pick c p s false f g = sides (or_cases (same_location l (below a (sample c)) && same_location k (below b (sample c))) (same_location l (above a (sample c)) && same_location k (above b (sample c))) g)
      where
        sides : (same_location l (below a (sample c)) && same_location k (below b (sample c)) ≡ true) ⊎ (same_location l (above a (sample c)) && same_location k (above b (sample c)) ≡ true) → Shows m l k Two
        sides (inl u) = let q : (l ≡ below a (sample c)) × (k ≡ below b (sample c)) = pair_is l k (below a (sample c)) (below b (sample c)) u in
            shows_at m Two (below a (sample c)) l (below b (sample c)) k (sym q.0) (sym q.1) ((s.0).lower s.1 (not_upright_edge (edges' a b) (listed' a b) c p.is_piece p.ends f))
        sides (inr u) = let q : (l ≡ above a (sample c)) × (k ≡ above b (sample c)) = pair_is l k (above a (sample c)) (above b (sample c)) u in
            shows_at m Two (above a (sample c)) l (above b (sample c)) k (sym q.0) (sym q.1) ((s.0).upper s.1 (not_upright_edge (edges' a b) (listed' a b) c p.is_piece p.ends f))

    go : Passing (λ c. is_side_pair l k (side_labels a b c)) (pieces' a b) → Shows m l k Two
    go p = let q : IsListedPiece a b p.found = listed_piece a b p.found p.among in pick p.found q (sample_shown a b m h p.found q) (is_upright p.found) refl p.passes

-- what some piece shows is shown
piece_shown : (a b : Geometry) (m : Matrix) → CoversAll a b m → (l k : Location) → some_piece a b l k ≡ true → Shows m l k One
piece_shown a b m h l k e = go (passing_of (λ c. label a b (sample c)) (is_pair l k) (pieces' a b) e)
  where
    go : Passing (λ c. is_pair l k (label a b (sample c))) (pieces' a b) → Shows m l k One
    go p = let q : (l ≡ locate a (sample p.found)) × (k ≡ locate b (sample p.found)) = pair_is l k (locate a (sample p.found)) (locate b (sample p.found)) p.passes in
        let c : IsListedPiece a b p.found = listed_piece a b p.found p.among in
        let s : ShowsPoint a b m c.is_piece.edge (sample p.found) × IsNoCut a b (sample p.found) = sample_shown a b m h p.found c in
        shows_at m One (locate a (sample p.found)) l (locate b (sample p.found)) k (sym q.0) (sym q.1) ((s.0).piece s.1)

-- ---- a cut is a point of an edge or a listed position
-- an edge holds its ends
pub end_is_on_it : (e : Edge) (x : Point) → IsPoint x → is_end e x ≡ true → on e x ≡ true
end_is_on_it e x hx h = go (or_cases (same_point (point_at e.start) x) (same_point (point_at e.end) x) h)
  where
    go : (same_point (point_at e.start) x ≡ true) ⊎ (same_point (point_at e.end) x ≡ true) → on e x ≡ true
    go (inl f) = start_is_on e x hx f
    go (inr f) = end_is_on e x hx f

-- an end or a crossing is a point of a covered edge, and a listed position is covered itself
cut_shown : (a b : Geometry) (m : Matrix) → CoversAll a b m → (x : Point) → IsCut (edges' a b) (listed' a b) x → Shows m (locate a x) (locate b x) Zero
cut_shown a b m h x (AtEnd hx e c k) = (h.edge e (among_from_contains (edges' a b) e c) x hx (end_is_on_it e x hx k)).point
cut_shown a b m h x (Listed hx p c k) = shows_at m Zero (locate a (point_at p)) (locate a x) (locate b (point_at p)) (locate b x)
    (locate_respects a (point_at p) x (position_is_point p) hx k) (locate_respects b (point_at p) x (position_is_point p) hx k) (h.position p (among_from_contains (listed' a b) p c))
cut_shown a b m h x (AtCrossing hx e f c d n s t) = (h.edge e (among_from_contains (edges' a b) e c) x hx s).point

-- so what some cut shows is shown
some_cut_shown : (a b : Geometry) (m : Matrix) → CoversAll a b m → (l k : Location) → some_cut a b l k ≡ true → Shows m l k Zero
some_cut_shown a b m h l k e = go (passing_of (label a b) (is_pair l k) (cuts' a b) e)
  where
    go : Passing (λ c. is_pair l k (label a b c)) (cuts' a b) → Shows m l k Zero
    go p = let q : (l ≡ locate a p.found) × (k ≡ locate b p.found) = pair_is l k (locate a p.found) (locate b p.found) p.passes in
        shows_at m Zero (locate a p.found) l (locate b p.found) k (sym q.0) (sym q.1) (cut_shown a b m h p.found ((listed_is_cut (edges' a b) (listed' a b) p.found p.among).is_cut))

-- ---- so it shows all
-- each cell of the label matrix is that of a side, a piece or a cut, or of the exteriors, and all these are shown
all_shown : (a b : Geometry) (m : Matrix) → CoversAll a b m → Shows m Exterior Exterior Two → IsPartOf (labelled_matrix a b) m
all_shown a b m h o l k = go (out_or_apart l k)
  where
    by_labels : (s : Bool) → some_side a b l k ≡ s → (p : Bool) → some_piece a b l k ≡ p → (c : Bool) → some_cut a b l k ≡ c → Shows m l k (if s then Two else if p then One else if c then Zero else Empty)
    by_labels true e p f c g = side_shown a b m h l k e
    by_labels false e true f c g = piece_shown a b m h l k f
    by_labels false e false f true g = some_cut_shown a b m h l k g
    by_labels false e false f false g = refl

    go : AreOut l k ⊎ Apart' l k → Shows m l k (cell (labelled_matrix a b) l k)
    go (inl u) = ap (λ (d : Dimension). at_most d (cell m l k)) (out_is_two a b l k u) ∙ shows_at m Two Exterior l Exterior k (sym u.0) (sym u.1) o
    go (inr n) = ap (λ (d : Dimension). at_most d (cell m l k)) (cell_is a b l k n) ∙ by_labels (some_side a b l k) refl (some_piece a b l k) refl (some_cut a b l k) refl

-- being sound it is part of the label matrix, which is part of it, so they are the same
pub covering_is_whole : (a b : Geometry) → HasClosedRings a → HasClosedRings b → (m : Matrix) → All (Covers a b m) (edges a) → All (Covers a b m) (edges b) → All (CoversPosition a b m) (listed a) → All (CoversPosition a b m) (listed b)
    → Shows m Exterior Exterior Two → IsSound a b m → m ≡ labelled_matrix a b
covering_is_whole a b ca cb m ea eb pa pb o s = part_of_both m (labelled_matrix a b) s (all_shown a b m (all_covered a b m ea eb pa pb) o)

-- ---- the other way round
turned_member : {X : Type 0} (xs ys : List X) (z : X) → Contains (xs ++ ys) z → Contains (ys ++ xs) z
turned_member xs ys z c = go (among_either z xs ys (among_from_contains (xs ++ ys) z c))
  where
    go : Among z xs ⊎ Among z ys → Contains (ys ++ xs) z
    go (inl i) = contains_of_among z (ys ++ xs) (among_right z ys xs i)
    go (inr i) = contains_of_among z (ys ++ xs) (among_left z ys xs i)

-- a cut is a cut whichever geometry comes first
turned_cut : (a b : Geometry) (x : Point) → IsCut (edges_of_both b a) (listed b ++ listed a) x → IsCut (edges_of_both a b) (listed a ++ listed b) x
turned_cut a b x (AtEnd hx e c k) = AtEnd hx e (turned_member (edges b) (edges a) e c) k
turned_cut a b x (Listed hx p c k) = Listed hx p (turned_member (listed b) (listed a) p c) k
turned_cut a b x (AtCrossing hx e f c d n s t) = AtCrossing hx e f (turned_member (edges b) (edges a) e c) (turned_member (edges b) (edges a) f d) n s t

-- the transposed matrix shows the same of the parts the other way round
pub shows_turned : (m : Matrix) (l k : Location) (d : Dimension) → Shows m l k d → Shows (transposed m) k l d
shows_turned m l k d s = ap (at_most d) (cell_of (λ i j. cell m j i) k l) ∙ s

-- so it shows the same of each point, each listed position and each cell
pub covers_turned : (a b : Geometry) (m : Matrix) → ((e : Edge) → Covers a b m e → Covers b a (transposed m) e) × ((p : Position) → CoversPosition a b m p → CoversPosition b a (transposed m) p) × (IsSound a b m → IsSound b a (transposed m))
covers_turned a b m = (edge, λ p s. shows_turned m (locate a (point_at p)) (locate b (point_at p)) Zero s, sound)
  where
    edge : (e : Edge) → Covers a b m e → Covers b a (transposed m) e
    edge e c x hx h = let s : ShowsPoint a b m e x = c x hx h in record {
      point = shows_turned m (locate a x) (locate b x) Zero s.point;
      piece = λ f. shows_turned m (locate a x) (locate b x) One (s.piece (λ k. f (turned_cut b a x k)));
      lower = λ f n. shows_turned m (below a x) (below b x) Two (s.lower (λ k. f (turned_cut b a x k)) n);
      upper = λ f n. shows_turned m (above a x) (above b x) Two (s.upper (λ k. f (turned_cut b a x k)) n);
    }

    sound : IsSound a b m → IsSound b a (transposed m)
    sound h l k = ap (λ (d : Dimension). at_most d (cell (labelled_matrix b a) l k)) (cell_of (λ i j. cell m j i) l k)
        ∙ ap (λ (n : Matrix). at_most (cell m k l) (cell n l k)) (labelled_is_transposed a b) ∙ ap (at_most (cell m k l)) (cell_of (λ i j. cell (labelled_matrix a b) j i) l k) ∙ h k l
