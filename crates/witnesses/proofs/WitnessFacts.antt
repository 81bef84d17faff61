-- What the labels of nodes, pieces and sides say of witnesses.
use Rattle.std.proofs.Common.{ℕ, ◌<◌, ◌≤◌, ◌≡◌, Bool, true, false, refl, sym, ap, subst, ◌∙◌, List, ◌++◌, length, get_or, map, Option, Some, None, if◌then◌else◌, arith}
use Rattle.std.proofs.lemmas.List.{get_or-map, length-map, get_or_default}
use Rattle.std.proofs.lemmas.Option.{slice_get-get_or}
use Rattle.std.proofs.lemmas.List.Folds.{list_any_none}
use Rattle.std.proofs.lemmas.List.Quantifiers.{position-Some}
use Rattle.std.proofs.lemmas.List.Sums.{fails_before_first}
use Rattle.std.proofs.lemmas.Grind.{common_steps}
use Rattle.std.specs.List.{position, position_or_len}
use Rattle.geometry_laws.proofs.Each.{one_passes}
use Rattle.geometry_laws.proofs.Cuts.{among_from_contains}
use Rattle.std.specs.List.{list_any, slice_get}
use Rattle.std.proofs.lemmas.Bool.{and_parts}
use Rattle.geometry_model.specs.Points.{Position, Point, IsPoint, point_at, same_point}
use Rattle.geometry_model.specs.Geometries.{Geometry, edges, listed, rings}
use Rattle.geometry_model.specs.Locations.{is_at, locate}
use Rattle.geometry_model.specs.Dimensions.{HasDimension, common, cell, IsMatrix}
use Rattle.geometry_model.specs.Pieces.{Piece, sample}
use Rattle.geometry_model.specs.Labels.{Label, SideLabels, Labels, label, labels, side_labels, above, below, is_upright, cuts_of_both, edges_of_both, same_location, is_pair, is_side_pair, labelled_cell, labelled_matrix}
use Rattle.geometry_model.specs.declared.point_sets.Location.{Location}
use Rattle.geometry_model.specs.declared.point_sets.Location.TheVariants.{Interior, Boundary, Exterior}
use Rattle.geometry_model.specs.declared.point_sets.Dimension.{Dimension}
use Rattle.geometry_model.specs.declared.point_sets.Dimension.TheVariants.{Empty, Zero, One, Two}
use Rattle.geometry_laws.specs.RingLaws.{IsClosed}
use Rattle.geometry_laws.specs.PieceLaws.{HasClosedRings, IsPieceOf}
use Rattle.geometry_laws.specs.CoverLaws.{MissesUprights}
use Rattle.geometry_laws.proofs.RingParity.{each_from_all}
use Rattle.geometry_laws.proofs.PointOrder.{same_transitive}
use Rattle.geometry_laws.proofs.Respect.{on_respects, odd_above_respects, odd_at_or_above_respects}
use Rattle.matrix_laws.proofs.Labelled.{labelled_is_matrix}
use Rattle.noding.specs.Nodings.{HasNodeTriples, piece_of}
use Rattle.geometry_laws.specs.FaceLaws.{SeesUp, SeesDown}
use Rattle.matrix_laws.specs.Witnessing.{HoldsStretch, IsFacePoint}
use Rattle.matrix_laws.proofs.Showing.{piece_is_stretch, seen_above_is_face_point, seen_below_is_face_point}
use Rattle.matrix_laws.proofs.SampleUprights.{sample_misses_uprights}
use Rattle.witnesses.specs.declared.heights.Side.{Side}
use Rattle.witnesses.specs.declared.heights.Side.TheVariants.{Upper, Lower}
use Rattle.witnesses.specs.declared.witness.Witness.{Witness}
use Rattle.witnesses.specs.declared.witness.Witness.TheVariants as kinds
use Rattle.witnesses.specs.declared.witness.Witnesses.{Witnesses}
use Rattle.noding.proofs.NodeCuts.{cut_is_point}
use Rattle.side_labels.specs.Noding.{pieces_of_both}
use Rattle.witnesses.specs.FirstWitnesses.{AreFirst, IsFirstOfExteriors, IsFirstWitness, SeesFrom, first_piece, first_point, first_side}
use Rattle.witnesses.specs.Shown.{witness_at, shown_matrix, ShowsAll, IsShownBy, shown_dimension, IsWitnessOf, HasPairOn, IsBeside, AreLabelled}

-- ---- pairs
pub same_is : (l k : Location) → same_location l k ≡ true → l ≡ k
same_is Interior Interior e = refl
same_is Interior Boundary e = absurd cc
same_is Interior Exterior e = absurd cc
same_is Boundary Interior e = absurd cc
same_is Boundary Boundary e = refl
same_is Boundary Exterior e = absurd cc
same_is Exterior Interior e = absurd cc
same_is Exterior Boundary e = absurd cc
same_is Exterior Exterior e = refl

pub pair_is : (l k : Location) (x : Label) → is_pair l k x ≡ true → (l ≡ x.first) × (k ≡ x.second)
pair_is l k x e = let both : (same_location l x.first ≡ true) × (same_location k x.second ≡ true) = and_parts (same_location l x.first) (same_location k x.second) e in (same_is l x.first both.0, same_is k x.second both.1)

-- ---- beside a piece
-- what is said of a sample is said of each triple of it
not_upright_at : (g : Geometry) (p q : Point) → IsPoint p → IsPoint q → same_point q p ≡ true
    → MissesUprights g p → MissesUprights g q
not_upright_at g p q hp hq e s = record {
  edges = λ i d l k. s.edges i d l (sym (on_respects (get_or (edges g) i d) q p hq hp e) ∙ k);
  positions = λ i d l. at (get_or (listed g) i d) (is_at q (get_or (listed g) i d)) refl (s.positions i d l);
}
  where
    at : (a : Position) (t : Bool) → is_at q a ≡ t → is_at p a ≡ false → is_at q a ≡ false
    at a false h k = h
    at a true h k = absurd (let z : true ≡ false = sym (same_transitive (point_at a) q p hq h e) ∙ k in cc)

pub sample_misses : (a b : Geometry) (c : Piece) (q : Point) → IsPieceOf a b c → is_upright c ≡ false → IsPoint (sample c) → IsPoint q → same_point q (sample c) ≡ true → MissesUprights a q × MissesUprights b q
sample_misses a b c q h f hs hq e = let s : MissesUprights a (sample c) × MissesUprights b (sample c) = sample_misses_uprights a b c h f in (not_upright_at a (sample c) q hs hq e s.0, not_upright_at b (sample c) q hs hq e s.1)

above_same : (g : Geometry) (p q : Point) → IsPoint p → IsPoint q → same_point q p ≡ true → above g q ≡ above g p
above_same g p q hp hq e = ap (λ (t : Bool). if t then Interior else Exterior) (odd_above_respects (rings g) q p hq hp e)

below_same : (g : Geometry) (p q : Point) → IsPoint p → IsPoint q → same_point q p ≡ true → below g q ≡ below g p
below_same g p q hp hq e = ap (λ (t : Bool). if t then Interior else Exterior) (odd_at_or_above_respects (rings g) q p hq hp e)

face_at : (a b : Geometry) (l k m n : Location) (p : Point) → l ≡ m → k ≡ n → IsFacePoint a l b k p → IsFacePoint a m b n p
face_at a b l k m n p e f h = record { is_point = h.is_point; within = ((h.within).0 ∙ e, (h.within).1 ∙ f); off_first = h.off_first; off_second = h.off_second }

pub beside_of : (a b : Geometry) (c : Piece) (q m : Point) (sd : Side) → IsPoint (sample c) → IsPoint q → same_point q (sample c) ≡ true → (sd ≡ Upper → SeesUp a q m × SeesUp b q m) → (sd ≡ Lower → SeesDown a q m × SeesDown b q m) → IsBeside a b c sd m
beside_of a b c q m Upper hs hq e up down = face_at a b (above a q) (above b q) (above a (sample c)) (above b (sample c)) m (above_same a (sample c) q hs hq e) (above_same b (sample c) q hs hq e) (seen_above_is_face_point a b q m hq (up refl).0 (up refl).1)
beside_of a b c q m Lower hs hq e up down = face_at a b (below a q) (below b q) (below a (sample c)) (below b (sample c)) m (below_same a (sample c) q hs hq e) (below_same b (sample c) q hs hq e) (seen_below_is_face_point a b q m hq (down refl).0 (down refl).1)

-- what is seen from a point on a side
pub seen_from : (a b : Geometry) (sd : Side) (q m : Point) → (sd ≡ Upper → SeesUp a q m × SeesUp b q m) →
    (sd ≡ Lower → SeesDown a q m × SeesDown b q m)
    → SeesFrom a b sd q m
seen_from a b Upper q m up down = up refl
seen_from a b Lower q m up down = down refl

-- ---- the sides of a piece that have a pair
-- only a piece that isn't vertical has any
pub not_upright : (a b : Geometry) (c : Piece) (l k : Location) (sd : Side) → HasPairOn l k (side_labels a b c) sd → is_upright c ≡ false
not_upright a b c l k sd h = go (is_upright c) refl
  where
    none : (sd : Side) → HasPairOn l k None sd → ⊥
    none sd h = h

    go : (t : Bool) → is_upright c ≡ t → is_upright c ≡ false
    go false e = e
    go true e = absurd (none sd (subst (λ (o : Option SideLabels). HasPairOn l k o sd) (ap (λ (t : Bool). if t then None else Some (record {
      lower = record { first = below a (sample c); second = below b (sample c) };
      upper = record { first = above a (sample c); second = above b (sample c) };
    })) e) h))

-- and what is beside it is a face point of the pair
pub face_of_pair : (a b : Geometry) (c : Piece) (l k : Location) (sd : Side) (m : Point) → HasPairOn l k (side_labels a b c) sd → IsBeside a b c sd m → IsFacePoint a l b k m
face_of_pair a b c l k sd m h i = at sd (subst (λ (o : Option SideLabels). HasPairOn l k o sd) (ap (λ (t : Bool). if t then None else Some (record {
  lower = record { first = below a (sample c); second = below b (sample c) };
  upper = record { first = above a (sample c); second = above b (sample c) };
})) (not_upright a b c l k sd h)) h) i
  where
    at : (sd : Side) → HasPairOn l k (Some (record { lower = record { first = below a (sample c); second = below b (sample c) }; upper = record { first = above a (sample c); second = above b (sample c) } })) sd → IsBeside a b c sd m → IsFacePoint a l b k m
    at Upper g j = let p : (l ≡ above a (sample c)) × (k ≡ above b (sample c)) = pair_is l k (record { first = above a (sample c); second = above b (sample c) }) g in face_at a b (above a (sample c)) (above b (sample c)) l k m (sym p.0) (sym p.1) j
    at Lower g j = let p : (l ≡ below a (sample c)) × (k ≡ below b (sample c)) = pair_is l k (record { first = below a (sample c); second = below b (sample c) }) g in face_at a b (below a (sample c)) (below b (sample c)) l k m (sym p.0) (sym p.1) j

-- ---- a piece or a node that has a pair
pub stretch_of_pair : (a b : Geometry) (c : Piece) (l k : Location) → HasClosedRings a → HasClosedRings b → IsPieceOf a b c → is_pair l k (label a b (sample c)) ≡ true → HoldsStretch (common a l b k) c.lesser c.greater
stretch_of_pair a b c l k ca cb h e = let p : (l ≡ locate a (sample c)) × (k ≡ locate b (sample c)) = pair_is l k (label a b (sample c)) e in
    let s : HoldsStretch (common a (locate a (sample c)) b (locate b (sample c))) c.lesser c.greater = piece_is_stretch a b ca cb c h in
    record { p_is_point = s.p_is_point; q_is_point = s.q_is_point; in_order = s.in_order; within = λ x i. let w : common a (locate a (sample c)) b (locate b (sample c)) x = s.within x i in (w.0 ∙ sym p.0, w.1 ∙ sym p.1) }

pub point_of_pair : (a b : Geometry) (p : Point) (l k : Location) → is_pair l k (label a b p) ≡ true → common a l b k p
point_of_pair a b p l k e = let q : (l ≡ locate a p) × (k ≡ locate b p) = pair_is l k (label a b p) e in (sym q.0, sym q.1)

-- ---- all cells
shows_cell : (a b : Geometry) (l k : Location) (d : Dimension) (w : Witness) → IsWitnessOf a l b k d w → HasDimension (common a l b k) d → IsShownBy a l b k w
shows_cell a b l k d kinds.Nothing h g = subst (HasDimension (common a l b k)) (sym h.dimension) g
shows_cell a b l k d (kinds.Point p) h g = h.shows (λ e. absurd cc)
shows_cell a b l k d (kinds.Stretch p q) h g = h.shows (λ e. absurd cc)
shows_cell a b l k d (kinds.Around p) h g = h.shows (λ e. absurd cc)

pub cell_shown : (a b : Geometry) (l k : Location) (d : Dimension) (w : Witness) → IsWitnessOf a l b k d w → HasDimension (common a l b k) d → HasDimension (common a l b k) (shown_dimension w) × IsShownBy a l b k w
cell_shown a b l k d w h g = (subst (HasDimension (common a l b k)) (sym h.dimension) g, shows_cell a b l k d w h g)

pub matrix_cells : (a b : Geometry) → HasClosedRings a → HasClosedRings b → IsMatrix a b (labelled_matrix a b)
matrix_cells a b ca cb = labelled_is_matrix a b (each_from_all IsClosed (rings a) ca) (each_from_all IsClosed (rings b) cb)

-- ---- the first that passes
past_all : {X : Type 0} (p : X → Bool) (xs : List X) → position p xs ≡ None → length xs ≤ position_or_len p xs
past_all p xs e = grind (arith, common_steps, e)

pub position_none : {X : Type 0} (p : X → Bool) (xs : List X) → position p xs ≡ None → list_any p xs ≡ false
position_none p xs e = let past : length xs ≤ position_or_len p xs = past_all p xs e in list_any_none p xs (λ k d l. fails_before_first p xs k d (omega (arith, l, past)))

pub position_found : {X : Type 0} (p : X → Bool) (xs : List X) (i : ℕ) (d : X) → position p xs ≡ Some i → list_any p xs ≡ true
position_found p xs i d e = let at : (i < length xs) × (p (get_or xs i d) ≡ true) × ((k : ℕ) → k < i → p (get_or xs k d) ≡ false) = position-Some p xs i d e in
    one_passes p xs (get_or xs i d) (among_from_contains xs (get_or xs i d) (i, at.0, get_or_default xs i (get_or xs i d) d at.0)) at.1

-- ---- at a place of the lists
pub found_at : {X : Type 0} (p : X → Bool) (xs ys : List X) (i : ℕ) (x : X) → xs ≡ ys → position p xs ≡ Some i → x ≡ get_or ys i x → p x ≡ true
found_at {X} p xs ys i x e f g = subst (λ (z : X). p z ≡ true) (ap (λ (zs : List X). get_or zs i x) e ∙ sym g) (position-Some p xs i x f).1

pub found_within : {X : Type 0} (p : X → Bool) (xs : List X) (i : ℕ) (d : X) → position p xs ≡ Some i → i < length xs
found_within p xs i d e = (position-Some p xs i d e).0

-- a stretch at a place that is within the pieces
pub record AtPiece (a b : Geometry) (d : Point × Point) (i : ℕ) (x : Labels) : Type 0 where
  pub is_piece : IsPieceOf a b (piece_of d)
  pub triples : HasNodeTriples (piece_of d)
  pub sides : (o : Option SideLabels) → o ≡ get_or x.of_sides i o → o ≡ side_labels a b (piece_of d)
  pub pair : (o : Label) → o ≡ get_or x.of_pieces i o → o ≡ label a b (sample (piece_of d))
  pub there : slice_get (pieces_of_both a b) i ≡ Some (piece_of d)

pub at_piece : (a b : Geometry) (nodes : List Point) (cs : List Piece) (x : Labels) (ds : List (Point × Point)) (d : Point × Point) (i : ℕ) → AreLabelled a b nodes cs x → map piece_of ds ≡ cs → i < length cs → d ≡ get_or ds i d → AtPiece a b d i x
at_piece a b nodes cs x ds d i h e l g = record {
  is_piece = subst (IsPieceOf a b) here (h.are_pieces i (piece_of d) l);
  triples = subst HasNodeTriples here (h.triples i (piece_of d) l);
  sides = λ o k. k ∙ ap (λ (zs : List (Option SideLabels)). get_or zs i o) (ap (λ (y : Labels). y.of_sides) h.labels) ∙ get_or-map (side_labels a b) cs i (piece_of d) o l ∙ ap (side_labels a b) here;
  pair = λ o k. k ∙ ap (λ (zs : List Label). get_or zs i o) (ap (λ (y : Labels). y.of_pieces) h.labels) ∙ get_or-map (λ c. label a b (sample c)) cs i (piece_of d) o l ∙ ap (λ c. label a b (sample c)) here;
  there = ap (λ (zs : List Piece). slice_get zs i) (sym h.exact_pieces) ∙ slice_get-get_or cs i (piece_of d) l ∙ ap Some here;
}
  where
    within : i < length ds
    within = omega (arith, l, sym (simp length-map at (ap length e)))

    here : get_or cs i (piece_of d) ≡ piece_of d
    here = ap (λ (zs : List Piece). get_or zs i (piece_of d)) (sym e) ∙ get_or-map piece_of ds i d (piece_of d) within ∙ ap piece_of (sym g)

-- a place of the sides' labels, or of the pieces', is one of the pieces
pub of_sides_within : (a b : Geometry) (nodes : List Point) (cs : List Piece) (x : Labels) (i : ℕ) → AreLabelled a b nodes cs x → i < length x.of_sides → i < length cs
of_sides_within a b nodes cs x i h l = subst (λ (n : ℕ). i < n) (ap (λ (y : Labels). length y.of_sides) h.labels ∙ length-map cs (side_labels a b)) l

pub of_pieces_within : (a b : Geometry) (nodes : List Point) (cs : List Piece) (x : Labels) (i : ℕ) → AreLabelled a b nodes cs x → i < length x.of_pieces → i < length cs
of_pieces_within a b nodes cs x i h l = subst (λ (n : ℕ). i < n) (ap (λ (y : Labels). length y.of_pieces) h.labels ∙ length-map cs (λ c. label a b (sample c))) l

-- a node at a place
pub record AtNode (a b : Geometry) (p : Point) (i : ℕ) (x : Labels) : Type 0 where
  pub is_point : IsPoint p
  pub pair : (o : Label) → o ≡ get_or x.of_points i o → o ≡ label a b p
  pub there : slice_get (cuts_of_both a b) i ≡ Some p

pub at_node : (a b : Geometry) (nodes ns : List Point) (cs : List Piece) (x : Labels) (p : Point) (i : ℕ) → AreLabelled a b nodes cs x → ns ≡ nodes → i < length x.of_points → p ≡ get_or ns i p → AtNode a b p i x
at_node a b nodes ns cs x p i h e l g = record {
  is_point = subst IsPoint here (cut_is_point (edges_of_both a b) (listed a ++ listed b) (get_or nodes i p) (h.are_cuts i p within));
  pair = λ o k. k ∙ ap (λ (zs : List Label). get_or zs i o) (ap (λ (y : Labels). y.of_points) h.labels) ∙ get_or-map (label a b) nodes i p o within ∙ ap (label a b) here;
  there = ap (λ (zs : List Point). slice_get zs i) (sym h.exact_nodes) ∙ slice_get-get_or nodes i p within ∙ ap Some here;
}
  where
    within : i < length nodes
    within = subst (λ (n : ℕ). i < n) (ap (λ (y : Labels). length y.of_points) h.labels ∙ length-map nodes (label a b)) l

    here : get_or nodes i p ≡ p
    here = ap (λ (zs : List Point). get_or zs i p) (sym e) ∙ sym g

-- ---- the label's dimension, by what was found
picked : Bool → Bool → Bool → Dimension
picked s p n = if s then Two else if p then One else if n then Zero else Empty

picked_is : (s p n s' p' n' : Bool) → s ≡ s' → p ≡ p' → n ≡ n' → picked s p n ≡ picked s' p' n'
picked_is s p n s' p' n' e f g = λ i. picked (e i) (f i) (g i)

pub cell_one : (x : Labels) (l k : Location) → list_any (is_side_pair l k) x.of_sides ≡ false → list_any (is_pair l k) x.of_pieces ≡ true → labelled_cell x l k ≡ One
unfolding picked
cell_one x l k e f = picked_is _ _ _ false true (list_any (is_pair l k) x.of_points) e f refl

pub cell_zero : (x : Labels) (l k : Location) → list_any (is_side_pair l k) x.of_sides ≡ false → list_any (is_pair l k) x.of_pieces ≡ false → list_any (is_pair l k) x.of_points ≡ true → labelled_cell x l k ≡ Zero
unfolding picked
cell_zero x l k e f g = picked_is _ _ _ false false true e f g

pub cell_empty : (x : Labels) (l k : Location) → list_any (is_side_pair l k) x.of_sides ≡ false → list_any (is_pair l k) x.of_pieces ≡ false → list_any (is_pair l k) x.of_points ≡ false → labelled_cell x l k ≡ Empty
unfolding picked
cell_empty x l k e f g = picked_is _ _ _ false false false e f g

-- ---- all nine
pub cell_of : (a b : Geometry) → HasClosedRings a → HasClosedRings b → (x : Labels) → x ≡ labels a b → (l k : Location) (w : Witness) → cell (labelled_matrix a b) l k ≡ labelled_cell (labels a b) l k → IsWitnessOf a l b k (labelled_cell x l k) w
    → HasDimension (common a l b k) (shown_dimension w) × IsShownBy a l b k w
cell_of a b ca cb x e l k w f h = cell_shown a b l k (labelled_cell (labels a b) l k) w (subst (λ (y : Labels). IsWitnessOf a l b k (labelled_cell y l k) w) e h) (subst (HasDimension (common a l b k)) f (matrix_cells a b ca cb l k))

-- what a witness of a cell has to be
abbrev pub Good : Geometry → Geometry → Witnesses → Location → Location → Type 0
Good a b w l k = HasDimension (common a l b k) (shown_dimension (witness_at w l k)) × IsShownBy a l b k (witness_at w l k)

pub record AllGood (a b : Geometry) (w : Witnesses) : Type 0 where
  pub ii : Good a b w Interior Interior
  pub ib : Good a b w Interior Boundary
  pub ie : Good a b w Interior Exterior
  pub bi : Good a b w Boundary Interior
  pub bb : Good a b w Boundary Boundary
  pub be : Good a b w Boundary Exterior
  pub ei : Good a b w Exterior Interior
  pub eb : Good a b w Exterior Boundary
  pub ee : Good a b w Exterior Exterior

pub all_shown : (a b : Geometry) (w : Witnesses) → AllGood a b w → ShowsAll a b (witness_at w)
all_shown a b w h Interior Interior = h.ii.1
all_shown a b w h Interior Boundary = h.ib.1
all_shown a b w h Interior Exterior = h.ie.1
all_shown a b w h Boundary Interior = h.bi.1
all_shown a b w h Boundary Boundary = h.bb.1
all_shown a b w h Boundary Exterior = h.be.1
all_shown a b w h Exterior Interior = h.ei.1
all_shown a b w h Exterior Boundary = h.eb.1
all_shown a b w h Exterior Exterior = h.ee.1

pub all_matrix : (a b : Geometry) (w : Witnesses) → AllGood a b w → IsMatrix a b (shown_matrix (witness_at w))
all_matrix a b w h Interior Interior = h.ii.0
all_matrix a b w h Interior Boundary = h.ib.0
all_matrix a b w h Interior Exterior = h.ie.0
all_matrix a b w h Boundary Interior = h.bi.0
all_matrix a b w h Boundary Boundary = h.bb.0
all_matrix a b w h Boundary Exterior = h.be.0
all_matrix a b w h Exterior Interior = h.ei.0
all_matrix a b w h Exterior Boundary = h.eb.0
all_matrix a b w h Exterior Exterior = h.ee.0

-- so where each is a witness of its cell
pub all_good : (a b : Geometry) (x : Labels) (w : Witnesses) → HasClosedRings a → HasClosedRings b → x ≡ labels a b
    → IsWitnessOf a Interior b Interior (labelled_cell x Interior Interior) w.interior_interior → IsWitnessOf a Interior b Boundary (labelled_cell x Interior Boundary) w.interior_boundary → IsWitnessOf a Interior b Exterior (labelled_cell x Interior Exterior) w.interior_exterior
    → IsWitnessOf a Boundary b Interior (labelled_cell x Boundary Interior) w.boundary_interior → IsWitnessOf a Boundary b Boundary (labelled_cell x Boundary Boundary) w.boundary_boundary → IsWitnessOf a Boundary b Exterior (labelled_cell x Boundary Exterior) w.boundary_exterior
    → IsWitnessOf a Exterior b Interior (labelled_cell x Exterior Interior) w.exterior_interior → IsWitnessOf a Exterior b Boundary (labelled_cell x Exterior Boundary) w.exterior_boundary → IsWitnessOf a Exterior b Exterior Two w.exterior_exterior → AllGood a b w
all_good a b x w ca cb e ii ib ie bi bb be ei eb ee = record {
  ii = cell_of a b ca cb x e Interior Interior w.interior_interior refl ii;
  ib = cell_of a b ca cb x e Interior Boundary w.interior_boundary refl ib;
  ie = cell_of a b ca cb x e Interior Exterior w.interior_exterior refl ie;
  bi = cell_of a b ca cb x e Boundary Interior w.boundary_interior refl bi;
  bb = cell_of a b ca cb x e Boundary Boundary w.boundary_boundary refl bb;
  be = cell_of a b ca cb x e Boundary Exterior w.boundary_exterior refl be;
  ei = cell_of a b ca cb x e Exterior Interior w.exterior_interior refl ei;
  eb = cell_of a b ca cb x e Exterior Boundary w.exterior_boundary refl eb;
  ee = cell_shown a b Exterior Exterior Two w.exterior_exterior ee (matrix_cells a b ca cb Exterior Exterior);
}

-- the label at the place found is the pair
pub position_pair : (p : Label → Bool) (xs ys : List Label) (i : ℕ) (d : Label) → xs ≡ ys → position p xs ≡ Some i → p (get_or ys i d) ≡ true
position_pair p xs ys i d e f = subst (λ (zs : List Label). p (get_or zs i d) ≡ true) e (position-Some p xs i d f).1

-- ---- the first piece or node that has the pair
pub piece_found : (a b : Geometry) (nodes : List Point) (cs : List Piece) (x : Labels) (ds : List (Point × Point)) (d : Point × Point) (i : ℕ) (l k : Location) (xs : List Label) → AreLabelled a b nodes cs x → map piece_of ds ≡ cs → xs ≡ x.of_pieces
    → position (is_pair l k) xs ≡ Some i → d ≡ get_or ds i d → list_any (is_side_pair l k) x.of_sides ≡ false → IsWitnessOf a l b k (labelled_cell x l k) (kinds.Stretch d.0 d.1)
piece_found a b nodes cs x ds d i l k xs h e f g m none = record {
  dimension = sym (cell_one x l k none (subst (λ (ys : List Label). list_any (is_pair l k) ys ≡ true) f (position_found (is_pair l k) xs i given g)));
  shows = λ _. stretch_of_pair a b (piece_of d) l k h.first_closed h.second_closed at.is_piece (subst (λ (o : Label). is_pair l k o ≡ true) (at.pair found (get_or_default x.of_pieces i given found within)) (position_pair (is_pair l k) xs x.of_pieces i given f g));
}
  where
    given : Label
    given = label a b d.0

    found : Label
    found = get_or x.of_pieces i given

    within : i < length x.of_pieces
    within = subst (λ (ys : List Label). i < length ys) f (found_within (is_pair l k) xs i given g)

    at : AtPiece a b d i x
    at = at_piece a b nodes cs x ds d i h e (of_pieces_within a b nodes cs x i h within) m

pub node_found : (a b : Geometry) (nodes ns : List Point) (cs : List Piece) (x : Labels) (p : Point) (i : ℕ) (l k : Location) (ys xs : List Label) → AreLabelled a b nodes cs x → ns ≡ nodes → ys ≡ x.of_pieces → xs ≡ x.of_points
    → position (is_pair l k) ys ≡ None → position (is_pair l k) xs ≡ Some i → p ≡ get_or ns i p → list_any (is_side_pair l k) x.of_sides ≡ false → IsWitnessOf a l b k (labelled_cell x l k) (kinds.Point p)
node_found a b nodes ns cs x p i l k ys xs h e y f n g m none = record {
  dimension = sym (cell_zero x l k none (subst (λ (zs : List Label). list_any (is_pair l k) zs ≡ false) y (position_none (is_pair l k) ys n)) (subst (λ (zs : List Label). list_any (is_pair l k) zs ≡ true) f (position_found (is_pair l k) xs i given g)));
  shows = λ _. (at.is_point, point_of_pair a b p l k (subst (λ (o : Label). is_pair l k o ≡ true) (at.pair found (get_or_default x.of_points i given found within)) (position_pair (is_pair l k) xs x.of_points i given f g)));
}
  where
    given : Label
    given = label a b p

    found : Label
    found = get_or x.of_points i given

    within : i < length x.of_points
    within = subst (λ (zs : List Label). i < length zs) f (found_within (is_pair l k) xs i given g)

    at : AtNode a b p i x
    at = at_node a b nodes ns cs x p i h e within m

pub nothing_found : (a b : Geometry) (x : Labels) (l k : Location) (ys xs : List Label) → ys ≡ x.of_pieces → xs ≡ x.of_points → position (is_pair l k) ys ≡ None → position (is_pair l k) xs ≡ None → list_any (is_side_pair l k) x.of_sides ≡ false → IsWitnessOf a l b k (labelled_cell x l k) kinds.Nothing
nothing_found a b x l k ys xs y f n g none = record {
  dimension = sym (cell_empty x l k none (subst (λ (zs : List Label). list_any (is_pair l k) zs ≡ false) y (position_none (is_pair l k) ys n)) (subst (λ (zs : List Label). list_any (is_pair l k) zs ≡ false) f (position_none (is_pair l k) xs g)));
  shows = λ other. absurd (other refl);
}

-- ---- the first that has the pair
pub side_number : (a b : Geometry) (nodes : List Point) (cs : List Piece) (x : Labels) (l k : Location)
    (xs : List (Option SideLabels)) → AreLabelled a b nodes cs x
    → xs ≡ x.of_sides → first_side a l b k ≡ position (is_side_pair l k) xs
side_number a b nodes cs x l k xs h e = ap (λ (y : Labels). position (is_side_pair l k) y.of_sides) (sym h.exact) ∙ ap
    (position (is_side_pair l k)) (sym e)

piece_number : (a b : Geometry) (nodes : List Point) (cs : List Piece) (x : Labels) (l k : Location) (xs : List Label) →
    AreLabelled a b nodes cs x
    → xs ≡ x.of_pieces → first_piece a l b k ≡ position (is_pair l k) xs
piece_number a b nodes cs x l k xs h e = ap (λ (y : Labels). position (is_pair l k) y.of_pieces) (sym h.exact) ∙ ap
    (position (is_pair l k)) (sym e)

point_number : (a b : Geometry) (nodes : List Point) (cs : List Piece) (x : Labels) (l k : Location) (xs : List Label) →
    AreLabelled a b nodes cs x
    → xs ≡ x.of_points → first_point a l b k ≡ position (is_pair l k) xs
point_number a b nodes cs x l k xs h e = ap (λ (y : Labels). position (is_pair l k) y.of_points) (sym h.exact) ∙ ap
    (position (is_pair l k)) (sym e)

pub piece_first : (a b : Geometry) (nodes : List Point) (cs : List Piece) (x : Labels) (ds : List (Point × Point))
    (d : Point × Point) (i : ℕ) (l k : Location)
    (xs : List Label) → AreLabelled a b nodes cs x → map piece_of ds ≡ cs → xs ≡ x.of_pieces → position (is_pair l k)
    xs ≡ Some i → d ≡ get_or ds i d
    → first_side a l b k ≡ None → IsFirstWitness a l b k (kinds.Stretch d.0 d.1)
piece_first a b nodes cs x ds d i l k xs h e f g m none = (none, (i, piece_number a b nodes cs x l k xs h f ∙ g, at.there))
  where
    within : i < length x.of_pieces
    within = subst (λ (ys : List Label). i < length ys) f (found_within (is_pair l k) xs i (label a b d.0) g)

    at : AtPiece a b d i x
    at = at_piece a b nodes cs x ds d i h e (of_pieces_within a b nodes cs x i h within) m

pub node_first : (a b : Geometry) (nodes ns : List Point) (cs : List Piece) (x : Labels) (p : Point) (i : ℕ) (l k : Location)
    (ys xs : List Label)
    → AreLabelled a b nodes cs x → ns ≡ nodes → ys ≡ x.of_pieces → xs ≡ x.of_points → position (is_pair l k) ys ≡ None →
    position (is_pair l k) xs ≡ Some i
    → p ≡ get_or ns i p → first_side a l b k ≡ None → IsFirstWitness a l b k (kinds.Point p)
node_first a b nodes ns cs x p i l k ys xs h e y f n g m none =
    (none, piece_number a b nodes cs x l k ys h y ∙ n, (i, point_number a b nodes cs x l k xs h f ∙ g, at.there))
  where
    within : i < length x.of_points
    within = subst (λ (zs : List Label). i < length zs) f (found_within (is_pair l k) xs i (label a b p) g)

    at : AtNode a b p i x
    at = at_node a b nodes ns cs x p i h e within m

pub nothing_first : (a b : Geometry) (nodes : List Point) (cs : List Piece) (x : Labels) (l k : Location) (ys xs : List Label)
    → AreLabelled a b nodes cs x
    → ys ≡ x.of_pieces → xs ≡ x.of_points → position (is_pair l k) ys ≡ None → position (is_pair l k) xs ≡ None → first_side a
    l b k ≡ None
    → IsFirstWitness a l b k kinds.Nothing
nothing_first a b nodes cs x l k ys xs h y f n g none = (
  none,
  piece_number a b nodes cs x l k ys h y ∙ n,
  point_number a b
      nodes cs x l k xs h f ∙ g,
)

pub all_first : (a b : Geometry) (w : Witnesses)
    → IsFirstWitness a Interior b Interior w.interior_interior → IsFirstWitness a Interior b Boundary w.interior_boundary
    → IsFirstWitness a Interior b Exterior w.interior_exterior → IsFirstWitness a Boundary b Interior w.boundary_interior
    → IsFirstWitness a Boundary b Boundary w.boundary_boundary → IsFirstWitness a Boundary b Exterior w.boundary_exterior
    → IsFirstWitness a Exterior b Interior w.exterior_interior → IsFirstWitness a Exterior b Boundary w.exterior_boundary
    → IsFirstOfExteriors a b w.exterior_exterior → AreFirst a b (witness_at w)
all_first a b w ii ib ie bi bb be ei eb ee Interior Interior = ii
all_first a b w ii ib ie bi bb be ei eb ee Interior Boundary = ib
all_first a b w ii ib ie bi bb be ei eb ee Interior Exterior = ie
all_first a b w ii ib ie bi bb be ei eb ee Boundary Interior = bi
all_first a b w ii ib ie bi bb be ei eb ee Boundary Boundary = bb
all_first a b w ii ib ie bi bb be ei eb ee Boundary Exterior = be
all_first a b w ii ib ie bi bb be ei eb ee Exterior Interior = ei
all_first a b w ii ib ie bi bb be ei eb ee Exterior Boundary = eb
all_first a b w ii ib ie bi bb be ei eb ee Exterior Exterior = ee
