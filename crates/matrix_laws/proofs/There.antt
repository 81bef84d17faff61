-- What is there may be shown: a point's parts share a point, within a piece a stretch, and beside one that isn't vertical an area.
use Rattle.std.proofs.Common.{◌≡◌, ◌≢◌, ◌⊎◌, inl, inr, Bool, true, false, pos, ◌*ℤ◌, if◌then◌else◌, refl, ap, ◌∙◌, List, Contains, Some, None}
use Rattle.std.proofs.lemmas.Bool.{or_left, or_right}
use Rattle.geometry_model.specs.Points.{Position, Point, IsPoint, point_at}
use Rattle.geometry_model.specs.Geometries.{Edge, Geometry, rings}
use Rattle.geometry_model.specs.Sides.{side, on, on_one_line}
use Rattle.geometry_model.specs.CutPoints.{IsCut}
use Rattle.geometry_model.specs.CutPoints.IsCut.{AtCrossing}
use Rattle.geometry_model.specs.Pieces.{Piece, sample}
use Rattle.geometry_model.specs.Locations.{locate}
use Rattle.geometry_model.specs.Dimensions.{cell}
use Rattle.geometry_model.specs.Labels.{label, below, above, is_upright, side_labels, edges_of_both, is_pair, is_side_pair, labelled_matrix}
use Rattle.geometry_model.specs.declared.point_sets.Location.{Location}
use Rattle.geometry_model.specs.declared.point_sets.Location.TheVariants.{Interior, Boundary, Exterior}
use Rattle.geometry_model.specs.declared.point_sets.Dimension.{Dimension}
use Rattle.geometry_model.specs.declared.point_sets.Dimension.TheVariants.{Empty, Zero, One, Two}
use Rattle.basics.proofs.Tests.{equal_from}
use Rattle.basics.proofs.Bools.{by_contraries}
use Rattle.basics.proofs.Orders.{gap_none, zero_not_positive}
use Rattle.geometry_laws.specs.RingLaws.{IsClosed}
use Rattle.geometry_laws.specs.PieceLaws.{HasClosedRings, Inside}
use Rattle.geometry_laws.proofs.Plane.{right}
use Rattle.geometry_laws.proofs.Hulls.{on_parts}
use Rattle.geometry_laws.proofs.RingParity.{each_from_all, side_is_area}
use Rattle.geometry_laws.proofs.LineOrder.{area_on_line}
use Rattle.geometry_laws.proofs.Cuts.{among_from_contains, OneLine, one_line, edge_is_wide}
use Rattle.geometry_laws.proofs.WithinPiece.{locate_within, above_within, below_within, not_upright_edge, strictly_right}
use Rattle.geometry_laws.proofs.PieceTheorems.{first_belongs, second_belongs}
use Rattle.matrix_laws.proofs.Around.{Within, within_piece}
use Rattle.matrix_laws.proofs.Pieces.{sample_inside}
use Rattle.matrix_laws.proofs.Labelled.{edges', listed', pieces', some_side, some_piece, some_cut, Apart', pair_of, any_by, point_shows}
use Rattle.matrix_laws.specs.Cells.{at_most, Shows, IsNoCut}
use Rattle.matrix_laws.proofs.Growing.{at_most_two}

-- ---- the cells of the label matrix
-- the greatest dimension that a side, a piece or a cut of these parts has
abbrev pub cell_by : Geometry → Geometry → Location → Location → Dimension
cell_by a b l k = if some_side a b l k then Two else if some_piece a b l k then One else if some_cut a b l k then Zero else Empty

-- two parts are both exterior, or not
abbrev pub AreOut : Location → Location → Type 0
AreOut l k = (l ≡ Exterior) × (k ≡ Exterior)

not_interior : Interior ≡ Exterior → ⊥
not_interior e = absurd (cc)

not_boundary : Boundary ≡ Exterior → ⊥
not_boundary e = absurd (cc)

-- each two parts are both exterior, or not
pub out_or_apart : (l k : Location) → AreOut l k ⊎ Apart' l k
out_or_apart Interior k = inr (λ e f. not_interior e)
out_or_apart Boundary k = inr (λ e f. not_boundary e)
out_or_apart Exterior Interior = inr (λ e f. not_interior f)
out_or_apart Exterior Boundary = inr (λ e f. not_boundary f)
out_or_apart Exterior Exterior = inl (refl, refl)

-- each other cell of the label matrix is the greatest dimension that a side, a piece or a cut of these parts has
pub cell_is : (a b : Geometry) (l k : Location) → Apart' l k → cell (labelled_matrix a b) l k ≡ cell_by a b l k
cell_is a b Interior Interior n = refl
cell_is a b Interior Boundary n = refl
cell_is a b Interior Exterior n = refl
cell_is a b Boundary Interior n = refl
cell_is a b Boundary Boundary n = refl
cell_is a b Boundary Exterior n = refl
cell_is a b Exterior Interior n = refl
cell_is a b Exterior Boundary n = refl
cell_is a b Exterior Exterior n = absurd (n refl refl)

-- the cell of the two exteriors is an area
pub out_is_two : (a b : Geometry) (l k : Location) → AreOut l k → cell (labelled_matrix a b) l k ≡ Two
out_is_two a b l k o = ap (λ (v : Location). cell (labelled_matrix a b) v k) o.0 ∙ ap (cell (labelled_matrix a b) Exterior) o.1

-- ---- at least what the labels of one kind show
-- where a cut, a piece or a side has the label the cell is at least a point ..
of_cut : (s p c : Bool) → (c ≡ true) ⊎ ((p ≡ true) ⊎ (s ≡ true)) → at_most Zero (if s then Two else if p then One else if c then Zero else Empty) ≡ true
of_cut true p c h = refl
of_cut false true c h = refl
of_cut false false true h = refl
of_cut false false false (inl h) = absurd (let z : false ≡ true = h in cc)
of_cut false false false (inr (inl h)) = absurd (let z : false ≡ true = h in cc)
of_cut false false false (inr (inr h)) = absurd (let z : false ≡ true = h in cc)

-- .. where a piece has it, at least a stretch ..
of_piece : (s p c : Bool) → p ≡ true → at_most One (if s then Two else if p then One else if c then Zero else Empty) ≡ true
of_piece true p c h = refl
of_piece false true c h = refl
of_piece false false c h = absurd (let z : false ≡ true = h in cc)

-- .. and where a side has it, an area
of_side : (s p c : Bool) → s ≡ true → at_most Two (if s then Two else if p then One else if c then Zero else Empty) ≡ true
of_side true p c h = refl
of_side false p c h = absurd (let z : false ≡ true = h in cc)

-- so only cells other than that of the exteriors are to be looked at, since that one shows all
shows_by_cell : (a b : Geometry) (l k : Location) (d : Dimension) → (Apart' l k → at_most d (cell_by a b l k) ≡ true) → Shows (labelled_matrix a b) l k d
shows_by_cell a b l k d h = go (out_or_apart l k)
  where
    go : AreOut l k ⊎ Apart' l k → Shows (labelled_matrix a b) l k d
    go (inl o) = ap (at_most d) (out_is_two a b l k o) ∙ at_most_two d
    go (inr n) = ap (at_most d) (cell_is a b l k n) ∙ h n

-- ---- a point
-- a point is a cut, lies within a piece or lies off all edges, and in each case some label has its parts
pub point_is_there : (a b : Geometry) → HasClosedRings a → HasClosedRings b → (x : Point) → IsPoint x → Shows (labelled_matrix a b) (locate a x) (locate b x) Zero
point_is_there a b ca cb x hx = shows_by_cell a b (locate a x) (locate b x) Zero (λ n. of_cut (some_side a b (locate a x) (locate b x)) (some_piece a b (locate a x) (locate b x)) (some_cut a b (locate a x) (locate b x))
    (point_shows a b (each_from_all IsClosed (rings a) ca) (each_from_all IsClosed (rings b) cb) (locate a x) (locate b x) n record { p = x; is_point = hx; within = (refl, refl) }))

-- ---- a point within a piece
-- a point of an edge that is no cut lies strictly within a piece
within_of : (a b : Geometry) (e : Edge) → Contains (edges_of_both a b) e → (x : Point) → IsPoint x → on e x ≡ true → IsNoCut a b x → Within (edges' a b) (listed' a b) x
within_of a b e c x hx h f = within_piece (edges' a b) (listed' a b) e x (among_from_contains (edges_of_both a b) e c) hx h f

-- and so does the piece's sample
inside_sample : (a b : Geometry) (x : Point) (w : Within (edges' a b) (listed' a b) x) → Inside (edges' a b) (listed' a b) w.piece w.is_piece (sample w.piece)
inside_sample a b x w = sample_inside (edges' a b) (listed' a b) w.piece w.is_piece w.ends

-- all points within a piece lie alike, so its sample's label has the point's parts
piece_at : (a b : Geometry) → HasClosedRings a → HasClosedRings b → (x : Point) → Within (edges' a b) (listed' a b) x → some_piece a b (locate a x) (locate b x) ≡ true
piece_at a b ca cb x w = any_by (λ c. label a b (sample c)) (is_pair (locate a x) (locate b x)) (pieces' a b) w.piece w.listed
    (pair_of (locate a x) (locate b x) (locate a (sample w.piece)) (locate b (sample w.piece))
    (locate_within (edges' a b) (listed' a b) w.piece w.is_piece w.ends (sample w.piece) x (inside_sample a b x w) w.inside a (each_from_all IsClosed (rings a) ca) (first_belongs a b))
    (locate_within (edges' a b) (listed' a b) w.piece w.is_piece w.ends (sample w.piece) x (inside_sample a b x w) w.inside b (each_from_all IsClosed (rings b) cb) (second_belongs a b)))

-- so the parts share at least a stretch
pub piece_is_there : (a b : Geometry) → HasClosedRings a → HasClosedRings b → (e : Edge) → Contains (edges_of_both a b) e → (x : Point) → IsPoint x → on e x ≡ true → IsNoCut a b x → Shows (labelled_matrix a b) (locate a x) (locate b x) One
piece_is_there a b ca cb e c x hx h f = shows_by_cell a b (locate a x) (locate b x) One (λ n. of_piece (some_side a b (locate a x) (locate b x)) (some_piece a b (locate a x) (locate b x)) (some_cut a b (locate a x) (locate b x))
    (piece_at a b ca cb x (within_of a b e c x hx h f)))

-- ---- the sides of a point within a piece: the piece of an edge that isn't vertical isn't vertical
nothing_right : (c z : Point) → c.X *ℤ z.W ≡ z.X *ℤ c.W → right c z ≡ pos 0
nothing_right c z e = gap_none (c.X *ℤ z.W) (z.X *ℤ c.W) e

-- the edge on which the piece lies is on the line of the other edge
on_its_line : (es : List Edge) (ps : List Position) (e : Edge) (x : Point) (w : Within es ps x) → OneLine w.is_piece.edge e → (z : Point) → on w.is_piece.edge z ≡ true → side e.start e.end z ≡ pos 0
on_its_line es ps e x w o z h = side_is_area e.start e.end z ∙ area_on_line w.is_piece.edge.start w.is_piece.edge.end (point_at e.start) (point_at e.end) z (edge_is_wide es ps w.piece w.is_piece w.ends) o.start o.end ((on_parts w.is_piece.edge z h).on_line)

-- two edges through a point that is no cut are on one line, so a vertical piece would make the edge vertical
not_upright : (es : List Edge) (ps : List Position) (e : Edge) (x : Point) → Contains es e → e.start.x ≢ e.end.x → on e x ≡ true → (IsCut es ps x → ⊥) → (w : Within es ps x) → is_upright w.piece ≡ false
not_upright es ps e x c n h f w = by_contraries (is_upright w.piece) false (λ u. absurd (decide u (on_one_line w.is_piece.edge e) refl)) refl
  where
    along : is_upright w.piece ≡ true → OneLine w.is_piece.edge e → ⊥
    along u o = zero_not_positive (right w.piece.lesser w.piece.greater)
        (nothing_right w.piece.lesser w.piece.greater (equal_from (w.piece.lesser.X *ℤ w.piece.greater.W) (w.piece.greater.X *ℤ w.piece.lesser.W) u))
        (strictly_right e.start e.end w.piece.lesser w.piece.greater n (on_its_line es ps e x w o w.piece.lesser w.is_piece.lesser_on) (on_its_line es ps e x w o w.piece.greater w.is_piece.greater_on) w.is_piece.in_order)

    decide : is_upright w.piece ≡ true → (t : Bool) → on_one_line w.is_piece.edge e ≡ t → ⊥
    decide u true g = along u (one_line w.is_piece.edge e g)
    decide u false g = f (AtCrossing w.inside.is_point w.is_piece.edge e w.is_piece.among c g w.inside.is_on h)

abbrev side_labels_of : Geometry → Geometry → Piece → Bool → Location → Location → Bool
side_labels_of a b c t l k = is_side_pair l k (if t then None else Some (record { lower = record { first = below a (sample c); second = below b (sample c) }; upper = record { first = above a (sample c); second = above b (sample c) } }))

-- all points within a piece have alike sides, so the lower side's label has the point's parts below
lower_at : (a b : Geometry) → HasClosedRings a → HasClosedRings b → (x : Point) (w : Within (edges' a b) (listed' a b) x) → is_upright w.piece ≡ false → some_side a b (below a x) (below b x) ≡ true
lower_at a b ca cb x w u = any_by (side_labels a b) (is_side_pair (below a x) (below b x)) (pieces' a b) w.piece w.listed
    (ap (λ (t : Bool). side_labels_of a b w.piece t (below a x) (below b x)) u
    ∙ or_left (is_pair (below a x) (below b x) (record { first = below a (sample w.piece); second = below b (sample w.piece) })) (is_pair (below a x) (below b x) (record { first = above a (sample w.piece); second = above b (sample w.piece) }))
    (pair_of (below a x) (below b x) (below a (sample w.piece)) (below b (sample w.piece))
    (below_within (edges' a b) (listed' a b) w.piece w.is_piece w.ends (not_upright_edge (edges' a b) (listed' a b) w.piece w.is_piece w.ends u) (sample w.piece) x (inside_sample a b x w) w.inside a (each_from_all IsClosed (rings a) ca) (first_belongs a b))
    (below_within (edges' a b) (listed' a b) w.piece w.is_piece w.ends (not_upright_edge (edges' a b) (listed' a b) w.piece w.is_piece w.ends u) (sample w.piece) x (inside_sample a b x w) w.inside b (each_from_all IsClosed (rings b) cb) (second_belongs a b))))

-- the same above
upper_at : (a b : Geometry) → HasClosedRings a → HasClosedRings b → (x : Point) (w : Within (edges' a b) (listed' a b) x) → is_upright w.piece ≡ false → some_side a b (above a x) (above b x) ≡ true
upper_at a b ca cb x w u = any_by (side_labels a b) (is_side_pair (above a x) (above b x)) (pieces' a b) w.piece w.listed
    (ap (λ (t : Bool). side_labels_of a b w.piece t (above a x) (above b x)) u
    ∙ or_right (is_pair (above a x) (above b x) (record { first = below a (sample w.piece); second = below b (sample w.piece) })) (is_pair (above a x) (above b x) (record { first = above a (sample w.piece); second = above b (sample w.piece) }))
    (pair_of (above a x) (above b x) (above a (sample w.piece)) (above b (sample w.piece))
    (above_within (edges' a b) (listed' a b) w.piece w.is_piece w.ends (sample w.piece) x (inside_sample a b x w) w.inside a (each_from_all IsClosed (rings a) ca) (first_belongs a b))
    (above_within (edges' a b) (listed' a b) w.piece w.is_piece w.ends (sample w.piece) x (inside_sample a b x w) w.inside b (each_from_all IsClosed (rings b) cb) (second_belongs a b))))

-- so both sides' parts share an area
pub sides_are_there : (a b : Geometry) → HasClosedRings a → HasClosedRings b → (e : Edge) → Contains (edges_of_both a b) e → e.start.x ≢ e.end.x → (x : Point) → IsPoint x → on e x ≡ true → IsNoCut a b x
    → Shows (labelled_matrix a b) (below a x) (below b x) Two × Shows (labelled_matrix a b) (above a x) (above b x) Two
sides_are_there a b ca cb e c n x hx h f = go (within_of a b e c x hx h f)
  where
    go : Within (edges' a b) (listed' a b) x → Shows (labelled_matrix a b) (below a x) (below b x) Two × Shows (labelled_matrix a b) (above a x) (above b x) Two
    go w = let u : is_upright w.piece ≡ false = not_upright (edges' a b) (listed' a b) e x c n h f w in (
      shows_by_cell a b (below a x) (below b x) Two (λ o. of_side (some_side a b (below a x) (below b x)) (some_piece a b (below a x) (below b x)) (some_cut a b (below a x) (below b x)) (lower_at a b ca cb x w u)),
      shows_by_cell a b (above a x) (above b x) Two (λ o. of_side (some_side a b (above a x) (above b x)) (some_piece a b (above a x) (above b x)) (some_cut a b (above a x) (above b x)) (upper_at a b ca cb x w u)),
    )
