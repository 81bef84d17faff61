-- The label matrix is the matrix: each cell of it is the dimension of its set.
use Rattle.std.proofs.Common.{ℕ, ◌+◌, ◌*◌, ◌<◌, ◌≡◌, ◌≢◌, ◌⊎◌, inl, inr, Bool, true, false, cond, ◌&&◌, ◌||◌, if◌then◌else◌, ℤ, pos, ◌+ℤ◌, ◌-ℤ◌, ◌*ℤ◌, ◌<ℤ◌, ◌≤ℤ◌, int_lt, refl, sym, ap, ap₂, subst₂, ◌∙◌, List, [], ◌∷◌, ◌++◌, map, Some, None, arith}
use borrow.Author.Differences.{ints}
use Rattle.std.specs.List.{list_any}
use Rattle.std.specs.Ordering.{int_eq}
use Rattle.std.proofs.lemmas.Bool.{or_cases, and_parts, and_from, or_left}
use Rattle.geometry_model.specs.Points.{Position, Point, IsPoint, same_point}
use Rattle.geometry_model.specs.Geometries.{Edge, Geometry, edges, edges_of_lines, listed, rings, joined_rings}
use Rattle.geometry_model.specs.Sides.{on}
use Rattle.geometry_model.specs.Crossings.{exactly_one, strictly_above, at_or_above, side_rightward}
use Rattle.geometry_model.specs.Dimensions.{weighted, weighted_three, HasPoint, HasSegment, HasTriangle, HasDimension, common, IsMatrix}
use Rattle.geometry_model.specs.Locations.{is_at, locate}
use Rattle.geometry_model.specs.CutPoints.{IsCut, cut_points}
use Rattle.geometry_model.specs.CutPoints.IsCut.{Listed}
use Rattle.geometry_model.specs.Pieces.{Piece, pieces, sample}
use Rattle.geometry_model.specs.Labels.{label, above, below, is_upright, side_labels, edges_of_both, same_location, is_pair, is_side_pair, labelled_matrix}
use Rattle.geometry_model.specs.declared.point_sets.Location.{Location}
use Rattle.geometry_model.specs.declared.point_sets.Location.TheVariants.{Interior, Boundary, Exterior}
use Rattle.geometry_model.specs.declared.point_sets.Dimension.TheVariants.{Empty, Zero, One, Two}
use Rattle.basics.proofs.Ring.{solve, var, lit, ◌⊕◌, ◌⊖◌, ◌⊗◌}
use Rattle.basics.proofs.Signs.{cancel_zero, at_most_or_less, at_most_yes}
use Rattle.basics.proofs.Tests.{equal_from, not_equal_from}
use Rattle.basics.proofs.Bools.{by_contraries, not_both}
use Rattle.basics.proofs.Orders.{gap_none, zero_not_positive, same_from_gap}
use Rattle.geometry_laws.specs.RingLaws.{IsClosed}
use Rattle.geometry_laws.specs.CoverLaws.{Line, value, IsLine}
use Rattle.geometry_laws.specs.PieceLaws.{IsPieceOf}
use Rattle.geometry_laws.proofs.Plane.{right}
use Rattle.geometry_laws.proofs.Each.{Each, Among, each_at, each_of, each_map, each_append, each_left, each_right, Passing, some_passed, one_passes, none_passed, parity_none}
use Rattle.geometry_laws.proofs.Scaling.{same_x}
use Rattle.geometry_laws.proofs.LeftToRight.{right_trans_first}
use Rattle.geometry_laws.proofs.Respect.{locate_respects}
use Rattle.geometry_laws.proofs.Hulls.{OnHull, hull_from_on, on_parts}
use Rattle.geometry_laws.proofs.Eventually.{Eventually, weaker, grows, both, each_eventually}
use Rattle.geometry_laws.proofs.RingParity.{parity_of_rings}
use Rattle.geometry_laws.proofs.Lines.{line_side, line_side_slope, value_is_side, off_beyond, weighted_is_point, weighted_three_is_point}
use Rattle.geometry_laws.proofs.Locating.{Off, locate_off}
use Rattle.geometry_laws.proofs.Triangles.{dots, marks, triangle_of_off, dot_coordinate}
use Rattle.geometry_laws.proofs.LineOrder.{lex_of_less, lex_weak, up}
use Rattle.geometry_laws.proofs.Cuts.{Ends, contains_of_among}
use Rattle.geometry_laws.proofs.WithinPiece.{locate_within, below_within, not_upright_edge}
use Rattle.geometry_laws.proofs.PieceTheorems.{first_belongs, second_belongs, off_marks}
use Rattle.geometry_laws.proofs.SideTriangles.{below_from}
use Rattle.geometry_laws.proofs.First.{First, first, over_point, over_is_point, over_on, label_of_first}
use Rattle.geometry_laws.proofs.Avoid.{OffLines, avoid_lines, OffPoints, avoid_points}
use Rattle.geometry_laws.proofs.CoverTheorems.{over_straight}
use Rattle.matrix_laws.proofs.MatrixLists.{Some_of}
use Rattle.matrix_laws.proofs.CutOrder.{listed_is_cut, cut_is_listed}
use Rattle.matrix_laws.proofs.PieceLists.{IsLeastPiece, piece_is}
use Rattle.matrix_laws.proofs.Around.{Within, within_piece}
use Rattle.matrix_laws.proofs.Pieces.{sample_inside, piece_segment, lower_side, upper_side}

-- ---- words for two geometries
abbrev pub edges' : Geometry → Geometry → List Edge
edges' a b = edges_of_both a b

abbrev pub listed' : Geometry → Geometry → List Position
listed' a b = listed a ++ listed b

abbrev pub cuts' : Geometry → Geometry → List Point
cuts' a b = cut_points (edges_of_both a b) (listed a ++ listed b)

abbrev pub pieces' : Geometry → Geometry → List Piece
pieces' a b = pieces (cut_points (edges_of_both a b) (listed a ++ listed b)) (edges_of_both a b)

-- a side of some piece has this pair of locations as its label
abbrev pub some_side : Geometry → Geometry → Location → Location → Bool
some_side a b l k = list_any (is_side_pair l k) (map (side_labels a b) (pieces' a b))

-- a piece's sample has this pair of locations as its label
abbrev pub some_piece : Geometry → Geometry → Location → Location → Bool
some_piece a b l k = list_any (is_pair l k) (map (λ c. label a b (sample c)) (pieces' a b))

-- a cut has this pair of locations as its label
abbrev pub some_cut : Geometry → Geometry → Location → Location → Bool
some_cut a b l k = list_any (is_pair l k) (map (label a b) (cuts' a b))

-- ---- locations and lists
pub location_same : (l : Location) → same_location l l ≡ true
location_same Interior = refl
location_same Boundary = refl
location_same Exterior = refl

pub location_is : (l m : Location) → same_location l m ≡ true → l ≡ m
location_is Interior Interior e = refl
location_is Boundary Boundary e = refl
location_is Exterior Exterior e = refl
location_is Interior Boundary e = absurd (let z : false ≡ true = e in cc)
location_is Interior Exterior e = absurd (let z : false ≡ true = e in cc)
location_is Boundary Interior e = absurd (let z : false ≡ true = e in cc)
location_is Boundary Exterior e = absurd (let z : false ≡ true = e in cc)
location_is Exterior Interior e = absurd (let z : false ≡ true = e in cc)
location_is Exterior Boundary e = absurd (let z : false ≡ true = e in cc)

pub pair_is : (l k m n : Location) → same_location l m && same_location k n ≡ true → (l ≡ m) × (k ≡ n)
pair_is l k m n e = let both : (same_location l m ≡ true) × (same_location k n ≡ true) = and_parts (same_location l m) (same_location k n) e in (location_is l m both.0, location_is k n both.1)

pub pair_of : (l k m n : Location) → m ≡ l → n ≡ k → same_location l m && same_location k n ≡ true
pair_of l k m n e f = and_from (same_location l m) (same_location k n) (ap (same_location l) e ∙ location_same l) (ap (same_location k) f ∙ location_same k)

any_of_map : {X Y : Type 0} (f : X → Y) (t : Y → Bool) (xs : List X) → list_any t (map f xs) ≡ list_any (λ x. t (f x)) xs
any_of_map f t [] = refl
any_of_map f t (x ∷ xs) = ap (λ (b : Bool). t (f x) || b) (any_of_map f t xs)

pub passing_of : {X Y : Type 0} (f : X → Y) (t : Y → Bool) (xs : List X) → list_any t (map f xs) ≡ true → Passing (λ x. t (f x)) xs
passing_of f t xs e = some_passed (λ x. t (f x)) xs (sym (any_of_map f t xs) ∙ e)

pub any_by : {X Y : Type 0} (f : X → Y) (t : Y → Bool) (xs : List X) (x : X) → Among x xs → t (f x) ≡ true → list_any t (map f xs) ≡ true
any_by f t xs x a e = any_of_map f t xs ∙ one_passes (λ y. t (f y)) xs x a e

each_of_map : {X Y : Type 0} (P : Y → Type 0) (f : X → Y) (xs : List X) → Each P (map f xs) → Each (λ x. P (f x)) xs
each_of_map P f [] h = tt
each_of_map P f (x ∷ xs) h = (h.0, each_of_map P f xs h.1)

map_each : {X Y : Type 0} (P : Y → Type 0) (f : X → Y) (xs : List X) → Each (λ x. P (f x)) xs → Each P (map f xs)
map_each P f [] h = tt
map_each P f (x ∷ xs) h = (h.0, map_each P f xs h.1)

-- ---- a listed piece
-- the stretch is a piece of the two geometries, with points as its ends
pub record IsListedPiece (a b : Geometry) (c : Piece) : Type 0 where
  pub is_piece : IsPieceOf a b c
  pub ends : Ends c

-- each stretch that is listed as a piece is one
pub listed_piece : (a b : Geometry) (c : Piece) → Among c (pieces' a b) → IsListedPiece a b c
listed_piece a b c m = go (piece_is (edges' a b) (listed' a b) c m)
  where
    go : IsLeastPiece (edges' a b) (listed' a b) c → IsListedPiece a b c
    go p = record { is_piece = p.is_piece; ends = record { lesser = p.lesser_is.0; greater = p.greater_is.0 } }

-- ---- a side's label is that of a triangle
carry_triangle : (a b : Geometry) (l k m n : Location) → l ≡ m → k ≡ n → HasTriangle (common a m b n) → HasTriangle (common a l b k)
carry_triangle a b l k m n e f t = subst₂ (λ (s u : Location). HasTriangle (common a s b u)) (sym e) (sym f) t

-- where a side of some piece has this label the two parts share a triangle
side_triangle : (a b : Geometry) → Each IsClosed (rings a) → Each IsClosed (rings b) → (l k : Location) → some_side a b l k ≡ true → HasTriangle (common a l b k)
side_triangle a b ca cb l k e = go (passing_of (side_labels a b) (is_side_pair l k) (pieces' a b) e)
  where
    pick : (c : Piece) → IsListedPiece a b c → (t : Bool) → is_upright c ≡ t
        → is_side_pair l k (if t then None else Some (record { lower = record { first = below a (sample c); second = below b (sample c) }; upper = record { first = above a (sample c); second = above b (sample c) } })) ≡ true → HasTriangle (common a l b k)
    pick c p true f g = absurd (let z : false ≡ true = g in cc)
    pick c p false f g = sides (or_cases (same_location l (below a (sample c)) && same_location k (below b (sample c))) (same_location l (above a (sample c)) && same_location k (above b (sample c))) g)
      where
        sides : (same_location l (below a (sample c)) && same_location k (below b (sample c)) ≡ true) ⊎ (same_location l (above a (sample c)) && same_location k (above b (sample c)) ≡ true) → HasTriangle (common a l b k)
        sides (inl h) = let q : (l ≡ below a (sample c)) × (k ≡ below b (sample c)) = pair_is l k (below a (sample c)) (below b (sample c)) h in carry_triangle a b l k (below a (sample c)) (below b (sample c)) q.0 q.1 (lower_side a b ca cb c p.is_piece p.ends f)
        sides (inr h) = let q : (l ≡ above a (sample c)) × (k ≡ above b (sample c)) = pair_is l k (above a (sample c)) (above b (sample c)) h in carry_triangle a b l k (above a (sample c)) (above b (sample c)) q.0 q.1 (upper_side a b ca cb c p.is_piece p.ends f)

    go : Passing (λ c. is_side_pair l k (side_labels a b c)) (pieces' a b) → HasTriangle (common a l b k)
    go p = pick p.found (listed_piece a b p.found p.among) (is_upright p.found) refl p.passes

-- ---- a piece's label is that of a segment
carry_segment : (a b : Geometry) (l k m n : Location) → l ≡ m → k ≡ n → HasSegment (common a m b n) → HasSegment (common a l b k)
carry_segment a b l k m n e f t = subst₂ (λ (s u : Location). HasSegment (common a s b u)) (sym e) (sym f) t

-- where a piece has this label the two parts share a segment
piece_has_segment : (a b : Geometry) → Each IsClosed (rings a) → Each IsClosed (rings b) → (l k : Location) → some_piece a b l k ≡ true → HasSegment (common a l b k)
piece_has_segment a b ca cb l k e = go (passing_of (λ c. label a b (sample c)) (is_pair l k) (pieces' a b) e)
  where
    go : Passing (λ c. is_pair l k (label a b (sample c))) (pieces' a b) → HasSegment (common a l b k)
    go p = let q : (l ≡ locate a (sample p.found)) × (k ≡ locate b (sample p.found)) = pair_is l k (locate a (sample p.found)) (locate b (sample p.found)) p.passes in
        let s : IsListedPiece a b p.found = listed_piece a b p.found p.among in
        carry_segment a b l k (locate a (sample p.found)) (locate b (sample p.found)) q.0 q.1 (piece_segment a b ca cb p.found s.is_piece s.ends)

-- ---- a cut's label is that of a point
-- where a cut has this label the two parts share a point: the cut itself
cut_has_point : (a b : Geometry) (l k : Location) → some_cut a b l k ≡ true → HasPoint (common a l b k)
cut_has_point a b l k e = go (passing_of (label a b) (is_pair l k) (cuts' a b) e)
  where
    go : Passing (λ c. is_pair l k (label a b c)) (cuts' a b) → HasPoint (common a l b k)
    go p = let q : (l ≡ locate a p.found) × (k ≡ locate b p.found) = pair_is l k (locate a p.found) (locate b p.found) p.passes in
        record { p = p.found; is_point = (listed_is_cut (edges' a b) (listed' a b) p.found p.among).is_point; within = (sym q.0, sym q.1) }

-- ---- the lines to be avoided: those of the edges, and the vertical ones through cuts
-- the vertical line through a position
pub upright_line : Position → Line
upright_line p = record { a = pos 1; b = pos 0; c = pos 0 -ℤ p.x }

abbrev edge_line_if : Bool → Edge → Line
edge_line_if t g = cond t (upright_line g.start) (line_side g.start g.end)

-- the line of an edge; of a vertical one the vertical line through it
abbrev edge_line : Edge → Line
edge_line g = edge_line_if (int_eq g.start.x g.end.x) g

-- the vertical line through a cut
abbrev cut_line : Point → Line
cut_line c = record { a = c.W; b = pos 0; c = pos 0 -ℤ c.X }

-- the line of an edge is a line, also where the edge is vertical or a single position
edge_line_is_line : (g : Edge) → IsLine (edge_line g)
unfolding upright_line
edge_line_is_line g = go (int_eq g.start.x g.end.x) refl
  where
    one : pos 1 ≢ pos 0
    one e = omega (arith, ints)

    same : (x y z : ℤ) → z ≡ y -ℤ x → z ≡ pos 0 → x ≡ y
    same x y z e f = omega (arith, ints)

    go : (t : Bool) → int_eq g.start.x g.end.x ≡ t → IsLine (edge_line_if t g)
    go true e = inl one
    go false e = inr (λ z. not_equal_from g.start.x g.end.x e (same g.start.x g.end.x ((line_side g.start g.end).b) (line_side_slope g.start g.end) z))

-- the vertical line through a cut is a line, since W is at least 1
cut_line_is_line : (c : Point) → IsPoint c → IsLine (cut_line c)
cut_line_is_line c h = inl (nonzero c.W h)
  where
    nonzero : (w : ℤ) → pos 0 <ℤ w → w ≢ pos 0
    nonzero w h e = omega (arith, ints)

-- a point off the line of an edge is off the edge
off_by_edge_line : (g : Edge) (z : Point) → IsPoint z → value (edge_line g) z ≢ pos 0 → on g z ≡ false
unfolding upright_line
off_by_edge_line g z hz f = by_contraries (on g z) false (λ h. absurd (f (go (int_eq g.start.x g.end.x) refl h))) refl
  where
    along : (s x y w : ℤ) → s *ℤ w ≡ x *ℤ pos 1 → pos 1 *ℤ x +ℤ pos 0 *ℤ y +ℤ (pos 0 -ℤ s) *ℤ w ≡ pos 0
    along s x y w e = solve (s ∷ x ∷ y ∷ w ∷ []) (lit (pos 1) ⊗ var 1 ⊕ lit (pos 0) ⊗ var 2 ⊕ (lit (pos 0) ⊖ var 0) ⊗ var 3) (var 1 ⊗ lit (pos 1) ⊖ var 0 ⊗ var 3) tt ∙ nothing (s *ℤ w) (x *ℤ pos 1) e
      where
        nothing : (u v : ℤ) → u ≡ v → v -ℤ u ≡ pos 0
        nothing u v e = omega (arith, ints)

    upright : g.start.x ≡ g.end.x → OnHull g z → g.start.x *ℤ z.W ≡ z.X *ℤ pos 1
    upright e o = dot_coordinate o.k o.m o.n g.start.x z.X z.W o.from_k (o.x_is ∙ ap (λ (s : ℤ). o.m *ℤ g.start.x +ℤ o.n *ℤ s) (sym e)) o.w_is

    go : (t : Bool) → int_eq g.start.x g.end.x ≡ t → on g z ≡ true → value (edge_line_if t g) z ≡ pos 0
    go true e h = along g.start.x z.X z.Y z.W (upright (equal_from g.start.x g.end.x e) (hull_from_on g z hz h))
    go false e h = value_is_side g.start g.end z ∙ (on_parts g z h).on_line

-- a point straight above or below a cut is on the cut's vertical line
cut_line_value : (c z : Point) → right c z ≡ pos 0 → value (cut_line c) z ≡ pos 0
cut_line_value c z e = solve (c.X ∷ c.W ∷ z.X ∷ z.Y ∷ z.W ∷ []) (var 1 ⊗ var 2 ⊕ lit (pos 0) ⊗ var 3 ⊕ (lit (pos 0) ⊖ var 0) ⊗ var 4) (var 2 ⊗ var 1 ⊖ var 0 ⊗ var 4) tt ∙ e

-- ---- a point off all these lines
-- the point is on no edge, and straight above or below no cut
pub record Free (a b : Geometry) (z : Point) : Type 0 where
  pub is_point : IsPoint z
  pub off : Each (λ e. on e z ≡ false) (edges_of_both a b)
  pub apart : (c : Point) → Among c (cut_points (edges_of_both a b) (listed a ++ listed b)) → right c z ≢ pos 0

-- of two points of one x neither is to the right of the other
nothing_right : (c z : Point) → c.X *ℤ z.W ≡ z.X *ℤ c.W → right c z ≡ pos 0
nothing_right c z e = gap_none (c.X *ℤ z.W) (z.X *ℤ c.W) e

-- such a point is no cut, since a cut lies straight at itself
free_no_cut : (a b : Geometry) (z : Point) → Free a b z → IsCut (edges' a b) (listed' a b) z → ⊥
free_no_cut a b z f c = go (cut_is_listed (edges' a b) (listed' a b) z f.is_point c)
  where
    go : Some_of (λ q. same_point q z ≡ true) (cuts' a b) → ⊥
    go s = f.apart s.found s.among (nothing_right s.found z (same_x s.found z s.has))

-- where nothing goes through a point that is no cut, it lies off both
off_both : (a b : Geometry) (z : Point) → IsPoint z → Each (λ e. on e z ≡ false) (edges' a b) → (IsCut (edges' a b) (listed' a b) z → ⊥) → Off a z × Off b z
off_both a b z hz h f = (
  record { edges_off = each_left (λ e. on e z ≡ false) (edges a) (edges b) h; listed_off = each_left (λ p. is_at z p ≡ false) (listed a) (listed b) applies },
  record { edges_off = each_right (λ e. on e z ≡ false) (edges a) (edges b) h; listed_off = each_right (λ p. is_at z p ≡ false) (listed a) (listed b) applies },
)
  where
    applies : Each (λ p. is_at z p ≡ false) (listed a ++ listed b)
    applies = each_of (λ p. is_at z p ≡ false) (listed a ++ listed b) (λ p m. by_contraries (is_at z p) false (λ k. absurd (f (Listed hz p (contains_of_among p (listed a ++ listed b) m) k))) refl)

-- nothing above: the exterior
exterior_above : (g : Geometry) (z : Point) → Each (λ e. strictly_above e z ≡ false) (edges g) → above g z ≡ Exterior
exterior_above (Geometry.Point o) z h = refl
exterior_above (Geometry.MultiPoint qs) z h = refl
exterior_above (Geometry.LineString l) z h = refl
exterior_above (Geometry.MultiLineString ls) z h = refl
exterior_above (Geometry.Polygon rs) z h = ap (λ (t : Bool). if t then Interior else Exterior) (parity_of_rings rs z ∙ parity_none (λ e. strictly_above e z) (edges_of_lines rs) h)
exterior_above (Geometry.MultiPolygon es) z h = ap (λ (t : Bool). if t then Interior else Exterior) (parity_of_rings (joined_rings es) z ∙ parity_none (λ e. strictly_above e z) (edges_of_lines (joined_rings es)) h)

-- straight above a free point no cut lies
straight : (c z o : Point) → IsPoint o → o.X *ℤ z.W ≡ z.X *ℤ o.W → c.X *ℤ o.W ≡ o.X *ℤ c.W → right c z ≡ pos 0
straight c z o ho e f = cancel_zero o.W (right c z) ho (
    solve (c.X ∷ c.W ∷ z.X ∷ z.W ∷ o.W ∷ []) (var 4 ⊗ (var 2 ⊗ var 1 ⊖ var 0 ⊗ var 3)) ((var 2 ⊗ var 4) ⊗ var 1 ⊖ (var 0 ⊗ var 4) ⊗ var 3) tt
    ∙ ap₂ (λ (s t : ℤ). s *ℤ c.W -ℤ t *ℤ z.W) (sym e) f
    ∙ solve (o.X ∷ z.W ∷ c.W ∷ []) ((var 0 ⊗ var 1) ⊗ var 2 ⊖ (var 0 ⊗ var 2) ⊗ var 1) (lit (pos 0)) tt)

-- ---- the label of a free point is that of a side, or both are exterior
abbrev pub Apart' : Location → Location → Type 0
Apart' l k = l ≡ Exterior → k ≡ Exterior → ⊥

-- going straight up from a free point the first edge is met within a piece, whose lower side has the point's label;
-- where no edge is met both geometries have it in the exterior
free_side : (a b : Geometry) → Each IsClosed (rings a) → Each IsClosed (rings b) → (l k : Location) → Apart' l k → (z : Point) → Free a b z → locate a z ≡ l → locate b z ≡ k → some_side a b l k ≡ true
free_side a b ca cb l k n z f e g = go (first (edges' a b) z f.is_point) (off_both a b z f.is_point f.off (free_no_cut a b z f))
  where
    under : (r : First (edges' a b) z) → Off a z × Off b z → (w : Within (edges' a b) (listed' a b) (over_point r.edge z)) → is_upright w.piece ≡ false → some_side a b l k ≡ true
    under r o w u = any_by (side_labels a b) (is_side_pair l k) (pieces' a b) w.piece w.listed
        (ap (λ (t : Bool). is_side_pair l k (if t then None else Some (record { lower = record { first = below a (sample w.piece); second = below b (sample w.piece) }; upper = record { first = above a (sample w.piece); second = above b (sample w.piece) } }))) u
        ∙ or_left (same_location l (below a (sample w.piece)) && same_location k (below b (sample w.piece))) (same_location l (above a (sample w.piece)) && same_location k (above b (sample w.piece))) (pair_of l k (below a (sample w.piece)) (below b (sample w.piece)) first_is second_is))
      where
        alike : Each (λ h. strictly_above h z ≡ at_or_above h (over_point r.edge z)) (edges_of_both a b)
        alike = each_of (λ h. strictly_above h z ≡ at_or_above h (over_point r.edge z)) (edges_of_both a b) (λ h m. sym (label_of_first (edges_of_both a b) z f.is_point r h m))

        first_is : below a (sample w.piece) ≡ l
        first_is = below_within (edges' a b) (listed' a b) w.piece w.is_piece w.ends (not_upright_edge (edges' a b) (listed' a b) w.piece w.is_piece w.ends u) (sample w.piece) (over_point r.edge z) (sample_inside (edges' a b) (listed' a b) w.piece w.is_piece w.ends) w.inside a ca (first_belongs a b)
            ∙ sym (below_from a (over_point r.edge z) z (each_left (λ h. strictly_above h z ≡ at_or_above h (over_point r.edge z)) (edges a) (edges b) alike)) ∙ sym (locate_off a z f.is_point o.0) ∙ e

        second_is : below b (sample w.piece) ≡ k
        second_is = below_within (edges' a b) (listed' a b) w.piece w.is_piece w.ends (not_upright_edge (edges' a b) (listed' a b) w.piece w.is_piece w.ends u) (sample w.piece) (over_point r.edge z) (sample_inside (edges' a b) (listed' a b) w.piece w.is_piece w.ends) w.inside b cb (second_belongs a b)
            ∙ sym (below_from b (over_point r.edge z) z (each_right (λ h. strictly_above h z ≡ at_or_above h (over_point r.edge z)) (edges a) (edges b) alike)) ∙ sym (locate_off b z f.is_point o.1) ∙ g

    over_no_cut : (r : First (edges' a b) z) → IsCut (edges' a b) (listed' a b) (over_point r.edge z) → ⊥
    over_no_cut r c = at (cut_is_listed (edges' a b) (listed' a b) (over_point r.edge z) (over_is_point r.edge z f.is_point r.is_above) c)
      where
        at : Some_of (λ q. same_point q (over_point r.edge z) ≡ true) (cuts' a b) → ⊥
        at s = f.apart s.found s.among (straight s.found z (over_point r.edge z) (over_is_point r.edge z f.is_point r.is_above) (over_straight r.edge z) (same_x s.found (over_point r.edge z) s.has))

    not_upright : (r : First (edges' a b) z) (w : Within (edges' a b) (listed' a b) (over_point r.edge z)) → is_upright w.piece ≡ false
    not_upright r w = by_contraries (is_upright w.piece) false (λ u. absurd (f.apart w.piece.lesser w.lesser_listed (straight w.piece.lesser z (over_point r.edge z) w.inside.is_point (over_straight r.edge z) (same_column u)))) refl
      where
        nothing_between : (s : ℤ) → pos 0 ≤ℤ s → s ≤ℤ pos 0 → s ≡ pos 0
        nothing_between s h k = omega (arith, ints)

        same_column : is_upright w.piece ≡ true → w.piece.lesser.X *ℤ (over_point r.edge z).W ≡ (over_point r.edge z).X *ℤ w.piece.lesser.W
        same_column u = same_from_gap (w.piece.lesser.X *ℤ (over_point r.edge z).W) ((over_point r.edge z).X *ℤ w.piece.lesser.W) (pick (at_most_or_less (right w.piece.lesser (over_point r.edge z)) (pos 0)))
          where
            pick : (right w.piece.lesser (over_point r.edge z) ≤ℤ pos 0) ⊎ (pos 0 <ℤ right w.piece.lesser (over_point r.edge z)) → right w.piece.lesser (over_point r.edge z) ≡ pos 0
            pick (inl h) = nothing_between (right w.piece.lesser (over_point r.edge z)) (lex_weak (right w.piece.lesser (over_point r.edge z)) (up w.piece.lesser (over_point r.edge z)) (lex_of_less w.piece.lesser (over_point r.edge z) w.inside.after)) h
            pick (inr h) = absurd (zero_not_positive (right w.piece.lesser w.piece.greater) (nothing_right w.piece.lesser w.piece.greater (equal_from (w.piece.lesser.X *ℤ w.piece.greater.W) (w.piece.greater.X *ℤ w.piece.lesser.W) u))
                (right_trans_first w.piece.lesser (over_point r.edge z) w.piece.greater w.ends.lesser w.inside.is_point w.ends.greater h (lex_weak (right (over_point r.edge z) w.piece.greater) (up (over_point r.edge z) w.piece.greater) (lex_of_less (over_point r.edge z) w.piece.greater w.inside.before))))

    go : Each (λ h. strictly_above h z ≡ false) (edges' a b) ⊎ First (edges' a b) z → Off a z × Off b z → some_side a b l k ≡ true
    go (inl h) o = absurd (n (sym e ∙ locate_off a z f.is_point o.0 ∙ exterior_above a z (each_left (λ q. strictly_above q z ≡ false) (edges a) (edges b) h))
        (sym g ∙ locate_off b z f.is_point o.1 ∙ exterior_above b z (each_right (λ q. strictly_above q z ≡ false) (edges a) (edges b) h)))
    go (inr r) o = let w : Within (edges' a b) (listed' a b) (over_point r.edge z) = within_piece (edges' a b) (listed' a b) r.edge (over_point r.edge z) r.among (over_is_point r.edge z f.is_point r.is_above) (over_on r.edge z f.is_point r.is_above) (over_no_cut r) in
        under r o w (not_upright r w)

-- ---- a triangle has a free point
-- a triangle isn't covered by finitely many lines, so it holds a free point, whose label a side has
triangle_side : (a b : Geometry) → Each IsClosed (rings a) → Each IsClosed (rings b) → (l k : Location) → Apart' l k → HasTriangle (common a l b k) → some_side a b l k ≡ true
triangle_side a b ca cb l k n t = go (avoid_lines (map edge_line (edges' a b) ++ map cut_line (cuts' a b)) t.p t.q t.r t.not_on_one_line
    (each_append IsLine (map edge_line (edges' a b)) (map cut_line (cuts' a b))
    (map_each IsLine edge_line (edges' a b) (each_of (λ g. IsLine (edge_line g)) (edges' a b) (λ g m. edge_line_is_line g)))
    (map_each IsLine cut_line (cuts' a b) (each_of (λ c. IsLine (cut_line c)) (cuts' a b) (λ c m. cut_line_is_line c ((listed_is_cut (edges' a b) (listed' a b) c m).is_point))))))
  where
    some : (s : ℕ) → 0 < 1 + s + s * s
    some s = omega arith

    free : (s : ℕ) → Each (λ h. value h (weighted_three 1 t.p s t.q (s * s) t.r) ≢ pos 0) (map edge_line (edges' a b) ++ map cut_line (cuts' a b)) → IsPoint (weighted_three 1 t.p s t.q (s * s) t.r) → Free a b (weighted_three 1 t.p s t.q (s * s) t.r)
    free s h hz = record {
      is_point = hz;
      off = each_map (λ g. value (edge_line g) (weighted_three 1 t.p s t.q (s * s) t.r) ≢ pos 0) (λ g. on g (weighted_three 1 t.p s t.q (s * s) t.r) ≡ false) (edges' a b)
          (λ g q. off_by_edge_line g (weighted_three 1 t.p s t.q (s * s) t.r) hz q)
          (each_of_map (λ m. value m (weighted_three 1 t.p s t.q (s * s) t.r) ≢ pos 0) edge_line (edges' a b) (each_left (λ m. value m (weighted_three 1 t.p s t.q (s * s) t.r) ≢ pos 0) (map edge_line (edges' a b)) (map cut_line (cuts' a b)) h));
      apart = λ c m e. each_at (λ q. value (cut_line q) (weighted_three 1 t.p s t.q (s * s) t.r) ≢ pos 0) (cuts' a b) c
          (each_of_map (λ q. value q (weighted_three 1 t.p s t.q (s * s) t.r) ≢ pos 0) cut_line (cuts' a b) (each_right (λ q. value q (weighted_three 1 t.p s t.q (s * s) t.r) ≢ pos 0) (map edge_line (edges' a b)) (map cut_line (cuts' a b)) h)) m
          (cut_line_value c (weighted_three 1 t.p s t.q (s * s) t.r) e);
    }

    go : OffLines (map edge_line (edges' a b) ++ map cut_line (cuts' a b)) t.p t.q t.r → some_side a b l k ≡ true
    go o = let w : common a l b k (weighted_three 1 t.p o.t t.q (o.t * o.t) t.r) = t.within 1 o.t (o.t * o.t) (some o.t) in
        free_side a b ca cb l k n (weighted_three 1 t.p o.t t.q (o.t * o.t) t.r)
        (free o.t o.off (weighted_three_is_point 1 t.p o.t t.q (o.t * o.t) t.r t.p_is_point t.q_is_point t.r_is_point (some o.t))) w.0 w.1

-- ---- a point that is no cut is within a piece, or off all edges
-- a point that is no cut lies on some edge, so strictly within a piece, or off all edges, so in a triangle of points alike
loose : (a b : Geometry) → Each IsClosed (rings a) → Each IsClosed (rings b) → (l k : Location) → Apart' l k → (x : Point) → IsPoint x → (IsCut (edges' a b) (listed' a b) x → ⊥) → locate a x ≡ l → locate b x ≡ k
    → (some_piece a b l k ≡ true) ⊎ (some_side a b l k ≡ true)
loose a b ca cb l k n x hx f e g = go (list_any (λ h. on h x) (edges' a b)) refl
  where
    at_piece : Within (edges' a b) (listed' a b) x → some_piece a b l k ≡ true
    at_piece w = any_by (λ c. label a b (sample c)) (is_pair l k) (pieces' a b) w.piece w.listed
        (pair_of l k (locate a (sample w.piece)) (locate b (sample w.piece))
        (locate_within (edges' a b) (listed' a b) w.piece w.is_piece w.ends (sample w.piece) x (sample_inside (edges' a b) (listed' a b) w.piece w.is_piece w.ends) w.inside a ca (first_belongs a b) ∙ e)
        (locate_within (edges' a b) (listed' a b) w.piece w.is_piece w.ends (sample w.piece) x (sample_inside (edges' a b) (listed' a b) w.piece w.is_piece w.ends) w.inside b cb (second_belongs a b) ∙ g))

    at_edge : Passing (λ h. on h x) (edges' a b) → some_piece a b l k ≡ true
    at_edge p = at_piece (within_piece (edges' a b) (listed' a b) p.found x p.among hx p.passes f)

    at_off : Off a x × Off b x → some_side a b l k ≡ true
    at_off o = triangle_side a b ca cb l k n (triangle_of_off a b x l k ca cb hx (off_marks a b x hx o.0 o.1) (sym (locate_off a x hx o.0) ∙ e) (sym (locate_off b x hx o.1) ∙ g))

    go : (t : Bool) → list_any (λ h. on h x) (edges' a b) ≡ t → (some_piece a b l k ≡ true) ⊎ (some_side a b l k ≡ true)
    go true h = inl (at_edge (some_passed (λ q. on q x) (edges' a b) h))
    go false h = inr (at_off (off_both a b x hx (none_passed (λ q. on q x) (edges' a b) h) f))

-- ---- a segment has a point that is no cut
-- a point that is none of the listed cuts is no cut
uncovered : (a b : Geometry) (x : Point) → IsPoint x → Each (λ c. same_point c x ≡ false) (cuts' a b) → IsCut (edges' a b) (listed' a b) x → ⊥
uncovered a b x hx h c = go (cut_is_listed (edges' a b) (listed' a b) x hx c)
  where
    go : Some_of (λ q. same_point q x ≡ true) (cuts' a b) → ⊥
    go s = let z : true ≡ false = sym s.has ∙ each_at (λ q. same_point q x ≡ false) (cuts' a b) s.found h s.among in absurd (cc)

-- a segment isn't covered by finitely many cuts, so it holds a point that is none, whose label a piece or a side has
segment_shows : (a b : Geometry) → Each IsClosed (rings a) → Each IsClosed (rings b) → (l k : Location) → Apart' l k → HasSegment (common a l b k) → (some_piece a b l k ≡ true) ⊎ (some_side a b l k ≡ true)
segment_shows a b ca cb l k n t = go (avoid_points (cuts' a b) t.p t.q t.p_is_point t.q_is_point t.differ (each_of IsPoint (cuts' a b) (λ c m. (listed_is_cut (edges' a b) (listed' a b) c m).is_point)))
  where
    some : (s : ℕ) → 0 < 1 + s
    some s = omega arith

    go : OffPoints (cuts' a b) t.p t.q → (some_piece a b l k ≡ true) ⊎ (some_side a b l k ≡ true)
    go o = let w : common a l b k (weighted 1 t.p o.t t.q) = t.within 1 o.t (some o.t) in
        let hz : IsPoint (weighted 1 t.p o.t t.q) = weighted_is_point 1 t.p o.t t.q t.p_is_point t.q_is_point (some o.t) in
        loose a b ca cb l k n (weighted 1 t.p o.t t.q) hz (uncovered a b (weighted 1 t.p o.t t.q) hz o.off) w.0 w.1

-- ---- a point is a cut, or no cut
-- a point is a cut, and then a cut has its label, or it is none, and then a piece or a side has it
pub point_shows : (a b : Geometry) → Each IsClosed (rings a) → Each IsClosed (rings b) → (l k : Location) → Apart' l k → HasPoint (common a l b k) → (some_cut a b l k ≡ true) ⊎ ((some_piece a b l k ≡ true) ⊎ (some_side a b l k ≡ true))
point_shows a b ca cb l k n t = go (list_any (λ c. same_point c t.p) (cuts' a b)) refl
  where
    at_cut : Passing (λ c. same_point c t.p) (cuts' a b) → some_cut a b l k ≡ true
    at_cut s = let hc : IsPoint s.found = (listed_is_cut (edges' a b) (listed' a b) s.found s.among).is_point in
        any_by (label a b) (is_pair l k) (cuts' a b) s.found s.among (pair_of l k (locate a s.found) (locate b s.found)
        (locate_respects a s.found t.p hc t.is_point s.passes ∙ (t.within).0) (locate_respects b s.found t.p hc t.is_point s.passes ∙ (t.within).1))

    go : (u : Bool) → list_any (λ c. same_point c t.p) (cuts' a b) ≡ u → (some_cut a b l k ≡ true) ⊎ ((some_piece a b l k ≡ true) ⊎ (some_side a b l k ≡ true))
    go true h = inl (at_cut (some_passed (λ c. same_point c t.p) (cuts' a b) h))
    go false h = inr (loose a b ca cb l k n t.p t.is_point (uncovered a b t.p t.is_point (none_passed (λ c. same_point c t.p) (cuts' a b) h)) (t.within).0 (t.within).1)

-- ---- a cell but that of the two exteriors
-- the greatest dimension that some side, piece or cut shows is that of the set: each shows a set of its dimension,
-- and a set of that dimension is shown
other : (a b : Geometry) → Each IsClosed (rings a) → Each IsClosed (rings b) → (l k : Location) → Apart' l k → HasDimension (common a l b k) (if some_side a b l k then Two else if some_piece a b l k then One else if some_cut a b l k then Zero else Empty)
other a b ca cb l k n = go (some_side a b l k) refl (some_piece a b l k) refl (some_cut a b l k) refl
  where
    no_segment : some_side a b l k ≡ false → some_piece a b l k ≡ false → (some_piece a b l k ≡ true) ⊎ (some_side a b l k ≡ true) → ⊥
    no_segment e f (inl h) = not_both (some_piece a b l k) h f
    no_segment e f (inr h) = not_both (some_side a b l k) h e

    no_point : some_side a b l k ≡ false → some_piece a b l k ≡ false → some_cut a b l k ≡ false → (some_cut a b l k ≡ true) ⊎ ((some_piece a b l k ≡ true) ⊎ (some_side a b l k ≡ true)) → ⊥
    no_point e f g (inl h) = not_both (some_cut a b l k) h g
    no_point e f g (inr h) = no_segment e f h

    go : (s : Bool) → some_side a b l k ≡ s → (p : Bool) → some_piece a b l k ≡ p → (c : Bool) → some_cut a b l k ≡ c → HasDimension (common a l b k) (if s then Two else if p then One else if c then Zero else Empty)
    go true e p f c g = side_triangle a b ca cb l k e
    go false e true f c g = (piece_has_segment a b ca cb l k f, λ t. not_both (some_side a b l k) (triangle_side a b ca cb l k n t) e)
    go false e false f true g = (cut_has_point a b l k g, λ t. no_segment e f (segment_shows a b ca cb l k n t))
    go false e false f false g = λ t. no_point e f g (point_shows a b ca cb l k n t)

-- ---- the two exteriors share an area: far to the right nothing is met
abbrev Beyond : Edge → ℕ → Type 0
Beyond e n = (e.start.x <ℤ pos n) × (e.end.x <ℤ pos n)

-- each edge lies left of all x from some number on
beyond_soon : (e : Edge) → Eventually (Beyond e)
beyond_soon e = weaker (λ n. (pos 0 <ℤ (pos n *ℤ pos 1 +ℤ (pos 0 -ℤ e.start.x))) × (pos 0 <ℤ (pos n *ℤ pos 1 +ℤ (pos 0 -ℤ e.end.x)))) (Beyond e) (λ n h. (less n e.start.x h.0, less n e.end.x h.1))
    (both (λ n. pos 0 <ℤ (pos n *ℤ pos 1 +ℤ (pos 0 -ℤ e.start.x))) (λ n. pos 0 <ℤ (pos n *ℤ pos 1 +ℤ (pos 0 -ℤ e.end.x))) (grows (pos 1) (pos 0 -ℤ e.start.x) (omega (arith, ints))) (grows (pos 1) (pos 0 -ℤ e.end.x) (omega (arith, ints))))
  where
    less : (n : ℕ) (x : ℤ) → pos 0 <ℤ (pos n *ℤ pos 1 +ℤ (pos 0 -ℤ x)) → x <ℤ pos n
    less n x h = omega (arith, ints)

-- a point of the x axis, so far to the right
far : ℕ → Point
far n = record { X = pos n; Y = pos 0; W = pos 1 }

far_is_point : (n : ℕ) → IsPoint (far n)
unfolding far
far_is_point n = omega (arith, ints)

-- a point right of an edge is off it
far_off : (n : ℕ) (e : Edge) → Beyond e n → on e (far n) ≡ false
unfolding far
far_off n e h = off_beyond (record { a = pos 1; b = pos 0; c = pos 1 -ℤ pos n }) e (record { X = pos n; Y = pos 0; W = pos 1 }) (omega (arith, ints)) (record { at_start = low e.start.x e.start.y h.0; at_end = low e.end.x e.end.y h.1 }) (here (pos n))
  where
    low : (x y : ℤ) → x <ℤ pos n → (pos 1 *ℤ x +ℤ pos 0 *ℤ y +ℤ (pos 1 -ℤ pos n) *ℤ pos 1) ≤ℤ pos 0
    low x y h = omega (arith, ints)

    here : (m : ℤ) → pos 0 <ℤ (pos 1 *ℤ m +ℤ pos 0 *ℤ pos 0 +ℤ (pos 1 -ℤ m) *ℤ pos 1)
    here m = omega (arith, ints)

-- nor is the edge above it, since the edge doesn't span it
far_below : (n : ℕ) (e : Edge) → Beyond e n → strictly_above e (far n) ≡ false
unfolding far
far_below n e h = ap (λ (t : Bool). t && int_lt (side_rightward e (record { X = pos n; Y = pos 0; W = pos 1 })) (pos 0)) (ap₂ exactly_one (at_most_yes (e.start.x *ℤ pos 1) (pos n) (weak e.start.x h.0)) (at_most_yes (e.end.x *ℤ pos 1) (pos n) (weak e.end.x h.1)))
  where
    weak : (x : ℤ) → x <ℤ pos n → (x *ℤ pos 1) ≤ℤ pos n
    weak x h = omega (arith, ints)

-- far to the right of all edges there is a triangle in both exteriors
exteriors : (a b : Geometry) → Each IsClosed (rings a) → Each IsClosed (rings b) → HasTriangle (common a Exterior b Exterior)
exteriors a b ca cb = go (each_eventually Beyond (marks a b) (each_of (λ e. Eventually (Beyond e)) (marks a b) (λ e m. beyond_soon e)))
  where
    at : (n : ℕ) → Each (λ e. Beyond e n) (marks a b) → HasTriangle (common a Exterior b Exterior)
    at n h = triangle_of_off a b (far n) Exterior Exterior ca cb (far_is_point n) (each_map (λ e. Beyond e n) (λ e. on e (far n) ≡ false) (marks a b) (far_off n) h)
        (exterior_above a (far n) (each_left (λ e. strictly_above e (far n) ≡ false) (edges a) (edges b) none)) (exterior_above b (far n) (each_right (λ e. strictly_above e (far n) ≡ false) (edges a) (edges b) none))
      where
        none : Each (λ e. strictly_above e (far n) ≡ false) (edges_of_both a b)
        none = each_left (λ e. strictly_above e (far n) ≡ false) (edges_of_both a b) (dots (listed a ++ listed b)) (each_map (λ e. Beyond e n) (λ e. strictly_above e (far n) ≡ false) (marks a b) (far_below n) h)

    go : Eventually (λ n. Each (λ e. Beyond e n) (marks a b)) → HasTriangle (common a Exterior b Exterior)
    go v = at v.start (v.holds v.start (omega arith))

-- ---- all cells
not_interior : Interior ≡ Exterior → ⊥
not_interior e = absurd (cc)

not_boundary : Boundary ≡ Exterior → ⊥
not_boundary e = absurd (cc)

-- so each of the nine cells is the dimension of its set
pub labelled_is_matrix : (a b : Geometry) → Each IsClosed (rings a) → Each IsClosed (rings b) → IsMatrix a b (labelled_matrix a b)
labelled_is_matrix a b ca cb Interior Interior = other a b ca cb Interior Interior (λ e f. not_interior e)
labelled_is_matrix a b ca cb Interior Boundary = other a b ca cb Interior Boundary (λ e f. not_interior e)
labelled_is_matrix a b ca cb Interior Exterior = other a b ca cb Interior Exterior (λ e f. not_interior e)
labelled_is_matrix a b ca cb Boundary Interior = other a b ca cb Boundary Interior (λ e f. not_boundary e)
labelled_is_matrix a b ca cb Boundary Boundary = other a b ca cb Boundary Boundary (λ e f. not_boundary e)
labelled_is_matrix a b ca cb Boundary Exterior = other a b ca cb Boundary Exterior (λ e f. not_boundary e)
labelled_is_matrix a b ca cb Exterior Interior = other a b ca cb Exterior Interior (λ e f. not_interior f)
labelled_is_matrix a b ca cb Exterior Boundary = other a b ca cb Exterior Boundary (λ e f. not_boundary f)
labelled_is_matrix a b ca cb Exterior Exterior = exteriors a b ca cb
