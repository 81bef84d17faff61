-- What a piece's labels say of the sets: its sample's label is that of a segment, its sides' labels are those of triangles.
use Rattle.std.proofs.Common.{◌≡◌, inl, inr, Bool, true, false, ℤ, pos, ◌+ℤ◌, ◌-ℤ◌, ◌*ℤ◌, ◌<ℤ◌, refl, sym, ◌∙◌, List, ◌++◌, arith}
use borrow.Author.Differences.{ints}
use Rattle.std.specs.declared.cmp.Ordering.TheVariants.{Less, Equal}
use Rattle.basics.proofs.Bools.{by_contraries}
use Rattle.basics.proofs.Orders.{weak_positive}
use Rattle.geometry_model.specs.Points.{Position, Point, IsPoint, point_at, same_point, compare, mediant}
use Rattle.geometry_model.specs.Geometries.{Edge, Geometry, listed, rings}
use Rattle.geometry_model.specs.Sides.{side, on_one_line}
use Rattle.geometry_model.specs.Dimensions.{weighted, HasSegment, HasTriangle, common}
use Rattle.geometry_model.specs.Locations.{is_at, locate}
use Rattle.geometry_model.specs.Labels.{above, below, is_upright, edges_of_both}
use Rattle.geometry_model.specs.Pieces.{Piece, IsPiece, sample}
use Rattle.geometry_laws.specs.CoverLaws.{IsNotUprightAt}
use Rattle.geometry_laws.specs.RingLaws.{IsClosed}
use Rattle.geometry_laws.specs.PieceLaws.{Inside, IsPieceOf}
use Rattle.geometry_laws.proofs.Plane.{right}
use Rattle.geometry_laws.proofs.Each.{Each, Among, each_of, each_append}
use Rattle.geometry_laws.proofs.LeftToRight.{right_trans_first}
use Rattle.geometry_laws.proofs.PointOrder.{equal_is_same, less_transitive, mediant_between}
use Rattle.geometry_laws.proofs.Hulls.{on_from_hull, hull_from_on}
use Rattle.geometry_laws.proofs.RingParity.{position_is_point}
use Rattle.geometry_laws.proofs.Triangles.{dots, marks}
use Rattle.geometry_laws.proofs.SideTriangles.{lower_triangle, upper_triangle}
use Rattle.geometry_laws.proofs.LineOrder.{IsSum, on_sum}
use Rattle.geometry_laws.proofs.Cuts.{Ends, inside_sum, off_within, OneLine, one_line, Apart, apart, start_is_cut, end_is_cut, not_after_both, not_before_both, inside_on_line}
use Rattle.geometry_laws.proofs.WithinPiece.{locate_within, not_upright_edge, strictly_right, no_position_within}
use Rattle.geometry_laws.proofs.PieceTheorems.{first_belongs, second_belongs}
use Rattle.geometry_laws.proofs.CoverTheorems.{not_upright_dots}

-- ---- the sample is strictly within
-- the mediant weighs both points by 1
pub mediant_is_sum : (p q : Point) → IsSum p q (mediant p q)
mediant_is_sum p q = record {
  k = pos 1;
  m = pos 1;
  n = pos 1;
  from_k = omega (arith, ints);
  from_m = omega (arith, ints);
  from_n = omega (arith, ints);
  x_is = one p.X q.X;
  y_is = one p.Y q.Y;
  w_is = one p.W q.W;
}
  where
    one : (x y : ℤ) → pos 1 *ℤ (x +ℤ y) ≡ pos 1 *ℤ x +ℤ pos 1 *ℤ y
    one x y = omega (arith, ints)

-- a piece's sample lies strictly within it, being between its ends
pub sample_inside : (es : List Edge) (ps : List Position) (c : Piece) (h : IsPiece es ps c) → Ends c → Inside es ps c h (sample c)
sample_inside es ps c h d = record {
  is_point = (mediant_between c.lesser c.greater d.lesser d.greater h.in_order).0;
  is_on = on_from_hull h.edge (sample c) (on_sum h.edge c.lesser c.greater (sample c) (hull_from_on h.edge c.lesser d.lesser h.lesser_on) (hull_from_on h.edge c.greater d.greater h.greater_on) (mediant_is_sum c.lesser c.greater));
  after = (mediant_between c.lesser c.greater d.lesser d.greater h.in_order).1;
  before = (mediant_between c.lesser c.greater d.lesser d.greater h.in_order).2;
}

-- a second point, between the sample and the greater end
second : Piece → Point
second c = mediant (sample c) c.greater

-- it lies strictly within the piece, behind the sample
second_inside : (es : List Edge) (ps : List Position) (c : Piece) (h : IsPiece es ps c) → Ends c → Inside es ps c h (second c) × (compare (sample c) (second c) ≡ Less)
unfolding second
second_inside es ps c h d = go (sample_inside es ps c h d)
  where
    go : Inside es ps c h (sample c) → Inside es ps c h (mediant (sample c) c.greater) × (compare (sample c) (mediant (sample c) c.greater) ≡ Less)
    go i = let m : IsPoint (mediant (sample c) c.greater) × (compare (sample c) (mediant (sample c) c.greater) ≡ Less) × (compare (mediant (sample c) c.greater) c.greater ≡ Less) = mediant_between (sample c) c.greater i.is_point d.greater i.before in (
      record {
        is_point = m.0;
        is_on = on_from_hull h.edge (mediant (sample c) c.greater) (on_sum h.edge (sample c) c.greater (mediant (sample c) c.greater) (hull_from_on h.edge (sample c) i.is_point i.is_on) (hull_from_on h.edge c.greater d.greater h.greater_on) (mediant_is_sum (sample c) c.greater));
        after = less_transitive c.lesser (sample c) (mediant (sample c) c.greater) d.lesser i.is_point m.0 i.after m.1;
        before = m.2;
      },
      m.1,
    )

-- points of which one is less aren't the same
different : (p q : Point) → compare p q ≡ Less → same_point p q ≡ false
different p q e = by_contraries (same_point p q) false (λ k. let f : Equal ≡ Less = sym ((equal_is_same p q).1 k) ∙ e in absurd (cc)) refl

-- ---- the sample's label is that of a segment
-- all points within a piece lie alike, so the sample and the second point bound a segment of the sample's label
pub piece_segment : (a b : Geometry) → Each IsClosed (rings a) → Each IsClosed (rings b) → (c : Piece) (h : IsPieceOf a b c) → Ends c → HasSegment (common a (locate a (sample c)) b (locate b (sample c)))
piece_segment a b ca cb c h d = go (sample_inside (edges_of_both a b) (listed a ++ listed b) c h d) (second_inside (edges_of_both a b) (listed a ++ listed b) c h d)
  where
    go : Inside (edges_of_both a b) (listed a ++ listed b) c h (sample c) → Inside (edges_of_both a b) (listed a ++ listed b) c h (second c) × (compare (sample c) (second c) ≡ Less) → HasSegment (common a (locate a (sample c)) b (locate b (sample c)))
    go i j = record {
      p = sample c;
      q = second c;
      p_is_point = i.is_point;
      q_is_point = (j.0).is_point;
      differ = different (sample c) (second c) j.1;
      within = λ m n k. (
        locate_within (edges_of_both a b) (listed a ++ listed b) c h d (weighted m (sample c) n (second c)) (sample c) (inside_sum (edges_of_both a b) (listed a ++ listed b) c h (sample c) (second c) m n k i j.0) i a ca (first_belongs a b),
        locate_within (edges_of_both a b) (listed a ++ listed b) c h d (weighted m (sample c) n (second c)) (sample c) (inside_sum (edges_of_both a b) (listed a ++ listed b) c h (sample c) (second c) m n k i j.0) i b cb (second_belongs a b),
      );
    }

-- ---- no vertical edge goes through a point within a piece that isn't vertical
-- of two positions of one x neither is to the right of the other
level : (s e : Position) → s.x ≡ e.x → pos 0 <ℤ right (point_at s) (point_at e) → ⊥
level s e q h = clash s.x e.x q h
  where
    clash : (x y : ℤ) → x ≡ y → pos 0 <ℤ (y *ℤ pos 1 -ℤ x *ℤ pos 1) → ⊥
    clash x y e h = omega (arith, ints)

-- a vertical edge through a point within the piece isn't on its line, so it would cross it there, and that would be a cut
pub not_upright_within : (es : List Edge) (ps : List Position) (c : Piece) (h : IsPiece es ps c) → Ends c → is_upright c ≡ false → (s : Point) → Inside es ps c h s → (g : Edge) → Among g es → IsNotUprightAt s g
not_upright_within es ps c h d f s i g m k e = decide (on_one_line h.edge g) refl
  where
    through : (u v : Position) → side h.edge.start h.edge.end (point_at u) ≡ pos 0 → side h.edge.start h.edge.end (point_at v) ≡ pos 0 → compare (point_at u) s ≡ Less → compare s (point_at v) ≡ Less → pos 0 <ℤ right (point_at u) (point_at v)
    through u v p q x y = right_trans_first (point_at u) s (point_at v) (position_is_point u) i.is_point (position_is_point v)
        (strictly_right h.edge.start h.edge.end (point_at u) s (not_upright_edge es ps c h d f) p
        (inside_on_line es ps c h s i) x)
        (weak_positive (right s (point_at v)) (strictly_right h.edge.start h.edge.end s (point_at v) (not_upright_edge es ps c h d f) (inside_on_line es ps c h s i) q y))

    go : OneLine h.edge g → Apart (point_at g.start) s s → Apart (point_at g.end) s s → ⊥
    go o (inl p) (inl q) = let z : true ≡ false = sym k ∙ not_after_both g s i.is_point p.0 q.0 in absurd (cc)
    go o (inl p) (inr q) = level g.start g.end e (through g.start g.end o.start o.end p.0 q.0)
    go o (inr p) (inl q) = level g.end g.start (sym e) (through g.end g.start o.end o.start q.0 p.0)
    go o (inr p) (inr q) = let z : true ≡ false = sym k ∙ not_before_both g s i.is_point p.0 q.0 in absurd (cc)

    collinear : OneLine h.edge g → ⊥
    collinear o = go o
        (apart es ps c h d (point_at g.start) (position_is_point g.start) o.start (start_is_cut es ps g m) s s i i)
        (apart es ps c h d (point_at g.end) (position_is_point g.end) o.end (end_is_cut es ps g m) s s i i)

    decide : (t : Bool) → on_one_line h.edge g ≡ t → ⊥
    decide true q = collinear (one_line h.edge g q)
    decide false q = let z : true ≡ false = sym k ∙ off_within es ps c h g s m q i in absurd (cc)

-- so at the sample of a piece that isn't vertical only not_upright edges go through it, and no listed position is there
not_upright_all : (a b : Geometry) (c : Piece) (h : IsPieceOf a b c) → Ends c → is_upright c ≡ false → Each (IsNotUprightAt (sample c)) (marks a b)
not_upright_all a b c h d f = go (sample_inside (edges_of_both a b) (listed a ++ listed b) c h d)
  where
    go : Inside (edges_of_both a b) (listed a ++ listed b) c h (sample c) → Each (IsNotUprightAt (sample c)) (marks a b)
    go i = each_append (IsNotUprightAt (sample c)) (edges_of_both a b) (dots (listed a ++ listed b))
        (each_of (IsNotUprightAt (sample c)) (edges_of_both a b) (λ g m. not_upright_within (edges_of_both a b) (listed a ++ listed b) c h d f (sample c) i g m))
        (not_upright_dots (listed a ++ listed b) (sample c) i.is_point (each_of (λ p. is_at (sample c) p ≡ false) (listed a ++ listed b) (λ p m. no_position_within (edges_of_both a b) (listed a ++ listed b) c h (sample c) i p m)))

-- ---- its sides' labels are those of triangles
-- just below the sample all points lie alike, so there is a triangle with the label of the lower side
pub lower_side : (a b : Geometry) → Each IsClosed (rings a) → Each IsClosed (rings b) → (c : Piece) (h : IsPieceOf a b c) → Ends c → is_upright c ≡ false → HasTriangle (common a (below a (sample c)) b (below b (sample c)))
lower_side a b ca cb c h d f = lower_triangle a b ca cb (sample c) ((sample_inside (edges_of_both a b) (listed a ++ listed b) c h d).is_point) (not_upright_all a b c h d f)

-- the same above it
pub upper_side : (a b : Geometry) → Each IsClosed (rings a) → Each IsClosed (rings b) → (c : Piece) (h : IsPieceOf a b c) → Ends c → is_upright c ≡ false → HasTriangle (common a (above a (sample c)) b (above b (sample c)))
upper_side a b ca cb c h d f = upper_triangle a b ca cb (sample c) ((sample_inside (edges_of_both a b) (listed a ++ listed b) c h d).is_point) (not_upright_all a b c h d f)
