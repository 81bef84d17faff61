-- Stretches, face points and pieces show what two parts have in common.
use Rattle.std.proofs.Common.{ℕ, ℤ, pos, ◌+ℤ◌, ◌*ℤ◌, ◌≡◌, false, refl, sym, ap₂, ◌∙◌, [], ◌∷◌, ◌++◌}
use Rattle.std.specs.declared.cmp.Ordering.TheVariants.{Less, Equal}
use Rattle.geometry_model.specs.Points.{Point, IsPoint, same_point, compare, mediant}
use Rattle.geometry_model.specs.Geometries.{Geometry, listed, rings}
use Rattle.geometry_model.specs.Dimensions.{area, weighted, HasSegment, HasTriangle, common}
use Rattle.geometry_model.specs.Locations.{locate}
use Rattle.geometry_model.specs.Labels.{above, below, edges_of_both}
use Rattle.geometry_model.specs.Pieces.{Piece, sample}
use Rattle.geometry_model.specs.declared.point_sets.Location.{Location}
use Rattle.basics.proofs.Ring.{solve, var, lit, ◌⊕◌, ◌⊖◌, ◌⊗◌}
use Rattle.basics.proofs.Bools.{by_contraries}
use Rattle.geometry_laws.specs.RingLaws.{IsClosed}
use Rattle.geometry_laws.specs.PieceLaws.{Inside, HasClosedRings, IsPieceOf, IsOff}
use Rattle.geometry_laws.proofs.RingParity.{each_from_all}
use Rattle.geometry_laws.proofs.PointOrder.{equal_is_same, less_transitive, mediant_between}
use Rattle.geometry_laws.proofs.Lines.{weighted_is_point}
use Rattle.geometry_laws.proofs.Hulls.{on_from_hull, hull_from_on}
use Rattle.geometry_laws.proofs.LineOrder.{after_sum, before_sum, sum_between, on_sum}
use Rattle.geometry_laws.proofs.Cuts.{Ends, piece_ends}
use Rattle.geometry_laws.proofs.WithinPiece.{locate_within}
use Rattle.geometry_laws.proofs.PieceTheorems.{first_belongs, second_belongs, off_has_triangle}
use Rattle.matrix_laws.proofs.Pieces.{sample_inside}
use Rattle.geometry_laws.specs.FaceLaws.{SeesUp, SeesDown}
use Rattle.geometry_laws.proofs.Views.{face_point_above, face_point_below}
use Rattle.matrix_laws.specs.Witnessing.{IsStrictlyBetween, HoldsStretch, IsFacePoint}

-- ---- a stretch has a segment: from its middle to the middle of the rest
-- a sum of points on the line of p and q is on it
area_sum : (p q u v : Point) (m n : ℕ) → area p q (weighted m u n v) ≡ pos m *ℤ area p q u +ℤ pos n *ℤ area p q v
area_sum p q u v m n = solve (p.X ∷ p.Y ∷ p.W ∷ q.X ∷ q.Y ∷ q.W ∷ u.X ∷ u.Y ∷ u.W ∷ v.X ∷ v.Y ∷ v.W ∷ pos m ∷ pos n ∷ [])
    ((var 0 ⊗ (var 4 ⊗ (var 12 ⊗ var 8 ⊕ var 13 ⊗ var 11) ⊖ (var 12 ⊗ var 7 ⊕ var 13 ⊗ var 10) ⊗ var 5) ⊖ var 1 ⊗ (var 3 ⊗ (var 12 ⊗ var 8 ⊕ var 13 ⊗ var 11) ⊖ (var 12 ⊗ var 6 ⊕ var 13 ⊗ var 9) ⊗ var 5))
    ⊕ var 2 ⊗ (var 3 ⊗ (var 12 ⊗ var 7 ⊕ var 13 ⊗ var 10) ⊖ (var 12 ⊗ var 6 ⊕ var 13 ⊗ var 9) ⊗ var 4))
    (var 12 ⊗ ((var 0 ⊗ (var 4 ⊗ var 8 ⊖ var 7 ⊗ var 5) ⊖ var 1 ⊗ (var 3 ⊗ var 8 ⊖ var 6 ⊗ var 5)) ⊕ var 2 ⊗ (var 3 ⊗ var 7 ⊖ var 6 ⊗ var 4))
    ⊕ var 13 ⊗ ((var 0 ⊗ (var 4 ⊗ var 11 ⊖ var 10 ⊗ var 5) ⊖ var 1 ⊗ (var 3 ⊗ var 11 ⊖ var 9 ⊗ var 5)) ⊕ var 2 ⊗ (var 3 ⊗ var 10 ⊖ var 9 ⊗ var 4))) tt

sum_on_line : (p q u v : Point) (m n : ℕ) → area p q u ≡ pos 0 → area p q v ≡ pos 0 → area p q (weighted m u n v) ≡ pos 0
sum_on_line p q u v m n e f = area_sum p q u v m n ∙ ap₂ (λ (s t : ℤ). pos m *ℤ s +ℤ pos n *ℤ t) e f ∙ solve (pos m ∷ pos n ∷ []) (var 0 ⊗ lit (pos 0) ⊕ var 1 ⊗ lit (pos 0)) (lit (pos 0)) tt

-- and so is the mediant of p and q, and that of a point of the line and q
mediant_on_line : (p q : Point) → area p q (mediant p q) ≡ pos 0
mediant_on_line p q = solve (p.X ∷ p.Y ∷ p.W ∷ q.X ∷ q.Y ∷ q.W ∷ [])
    ((var 0 ⊗ (var 4 ⊗ (var 2 ⊕ var 5) ⊖ (var 1 ⊕ var 4) ⊗ var 5) ⊖ var 1 ⊗ (var 3 ⊗ (var 2 ⊕ var 5) ⊖ (var 0 ⊕ var 3) ⊗ var 5)) ⊕ var 2 ⊗ (var 3 ⊗ (var 1 ⊕ var 4) ⊖ (var 0 ⊕ var 3) ⊗ var 4))
    (lit (pos 0)) tt

next_on_line : (p q u : Point) → area p q u ≡ pos 0 → area p q (mediant u q) ≡ pos 0
next_on_line p q u e = solve (p.X ∷ p.Y ∷ p.W ∷ q.X ∷ q.Y ∷ q.W ∷ u.X ∷ u.Y ∷ u.W ∷ [])
    ((var 0 ⊗ (var 4 ⊗ (var 8 ⊕ var 5) ⊖ (var 7 ⊕ var 4) ⊗ var 5) ⊖ var 1 ⊗ (var 3 ⊗ (var 8 ⊕ var 5) ⊖ (var 6 ⊕ var 3) ⊗ var 5)) ⊕ var 2 ⊗ (var 3 ⊗ (var 7 ⊕ var 4) ⊖ (var 6 ⊕ var 3) ⊗ var 4))
    ((var 0 ⊗ (var 4 ⊗ var 8 ⊖ var 7 ⊗ var 5) ⊖ var 1 ⊗ (var 3 ⊗ var 8 ⊖ var 6 ⊗ var 5)) ⊕ var 2 ⊗ (var 3 ⊗ var 7 ⊖ var 6 ⊗ var 4)) tt ∙ e

different : (p q : Point) → compare p q ≡ Less → same_point p q ≡ false
different p q e = by_contraries (same_point p q) false (λ k. let f : Equal ≡ Less = sym ((equal_is_same p q).1 k) ∙ e in absurd (cc)) refl

pub stretch_has_segment : (a b : Geometry) (l k : Location) (p q : Point) → HoldsStretch (common a l b k) p q → HasSegment (common a l b k)
stretch_has_segment a b l k p q h = go (mediant_between p q h.p_is_point h.q_is_point h.in_order)
  where
    at : (u v : Point) → IsPoint u → IsPoint v → area p q u ≡ pos 0 → area p q v ≡ pos 0 → compare p u ≡ Less → compare u v ≡ Less → compare v q ≡ Less → HasSegment (common a l b k)
    at u v hu hv eu ev pu uv vq = record {
      p = u;
      q = v;
      p_is_point = hu;
      q_is_point = hv;
      differ = different u v uv;
      within = λ m n s. h.within (weighted m u n v) (record {
        is_point = weighted_is_point m u n v hu hv s;
        on_line = sum_on_line p q u v m n eu ev;
        after = after_sum p m u n v s pu (less_transitive p u v h.p_is_point hu hv pu uv);
        before = before_sum q m u n v s (less_transitive u v q hu hv h.q_is_point uv vq) vq;
      });
    }

    go : IsPoint (mediant p q) × (compare p (mediant p q) ≡ Less) × (compare (mediant p q) q ≡ Less) → HasSegment (common a l b k)
    go (hu, pu, uq) = let w : IsPoint (mediant (mediant p q) q) × (compare (mediant p q) (mediant (mediant p q) q) ≡ Less) × (compare (mediant (mediant p q) q) q ≡ Less) = mediant_between (mediant p q) q hu h.q_is_point uq in
        at (mediant p q) (mediant (mediant p q) q) hu w.0 (mediant_on_line p q) (next_on_line p q (mediant p q) (mediant_on_line p q)) pu w.1 w.2

-- ---- a face point has a triangle
carried : (a b : Geometry) (l k m n : Location) → l ≡ m → k ≡ n → HasTriangle (common a l b k) → HasTriangle (common a m b n)
carried a b l k m n e f t = record {
  p = t.p;
  q = t.q;
  r = t.r;
  p_is_point = t.p_is_point;
  q_is_point = t.q_is_point;
  r_is_point = t.r_is_point;
  not_on_one_line = t.not_on_one_line;
  within = λ i j o s. let w : common a l b k _ = t.within i j o s in (w.0 ∙ e, w.1 ∙ f);
}

pub face_point_has_triangle : (a b : Geometry) → HasClosedRings a → HasClosedRings b → (l k : Location) (p : Point) → IsFacePoint a l b k p → HasTriangle (common a l b k)
face_point_has_triangle a b ca cb l k p h = carried a b (locate a p) (locate b p) l k (h.within).0 (h.within).1 (off_has_triangle a b ca cb p h.is_point h.off_first h.off_second)

-- ---- a piece is a stretch
-- a point strictly between its ends is on its edge, and so strictly within it
between_is_inside : (a b : Geometry) (c : Piece) (h : IsPieceOf a b c) → Ends c → (x : Point) → IsStrictlyBetween c.lesser c.greater x → Inside (edges_of_both a b) (listed a ++ listed b) c h x
between_is_inside a b c h d x i = record {
  is_point = i.is_point;
  is_on = on_from_hull h.edge x (on_sum h.edge c.lesser c.greater x (hull_from_on h.edge c.lesser d.lesser h.lesser_on) (hull_from_on h.edge c.greater d.greater h.greater_on)
      (sum_between c.lesser c.greater x d.lesser d.greater i.is_point i.on_line i.after i.before h.in_order));
  after = i.after;
  before = i.before;
}

pub piece_is_stretch : (a b : Geometry) → HasClosedRings a → HasClosedRings b → (c : Piece) → IsPieceOf a b c → HoldsStretch (common a (locate a (sample c)) b (locate b (sample c))) c.lesser c.greater
piece_is_stretch a b ca cb c h = let d : Ends c = piece_ends (edges_of_both a b) (listed a ++ listed b) c h in record {
  p_is_point = d.lesser;
  q_is_point = d.greater;
  in_order = h.in_order;
  within = λ x i. (
    locate_within (edges_of_both a b) (listed a ++ listed b) c h d x (sample c) (between_is_inside a b c h d x i) (sample_inside (edges_of_both a b) (listed a ++ listed b) c h d) a (each_from_all IsClosed (rings a) ca) (first_belongs a b),
    locate_within (edges_of_both a b) (listed a ++ listed b) c h d x (sample c) (between_is_inside a b c h d x i) (sample_inside (edges_of_both a b) (listed a ++ listed b) c h d) b (each_from_all IsClosed (rings b) cb) (second_belongs a b),
  );
}

-- ---- what is seen is a face point
face_of : (a b : Geometry) (l k : Location) (m : Point) → IsPoint m → IsOff a m × (locate a m ≡ l) → IsOff b m × (locate b m ≡ k) → IsFacePoint a l b k m
face_of a b l k m hm h g = record { is_point = hm; within = (h.1, g.1); off_first = h.0; off_second = g.0 }

pub seen_above_is_face_point : (a b : Geometry) (s m : Point) → IsPoint s → SeesUp a s m → SeesUp b s m → IsFacePoint a (above a s) b (above b s) m
seen_above_is_face_point a b s m hs h g = face_of a b (above a s) (above b s) m h.is_point (face_point_above a s m hs h) (face_point_above b s m hs g)

pub seen_below_is_face_point : (a b : Geometry) (s m : Point) → IsPoint s → SeesDown a s m → SeesDown b s m → IsFacePoint a (below a s) b (below b s) m
seen_below_is_face_point a b s m hs h g = face_of a b (below a s) (below b s) m h.is_point (face_point_below a s m hs h) (face_point_below b s m hs g)
