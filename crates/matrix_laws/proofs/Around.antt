-- A point of an edge that is no cut lies strictly within a listed piece.
use Rattle.std.proofs.Common.{◌≡◌, inl, inr, true, false, refl, sym, ap, ◌∙◌, List, [], ◌∷◌, filter}
use Rattle.std.specs.declared.cmp.Ordering.{Ordering}
use Rattle.std.specs.declared.cmp.Ordering.TheVariants.{Less, Equal, Greater}
use Rattle.std.proofs.lemmas.Bool.{or_left, or_right}
use Rattle.basics.proofs.Bools.{by_contraries}
use Rattle.geometry_model.specs.Points.{Position, Point, IsPoint, point_at, same_point, compare}
use Rattle.geometry_model.specs.Geometries.{Edge}
use Rattle.geometry_model.specs.Sides.{on}
use Rattle.geometry_model.specs.CutPoints.{IsCut, cut_points}
use Rattle.geometry_model.specs.CutPoints.IsCut.{AtEnd}
use Rattle.geometry_model.specs.Pieces.{Piece, IsPiece, stretches, pieces}
use Rattle.geometry_laws.specs.PieceLaws.{Inside}
use Rattle.geometry_laws.proofs.Each.{Each, Among, each_at, each_of}
use Rattle.geometry_laws.proofs.PointOrder.{same_symmetric, equal_is_same, less_transitive}
use Rattle.geometry_laws.proofs.Respect.{on_respects}
use Rattle.geometry_laws.proofs.RingParity.{position_is_point}
use Rattle.geometry_laws.proofs.Locating.{start_is_on, end_is_on}
use Rattle.geometry_laws.proofs.Cuts.{Ends, contains_of_among, turn_less, not_after_both, not_before_both, start_is_cut, end_is_cut, same_end}
use Rattle.matrix_laws.proofs.MatrixLists.{Some_of, among_filter, filter_among}
use Rattle.matrix_laws.proofs.Sorted.{Sorted, filter-sorted}
use Rattle.matrix_laws.proofs.CutLists.{IsLeastCut}
use Rattle.matrix_laws.proofs.CutOrder.{listed_is_cut, cut_is_listed, cut_points-sorted, cut_of_same}
use Rattle.matrix_laws.proofs.Stretches.{Neighbours, stretch_is, less_right, less_left, not_before_itself}
use Rattle.matrix_laws.proofs.PieceLists.{piece_is_listed}

-- ---- in an ascending list
-- a stretch of the list whose ends lie before and after the point
pub record Around (xs : List Point) (x : Point) : Type 0 where
  pub piece : Piece
  pub among : Among piece (stretches xs)
  pub after : compare piece.lesser x ≡ Less
  pub before : compare x piece.greater ≡ Less

-- no point is both before and after another
clash : (p x : Point) → IsPoint p → IsPoint x → compare p x ≡ Less → compare x p ≡ Less → ⊥
clash p x hp hx e f = not_before_itself p (less_transitive p x p hp hx hp e f)

-- a stretch of the rest of a list is one of the list
widen : (p : Point) (xs : List Point) (x : Point) → Around xs x → Around (p ∷ xs) x
widen p [] x r = absurd r.among
widen p (q ∷ rest) x r = record { piece = r.piece; among = inr r.among; after = r.after; before = r.before }

-- a point between two of an ascending list, and itself none of them, lies strictly between two neighbours of it
around : (xs : List Point) → Each IsPoint xs → Sorted compare xs → (x : Point) → IsPoint x → Each (λ c. same_point c x ≡ false) xs
    → (lo hi : Point) → Among lo xs → Among hi xs → compare lo x ≡ Less → compare x hi ≡ Less → Around xs x
around [] v s x hx u lo hi a b e f = absurd a
around (p ∷ []) v s x hx u lo hi (inr a) b e f = absurd a
around (p ∷ []) v s x hx u lo hi (inl g) (inr b) e f = absurd b
around (p ∷ []) v s x hx u lo hi (inl g) (inl h) e f = absurd (clash p x v.0 hx (ap (λ w. compare w x) (sym g) ∙ e) (ap (compare x) (sym h) ∙ f))
around (p ∷ q ∷ rest) v s x hx u lo hi a b e f = go (compare q x) refl (λ g k. around (q ∷ rest) v.1 s.1 x hx u.1 q hi (inl refl) k g f)
  where
    hi_behind : compare q x ≡ Less → Among hi (p ∷ q ∷ rest) → Among hi (q ∷ rest)
    hi_behind g (inl k) = absurd (clash x p hx v.0 (ap (compare x) (sym k) ∙ f) (less_transitive p q x v.0 v.1.0 hx s.0.0 g))
    hi_behind g (inr k) = k

    lo_first : compare x q ≡ Less → Among lo (p ∷ q ∷ rest) → compare p x ≡ Less
    lo_first g (inl k) = ap (λ w. compare w x) (sym k) ∙ e
    lo_first g (inr (inl k)) = absurd (clash q x v.1.0 hx (ap (λ w. compare w x) (sym k) ∙ e) g)
    lo_first g (inr (inr k)) = absurd (clash lo q (each_at IsPoint rest lo v.1.1 k) v.1.0 (less_transitive lo x q (each_at IsPoint rest lo v.1.1 k) hx v.1.0 e g) (each_at (λ w. compare q w ≡ Less) rest lo s.1.0 k))

    go : (o : Ordering) → compare q x ≡ o → (compare q x ≡ Less → Among hi (q ∷ rest) → Around (q ∷ rest) x) → Around (p ∷ q ∷ rest) x
    go Less g rec = widen p (q ∷ rest) x (rec g (hi_behind g b))
    go Equal g rec = absurd (let k : true ≡ false = sym ((equal_is_same q x).0 g) ∙ u.1.0 in cc)
    go Greater g rec = record { piece = record { lesser = p; greater = q }; among = inl refl; after = lo_first (turn_less q x g) a; before = turn_less q x g }

-- ---- on an edge
-- the point lies strictly within this listed piece
pub record Within (es : List Edge) (ps : List Position) (x : Point) : Type 0 where
  pub piece : Piece
  pub is_piece : IsPiece es ps piece
  pub ends : Ends piece
  pub listed : Among piece (pieces (cut_points es ps) es)
  pub lesser_listed : Among piece.lesser (cut_points es ps)
  pub inside : Inside es ps piece is_piece x

-- the cuts on an edge, ascending
abbrev cuts_on : List Edge → List Position → Edge → List Point
cuts_on es ps e = filter (on e) (cut_points es ps)

-- they are points
points_on : (es : List Edge) (ps : List Position) (e : Edge) → Each IsPoint (cuts_on es ps e)
points_on es ps e = each_of IsPoint (cuts_on es ps e) (λ p a. (listed_is_cut es ps p ((among_filter (on e) (cut_points es ps) p a).0)).is_point)

-- and ascend, since all cuts do
sorted_on : (es : List Edge) (ps : List Position) (e : Edge) → Sorted compare (cuts_on es ps e)
sorted_on es ps e = filter-sorted compare (on e) (cut_points es ps) (cut_points-sorted es ps)

-- a cut of the edge lies in the list, as one of its triples
pub record Standing (es : List Edge) (ps : List Position) (e : Edge) (p : Point) : Type 0 where
  pub cut : Point
  pub among : Among cut (cuts_on es ps e)
  pub is_point : IsPoint cut
  pub same : same_point cut p ≡ true

-- a cut of the edge is among all cuts, and lies on the edge, so it is among those on it
standing : (es : List Edge) (ps : List Position) (e : Edge) (p : Point) → IsPoint p → on e p ≡ true → IsCut es ps p → Standing es ps e p
standing es ps e p hp h c = go (cut_is_listed es ps p hp c)
  where
    go : Some_of (λ q. same_point q p ≡ true) (cut_points es ps) → Standing es ps e p
    go s = let k : IsLeastCut es ps s.found = listed_is_cut es ps s.found s.among in
        record { cut = s.found; among = filter_among (on e) (cut_points es ps) s.found s.among (on_respects e s.found p k.is_point hp s.has ∙ h); is_point = k.is_point; same = s.has }

-- a point that is no cut is none of them
none_there : (es : List Edge) (ps : List Position) (e : Edge) (x : Point) → IsPoint x → (IsCut es ps x → ⊥) → Each (λ c. same_point c x ≡ false) (cuts_on es ps e)
none_there es ps e x hx f = each_of (λ c. same_point c x ≡ false) (cuts_on es ps e) (λ c a. by_contraries (same_point c x) false (λ k. absurd (at c a k)) refl)
  where
    at : (c : Point) → Among c (cuts_on es ps e) → same_point c x ≡ true → ⊥
    at c a k = let l : IsLeastCut es ps c = listed_is_cut es ps c ((among_filter (on e) (cut_points es ps) c a).0) in f (cut_of_same es ps c x l.is_point hx k l.is_cut)

-- the piece between neighbours of the list of the edge's cuts
piece_of : (es : List Edge) (ps : List Position) (e : Edge) → Among e es → (c : Piece) → Neighbours (cuts_on es ps e) c → IsPiece es ps c
piece_of es ps e a c n = record {
  edge = e;
  among = contains_of_among e es a;
  lesser_on = (among_filter (on e) (cut_points es ps) c.lesser n.lesser).1;
  greater_on = (among_filter (on e) (cut_points es ps) c.greater n.greater).1;
  lesser_is_cut = (listed_is_cut es ps c.lesser ((among_filter (on e) (cut_points es ps) c.lesser n.lesser).0)).is_cut;
  greater_is_cut = (listed_is_cut es ps c.greater ((among_filter (on e) (cut_points es ps) c.greater n.greater).0)).is_cut;
  in_order = n.in_order;
  neighbours = λ p hp h k x y. free p hp x y (standing es ps e p hp h k);
}
  where
    free : (p : Point) → IsPoint p → compare c.lesser p ≡ Less → compare p c.greater ≡ Less → Standing es ps e p → ⊥
    free p hp x y s = n.none s.cut s.among (less_right c.lesser p s.cut hp s.is_point x (sym (same_symmetric s.cut p) ∙ s.same)) (less_left s.cut p c.greater s.is_point hp s.same y)

-- the nearest cuts on both sides of the point bound the piece
pub within_piece : (es : List Edge) (ps : List Position) (e : Edge) (x : Point) → Among e es → IsPoint x → on e x ≡ true → (IsCut es ps x → ⊥) → Within es ps x
unfolding piece_of
within_piece es ps e x a hx h f = go (compare (point_at e.start) x) refl (compare (point_at e.end) x) refl
    (standing es ps e (point_at e.start) (position_is_point e.start) (start_is_on e (point_at e.start) (position_is_point e.start) (same_end e.start)) (start_is_cut es ps e a))
    (standing es ps e (point_at e.end) (position_is_point e.end) (end_is_on e (point_at e.end) (position_is_point e.end) (same_end e.end)) (end_is_cut es ps e a))
  where
    made : Around (cuts_on es ps e) x → Within es ps x
    made r = of (stretch_is (cuts_on es ps e) (points_on es ps e) (sorted_on es ps e) r.piece r.among)
      where
        of : Neighbours (cuts_on es ps e) r.piece → Within es ps x
        of n = let l : IsLeastCut es ps r.piece.lesser = listed_is_cut es ps r.piece.lesser ((among_filter (on e) (cut_points es ps) r.piece.lesser n.lesser).0) in
            let g : IsLeastCut es ps r.piece.greater = listed_is_cut es ps r.piece.greater ((among_filter (on e) (cut_points es ps) r.piece.greater n.greater).0) in
            record {
              piece = r.piece;
              is_piece = piece_of es ps e a r.piece n;
              ends = record { lesser = l.is_point; greater = g.is_point };
              listed = piece_is_listed es ps r.piece l.is_point g.is_point l.is_least g.is_least (piece_of es ps e a r.piece n);
              lesser_listed = (among_filter (on e) (cut_points es ps) r.piece.lesser n.lesser).0;
              inside = record { is_point = hx; is_on = h; after = r.after; before = r.before };
            }

    between : (p q : Point) → IsPoint p → IsPoint q → Standing es ps e p → Standing es ps e q → compare p x ≡ Less → compare x q ≡ Less → Within es ps x
    between p q hp hq s t g k = made (around (cuts_on es ps e) (points_on es ps e) (sorted_on es ps e) x hx (none_there es ps e x hx f) s.cut t.cut s.among t.among
        (less_left s.cut p x s.is_point hp s.same g) (less_right x q t.cut hq t.is_point k (sym (same_symmetric t.cut q) ∙ t.same)))

    start_same : compare (point_at e.start) x ≡ Equal → ⊥
    start_same g = f (AtEnd hx e (contains_of_among e es a) (or_left (same_point (point_at e.start) x) (same_point (point_at e.end) x) ((equal_is_same (point_at e.start) x).0 g)))

    end_same : compare (point_at e.end) x ≡ Equal → ⊥
    end_same g = f (AtEnd hx e (contains_of_among e es a) (or_right (same_point (point_at e.start) x) (same_point (point_at e.end) x) ((equal_is_same (point_at e.end) x).0 g)))

    go : (o : Ordering) → compare (point_at e.start) x ≡ o → (t : Ordering) → compare (point_at e.end) x ≡ t → Standing es ps e (point_at e.start) → Standing es ps e (point_at e.end) → Within es ps x
    go Less g Less k s t = absurd (let z : true ≡ false = sym h ∙ not_after_both e x hx g k in cc)
    go Less g Equal k s t = absurd (end_same k)
    go Less g Greater k s t = between (point_at e.start) (point_at e.end) (position_is_point e.start) (position_is_point e.end) s t g (turn_less (point_at e.end) x k)
    go Equal g o k s t = absurd (start_same g)
    go Greater g Less k s t = between (point_at e.end) (point_at e.start) (position_is_point e.end) (position_is_point e.start) t s k (turn_less (point_at e.start) x g)
    go Greater g Equal k s t = absurd (end_same k)
    go Greater g Greater k s t = absurd (let z : true ≡ false = sym h ∙ not_before_both e x hx (turn_less (point_at e.start) x g) (turn_less (point_at e.end) x k) in cc)
