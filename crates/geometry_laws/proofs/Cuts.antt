-- Strictly within a piece: what the edges are there, seen from any of its points.
use Rattle.std.proofs.Common.{ℕ, zero, suc, ◌+◌, ◌<◌, ℤ, pos, ◌+ℤ◌, ◌*ℤ◌, ◌<ℤ◌, int_lt, int_le, ◌≡◌, ◌⊎◌, inl, inr, Bool, true, false, ◌&&◌, if◌then◌else◌, refl, sym, ap, subst, ◌∙◌, List, [], ◌∷◌, length, Contains, arith, slice_index_or}
use borrow.Author.Differences.{ints}
use Rattle.std.specs.Ordering.{int_eq}
use Rattle.std.specs.declared.cmp.Ordering.{Ordering}
use Rattle.std.specs.declared.cmp.Ordering.TheVariants.{Less, Equal, Greater}
use Rattle.std.proofs.lemmas.Bool.{or_right, or_left, and_parts}
use Rattle.geometry_model.specs.Points.{Position, Point, IsPoint, point_at, compare, same_point}
use Rattle.geometry_model.specs.Geometries.{Edge}
use Rattle.geometry_model.specs.Sides.{side, on, on_one_line}
use Rattle.geometry_model.specs.Crossings.{spans, side_rightward, strictly_above}
use Rattle.geometry_model.specs.Dimensions.{area, weighted}
use Rattle.geometry_model.specs.CutPoints.{IsCut}
use Rattle.geometry_model.specs.CutPoints.IsCut.{AtEnd, Listed, AtCrossing}
use Rattle.geometry_model.specs.Pieces.{Piece, IsPiece}
use Rattle.basics.proofs.Ring.{solve, var, lit, ◌⊕◌, ◌⊗◌}
use Rattle.basics.proofs.Signs.{strict_plus_plus}
use Rattle.basics.proofs.Tests.{equal_from}
use Rattle.basics.proofs.Bools.{by_contraries}
use Rattle.geometry_laws.specs.RingLaws.{Misses}
use Rattle.geometry_laws.specs.PointLaws.{reversed}
use Rattle.geometry_laws.specs.PieceLaws.{Inside}
use Rattle.geometry_laws.proofs.Each.{Among}
use Rattle.geometry_laws.proofs.Scaling.{same_from}
use Rattle.geometry_laws.proofs.PointOrder.{same_symmetric, same_transitive, compare_reversed, equal_is_same, less_transitive}
use Rattle.geometry_laws.proofs.Respect.{compare_respects}
use Rattle.geometry_laws.proofs.Hulls.{OnHull, on_from_hull, hull_from_on, on_parts}
use Rattle.geometry_laws.proofs.RingParity.{side_is_area, Natural, natural, position_is_point, Step, step_by_missing, step_along}
use Rattle.geometry_laws.proofs.Lines.{weighted_is_point}
use Rattle.geometry_laws.proofs.Locating.{start_is_on, end_is_on}
use Rattle.geometry_laws.proofs.Triangles.{dot, dot_is_at}
use Rattle.geometry_laws.proofs.LineOrder.{after_sum, before_sum, sum_between, on_sum, weighted_is_sum, area_on_line}

-- ---- an element of a list is at a place of it
pub contains_of_among : {X : Type 0} (x : X) (xs : List X) → Among x xs → Contains xs x
contains_of_among x [] a = absurd a
contains_of_among x (y ∷ ys) (inl e) = (0, omega arith, sym e)
contains_of_among x (y ∷ ys) (inr a) = let c : Contains ys x = contains_of_among x ys a in (suc c.0, more c.0 (length ys) c.1, c.2)
  where
    more : (k n : ℕ) → k < n → suc k < suc n
    more k n h = omega arith

at_place : {X : Type 0} (xs : List X) (x : X) (k : ℕ) → k < length xs → slice_index_or xs k x ≡ x → Among x xs
at_place [] x k h e = absurd (omega (arith, h))
at_place (y ∷ ys) x zero h e = inl (sym e)
at_place (y ∷ ys) x (suc k) h e = inr (at_place ys x k (omega (arith, h)) e)

pub among_from_contains : {X : Type 0} (xs : List X) (x : X) → Contains xs x → Among x xs
among_from_contains xs x h = at_place xs x h.0 h.1 h.2

-- ---- the ends of a piece are points
pub record Ends (c : Piece) : Type 0 where
  pub lesser : IsPoint c.lesser
  pub greater : IsPoint c.greater

-- each kind of cut is a point
cut_is_point : (es : List Edge) (ps : List Position) (p : Point) → IsCut es ps p → IsPoint p
cut_is_point es ps p (AtEnd hp e c h) = hp
cut_is_point es ps p (Listed hp a c h) = hp
cut_is_point es ps p (AtCrossing hp e f c d apart he hf) = hp

-- so both ends of a piece are points
pub piece_ends : (es : List Edge) (ps : List Position) (c : Piece) → IsPiece es ps c → Ends c
piece_ends es ps c h = record { lesser = cut_is_point es ps c.lesser h.lesser_is_cut; greater = cut_is_point es ps c.greater h.greater_is_cut }

-- ---- points strictly within a piece
-- what is before a point has it behind: Greater turned is Less
pub turn_less : (p q : Point) → compare p q ≡ Greater → compare q p ≡ Less
turn_less p q e = compare_reversed p q ∙ ap reversed e

-- a point isn't before itself
pub not_less_self : (p q : Point) → same_point p q ≡ true → compare p q ≡ Less → ⊥
not_less_self p q e f = let g : Equal ≡ Less = sym ((equal_is_same p q).1 e) ∙ f in absurd (cc)

-- its edge has two different ends
pub edge_is_wide : (es : List Edge) (ps : List Position) (c : Piece) (h : IsPiece es ps c) → Ends c → h.edge.start ≡ h.edge.end → ⊥
edge_is_wide es ps c h d e = not_less_self c.lesser c.greater (same_transitive c.lesser (point_at h.edge.start) c.greater (position_is_point h.edge.start)
    (same_symmetric c.lesser (point_at h.edge.start) ∙ dot_is_at h.edge.start c.lesser d.lesser (subst (λ (g : Edge). on g c.lesser ≡ true) is_dot h.lesser_on))
    (dot_is_at h.edge.start c.greater d.greater (subst (λ (g : Edge). on g c.greater ≡ true) is_dot h.greater_on))) h.in_order
  where
    is_dot : h.edge ≡ dot h.edge.start
    is_dot = λ i. record { start = h.edge.start; end = sym e i }

-- a sum of two points within a piece is within it
pub inside_sum : (es : List Edge) (ps : List Position) (c : Piece) (h : IsPiece es ps c) (x y : Point) (m n : ℕ) → 0 < m + n → Inside es ps c h x → Inside es ps c h y → Inside es ps c h (weighted m x n y)
inside_sum es ps c h x y m n k i j = record {
  is_point = weighted_is_point m x n y i.is_point j.is_point k;
  is_on = on_from_hull h.edge (weighted m x n y) (on_sum h.edge x y (weighted m x n y) (hull_from_on h.edge x i.is_point i.is_on) (hull_from_on h.edge y j.is_point j.is_on) (weighted_is_sum m x n y));
  after = after_sum c.lesser m x n y k i.after j.after;
  before = before_sum c.greater m x n y k i.before j.before;
}

-- ---- an edge not on the piece's line has no point within it
-- such a point would be a crossing, and no cut lies strictly between the ends of a piece
pub off_within : (es : List Edge) (ps : List Position) (c : Piece) (h : IsPiece es ps c) (g : Edge) (x : Point) → Among g es → on_one_line h.edge g ≡ false → Inside es ps c h x → on g x ≡ false
off_within es ps c h g x a f i = by_contraries (on g x) false (λ k. absurd (h.neighbours x i.is_point i.is_on (AtCrossing i.is_point h.edge g h.among (contains_of_among g es a) f i.is_on k) i.after i.before)) refl

-- so the stretch between two points within the piece misses the edge
pub misses_within_piece : (es : List Edge) (ps : List Position) (c : Piece) (h : IsPiece es ps c) (g : Edge) (x y : Point) → Among g es → on_one_line h.edge g ≡ false → Inside es ps c h x → Inside es ps c h y → Misses x y g
misses_within_piece es ps c h g x y a f i j m n k = off_within es ps c h g (weighted m x n y) a f (inside_sum es ps c h x y m n k i j)

-- ---- an edge on the piece's line
pub record OneLine (e g : Edge) : Type 0 where
  pub start : side e.start e.end (point_at g.start) ≡ pos 0
  pub end : side e.start e.end (point_at g.end) ≡ pos 0

-- both ends of the edge are on the line
pub one_line : (e g : Edge) → on_one_line e g ≡ true → OneLine e g
one_line e g f = let both : (int_eq (side e.start e.end (point_at g.start)) (pos 0) ≡ true) × (int_eq (side e.start e.end (point_at g.end)) (pos 0) ≡ true) = and_parts (int_eq (side e.start e.end (point_at g.start)) (pos 0)) (int_eq (side e.start e.end (point_at g.end)) (pos 0)) f in
    record { start = equal_from (side e.start e.end (point_at g.start)) (pos 0) both.0; end = equal_from (side e.start e.end (point_at g.end)) (pos 0) both.1 }

-- a point within a piece is on the line of the piece's edge
pub inside_on_line : (es : List Edge) (ps : List Position) (c : Piece) (h : IsPiece es ps c) (x : Point) → Inside es ps c h x → side h.edge.start h.edge.end x ≡ pos 0
inside_on_line es ps c h x i = (on_parts h.edge x i.is_on).on_line

-- nothing on the line is strictly above a point of it
pub side_on_line : (es : List Edge) (ps : List Position) (c : Piece) (h : IsPiece es ps c) → Ends c → (g : Edge) (x : Point) → OneLine h.edge g → Inside es ps c h x → side g.start g.end x ≡ pos 0
side_on_line es ps c h d g x o i = side_is_area g.start g.end x ∙ area_on_line h.edge.start h.edge.end (point_at g.start) (point_at g.end) x (edge_is_wide es ps c h d) o.start o.end (inside_on_line es ps c h x i)

-- nor taken from its end to its start
side_back_on_line : (es : List Edge) (ps : List Position) (c : Piece) (h : IsPiece es ps c) → Ends c → (g : Edge) (x : Point) → OneLine h.edge g → Inside es ps c h x → side g.end g.start x ≡ pos 0
side_back_on_line es ps c h d g x o i = side_is_area g.end g.start x ∙ area_on_line h.edge.start h.edge.end (point_at g.end) (point_at g.start) x (edge_is_wide es ps c h d) o.end o.start (inside_on_line es ps c h x i)

-- so its side is 0 from left to right too
pub rightward_on_line : (es : List Edge) (ps : List Position) (c : Piece) (h : IsPiece es ps c) → Ends c → (g : Edge) (x : Point) → OneLine h.edge g → Inside es ps c h x → side_rightward g x ≡ pos 0
rightward_on_line es ps c h d g x o i = go (int_le g.start.x g.end.x)
  where
    go : (t : Bool) → (if t then side g.start g.end x else side g.end g.start x) ≡ pos 0
    go true = side_on_line es ps c h d g x o i
    go false = side_back_on_line es ps c h d g x o i

-- and the edge isn't strictly above the point
not_above_on_line : (es : List Edge) (ps : List Position) (c : Piece) (h : IsPiece es ps c) → Ends c → (g : Edge) (x : Point) → OneLine h.edge g → Inside es ps c h x → strictly_above g x ≡ false
not_above_on_line es ps c h d g x o i = ap (λ (z : ℤ). spans g x && int_lt z (pos 0)) (rightward_on_line es ps c h d g x o i) ∙ none (spans g x)
  where
    none : (b : Bool) → b && int_lt (pos 0) (pos 0) ≡ false
    none true = refl
    none false = refl

-- ---- from one point within the piece to another each edge adds what its ends add
-- an edge on the line is strictly above neither point, and any other is missed by the stretch between them
pub step_within : (es : List Edge) (ps : List Position) (c : Piece) (h : IsPiece es ps c) → Ends c → (g : Edge) (x y : Point) → Among g es → Inside es ps c h x → Inside es ps c h y → Step x y g
step_within es ps c h d g x y a i j = go (on_one_line h.edge g) refl
  where
    along : OneLine h.edge g → Step x y g
    along o = step_along x y g
        (area_on_line h.edge.start h.edge.end x y (point_at g.start) (edge_is_wide es ps c h d) (inside_on_line es ps c h x i) (inside_on_line es ps c h y j) o.start)
        (area_on_line h.edge.start h.edge.end x y (point_at g.end) (edge_is_wide es ps c h d) (inside_on_line es ps c h x i) (inside_on_line es ps c h y j) o.end)
        (not_above_on_line es ps c h d g x o i ∙ sym (not_above_on_line es ps c h d g y o j))

    go : (t : Bool) → on_one_line h.edge g ≡ t → Step x y g
    go true f = along (one_line h.edge g f)
    go false f = step_by_missing x y g i.is_point j.is_point (misses_within_piece es ps c h g x y a f i j)

-- ---- an end of an edge on the line is before all points within the piece, or after all
abbrev pub Apart : Point → Point → Point → Type 0
Apart u x y = ((compare u x ≡ Less) × (compare u y ≡ Less)) ⊎ ((compare x u ≡ Less) × (compare y u ≡ Less))

-- what is the same as a point before x is before x
less_by_same : (u v x : Point) → IsPoint u → IsPoint v → compare u v ≡ Equal → compare v x ≡ Less → compare u x ≡ Less
less_by_same u v x hu hv e f = compare_respects x u v hu hv ((equal_is_same u v).0 e) ∙ f

-- and what is the same as a point after x is after x
less_by_same_last : (u v x : Point) → IsPoint u → IsPoint v → compare u v ≡ Equal → compare x v ≡ Less → compare x u ≡ Less
less_by_same_last u v x hu hv e f = compare_reversed u x ∙ ap reversed (compare_respects x u v hu hv ((equal_is_same u v).0 e) ∙ compare_reversed x v ∙ ap reversed f)

-- the end is a cut, and no cut on the edge lies strictly between the ends of the piece
pub apart : (es : List Edge) (ps : List Position) (c : Piece) (h : IsPiece es ps c) → Ends c → (u : Point) → IsPoint u → side h.edge.start h.edge.end u ≡ pos 0 → IsCut es ps u → (x y : Point) → Inside es ps c h x → Inside es ps c h y → Apart u x y
apart es ps c h d u hu s k x y i j = go (compare u c.lesser) refl (compare u c.greater) refl
  where
    line_of : (p : Point) → on h.edge p ≡ true → side h.edge.start h.edge.end p ≡ pos 0
    line_of p f = (on_parts h.edge p f).on_line

    on_edge : compare c.lesser u ≡ Less → compare u c.greater ≡ Less → on h.edge u ≡ true
    on_edge f g = on_from_hull h.edge u (on_sum h.edge c.lesser c.greater u (hull_from_on h.edge c.lesser d.lesser h.lesser_on) (hull_from_on h.edge c.greater d.greater h.greater_on)
        (sum_between c.lesser c.greater u d.lesser d.greater hu (area_on_line h.edge.start h.edge.end c.lesser c.greater u (edge_is_wide es ps c h d) (line_of c.lesser h.lesser_on) (line_of c.greater h.greater_on) s) f g h.in_order))

    go : (o : Ordering) → compare u c.lesser ≡ o → (t : Ordering) → compare u c.greater ≡ t → Apart u x y
    go Less f t g = inl (less_transitive u c.lesser x hu d.lesser i.is_point f i.after, less_transitive u c.lesser y hu d.lesser j.is_point f j.after)
    go Equal f t g = inl (less_by_same u c.lesser x hu d.lesser f i.after, less_by_same u c.lesser y hu d.lesser f j.after)
    go Greater f Less g = absurd (h.neighbours u hu (on_edge (turn_less u c.lesser f) g) k (turn_less u c.lesser f) g)
    go Greater f Equal g = inr (less_by_same_last u c.greater x hu d.greater g i.before, less_by_same_last u c.greater y hu d.greater g j.before)
    go Greater f Greater g = inr (less_transitive x c.greater u i.is_point d.greater hu i.before (turn_less u c.greater g), less_transitive y c.greater u j.is_point d.greater hu j.before (turn_less u c.greater g))

pub same_end : (a : Position) → same_point (point_at a) (point_at a) ≡ true
same_end a = same_from (point_at a) (point_at a) refl refl

-- the start of an edge is a cut
pub start_is_cut : (es : List Edge) (ps : List Position) (g : Edge) → Among g es → IsCut es ps (point_at g.start)
start_is_cut es ps g a = AtEnd (position_is_point g.start) g (contains_of_among g es a) (or_left (same_point (point_at g.start) (point_at g.start)) (same_point (point_at g.end) (point_at g.start)) (same_end g.start))

-- and so is its end
pub end_is_cut : (es : List Edge) (ps : List Position) (g : Edge) → Among g es → IsCut es ps (point_at g.end)
end_is_cut es ps g a = AtEnd (position_is_point g.end) g (contains_of_among g es a) (or_right (same_point (point_at g.start) (point_at g.end)) (same_point (point_at g.end) (point_at g.end)) (same_end g.end))

-- ---- an edge holds all points within the piece or none
-- the start of an edge is a sum of its ends
pub hull_of_start : (g : Edge) → OnHull g (point_at g.start)
hull_of_start g = hull_from_on g (point_at g.start) (position_is_point g.start) (start_is_on g (point_at g.start) (position_is_point g.start) (same_end g.start))

-- and so is its end
pub hull_of_end : (g : Edge) → OnHull g (point_at g.end)
hull_of_end g = hull_from_on g (point_at g.end) (position_is_point g.end) (end_is_on g (point_at g.end) (position_is_point g.end) (same_end g.end))

-- a point of an edge isn't after both ends, nor before both
same_multiple : (k m a b n x w : ℤ) → k *ℤ x ≡ m *ℤ a +ℤ n *ℤ b → k *ℤ w ≡ m +ℤ n → (m *ℤ a +ℤ n *ℤ b) *ℤ w ≡ x *ℤ (m *ℤ pos 1 +ℤ n *ℤ pos 1)
same_multiple k m a b n x w e f = ap (λ (z : ℤ). z *ℤ w) (sym e) ∙ solve (k ∷ x ∷ w ∷ []) ((var 0 ⊗ var 1) ⊗ var 2) (var 1 ⊗ (var 0 ⊗ var 2)) tt ∙ ap (λ (z : ℤ). x *ℤ z) f ∙ solve (x ∷ m ∷ n ∷ []) (var 0 ⊗ (var 1 ⊕ var 2)) (var 0 ⊗ (var 1 ⊗ lit (pos 1) ⊕ var 2 ⊗ lit (pos 1))) tt

pub record Weighs (g : Edge) (x : Point) : Type 0 where
  pub m : ℕ
  pub n : ℕ
  pub some : 0 < m + n
  pub same : same_point (weighted m (point_at g.start) n (point_at g.end)) x ≡ true

-- a point of an edge is a weighted sum of its ends
pub weighs : (g : Edge) (x : Point) → IsPoint x → OnHull g x → Weighs g x
weighs g x hx o = go (natural o.m o.from_m) (natural o.n o.from_n)
  where
    total : (k w m n : ℤ) (s t : ℕ) → k *ℤ w ≡ m +ℤ n → m ≡ pos s → n ≡ pos t → pos 0 <ℤ (k *ℤ w) → 0 < s + t
    total k w m n s t e f g h = some (k *ℤ w) m n s t e f g h
      where
        some : (z m n : ℤ) (s t : ℕ) → z ≡ m +ℤ n → m ≡ pos s → n ≡ pos t → pos 0 <ℤ z → 0 < s + t
        some z m n s t e f g h = omega (arith, ints)

    coordinate : (s t : ℕ) → o.m ≡ pos s → o.n ≡ pos t → (a b y : ℤ) → o.k *ℤ y ≡ o.m *ℤ a +ℤ o.n *ℤ b → (pos s *ℤ a +ℤ pos t *ℤ b) *ℤ x.W ≡ y *ℤ (pos s *ℤ pos 1 +ℤ pos t *ℤ pos 1)
    coordinate s t e f a b y q = subst (λ (u : ℤ). (u *ℤ a +ℤ pos t *ℤ b) *ℤ x.W ≡ y *ℤ (u *ℤ pos 1 +ℤ pos t *ℤ pos 1)) e (subst (λ (v : ℤ). (o.m *ℤ a +ℤ v *ℤ b) *ℤ x.W ≡ y *ℤ (o.m *ℤ pos 1 +ℤ v *ℤ pos 1)) f (same_multiple o.k o.m a b o.n y x.W q o.w_is))

    go : Natural o.m → Natural o.n → Weighs g x
    go a b = record {
      m = a.n;
      n = b.n;
      some = total o.k x.W o.m o.n a.n b.n o.w_is a.is b.is (strict_plus_plus o.k x.W o.from_k hx);
      same = same_from (weighted a.n (point_at g.start) b.n (point_at g.end)) x (coordinate a.n b.n a.is b.is g.start.x g.end.x x.X o.x_is) (coordinate a.n b.n a.is b.is g.start.y g.end.y x.Y o.y_is);
    }

-- a point after both ends isn't on the edge, since all sums of the ends are before it
pub not_after_both : (g : Edge) (x : Point) → IsPoint x → compare (point_at g.start) x ≡ Less → compare (point_at g.end) x ≡ Less → on g x ≡ false
not_after_both g x hx e f = by_contraries (on g x) false (λ k. absurd (go (weighs g x hx (hull_from_on g x hx k)))) refl
  where
    go : Weighs g x → ⊥
    go w = not_less_self (weighted w.m (point_at g.start) w.n (point_at g.end)) x w.same (before_sum x w.m (point_at g.start) w.n (point_at g.end) w.some e f)

-- nor is one before both
pub not_before_both : (g : Edge) (x : Point) → IsPoint x → compare x (point_at g.start) ≡ Less → compare x (point_at g.end) ≡ Less → on g x ≡ false
not_before_both g x hx e f = by_contraries (on g x) false (λ k. absurd (go (weighs g x hx (hull_from_on g x hx k)))) refl
  where
    go : Weighs g x → ⊥
    go w = not_less_self x (weighted w.m (point_at g.start) w.n (point_at g.end)) (same_symmetric x (weighted w.m (point_at g.start) w.n (point_at g.end)) ∙ w.same) (after_sum x w.m (point_at g.start) w.n (point_at g.end) w.some e f)

-- a point on the line of an edge, after its start and before its end, is on the edge
on_between : (g : Edge) (x : Point) → IsPoint x → area (point_at g.start) (point_at g.end) x ≡ pos 0 → compare (point_at g.start) x ≡ Less → compare x (point_at g.end) ≡ Less → on g x ≡ true
on_between g x hx a e f = on_from_hull g x (on_sum g (point_at g.start) (point_at g.end) x (hull_of_start g) (hull_of_end g)
    (sum_between (point_at g.start) (point_at g.end) x (position_is_point g.start) (position_is_point g.end) hx a e f (less_transitive (point_at g.start) x (point_at g.end) (position_is_point g.start) hx (position_is_point g.end) e f)))

-- and so is one after its end and before its start
on_between_back : (g : Edge) (x : Point) → IsPoint x → area (point_at g.end) (point_at g.start) x ≡ pos 0 → compare (point_at g.end) x ≡ Less → compare x (point_at g.start) ≡ Less → on g x ≡ true
on_between_back g x hx a e f = on_from_hull g x (on_sum g (point_at g.end) (point_at g.start) x (hull_of_end g) (hull_of_start g)
    (sum_between (point_at g.end) (point_at g.start) x (position_is_point g.end) (position_is_point g.start) hx a e f (less_transitive (point_at g.end) x (point_at g.start) (position_is_point g.end) hx (position_is_point g.start) e f)))

-- an edge off the line holds neither point; one on it has each end before both or after both, so it holds both or neither
pub same_on : (es : List Edge) (ps : List Position) (c : Piece) (h : IsPiece es ps c) → Ends c → (g : Edge) (x y : Point) → Among g es → Inside es ps c h x → Inside es ps c h y → on g x ≡ on g y
same_on es ps c h d g x y a i j = decide (on_one_line h.edge g) refl
  where
    area_of : OneLine h.edge g → (z : Point) → Inside es ps c h z → area (point_at g.start) (point_at g.end) z ≡ pos 0
    area_of o z k = area_on_line h.edge.start h.edge.end (point_at g.start) (point_at g.end) z (edge_is_wide es ps c h d) o.start o.end (inside_on_line es ps c h z k)

    area_back : OneLine h.edge g → (z : Point) → Inside es ps c h z → area (point_at g.end) (point_at g.start) z ≡ pos 0
    area_back o z k = area_on_line h.edge.start h.edge.end (point_at g.end) (point_at g.start) z (edge_is_wide es ps c h d) o.end o.start (inside_on_line es ps c h z k)

    go : OneLine h.edge g → Apart (point_at g.start) x y → Apart (point_at g.end) x y → on g x ≡ on g y
    go o (inl s) (inl t) = not_after_both g x i.is_point s.0 t.0 ∙ sym (not_after_both g y j.is_point s.1 t.1)
    go o (inl s) (inr t) = on_between g x i.is_point (area_of o x i) s.0 t.0 ∙ sym (on_between g y j.is_point (area_of o y j) s.1 t.1)
    go o (inr s) (inl t) = on_between_back g x i.is_point (area_back o x i) t.0 s.0 ∙ sym (on_between_back g y j.is_point (area_back o y j) t.1 s.1)
    go o (inr s) (inr t) = not_before_both g x i.is_point s.0 t.0 ∙ sym (not_before_both g y j.is_point s.1 t.1)

    collinear : OneLine h.edge g → on g x ≡ on g y
    collinear o = go o
        (apart es ps c h d (point_at g.start) (position_is_point g.start) o.start (start_is_cut es ps g a) x y i j)
        (apart es ps c h d (point_at g.end) (position_is_point g.end) o.end (end_is_cut es ps g a) x y i j)

    decide : (t : Bool) → on_one_line h.edge g ≡ t → on g x ≡ on g y
    decide true f = collinear (one_line h.edge g f)
    decide false f = off_within es ps c h g x a f i ∙ sym (off_within es ps c h g y a f j)
