-- What is past a height is past a lesser one; lines and positions are past their own heights.
use Rattle.std.proofs.Common.{ℤ, pos, ◌+ℤ◌, ◌-ℤ◌, ◌*ℤ◌, ◌≤ℤ◌, ◌<ℤ◌, int_le, ◌≡◌, ◌⊎◌, inl, inr, true, ◌&&◌, ◌||◌, refl, sym, ap, ap₂, ◌∙◌, [], ◌∷◌, arith}
use borrow.Author.Differences.{ints}
use Rattle.std.specs.Ordering.{int_eq}
use Rattle.std.proofs.lemmas.Bool.{and_from}
use Rattle.geometry_model.specs.Points.{Position, Point, IsPoint, point_at}
use Rattle.geometry_model.specs.Geometries.{Edge}
use Rattle.geometry_model.specs.Sides.{side, on, between}
use Rattle.basics.proofs.Ring.{solve, var, lit, ◌⊕◌, ◌⊖◌, ◌⊗◌}
use Rattle.basics.proofs.Signs.{plus_plus, strict_plus_plus, cancel_nonnegative, cancel_positive, at_most_or_less, at_most_yes, zero_times}
use Rattle.basics.proofs.Quotients.{trans_at_most}
use Rattle.basics.proofs.Tests.{equal_yes}
use Rattle.basics.proofs.Orders.{weak_positive, between_cases, gap_weak, at_most_from_gap, gap_none}
use Rattle.geometry_laws.specs.CoverLaws.{IsStraightOver, IsNotUprightAt}
use Rattle.geometry_laws.proofs.RingParity.{position_is_point}
use Rattle.geometry_laws.proofs.LineSides.{side_turned}
use Rattle.geometry_laws.proofs.LineOrder.{up}
use Rattle.geometry_laws.proofs.Hulls.{OnHull, on_parts, hull_from_on, on_from_hull}
use Rattle.geometry_laws.proofs.Triangles.{dot_coordinate}
use Rattle.geometry_laws.proofs.VerticalLines.{side_along, straight_through}
use Rattle.witnesses.specs.declared.heights.Side.{Side}
use Rattle.witnesses.specs.declared.heights.Side.TheVariants.{Upper, Lower}
use Rattle.witnesses.specs.declared.heights.Height.{Height}
use Rattle.witnesses.specs.Heights.{ahead, IsAhead, IsPast, Keeps, ClearsEdge, ClearsPosition, IsHeight}

-- ---- a lesser height
none_left : (u : ℤ) (z : ℤ) → z ≡ pos 0 → z *ℤ u ≡ pos 0
none_left u z e = zero_times z u e

swap : (x y : ℤ) → x *ℤ y ≡ y *ℤ x
swap x y = solve (x ∷ y ∷ []) (var 0 ⊗ var 1) (var 1 ⊗ var 0) tt

by_swap : (a x y : ℤ) → a ≤ℤ (x *ℤ y) → a ≤ℤ (y *ℤ x)
by_swap a x y h = go (x *ℤ y) (y *ℤ x) (swap x y) h
  where
    go : (s t : ℤ) → s ≡ t → a ≤ℤ s → a ≤ℤ t
    go s t e h = omega (arith, ints)

-- g/r ≤ h/s in products, and h w ≤ s u, give g w ≤ r u
pub past : (g r h s w u : ℤ) → pos 0 <ℤ g → pos 0 ≤ℤ r → pos 0 <ℤ h → pos 0 ≤ℤ s → pos 0 <ℤ w → pos 0 <ℤ u → (g *ℤ s) ≤ℤ (h *ℤ r) → (h *ℤ w) ≤ℤ (s *ℤ u) → (g *ℤ w) ≤ℤ (r *ℤ u)
past g r h s w u hg hr hh hs hw hu l k = go (at_most_or_less s (pos 0)) (at_most_or_less r (pos 0))
  where
    nothing : (z : ℤ) → pos 0 ≤ℤ z → z ≤ℤ pos 0 → z ≡ pos 0
    nothing z h k = omega (arith, ints)

    clash : (x y : ℤ) → pos 0 <ℤ x → x ≤ℤ y → y ≡ pos 0 → ⊥
    clash x y h k e = omega (arith, ints)

    go : (s ≤ℤ pos 0) ⊎ (pos 0 <ℤ s) → (r ≤ℤ pos 0) ⊎ (pos 0 <ℤ r) → (g *ℤ w) ≤ℤ (r *ℤ u)
    go (inl a) b = absurd (clash (h *ℤ w) (s *ℤ u) (strict_plus_plus h w hh hw) k (none_left u s (nothing s hs a)))
    go (inr a) (inl b) = absurd (clash (g *ℤ s) (h *ℤ r) (strict_plus_plus g s hg a) l (swap h r ∙ none_left h r (nothing r hr b)))
    go (inr a) (inr b) = by_swap (g *ℤ w) u r (trans_at_most g r h s u w b a hw l (by_swap (h *ℤ w) s u k))

pub keeps_lesser : (side : Side) (p : Point) (h g : Height) → IsHeight h → IsHeight g → (g.rise *ℤ h.run) ≤ℤ (h.rise *ℤ g.run) → Keeps side p h g
keeps_lesser side p h g hh hg l z a k = past g.rise g.run h.rise h.run z.W (ahead side p z) hg.positive hg.forward hh.positive hh.forward a.is_point a.ahead l k

pub keeps_both : (side : Side) (p : Point) (h g f : Height) → Keeps side p h g → Keeps side p g f → Keeps side p h f
keeps_both side p h g f k l z a m = l z a (k z a m)

-- ---- a line over p: rise z.W is run times how far z is ahead
pub line_upper : (a b : Position) (p z : Point) (rise run : ℤ) → IsStraightOver z p → side a b z ≡ pos 0 → rise ≡ side b a p → run ≡ b.x -ℤ a.x → rise *ℤ z.W ≡ run *ℤ ahead Upper p z
line_upper a b p z rise run st on_line er eu = ap (λ (t : ℤ). t *ℤ z.W) (er ∙ side_turned a b p)
    ∙ numbers (side a b p) (side a b z) z.W p.W (b.x -ℤ a.x) (up p z) (side_along a b p z (sym st)) on_line ∙ ap (λ (t : ℤ). t *ℤ ahead Upper p z) (sym eu)
  where
    cancels : (s x y : ℤ) → s ≡ x +ℤ y → s ≡ pos 0 → pos 0 -ℤ x ≡ y
    cancels s x y e f = omega (arith, ints)

    numbers : (s t w v d u : ℤ) → t *ℤ v ≡ s *ℤ w +ℤ d *ℤ u → t ≡ pos 0 → (pos 0 -ℤ s) *ℤ w ≡ d *ℤ u
    numbers s t w v d u e f = solve (s ∷ w ∷ []) ((lit (pos 0) ⊖ var 0) ⊗ var 1) (lit (pos 0) ⊖ var 0 ⊗ var 1) tt ∙ cancels (t *ℤ v) (s *ℤ w) (d *ℤ u) e (zero_times t v f)

pub line_lower : (a b : Position) (p z : Point) (rise run : ℤ) → IsStraightOver z p → side a b z ≡ pos 0 → rise ≡ side a b p → run ≡ b.x -ℤ a.x → rise *ℤ z.W ≡ run *ℤ ahead Lower p z
line_lower a b p z rise run st on_line er eu = ap (λ (t : ℤ). t *ℤ z.W) er
    ∙ numbers (side a b p) (side a b z) z.W p.W (b.x -ℤ a.x) (z.Y *ℤ p.W) (p.Y *ℤ z.W) (side_along a b p z (sym st)) on_line ∙ ap (λ (t : ℤ). t *ℤ ahead Lower p z) (sym eu)
  where
    cancels : (s x y : ℤ) → s ≡ x +ℤ y → s ≡ pos 0 → x ≡ pos 0 -ℤ y
    cancels s x y e f = omega (arith, ints)

    numbers : (s t w v d y q : ℤ) → t *ℤ v ≡ s *ℤ w +ℤ d *ℤ (y -ℤ q) → t ≡ pos 0 → s *ℤ w ≡ d *ℤ (q -ℤ y)
    numbers s t w v d y q e f = cancels (t *ℤ v) (s *ℤ w) (d *ℤ (y -ℤ q)) e (zero_times t v f) ∙ solve (d ∷ y ∷ q ∷ []) (lit (pos 0) ⊖ var 0 ⊗ (var 1 ⊖ var 2)) (var 0 ⊗ (var 2 ⊖ var 1)) tt

pub line_of : (sd : Side) (a b : Position) (p z : Point) (rise run : ℤ) → (sd ≡ Upper → rise ≡ side b a p) → (sd ≡ Lower → rise ≡ side a b p) → run ≡ b.x -ℤ a.x → IsAhead sd p z → on (record { start = a; end = b }) z ≡ true → rise *ℤ z.W ≡ run *ℤ ahead sd p z
line_of Upper a b p z rise run eu el er i k = line_upper a b p z rise run i.straight ((on_parts (record { start = a; end = b }) z k).on_line) (eu refl) er
line_of Lower a b p z rise run eu el er i k = line_lower a b p z rise run i.straight ((on_parts (record { start = a; end = b }) z k).on_line) (el refl) er

-- ---- the edge from a to b, which goes to the right: past every height that is at most its own
pub clears_line : (side : Side) (p : Point) (a b : Position) (h : Height) (rise run : ℤ) → IsHeight h → pos 0 <ℤ run → (pos 0 <ℤ rise → (h.rise *ℤ run) ≤ℤ (rise *ℤ h.run))
    → ((z : Point) → IsAhead side p z → on (record { start = a; end = b }) z ≡ true → rise *ℤ z.W ≡ run *ℤ ahead side p z) → ClearsEdge side p h (record { start = a; end = b })
clears_line side p a b h rise run hh hr least line z i k = past h.rise h.run rise run z.W (ahead side p z) hh.positive hh.forward rises (weak_positive run hr) i.is_point i.ahead (least rises) (equal (rise *ℤ z.W) (run *ℤ ahead side p z) (line z i k))
  where
    equal : (x y : ℤ) → x ≡ y → x ≤ℤ y
    equal x y e = omega (arith, ints)

    above : (x y t : ℤ) → x ≡ y → pos 0 <ℤ y → x ≡ t → pos 0 <ℤ t
    above x y t e h f = omega (arith, ints)

    rises : pos 0 <ℤ rise
    rises = cancel_positive z.W rise (weak_positive z.W i.is_point) (above (rise *ℤ z.W) (run *ℤ ahead side p z) (z.W *ℤ rise) (line z i k) (strict_plus_plus run (ahead side p z) hr i.ahead) (swap rise z.W))

-- ---- an edge that p isn't under has no point straight ahead
carried : (s t : ℤ) → s ≡ t → pos 0 ≤ℤ t → pos 0 ≤ℤ s
carried s t e h = omega (arith, ints)

pub left_along : (x : ℤ) (p z : Point) → IsPoint p → IsPoint z → IsStraightOver z p → (x *ℤ z.W) ≤ℤ z.X → (x *ℤ p.W) ≤ℤ p.X
left_along x p z hp hz st h = at_most_from_gap (x *ℤ p.W) p.X (cancel_nonnegative z.W (p.X -ℤ x *ℤ p.W) hz (carried _ (p.W *ℤ (z.X -ℤ x *ℤ z.W))
    (solve (x ∷ p.X ∷ p.W ∷ z.W ∷ []) (var 3 ⊗ (var 1 ⊖ var 0 ⊗ var 2)) (var 1 ⊗ var 3 ⊖ var 0 ⊗ var 2 ⊗ var 3) tt ∙ ap (λ (t : ℤ). t -ℤ x *ℤ p.W *ℤ z.W) (sym st) ∙ solve (x ∷ z.X ∷ p.W ∷ z.W ∷ []) (var 1 ⊗ var 2 ⊖ var 0 ⊗ var 2 ⊗ var 3) (var 2 ⊗ (var 1 ⊖ var 0 ⊗ var 3)) tt)
    (plus_plus p.W (z.X -ℤ x *ℤ z.W) (weak_positive p.W hp) (gap_weak (x *ℤ z.W) z.X h))))

pub right_along : (x : ℤ) (p z : Point) → IsPoint p → IsPoint z → IsStraightOver z p → z.X ≤ℤ (x *ℤ z.W) → p.X ≤ℤ (x *ℤ p.W)
right_along x p z hp hz st h = at_most_from_gap p.X (x *ℤ p.W) (cancel_nonnegative z.W (x *ℤ p.W -ℤ p.X) hz (carried _ (p.W *ℤ (x *ℤ z.W -ℤ z.X))
    (solve (x ∷ p.X ∷ p.W ∷ z.W ∷ []) (var 3 ⊗ (var 0 ⊗ var 2 ⊖ var 1)) (var 0 ⊗ var 2 ⊗ var 3 ⊖ var 1 ⊗ var 3) tt ∙ ap (λ (t : ℤ). x *ℤ p.W *ℤ z.W -ℤ t) (sym st) ∙ solve (x ∷ z.X ∷ p.W ∷ z.W ∷ []) (var 0 ⊗ var 2 ⊗ var 3 ⊖ var 1 ⊗ var 2) (var 2 ⊗ (var 0 ⊗ var 3 ⊖ var 1)) tt)
    (plus_plus p.W (x *ℤ z.W -ℤ z.X) (weak_positive p.W hp) (gap_weak z.X (x *ℤ z.W) h))))

pub is_under : (p z : Point) (a b : Position) → IsPoint p → IsPoint z → IsStraightOver z p → a.x <ℤ b.x → on (record { start = a; end = b }) z ≡ true → int_le (a.x *ℤ p.W) p.X && int_le p.X (b.x *ℤ p.W) ≡ true
is_under p z a b hp hz st lr k = go (between_cases (a.x *ℤ z.W) (b.x *ℤ z.W) z.X ((on_parts (record { start = a; end = b }) z k).in_x))
  where
    backward : (b.x *ℤ z.W) ≤ℤ z.X → z.X ≤ℤ (a.x *ℤ z.W) → ⊥
    backward h k = clash (a.x *ℤ z.W) (b.x *ℤ z.W) z.X (z.W *ℤ (b.x -ℤ a.x)) (solve (a.x ∷ b.x ∷ z.W ∷ []) (var 1 ⊗ var 2 ⊖ var 0 ⊗ var 2) (var 2 ⊗ (var 1 ⊖ var 0)) tt) (strict_plus_plus z.W (b.x -ℤ a.x) hz (apart a.x b.x lr)) h k
      where
        apart : (x y : ℤ) → x <ℤ y → pos 0 <ℤ (y -ℤ x)
        apart x y h = omega (arith, ints)

        clash : (s t x d : ℤ) → t -ℤ s ≡ d → pos 0 <ℤ d → t ≤ℤ x → x ≤ℤ s → ⊥
        clash s t x d e h k l = omega (arith, ints)

    go : (((a.x *ℤ z.W) ≤ℤ z.X) × (z.X ≤ℤ (b.x *ℤ z.W))) ⊎ (((b.x *ℤ z.W) ≤ℤ z.X) × (z.X ≤ℤ (a.x *ℤ z.W))) → int_le (a.x *ℤ p.W) p.X && int_le p.X (b.x *ℤ p.W) ≡ true
    go (inl h) = and_from (int_le (a.x *ℤ p.W) p.X) (int_le p.X (b.x *ℤ p.W)) (at_most_yes (a.x *ℤ p.W) p.X (left_along a.x p z hp hz st h.0)) (at_most_yes p.X (b.x *ℤ p.W) (right_along b.x p z hp hz st h.1))
    go (inr h) = absurd (backward h.0 h.1)

-- ---- the same edge from its other end
pub on_turned : (a b : Position) (z : Point) → IsPoint z → on (record { start = b; end = a }) z ≡ true → on (record { start = a; end = b }) z ≡ true
on_turned a b z hz k = go (hull_from_on (record { start = b; end = a }) z hz k)
  where
    swapped : (x y : ℤ) → x +ℤ y ≡ y +ℤ x
    swapped x y = omega (arith, ints)

    go : OnHull (record { start = b; end = a }) z → on (record { start = a; end = b }) z ≡ true
    go o = on_from_hull (record { start = a; end = b }) z (record {
      k = o.k;
      m = o.n;
      n = o.m;
      from_k = o.from_k;
      from_m = o.from_n;
      from_n = o.from_m;
      x_is = o.x_is ∙ swapped (o.m *ℤ b.x) (o.n *ℤ a.x);
      y_is = o.y_is ∙ swapped (o.m *ℤ b.y) (o.n *ℤ a.y);
      w_is = o.w_is ∙ swapped o.m o.n;
    })

pub clears_turned : (side : Side) (p : Point) (h : Height) (a b : Position) → ClearsEdge side p h (record { start = b; end = a }) → ClearsEdge side p h (record { start = a; end = b })
clears_turned side p h a b c z i k = c z i (on_turned b a z i.is_point k)

-- ---- a position: past every height that is at most its own
pub clears_position : (side : Side) (p : Point) (a : Position) (h : Height) (rise run : ℤ) → rise ≡ ahead side p (point_at a) → run ≡ pos 1 → (pos 0 <ℤ rise → (h.rise *ℤ run) ≤ℤ (rise *ℤ h.run)) → ClearsPosition side p h a
clears_position side p a h rise run e f least i = go rise run e f least
  where
    go : (rise run : ℤ) → rise ≡ ahead side p (point_at a) → run ≡ pos 1 → (pos 0 <ℤ rise → (h.rise *ℤ run) ≤ℤ (rise *ℤ h.run)) → (h.rise *ℤ pos 1) ≤ℤ (h.run *ℤ ahead side p (point_at a))
    go rise run e f least = by_swap (h.rise *ℤ pos 1) (ahead side p (point_at a)) h.run (rw (e, f) at least i.ahead)

-- ---- a vertical edge
-- its points have its x
upright_x : (e : Edge) (z : Point) → IsPoint z → e.start.x ≡ e.end.x → on e z ≡ true → (e.start.x *ℤ z.W ≡ z.X *ℤ pos 1) × (e.end.x *ℤ z.W ≡ z.X *ℤ pos 1)
upright_x e z hz f k = go (hull_from_on e z hz k)
  where
    go : OnHull e z → (e.start.x *ℤ z.W ≡ z.X *ℤ pos 1) × (e.end.x *ℤ z.W ≡ z.X *ℤ pos 1)
    go o = (
      dot_coordinate o.k o.m o.n e.start.x z.X z.W o.from_k (o.x_is ∙ ap (λ (t : ℤ). o.m *ℤ e.start.x +ℤ o.n *ℤ t) (sym f)) o.w_is,
      dot_coordinate o.k o.m o.n e.end.x z.X z.W o.from_k (o.x_is ∙ ap (λ (t : ℤ). o.m *ℤ t +ℤ o.n *ℤ e.end.x) f) o.w_is,
    )

-- so both ends are straight over what its points are straight over
end_straight : (a : Position) (p z : Point) → IsPoint z → IsStraightOver z p → a.x *ℤ z.W ≡ z.X *ℤ pos 1 → IsStraightOver (point_at a) p
end_straight a p z hz st e = straight_through (point_at a) z p hz e st

-- a point straight over the edge, between its ends in y, is on it
upright_on : (e : Edge) (p : Point) → e.start.x ≡ e.end.x → IsStraightOver (point_at e.start) p → between e.start.y e.end.y p.Y p.W ≡ true → on e p ≡ true
upright_on e p f st k = and_from (int_eq (side e.start e.end p) (pos 0) && between e.start.x e.end.x p.X p.W) (between e.start.y e.end.y p.Y p.W)
    (and_from (int_eq (side e.start e.end p) (pos 0)) (between e.start.x e.end.x p.X p.W) (equal_yes (side e.start e.end p) (pos 0) flat) in_x) k
  where
    none : (x y : ℤ) → x ≡ y *ℤ pos 1 → y -ℤ x ≡ pos 0
    none x y e = omega (arith, ints)

    flat : side e.start e.end p ≡ pos 0
    flat = ap₂ (λ (s t : ℤ). s *ℤ (p.Y -ℤ e.start.y *ℤ p.W) -ℤ (e.end.y -ℤ e.start.y) *ℤ t) (gap_none e.start.x e.end.x f) (none (e.start.x *ℤ p.W) p.X st)
        ∙ solve ((p.Y -ℤ e.start.y *ℤ p.W) ∷ (e.end.y -ℤ e.start.y) ∷ []) (lit (pos 0) ⊗ var 0 ⊖ var 1 ⊗ lit (pos 0)) (lit (pos 0)) tt

    both : (s t x : ℤ) → s ≡ x *ℤ pos 1 → s ≡ t → (int_le s x && int_le x t) || (int_le t x && int_le x s) ≡ true
    both s t x e f = grind (arith, ints)

    in_x : between e.start.x e.end.x p.X p.W ≡ true
    in_x = both (e.start.x *ℤ p.W) (e.end.x *ℤ p.W) p.X st (ap (λ (t : ℤ). t *ℤ p.W) f)

-- z lies between the near end n and the far end f, seen from below or from above
abbrev IsAmid : Side → Position → Position → Point → Type 0
IsAmid Upper n f z = ((n.y *ℤ z.W) ≤ℤ z.Y) × (z.Y ≤ℤ (f.y *ℤ z.W))
IsAmid Lower n f z = (z.Y ≤ℤ (n.y *ℤ z.W)) × ((f.y *ℤ z.W) ≤ℤ z.Y)

-- the near end is no further ahead than z
near_end : (sd : Side) (p z : Point) (n f : Position) → IsPoint p → IsAmid sd n f z → (ahead sd p (point_at n) *ℤ z.W) ≤ℤ ahead sd p z
near_end Upper p z n f hp h = at_most_from_gap _ _ (carried (z.Y *ℤ p.W -ℤ p.Y *ℤ z.W -ℤ (n.y *ℤ p.W -ℤ p.Y *ℤ pos 1) *ℤ z.W) (p.W *ℤ (z.Y -ℤ n.y *ℤ z.W))
    (solve (n.y ∷ p.Y ∷ p.W ∷ z.Y ∷ z.W ∷ []) (var 3 ⊗ var 2 ⊖ var 1 ⊗ var 4 ⊖ (var 0 ⊗ var 2 ⊖ var 1 ⊗ lit (pos 1)) ⊗ var 4) (var 2 ⊗ (var 3 ⊖ var 0 ⊗ var 4)) tt)
    (plus_plus p.W (z.Y -ℤ n.y *ℤ z.W) (weak_positive p.W hp) (gap_weak (n.y *ℤ z.W) z.Y h.0)))
near_end Lower p z n f hp h = at_most_from_gap _ _ (carried (p.Y *ℤ z.W -ℤ z.Y *ℤ p.W -ℤ (p.Y *ℤ pos 1 -ℤ n.y *ℤ p.W) *ℤ z.W) (p.W *ℤ (n.y *ℤ z.W -ℤ z.Y))
    (solve (n.y ∷ p.Y ∷ p.W ∷ z.Y ∷ z.W ∷ []) (var 1 ⊗ var 4 ⊖ var 3 ⊗ var 2 ⊖ (var 1 ⊗ lit (pos 1) ⊖ var 0 ⊗ var 2) ⊗ var 4) (var 2 ⊗ (var 0 ⊗ var 4 ⊖ var 3)) tt)
    (plus_plus p.W (n.y *ℤ z.W -ℤ z.Y) (weak_positive p.W hp) (gap_weak z.Y (n.y *ℤ z.W) h.0)))

-- so what is past the near end's height, and with it z, is past
past_near : (r u w g a : ℤ) → pos 0 ≤ℤ u → pos 0 <ℤ w → (r *ℤ pos 1) ≤ℤ (u *ℤ g) → (g *ℤ w) ≤ℤ a → (r *ℤ w) ≤ℤ (u *ℤ a)
past_near r u w g a hu hw h k = at_most_from_gap (r *ℤ w) (u *ℤ a) (sum (u *ℤ a -ℤ r *ℤ w) (w *ℤ (u *ℤ g -ℤ r *ℤ pos 1)) (u *ℤ (a -ℤ g *ℤ w))
    (solve (r ∷ u ∷ w ∷ g ∷ a ∷ []) (var 1 ⊗ var 4 ⊖ var 0 ⊗ var 2) (var 2 ⊗ (var 1 ⊗ var 3 ⊖ var 0 ⊗ lit (pos 1)) ⊕ var 1 ⊗ (var 4 ⊖ var 3 ⊗ var 2)) tt)
    (plus_plus w (u *ℤ g -ℤ r *ℤ pos 1) (weak_positive w hw) (gap_weak (r *ℤ pos 1) (u *ℤ g) h)) (plus_plus u (a -ℤ g *ℤ w) hu (gap_weak (g *ℤ w) a k)))
  where
    sum : (d x y : ℤ) → d ≡ x +ℤ y → pos 0 ≤ℤ x → pos 0 ≤ℤ y → pos 0 ≤ℤ d
    sum d x y e h k = omega (arith, ints)

-- where the near end isn't ahead, p is between the two ends
amid : (n f : ℤ) (p z : Point) → IsPoint p → IsPoint z → (n *ℤ p.W) ≤ℤ (p.Y *ℤ pos 1) → pos 0 <ℤ (z.Y *ℤ p.W -ℤ p.Y *ℤ z.W) → z.Y ≤ℤ (f *ℤ z.W) → ((n *ℤ p.W) ≤ℤ p.Y) × (p.Y ≤ℤ (f *ℤ p.W))
amid n f p z hp hz h k l = (
  one (n *ℤ p.W) p.Y h,
  at_most_from_gap p.Y (f *ℤ p.W) (cancel_nonnegative z.W (f *ℤ p.W -ℤ p.Y) hz (sum _ (p.W *ℤ (f *ℤ z.W -ℤ z.Y)) (z.Y *ℤ p.W -ℤ p.Y *ℤ z.W)
      (solve (f ∷ p.Y ∷ p.W ∷ z.Y ∷ z.W ∷ []) (var 4 ⊗ (var 0 ⊗ var 2 ⊖ var 1)) (var 2 ⊗ (var 0 ⊗ var 4 ⊖ var 3) ⊕ (var 3 ⊗ var 2 ⊖ var 1 ⊗ var 4)) tt)
      (plus_plus p.W (f *ℤ z.W -ℤ z.Y) (weak_positive p.W hp) (gap_weak z.Y (f *ℤ z.W) l)) k)),
)
  where
    one : (x y : ℤ) → x ≤ℤ (y *ℤ pos 1) → x ≤ℤ y
    one x y h = omega (arith, ints)

    sum : (d x y : ℤ) → d ≡ x +ℤ y → pos 0 ≤ℤ x → pos 0 <ℤ y → pos 0 ≤ℤ d
    sum d x y e h k = omega (arith, ints)

amid_below : (n f : ℤ) (p z : Point) → IsPoint p → IsPoint z → (p.Y *ℤ pos 1) ≤ℤ (n *ℤ p.W) → pos 0 <ℤ (p.Y *ℤ z.W -ℤ z.Y *ℤ p.W) → (f *ℤ z.W) ≤ℤ z.Y → ((f *ℤ p.W) ≤ℤ p.Y) × (p.Y ≤ℤ (n *ℤ p.W))
amid_below n f p z hp hz h k l = (
  at_most_from_gap (f *ℤ p.W) p.Y (cancel_nonnegative z.W (p.Y -ℤ f *ℤ p.W) hz (sum _ (p.W *ℤ (z.Y -ℤ f *ℤ z.W)) (p.Y *ℤ z.W -ℤ z.Y *ℤ p.W)
      (solve (f ∷ p.Y ∷ p.W ∷ z.Y ∷ z.W ∷ []) (var 4 ⊗ (var 1 ⊖ var 0 ⊗ var 2)) (var 2 ⊗ (var 3 ⊖ var 0 ⊗ var 4) ⊕ (var 1 ⊗ var 4 ⊖ var 3 ⊗ var 2)) tt)
      (plus_plus p.W (z.Y -ℤ f *ℤ z.W) (weak_positive p.W hp) (gap_weak (f *ℤ z.W) z.Y l)) k)),
  one p.Y (n *ℤ p.W) h,
)
  where
    one : (x y : ℤ) → (x *ℤ pos 1) ≤ℤ y → x ≤ℤ y
    one x y h = omega (arith, ints)

    sum : (d x y : ℤ) → d ≡ x +ℤ y → pos 0 ≤ℤ x → pos 0 <ℤ y → pos 0 ≤ℤ d
    sum d x y e h k = omega (arith, ints)

-- p is between the two ends in y, whichever comes first
abbrev Amid : Position → Position → Point → Type 0
Amid n f p = (((n.y *ℤ p.W) ≤ℤ p.Y) × (p.Y ≤ℤ (f.y *ℤ p.W))) ⊎ (((f.y *ℤ p.W) ≤ℤ p.Y) × (p.Y ≤ℤ (n.y *ℤ p.W)))

is_amid : (sd : Side) (p z : Point) (n f : Position) → IsPoint p → IsAhead sd p z → IsAmid sd n f z → ahead sd p (point_at n) ≤ℤ pos 0 → Amid n f p
is_amid Upper p z n f hp i h k = inl (amid n.y f.y p z hp i.is_point (under (n.y *ℤ p.W) (p.Y *ℤ pos 1) k) i.ahead h.1)
  where
    under : (x y : ℤ) → (x -ℤ y) ≤ℤ pos 0 → x ≤ℤ y
    under x y h = omega (arith, ints)
is_amid Lower p z n f hp i h k = inr (amid_below n.y f.y p z hp i.is_point (under (p.Y *ℤ pos 1) (n.y *ℤ p.W) k) i.ahead h.1)
  where
    under : (x y : ℤ) → (x -ℤ y) ≤ℤ pos 0 → x ≤ℤ y
    under x y h = omega (arith, ints)

between_of : (a b x : ℤ) → ((a ≤ℤ x) × (x ≤ℤ b)) ⊎ ((b ≤ℤ x) × (x ≤ℤ a)) → (int_le a x && int_le x b) || (int_le b x && int_le x a) ≡ true
between_of a b x (inl h) = grind (arith, ints, h.0, h.1)
between_of a b x (inr h) = grind (arith, ints, h.0, h.1)

swap_cases : {A B : Type 0} → A ⊎ B → B ⊎ A
swap_cases (inl a) = inr a
swap_cases (inr b) = inl b

-- a vertical edge that p isn't on is past a height that both its ends are past
pub clears_upright : (sd : Side) (p : Point) (e : Edge) (h : Height) → IsHeight h → IsPoint p → e.start.x ≡ e.end.x → IsNotUprightAt p e → ClearsPosition sd p h e.start → ClearsPosition sd p h e.end → ClearsEdge sd p h e
clears_upright sd p e h hh hp f not_upright cs ce z i k = cases sd refl (between_cases (e.start.y *ℤ z.W) (e.end.y *ℤ z.W) z.Y ((on_parts e z k).in_y))
  where
    xs : (e.start.x *ℤ z.W ≡ z.X *ℤ pos 1) × (e.end.x *ℤ z.W ≡ z.X *ℤ pos 1)
    xs = upright_x e z i.is_point f k

    start_straight : IsStraightOver (point_at e.start) p
    start_straight = end_straight e.start p z i.is_point i.straight xs.0

    end_is_straight : IsStraightOver (point_at e.end) p
    end_is_straight = end_straight e.end p z i.is_point i.straight xs.1

    at : (n far : Position) → IsStraightOver (point_at n) p → ClearsPosition sd p h n → (Amid n far p → ⊥) → IsAmid sd n far z → IsPast sd p h z
    at n far st clear none am = go (at_most_or_less (ahead sd p (point_at n)) (pos 0))
      where
        go : (ahead sd p (point_at n) ≤ℤ pos 0) ⊎ (pos 0 <ℤ ahead sd p (point_at n)) → IsPast sd p h z
        go (inl l) = absurd (none (is_amid sd p z n far hp i am l))
        go (inr l) = past_near h.rise h.run z.W (ahead sd p (point_at n)) (ahead sd p z) hh.forward i.is_point (clear (record { is_point = position_is_point n; straight = st; ahead = l })) (near_end sd p z n far hp am)

    first : Amid e.start e.end p → ⊥
    first a = not_upright (upright_on e p f start_straight (between_of (e.start.y *ℤ p.W) (e.end.y *ℤ p.W) p.Y a)) f

    second : Amid e.end e.start p → ⊥
    second a = not_upright (upright_on e p f start_straight (between_of (e.start.y *ℤ p.W) (e.end.y *ℤ p.W) p.Y (swap_cases a))) f

    cases : (t : Side) → sd ≡ t → (((e.start.y *ℤ z.W) ≤ℤ z.Y) × (z.Y ≤ℤ (e.end.y *ℤ z.W))) ⊎ (((e.end.y *ℤ z.W) ≤ℤ z.Y) × (z.Y ≤ℤ (e.start.y *ℤ z.W))) → IsPast sd p h z
    cases Upper q (inl g) = at e.start e.end start_straight cs first (let w : IsAmid Upper e.start e.end z = (g.0, g.1) in rw q w)
    cases Upper q (inr g) = at e.end e.start end_is_straight ce second (let w : IsAmid Upper e.end e.start z = (g.0, g.1) in rw q w)
    cases Lower q (inl g) = at e.end e.start end_is_straight ce second (let w : IsAmid Lower e.end e.start z = (g.1, g.0) in rw q w)
    cases Lower q (inr g) = at e.start e.end start_straight cs first (let w : IsAmid Lower e.start e.end z = (g.1, g.0) in rw q w)

-- the edge of two positions that are its ends is it
pub same_edge : (e : Edge) (a b : Position) → a ≡ e.start → b ≡ e.end → record { start = a; end = b } ≡ e
same_edge e a b f g = λ i. record { start = f i; end = g i }
