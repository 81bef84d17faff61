-- Two edges not on one line that share a point: the point at which their lines meet is that point.
use Rattle.std.proofs.Common.{◌≡◌, ◌≢◌, Bool, true, false, ◌&&◌, sym, ap, ap₂, ◌∙◌, arith, [], ◌∷◌, ℤ, pos, ◌+ℤ◌, ◌-ℤ◌, ◌*ℤ◌, ◌<ℤ◌}
use borrow.Author.Differences.{ints}
use Rattle.std.specs.Ordering.{int_eq}
use Rattle.std.proofs.lemmas.Bool.{and_from}
use Rattle.basics.proofs.Ring.{solve, var, lit, ◌⊕◌, ◌⊖◌, ◌⊗◌}
use Rattle.basics.proofs.Signs.{cancel_zero, strict_plus_plus}
use Rattle.basics.proofs.Tests.{equal_yes}
use Rattle.basics.proofs.Orders.{no_difference}
use Rattle.geometry_model.specs.Points.{Position, Point, IsPoint, point_at}
use Rattle.geometry_model.specs.Geometries.{Edge}
use Rattle.geometry_model.specs.Sides.{side, on, on_one_line}
use Rattle.geometry_laws.proofs.Hulls.{OnHull, hull_from_on, on_parts}

-- the side of p, which is a sum of c and d with weights, is the sum of their sides
side_of_sum : (a b c d : Position) (p : Point) (k m n : ℤ) → k *ℤ p.X ≡ m *ℤ c.x +ℤ n *ℤ d.x → k *ℤ p.Y ≡ m *ℤ c.y +ℤ n *ℤ d.y → k *ℤ p.W ≡ m +ℤ n
    → k *ℤ side a b p ≡ m *ℤ side a b (point_at c) +ℤ n *ℤ side a b (point_at d)
side_of_sum a b c d p k m n ex ey ew =
    solve (a.x ∷ a.y ∷ b.x ∷ b.y ∷ p.X ∷ p.Y ∷ p.W ∷ k ∷ []) (var 7 ⊗ ((var 2 ⊖ var 0) ⊗ (var 5 ⊖ var 1 ⊗ var 6) ⊖ (var 3 ⊖ var 1) ⊗ (var 4 ⊖ var 0 ⊗ var 6)))
    ((var 2 ⊖ var 0) ⊗ (var 7 ⊗ var 5 ⊖ var 1 ⊗ (var 7 ⊗ var 6)) ⊖ (var 3 ⊖ var 1) ⊗ (var 7 ⊗ var 4 ⊖ var 0 ⊗ (var 7 ⊗ var 6))) tt
    ∙ ap (λ (x : ℤ). (b.x -ℤ a.x) *ℤ (k *ℤ p.Y -ℤ a.y *ℤ (k *ℤ p.W)) -ℤ (b.y -ℤ a.y) *ℤ (x -ℤ a.x *ℤ (k *ℤ p.W))) ex
    ∙ ap (λ (y : ℤ). (b.x -ℤ a.x) *ℤ (y -ℤ a.y *ℤ (k *ℤ p.W)) -ℤ (b.y -ℤ a.y) *ℤ ((m *ℤ c.x +ℤ n *ℤ d.x) -ℤ a.x *ℤ (k *ℤ p.W))) ey
    ∙ ap (λ (w : ℤ). (b.x -ℤ a.x) *ℤ ((m *ℤ c.y +ℤ n *ℤ d.y) -ℤ a.y *ℤ w) -ℤ (b.y -ℤ a.y) *ℤ ((m *ℤ c.x +ℤ n *ℤ d.x) -ℤ a.x *ℤ w)) ew
    ∙ solve (a.x ∷ a.y ∷ b.x ∷ b.y ∷ c.x ∷ c.y ∷ d.x ∷ d.y ∷ m ∷ n ∷ [])
    ((var 2 ⊖ var 0) ⊗ ((var 8 ⊗ var 5 ⊕ var 9 ⊗ var 7) ⊖ var 1 ⊗ (var 8 ⊕ var 9)) ⊖ (var 3 ⊖ var 1) ⊗ ((var 8 ⊗ var 4 ⊕ var 9 ⊗ var 6) ⊖ var 0 ⊗ (var 8 ⊕ var 9)))
    (var 8 ⊗ ((var 2 ⊖ var 0) ⊗ (var 5 ⊖ var 1 ⊗ lit (pos 1)) ⊖ (var 3 ⊖ var 1) ⊗ (var 4 ⊖ var 0 ⊗ lit (pos 1)))
    ⊕ var 9 ⊗ ((var 2 ⊖ var 0) ⊗ (var 7 ⊖ var 1 ⊗ lit (pos 1)) ⊖ (var 3 ⊖ var 1) ⊗ (var 6 ⊖ var 0 ⊗ lit (pos 1)))) tt

-- one coordinate x/w of p, which is a sum of a and b, and that of the meeting point by the sides s and t
coordinate : (k m n s t a b x w : ℤ) → k *ℤ x ≡ m *ℤ a +ℤ n *ℤ b → k *ℤ w ≡ m +ℤ n → k *ℤ ((s *ℤ b -ℤ t *ℤ a) *ℤ w -ℤ x *ℤ (s -ℤ t)) ≡ (m *ℤ s +ℤ n *ℤ t) *ℤ (b -ℤ a)
coordinate k m n s t a b x w e f =
    solve (k ∷ s ∷ t ∷ a ∷ b ∷ x ∷ w ∷ []) (var 0 ⊗ ((var 1 ⊗ var 4 ⊖ var 2 ⊗ var 3) ⊗ var 6 ⊖ var 5 ⊗ (var 1 ⊖ var 2))) ((var 1 ⊗ var 4 ⊖ var 2 ⊗ var 3) ⊗ (var 0 ⊗ var 6) ⊖ (var 0 ⊗ var 5) ⊗ (var 1 ⊖ var 2)) tt
    ∙ ap₂ (λ (y v : ℤ). (s *ℤ b -ℤ t *ℤ a) *ℤ v -ℤ y *ℤ (s -ℤ t)) e f
    ∙ solve (m ∷ n ∷ s ∷ t ∷ a ∷ b ∷ []) ((var 2 ⊗ var 5 ⊖ var 3 ⊗ var 4) ⊗ (var 0 ⊕ var 1) ⊖ (var 0 ⊗ var 4 ⊕ var 1 ⊗ var 5) ⊗ (var 2 ⊖ var 3)) ((var 0 ⊗ var 2 ⊕ var 1 ⊗ var 3) ⊗ (var 5 ⊖ var 4)) tt

-- where the weighted sum of both sides is 0, the coordinates agree
agrees : (k m n s t a b x w : ℤ) → pos 0 <ℤ k → k *ℤ x ≡ m *ℤ a +ℤ n *ℤ b → k *ℤ w ≡ m +ℤ n → m *ℤ s +ℤ n *ℤ t ≡ pos 0 → (s *ℤ b -ℤ t *ℤ a) *ℤ w ≡ x *ℤ (s -ℤ t)
agrees k m n s t a b x w h e f z = no_difference _ _ (cancel_zero k _ h (coordinate k m n s t a b x w e f ∙ ap (λ (y : ℤ). y *ℤ (b -ℤ a)) z ∙ nothing (b -ℤ a)))
  where
    nothing : (y : ℤ) → pos 0 *ℤ y ≡ pos 0
    nothing y = omega (arith, ints)

-- equal sides of both ends are 0, where their sum with weights is
equal_sides : (k m n s t w : ℤ) → pos 0 <ℤ k → pos 0 <ℤ w → k *ℤ w ≡ m +ℤ n → m *ℤ s +ℤ n *ℤ t ≡ pos 0 → s -ℤ t ≡ pos 0 → (s ≡ pos 0) × (t ≡ pos 0)
equal_sides k m n s t w hk hw f z e = (s_is, turned s t e s_is)
  where
    turned : (y v : ℤ) → y -ℤ v ≡ pos 0 → y ≡ pos 0 → v ≡ pos 0
    turned y v g h = omega (arith, ints)

    same : (y v : ℤ) → y -ℤ v ≡ pos 0 → v ≡ y
    same y v g = omega (arith, ints)

    s_is : s ≡ pos 0
    s_is = cancel_zero (k *ℤ w) s (strict_plus_plus k w hk hw) (ap (λ (y : ℤ). y *ℤ s) f ∙ solve (m ∷ n ∷ s ∷ []) ((var 0 ⊕ var 1) ⊗ var 2) (var 0 ⊗ var 2 ⊕ var 1 ⊗ var 2) tt
        ∙ ap (λ (y : ℤ). m *ℤ s +ℤ n *ℤ y) (sym (same s t e)) ∙ z)

-- the meeting point before it is turned
abbrev pub before_turning : Edge → Edge → Point
before_turning e f = record {
  X = side e.start e.end (point_at f.start) *ℤ f.end.x -ℤ side e.start e.end (point_at f.end) *ℤ f.start.x;
  Y = side e.start e.end (point_at f.start) *ℤ f.end.y -ℤ side e.start e.end (point_at f.end) *ℤ f.start.y;
  W = side e.start e.end (point_at f.start) -ℤ side e.start e.end (point_at f.end);
}

pub record SharesPoint (e f : Edge) (p : Point) : Type 0 where
  pub x_is : (before_turning e f).X *ℤ p.W ≡ p.X *ℤ (before_turning e f).W
  pub y_is : (before_turning e f).Y *ℤ p.W ≡ p.Y *ℤ (before_turning e f).W
  pub w_is_not : (before_turning e f).W ≢ pos 0

-- a test that fails, and what would make it pass
not_both : (a b : Bool) → (a && b) ≡ false → (a ≡ true) → (b ≡ true) → ⊥
not_both a b e g h = let k : true ≡ false = sym (and_from a b g h) ∙ e in cc

-- the shared point is a weighted sum of f's ends and its side of e is 0, so the same weights give the meeting point;
-- were both sides equal, both would be 0 and the edges on one line
pub shares_point : (e f : Edge) (p : Point) → IsPoint p → on_one_line e f ≡ false → on e p ≡ true → on f p ≡ true → SharesPoint e f p
shares_point e f p hp apart he hf = record {
  x_is = agrees h.k h.m h.n s t f.start.x f.end.x p.X p.W h.from_k h.x_is h.w_is sides;
  y_is = agrees h.k h.m h.n s t f.start.y f.end.y p.Y p.W h.from_k h.y_is h.w_is sides;
  w_is_not = λ z. both_zero (equal_sides h.k h.m h.n s t p.W h.from_k hp h.w_is sides z);
}
  where
    s : ℤ
    s = side e.start e.end (point_at f.start)

    t : ℤ
    t = side e.start e.end (point_at f.end)

    h : OnHull f p
    h = hull_from_on f p hp hf

    times_nothing : (k z : ℤ) → z ≡ pos 0 → k *ℤ z ≡ pos 0
    times_nothing k z g = ap (λ (y : ℤ). k *ℤ y) g ∙ solve (k ∷ []) (var 0 ⊗ lit (pos 0)) (lit (pos 0)) tt

    sides : h.m *ℤ s +ℤ h.n *ℤ t ≡ pos 0
    sides = sym (side_of_sum e.start e.end f.start f.end p h.k h.m h.n h.x_is h.y_is h.w_is) ∙ times_nothing h.k (side e.start e.end p) ((on_parts e p he).on_line)

    both_zero : (s ≡ pos 0) × (t ≡ pos 0) → ⊥
    both_zero g = not_both (int_eq s (pos 0)) (int_eq t (pos 0)) apart (equal_yes s (pos 0) g.0) (equal_yes t (pos 0) g.1)
