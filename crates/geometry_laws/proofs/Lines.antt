-- Lines as linear forms: above 0 on one side, below 0 on the other.
use Rattle.std.proofs.Common.{ℕ, ◌+◌, ◌<◌, ℤ, pos, ◌+ℤ◌, ◌-ℤ◌, ◌*ℤ◌, ◌≤ℤ◌, ◌<ℤ◌, int_le, ◌≡◌, ◌⊎◌, inl, inr, Bool, true, false, ◌&&◌, ◌||◌, refl, sym, ap, ap₂, ◌∙◌, [], ◌∷◌, arith}
use borrow.Author.Differences.{ints}
use Rattle.std.specs.Ordering.{int_eq}
use lib.Signed.{≤ℤ_refl}
use Rattle.geometry_model.specs.Points.{Position, Point, IsPoint, point_at}
use Rattle.geometry_model.specs.Geometries.{Edge}
use Rattle.geometry_model.specs.Sides.{side, on, between}
use Rattle.geometry_model.specs.Dimensions.{weighted, weighted_three}
use Rattle.basics.proofs.Ring.{solve, var, lit, ◌⊕◌, ◌⊖◌, ◌⊗◌}
use Rattle.basics.proofs.Signs.{plus_plus, plus_minus, strict_plus_plus, at_most_or_less, three_ways}
use Rattle.basics.proofs.Tests.{not_equal_from}
use Rattle.basics.proofs.Orders.{weak_positive, natural_weak, sum_last_positive, sum_first_positive, less_weak, positive_same}
use Rattle.geometry_laws.specs.CoverLaws.{Line, value}
use Rattle.geometry_laws.proofs.LineSides.{side', side_turned}
use Rattle.geometry_laws.proofs.Hulls.{OnHull, hull_from_on}

-- ---- at sums
-- the value of a line at a weighted sum of two points is the weighted sum of its values at them
pub value_weighted : (l : Line) (m : ℕ) (p : Point) (n : ℕ) (q : Point) → value l (weighted m p n q) ≡ pos m *ℤ value l p +ℤ pos n *ℤ value l q
value_weighted l m p n q = solve (l.a ∷ l.b ∷ l.c ∷ p.X ∷ p.Y ∷ p.W ∷ q.X ∷ q.Y ∷ q.W ∷ pos m ∷ pos n ∷ [])
    (var 0 ⊗ (var 9 ⊗ var 3 ⊕ var 10 ⊗ var 6) ⊕ var 1 ⊗ (var 9 ⊗ var 4 ⊕ var 10 ⊗ var 7) ⊕ var 2 ⊗ (var 9 ⊗ var 5 ⊕ var 10 ⊗ var 8))
    (var 9 ⊗ (var 0 ⊗ var 3 ⊕ var 1 ⊗ var 4 ⊕ var 2 ⊗ var 5) ⊕ var 10 ⊗ (var 0 ⊗ var 6 ⊕ var 1 ⊗ var 7 ⊕ var 2 ⊗ var 8)) tt

-- and at one of three points
pub value_weighted_three : (l : Line) (k : ℕ) (p : Point) (m : ℕ) (q : Point) (n : ℕ) (r : Point) → value l (weighted_three k p m q n r) ≡ pos k *ℤ value l p +ℤ pos m *ℤ value l q +ℤ pos n *ℤ value l r
value_weighted_three l k p m q n r = solve (l.a ∷ l.b ∷ l.c ∷ p.X ∷ p.Y ∷ p.W ∷ q.X ∷ q.Y ∷ q.W ∷ r.X ∷ r.Y ∷ r.W ∷ pos k ∷ pos m ∷ pos n ∷ [])
    (var 0 ⊗ (var 12 ⊗ var 3 ⊕ var 13 ⊗ var 6 ⊕ var 14 ⊗ var 9) ⊕ var 1 ⊗ (var 12 ⊗ var 4 ⊕ var 13 ⊗ var 7 ⊕ var 14 ⊗ var 10) ⊕ var 2 ⊗ (var 12 ⊗ var 5 ⊕ var 13 ⊗ var 8 ⊕ var 14 ⊗ var 11))
    (var 12 ⊗ (var 0 ⊗ var 3 ⊕ var 1 ⊗ var 4 ⊕ var 2 ⊗ var 5) ⊕ var 13 ⊗ (var 0 ⊗ var 6 ⊕ var 1 ⊗ var 7 ⊕ var 2 ⊗ var 8) ⊕ var 14 ⊗ (var 0 ⊗ var 9 ⊕ var 1 ⊗ var 10 ⊕ var 2 ⊗ var 11)) tt

-- a sum with natural weights, not all 0, of numbers above 0
pub sum_positive : (m n : ℕ) (x y : ℤ) → 0 < m + n → pos 0 <ℤ x → pos 0 <ℤ y → pos 0 <ℤ (pos m *ℤ x +ℤ pos n *ℤ y)
sum_positive m n x y h hx hy = go (at_most_or_less (pos m) (pos 0))
  where
    rest : (m n : ℕ) → 0 < m + n → pos m ≤ℤ pos 0 → pos 0 <ℤ pos n
    rest m n h k = omega (arith, ints)

    go : (pos m ≤ℤ pos 0) ⊎ (pos 0 <ℤ pos m) → pos 0 <ℤ (pos m *ℤ x +ℤ pos n *ℤ y)
    go (inl k) = sum_last_positive (pos m *ℤ x) (pos n *ℤ y) (plus_plus (pos m) x (natural_weak m) (weak_positive x hx)) (strict_plus_plus (pos n) y (rest m n h k) hy)
    go (inr k) = sum_first_positive (pos m *ℤ x) (pos n *ℤ y) (strict_plus_plus (pos m) x k hx) (plus_plus (pos n) y (natural_weak n) (weak_positive y hy))

-- and of three
pub sum_positive_three : (k m n : ℕ) (x y z : ℤ) → 0 < k + m + n → pos 0 <ℤ x → pos 0 <ℤ y → pos 0 <ℤ z → pos 0 <ℤ (pos k *ℤ x +ℤ pos m *ℤ y +ℤ pos n *ℤ z)
sum_positive_three k m n x y z h hx hy hz = go (at_most_or_less (pos n) (pos 0))
  where
    last : (s t r : ℤ) → pos 0 ≤ℤ s → pos 0 ≤ℤ t → pos 0 <ℤ r → pos 0 <ℤ (s +ℤ t +ℤ r)
    last s t r h k l = omega (arith, ints)

    rest : (m n : ℕ) → 0 < m + n → pos n ≤ℤ pos 0 → 0 < m
    rest m n h k = omega (arith, ints)

    go : (pos n ≤ℤ pos 0) ⊎ (pos 0 <ℤ pos n) → pos 0 <ℤ (pos k *ℤ x +ℤ pos m *ℤ y +ℤ pos n *ℤ z)
    go (inl l) = sum_first_positive (pos k *ℤ x +ℤ pos m *ℤ y) (pos n *ℤ z) (sum_positive k m x y (rest (k + m) n h l) hx hy) (plus_plus (pos n) z (natural_weak n) (weak_positive z hz))
    go (inr l) = last (pos k *ℤ x) (pos m *ℤ y) (pos n *ℤ z) (plus_plus (pos k) x (natural_weak k) (weak_positive x hx)) (plus_plus (pos m) y (natural_weak m) (weak_positive y hy)) (strict_plus_plus (pos n) z l hz)

-- a weighted sum of points is a point where not all weights are 0: its denominator is above 0
pub weighted_is_point : (m : ℕ) (p : Point) (n : ℕ) (q : Point) → IsPoint p → IsPoint q → 0 < m + n → IsPoint (weighted m p n q)
weighted_is_point m p n q hp hq h = sum_positive m n p.W q.W h hp hq

-- and of three points
pub weighted_three_is_point : (k : ℕ) (p : Point) (m : ℕ) (q : Point) (n : ℕ) (r : Point) → IsPoint p → IsPoint q → IsPoint r → 0 < k + m + n → IsPoint (weighted_three k p m q n r)
weighted_three_is_point k p m q n r hp hq hr h = sum_positive_three k m n p.W q.W r.W h hp hq hr

-- ---- a line that parts a point from an edge
pub record Parts (e : Edge) (l : Line) : Type 0 where
  pub at_start : value l (point_at e.start) ≤ℤ pos 0
  pub at_end : value l (point_at e.end) ≤ℤ pos 0

pub record Parted (e : Edge) (p : Point) : Type 0 where
  pub line : Line
  pub above_at : pos 0 <ℤ value line p
  pub parts : Parts e line

-- at a point of an edge a line's value is a sum of those at the ends, with weights of at least 0
hull_value : (l : Line) (e : Edge) (z : Point) (h : OnHull e z) → h.k *ℤ value l z ≡ h.m *ℤ value l (point_at e.start) +ℤ h.n *ℤ value l (point_at e.end)
hull_value l e z h = solve (l.a ∷ l.b ∷ l.c ∷ z.X ∷ z.Y ∷ z.W ∷ h.k ∷ []) (var 6 ⊗ (var 0 ⊗ var 3 ⊕ var 1 ⊗ var 4 ⊕ var 2 ⊗ var 5)) (var 0 ⊗ (var 6 ⊗ var 3) ⊕ var 1 ⊗ (var 6 ⊗ var 4) ⊕ var 2 ⊗ (var 6 ⊗ var 5)) tt
    ∙ ap₂ (λ (x y : ℤ). l.a *ℤ x +ℤ l.b *ℤ y +ℤ l.c *ℤ (h.k *ℤ z.W)) h.x_is h.y_is
    ∙ ap (λ (w : ℤ). l.a *ℤ (h.m *ℤ e.start.x +ℤ h.n *ℤ e.end.x) +ℤ l.b *ℤ (h.m *ℤ e.start.y +ℤ h.n *ℤ e.end.y) +ℤ l.c *ℤ w) h.w_is
    ∙ solve (l.a ∷ l.b ∷ l.c ∷ e.start.x ∷ e.start.y ∷ e.end.x ∷ e.end.y ∷ h.m ∷ h.n ∷ [])
    (var 0 ⊗ (var 7 ⊗ var 3 ⊕ var 8 ⊗ var 5) ⊕ var 1 ⊗ (var 7 ⊗ var 4 ⊕ var 8 ⊗ var 6) ⊕ var 2 ⊗ (var 7 ⊕ var 8))
    (var 7 ⊗ (var 0 ⊗ var 3 ⊕ var 1 ⊗ var 4 ⊕ var 2 ⊗ lit (pos 1)) ⊕ var 8 ⊗ (var 0 ⊗ var 5 ⊕ var 1 ⊗ var 6 ⊕ var 2 ⊗ lit (pos 1))) tt

-- beyond such a line no point is on the edge
pub off_beyond : (l : Line) (e : Edge) (z : Point) → IsPoint z → Parts e l → pos 0 <ℤ value l z → on e z ≡ false
off_beyond l e z hz s h = decide (on e z) refl
  where
    clash : (k v x y : ℤ) → k ≡ x +ℤ y → pos 0 <ℤ k → x ≤ℤ pos 0 → y ≤ℤ pos 0 → ⊥
    clash k v x y e h i j = omega (arith, ints)

    apart : OnHull e z → ⊥
    apart o = clash (o.k *ℤ value l z) (pos 0) (o.m *ℤ value l (point_at e.start)) (o.n *ℤ value l (point_at e.end)) (hull_value l e z o) (strict_plus_plus o.k (value l z) o.from_k h)
        (plus_minus o.m (value l (point_at e.start)) o.from_m s.at_start) (plus_minus o.n (value l (point_at e.end)) o.from_n s.at_end)

    decide : (t : Bool) → on e z ≡ t → on e z ≡ false
    decide true f = absurd (apart (hull_from_on e z hz f))
    decide false f = f

-- the line through two positions, and vertical and horizontal lines
pub line_side : (a b : Position) → Line
line_side a b = record { a = a.y -ℤ b.y; b = b.x -ℤ a.x; c = (b.y -ℤ a.y) *ℤ a.x -ℤ (b.x -ℤ a.x) *ℤ a.y }

-- the value of that line is the side
pub value_is_side : (a b : Position) (p : Point) → value (line_side a b) p ≡ side a b p
unfolding line_side
value_is_side a b p = solve (a.x ∷ a.y ∷ b.x ∷ b.y ∷ p.X ∷ p.Y ∷ p.W ∷ []) ((var 1 ⊖ var 3) ⊗ var 4 ⊕ (var 2 ⊖ var 0) ⊗ var 5 ⊕ ((var 3 ⊖ var 1) ⊗ var 0 ⊖ (var 2 ⊖ var 0) ⊗ var 1) ⊗ var 6) side' tt

-- both positions are on it: the first
side_at_start : (a b : Position) → side a b (point_at a) ≡ pos 0
side_at_start a b = solve (a.x ∷ a.y ∷ b.x ∷ b.y ∷ []) ((var 2 ⊖ var 0) ⊗ (var 1 ⊖ var 1 ⊗ lit (pos 1)) ⊖ (var 3 ⊖ var 1) ⊗ (var 0 ⊖ var 0 ⊗ lit (pos 1))) (lit (pos 0)) tt

-- and the second
side_at_end : (a b : Position) → side a b (point_at b) ≡ pos 0
side_at_end a b = solve (a.x ∷ a.y ∷ b.x ∷ b.y ∷ []) ((var 2 ⊖ var 0) ⊗ (var 3 ⊖ var 1 ⊗ lit (pos 1)) ⊖ (var 3 ⊖ var 1) ⊗ (var 2 ⊖ var 0 ⊗ lit (pos 1))) (lit (pos 0)) tt

-- a number that isn't between two is below both or above both
not_between : (a b x : ℤ) → (int_le a x && int_le x b) || (int_le b x && int_le x a) ≡ false → ((x <ℤ a) × (x <ℤ b)) ⊎ ((a <ℤ x) × (b <ℤ x))
not_between a b x e = grind (arith, ints)

-- vertical and horizontal lines on one side of which an edge lies: it is at m or to the right
x_low : (m : ℤ) (e : Edge) → m ≤ℤ e.start.x → m ≤ℤ e.end.x → Parts e (record { a = pos 0 -ℤ pos 1; b = pos 0; c = m })
x_low m e h k = record { at_start = low m e.start.x e.start.y h; at_end = low m e.end.x e.end.y k }
  where
    low : (m x y : ℤ) → m ≤ℤ x → ((pos 0 -ℤ pos 1) *ℤ x +ℤ pos 0 *ℤ y +ℤ m *ℤ pos 1) ≤ℤ pos 0
    low m x y h = omega (arith, ints)

-- at m or to the left
x_high : (m : ℤ) (e : Edge) → e.start.x ≤ℤ m → e.end.x ≤ℤ m → Parts e (record { a = pos 1; b = pos 0; c = pos 0 -ℤ m })
x_high m e h k = record { at_start = high m e.start.x e.start.y h; at_end = high m e.end.x e.end.y k }
  where
    high : (m x y : ℤ) → x ≤ℤ m → (pos 1 *ℤ x +ℤ pos 0 *ℤ y +ℤ (pos 0 -ℤ m) *ℤ pos 1) ≤ℤ pos 0
    high m x y h = omega (arith, ints)

-- at m or higher
y_low : (m : ℤ) (e : Edge) → m ≤ℤ e.start.y → m ≤ℤ e.end.y → Parts e (record { a = pos 0; b = pos 0 -ℤ pos 1; c = m })
y_low m e h k = record { at_start = low m e.start.x e.start.y h; at_end = low m e.end.x e.end.y k }
  where
    low : (m x y : ℤ) → m ≤ℤ y → (pos 0 *ℤ x +ℤ (pos 0 -ℤ pos 1) *ℤ y +ℤ m *ℤ pos 1) ≤ℤ pos 0
    low m x y h = omega (arith, ints)

-- at m or lower
y_high : (m : ℤ) (e : Edge) → e.start.y ≤ℤ m → e.end.y ≤ℤ m → Parts e (record { a = pos 0; b = pos 1; c = pos 0 -ℤ m })
y_high m e h k = record { at_start = high m e.start.x e.start.y h; at_end = high m e.end.x e.end.y k }
  where
    high : (m x y : ℤ) → y ≤ℤ m → (pos 0 *ℤ x +ℤ pos 1 *ℤ y +ℤ (pos 0 -ℤ m) *ℤ pos 1) ≤ℤ pos 0
    high m x y h = omega (arith, ints)

-- the lesser and the greater of two
pub record Range (a b : ℤ) : Type 0 where
  pub low : ℤ
  pub high : ℤ
  pub low_a : low ≤ℤ a
  pub low_b : low ≤ℤ b
  pub high_a : a ≤ℤ high
  pub high_b : b ≤ℤ high
  pub is_end : ((low ≡ a) × (high ≡ b)) ⊎ ((low ≡ b) × (high ≡ a))

pub range : (a b : ℤ) → Range a b
range a b = go (at_most_or_less a b)
  where
    go : (a ≤ℤ b) ⊎ (b <ℤ a) → Range a b
    go (inl h) = record { low = a; high = b; low_a = ≤ℤ_refl a; low_b = h; high_a = h; high_b = ≤ℤ_refl b; is_end = inl (refl, refl) }
    go (inr h) = record { low = b; high = a; low_a = less_weak b a h; low_b = ≤ℤ_refl b; high_a = ≤ℤ_refl a; high_b = less_weak b a h; is_end = inr (refl, refl) }

-- a point outside an edge's range of x is parted from it by the vertical line through the nearer end
by_x : (e : Edge) (p : Point) → between e.start.x e.end.x p.X p.W ≡ false → Parted e p
by_x e p f = go (not_between (e.start.x *ℤ p.W) (e.end.x *ℤ p.W) p.X f) (range e.start.x e.end.x)
  where
    over : (m x y w s : ℤ) → x <ℤ s → m *ℤ w ≡ s → pos 0 <ℤ ((pos 0 -ℤ pos 1) *ℤ x +ℤ pos 0 *ℤ y +ℤ m *ℤ w)
    over m x y w s h e = omega (arith, ints)

    under : (m x y w s t : ℤ) → s <ℤ x → m *ℤ w ≡ s → (pos 0 -ℤ m) *ℤ w ≡ pos 0 -ℤ m *ℤ w → pos 0 <ℤ (pos 1 *ℤ x +ℤ pos 0 *ℤ y +ℤ (pos 0 -ℤ m) *ℤ w)
    under m x y w s t h e f = omega (arith, ints)

    turned : (m w : ℤ) → (pos 0 -ℤ m) *ℤ w ≡ pos 0 -ℤ m *ℤ w
    turned m w = solve (m ∷ w ∷ []) ((lit (pos 0) ⊖ var 0) ⊗ var 1) (lit (pos 0) ⊖ var 0 ⊗ var 1) tt

    low : (r : Range e.start.x e.end.x) → (p.X <ℤ (e.start.x *ℤ p.W)) × (p.X <ℤ (e.end.x *ℤ p.W)) → (p.X <ℤ (r.low *ℤ p.W))
    low r h = pick r.is_end
      where
        pick : ((r.low ≡ e.start.x) × (r.high ≡ e.end.x)) ⊎ ((r.low ≡ e.end.x) × (r.high ≡ e.start.x)) → p.X <ℤ (r.low *ℤ p.W)
        pick (inl k) = rw k.0 h.0
        pick (inr k) = rw k.0 h.1

    high : (r : Range e.start.x e.end.x) → ((e.start.x *ℤ p.W) <ℤ p.X) × ((e.end.x *ℤ p.W) <ℤ p.X) → ((r.high *ℤ p.W) <ℤ p.X)
    high r h = pick r.is_end
      where
        pick : ((r.low ≡ e.start.x) × (r.high ≡ e.end.x)) ⊎ ((r.low ≡ e.end.x) × (r.high ≡ e.start.x)) → (r.high *ℤ p.W) <ℤ p.X
        pick (inl k) = rw k.1 h.1
        pick (inr k) = rw k.1 h.0

    go : ((p.X <ℤ (e.start.x *ℤ p.W)) × (p.X <ℤ (e.end.x *ℤ p.W))) ⊎ (((e.start.x *ℤ p.W) <ℤ p.X) × ((e.end.x *ℤ p.W) <ℤ p.X)) → Range e.start.x e.end.x → Parted e p
    go (inl h) r = record { line = record { a = pos 0 -ℤ pos 1; b = pos 0; c = r.low }; above_at = over r.low p.X p.Y p.W (r.low *ℤ p.W) (low r h) refl; parts = x_low r.low e r.low_a r.low_b }
    go (inr h) r = record { line = record { a = pos 1; b = pos 0; c = pos 0 -ℤ r.high }; above_at = under r.high p.X p.Y p.W (r.high *ℤ p.W) (pos 0) (high r h) refl (turned r.high p.W); parts = x_high r.high e r.high_a r.high_b }

-- one outside its range of y by the level line through the nearer end
by_y : (e : Edge) (p : Point) → between e.start.y e.end.y p.Y p.W ≡ false → Parted e p
by_y e p f = go (not_between (e.start.y *ℤ p.W) (e.end.y *ℤ p.W) p.Y f) (range e.start.y e.end.y)
  where
    over : (m x y w s : ℤ) → y <ℤ s → m *ℤ w ≡ s → pos 0 <ℤ (pos 0 *ℤ x +ℤ (pos 0 -ℤ pos 1) *ℤ y +ℤ m *ℤ w)
    over m x y w s h e = omega (arith, ints)

    under : (m x y w s : ℤ) → s <ℤ y → m *ℤ w ≡ s → (pos 0 -ℤ m) *ℤ w ≡ pos 0 -ℤ m *ℤ w → pos 0 <ℤ (pos 0 *ℤ x +ℤ pos 1 *ℤ y +ℤ (pos 0 -ℤ m) *ℤ w)
    under m x y w s h e f = omega (arith, ints)

    turned : (m w : ℤ) → (pos 0 -ℤ m) *ℤ w ≡ pos 0 -ℤ m *ℤ w
    turned m w = solve (m ∷ w ∷ []) ((lit (pos 0) ⊖ var 0) ⊗ var 1) (lit (pos 0) ⊖ var 0 ⊗ var 1) tt

    low : (r : Range e.start.y e.end.y) → (p.Y <ℤ (e.start.y *ℤ p.W)) × (p.Y <ℤ (e.end.y *ℤ p.W)) → (p.Y <ℤ (r.low *ℤ p.W))
    low r h = pick r.is_end
      where
        pick : ((r.low ≡ e.start.y) × (r.high ≡ e.end.y)) ⊎ ((r.low ≡ e.end.y) × (r.high ≡ e.start.y)) → p.Y <ℤ (r.low *ℤ p.W)
        pick (inl k) = rw k.0 h.0
        pick (inr k) = rw k.0 h.1

    high : (r : Range e.start.y e.end.y) → ((e.start.y *ℤ p.W) <ℤ p.Y) × ((e.end.y *ℤ p.W) <ℤ p.Y) → ((r.high *ℤ p.W) <ℤ p.Y)
    high r h = pick r.is_end
      where
        pick : ((r.low ≡ e.start.y) × (r.high ≡ e.end.y)) ⊎ ((r.low ≡ e.end.y) × (r.high ≡ e.start.y)) → (r.high *ℤ p.W) <ℤ p.Y
        pick (inl k) = rw k.1 h.1
        pick (inr k) = rw k.1 h.0

    go : ((p.Y <ℤ (e.start.y *ℤ p.W)) × (p.Y <ℤ (e.end.y *ℤ p.W))) ⊎ (((e.start.y *ℤ p.W) <ℤ p.Y) × ((e.end.y *ℤ p.W) <ℤ p.Y)) → Range e.start.y e.end.y → Parted e p
    go (inl h) r = record { line = record { a = pos 0; b = pos 0 -ℤ pos 1; c = r.low }; above_at = over r.low p.X p.Y p.W (r.low *ℤ p.W) (low r h) refl; parts = y_low r.low e r.low_a r.low_b }
    go (inr h) r = record { line = record { a = pos 0; b = pos 1; c = pos 0 -ℤ r.high }; above_at = under r.high p.X p.Y p.W (r.high *ℤ p.W) (high r h) refl (turned r.high p.W); parts = y_high r.high e r.high_a r.high_b }

at_most_zero : (x y : ℤ) → x ≡ y → y ≡ pos 0 → x ≤ℤ pos 0
at_most_zero x y e f = omega (arith, ints)

-- and one off its line by that line, taken so that the point is on the side above 0
by_side : (e : Edge) (p : Point) → (side e.start e.end p ≡ pos 0 → ⊥) → Parted e p
by_side e p f = go (three_ways (pos 0) (side e.start e.end p))
  where
    turned : (x y : ℤ) → x ≡ pos 0 -ℤ y → y <ℤ pos 0 → pos 0 <ℤ x
    turned x y e h = omega (arith, ints)

    go : (pos 0 <ℤ side e.start e.end p) ⊎ ((pos 0 ≡ side e.start e.end p) ⊎ (side e.start e.end p <ℤ pos 0)) → Parted e p
    go (inl h) = record {
      line = line_side e.start e.end;
      above_at = positive_same _ _ (value_is_side e.start e.end p) h;
      parts = record { at_start = at_most_zero _ _ (value_is_side e.start e.end (point_at e.start)) (side_at_start e.start e.end); at_end = at_most_zero _ _ (value_is_side e.start e.end (point_at e.end)) (side_at_end e.start e.end) };
    }
    go (inr (inl h)) = absurd (f (sym h))
    go (inr (inr h)) = record {
      line = line_side e.end e.start;
      above_at = turned _ _ (value_is_side e.end e.start p ∙ side_turned e.start e.end p) h;
      parts = record { at_start = at_most_zero _ _ (value_is_side e.end e.start (point_at e.start)) (side_at_end e.end e.start); at_end = at_most_zero _ _ (value_is_side e.end e.start (point_at e.end)) (side_at_start e.end e.start) };
    }

-- a point off an edge is parted from it
pub parted : (e : Edge) (p : Point) → on e p ≡ false → Parted e p
parted e p h = go (int_eq (side e.start e.end p) (pos 0)) refl (between e.start.x e.end.x p.X p.W) refl (between e.start.y e.end.y p.Y p.W) refl h
  where
    go : (s : Bool) → int_eq (side e.start e.end p) (pos 0) ≡ s → (x : Bool) → between e.start.x e.end.x p.X p.W ≡ x → (y : Bool) → between e.start.y e.end.y p.Y p.W ≡ y → (s && x) && y ≡ false → Parted e p
    go false f x g y k z = by_side e p (not_equal_from (side e.start e.end p) (pos 0) f)
    go true f false g y k z = by_x e p g
    go true f true g false k z = by_y e p k
    go true f true g true k z = absurd (let w : true ≡ false = z in cc)

-- how the value of the line through two positions grows upwards: by their difference in x
pub line_side_slope : (a b : Position) → (line_side a b).b ≡ b.x -ℤ a.x
unfolding line_side
line_side_slope a b = refl
