-- The points that two edges share: an end of one of them, or the point where they cross.
use Rattle.std.proofs.Common.{ℤ, pos, ◌+ℤ◌, ◌-ℤ◌, ◌*ℤ◌, ◌≤ℤ◌, ◌<ℤ◌, int_lt, ◌≡◌, ◌⊎◌, inl, inr, Bool, true, false, ◌&&◌, ◌||◌, refl, sym, ap, ap₂, ◌∙◌, subst, [], ◌∷◌, arith}
use Rattle.std.proofs.lemmas.Bool.{or_cases, or_right, and_parts, and_from}
use borrow.Author.Differences.{ints}
use Rattle.geometry_model.specs.Points.{Position, Point, IsPoint, same_point, point_at}
use Rattle.geometry_model.specs.Geometries.{Edge}
use Rattle.geometry_model.specs.Sides.{side, on}
use Rattle.geometry_model.specs.Validity.{SharePoint}
use Rattle.geometry_model.specs.FirstFaults.{opposite, cross}
use Rattle.basics.proofs.Ring.{Expr, solve, var, lit, ◌⊕◌, ◌⊖◌, ◌⊗◌}
use Rattle.basics.proofs.Signs.{three_ways, is_or_not, at_most_or_less, plus_plus, plus_minus, strict_plus_plus, zero_product, cancel_zero, less_yes, less_from}
use Rattle.basics.proofs.Orders.{negative_turned, one_above, weak_negative, weak_positive, positive_not_zero, gap_none, no_difference}
use Rattle.geometry_laws.proofs.Scaling.{same_from}
use Rattle.geometry_laws.proofs.Respect.{on_respects}
use Rattle.geometry_laws.proofs.LineSides.{square, weight, x_of, y_of, drop_zero, square_positive}
use Rattle.geometry_laws.proofs.Hulls.{OnHull, on_from_hull, on_parts, weight_low, weight_high, hull_from_on}
use Rattle.geometry_laws.specs.SharedPointLaws.{SharedPointIsDecided}

-- ---- ends are on their edge
end_x : (a b : ℤ) → pos 1 *ℤ a ≡ pos 1 *ℤ a +ℤ pos 0 *ℤ b
end_x a b = solve (a ∷ b ∷ []) (lit (pos 1) ⊗ var 0) (lit (pos 1) ⊗ var 0 ⊕ lit (pos 0) ⊗ var 1) tt

end_x' : (a b : ℤ) → pos 1 *ℤ b ≡ pos 0 *ℤ a +ℤ pos 1 *ℤ b
end_x' a b = solve (a ∷ b ∷ []) (lit (pos 1) ⊗ var 1) (lit (pos 0) ⊗ var 0 ⊕ lit (pos 1) ⊗ var 1) tt

-- the start of an edge is on it
pub start_on : (e : Edge) → on e (point_at e.start) ≡ true
start_on e = on_from_hull e (point_at e.start) (record {
  k = pos 1;
  m = pos 1;
  n = pos 0;
  from_k = omega (arith, ints);
  from_m = omega (arith, ints);
  from_n = omega (arith, ints);
  x_is = end_x e.start.x e.end.x;
  y_is = end_x e.start.y e.end.y;
  w_is = refl;
})

-- and so is its end
pub end_on : (e : Edge) → on e (point_at e.end) ≡ true
end_on e = on_from_hull e (point_at e.end) (record {
  k = pos 1;
  m = pos 0;
  n = pos 1;
  from_k = omega (arith, ints);
  from_m = omega (arith, ints);
  from_n = omega (arith, ints);
  x_is = end_x' e.start.x e.end.x;
  y_is = end_x' e.start.y e.end.y;
  w_is = refl;
})

-- ---- side and weight of a sum
-- the side of a sum of two positions is the sum of their sides, with the same weights
pub side_sum : (a b c d : Position) (p : Point) (k m n : ℤ) → k *ℤ p.X ≡ m *ℤ c.x +ℤ n *ℤ d.x → k *ℤ p.Y ≡ m *ℤ c.y +ℤ n *ℤ d.y → k *ℤ p.W ≡ m +ℤ n
    → k *ℤ side a b p ≡ m *ℤ side a b (point_at c) +ℤ n *ℤ side a b (point_at d)
side_sum a b c d p k m n e f g =
    solve (a.x ∷ a.y ∷ b.x ∷ b.y ∷ p.X ∷ p.Y ∷ p.W ∷ k ∷ []) (var 7 ⊗ ((var 2 ⊖ var 0) ⊗ (var 5 ⊖ var 1 ⊗ var 6) ⊖ (var 3 ⊖ var 1) ⊗ (var 4 ⊖ var 0 ⊗ var 6)))
    ((var 2 ⊖ var 0) ⊗ (var 7 ⊗ var 5 ⊖ var 1 ⊗ (var 7 ⊗ var 6)) ⊖ (var 3 ⊖ var 1) ⊗ (var 7 ⊗ var 4 ⊖ var 0 ⊗ (var 7 ⊗ var 6))) tt
    ∙ ap (λ (x : ℤ). (b.x -ℤ a.x) *ℤ (k *ℤ p.Y -ℤ a.y *ℤ (k *ℤ p.W)) -ℤ (b.y -ℤ a.y) *ℤ (x -ℤ a.x *ℤ (k *ℤ p.W))) e
    ∙ ap (λ (y : ℤ). (b.x -ℤ a.x) *ℤ (y -ℤ a.y *ℤ (k *ℤ p.W)) -ℤ (b.y -ℤ a.y) *ℤ ((m *ℤ c.x +ℤ n *ℤ d.x) -ℤ a.x *ℤ (k *ℤ p.W))) f
    ∙ ap (λ (w : ℤ). (b.x -ℤ a.x) *ℤ ((m *ℤ c.y +ℤ n *ℤ d.y) -ℤ a.y *ℤ w) -ℤ (b.y -ℤ a.y) *ℤ ((m *ℤ c.x +ℤ n *ℤ d.x) -ℤ a.x *ℤ w)) g
    ∙ solve (a.x ∷ a.y ∷ b.x ∷ b.y ∷ c.x ∷ c.y ∷ d.x ∷ d.y ∷ m ∷ n ∷ [])
    ((var 2 ⊖ var 0) ⊗ ((var 8 ⊗ var 5 ⊕ var 9 ⊗ var 7) ⊖ var 1 ⊗ (var 8 ⊕ var 9)) ⊖ (var 3 ⊖ var 1) ⊗ ((var 8 ⊗ var 4 ⊕ var 9 ⊗ var 6) ⊖ var 0 ⊗ (var 8 ⊕ var 9)))
    (var 8 ⊗ ((var 2 ⊖ var 0) ⊗ (var 5 ⊖ var 1 ⊗ lit (pos 1)) ⊖ (var 3 ⊖ var 1) ⊗ (var 4 ⊖ var 0 ⊗ lit (pos 1)))
    ⊕ var 9 ⊗ ((var 2 ⊖ var 0) ⊗ (var 7 ⊖ var 1 ⊗ lit (pos 1)) ⊖ (var 3 ⊖ var 1) ⊗ (var 6 ⊖ var 0 ⊗ lit (pos 1)))) tt

-- and so is its weight along the line
pub weight_sum : (a b c d : Position) (p : Point) (k m n : ℤ) → k *ℤ p.X ≡ m *ℤ c.x +ℤ n *ℤ d.x → k *ℤ p.Y ≡ m *ℤ c.y +ℤ n *ℤ d.y → k *ℤ p.W ≡ m +ℤ n
    → k *ℤ weight a b p ≡ m *ℤ weight a b (point_at c) +ℤ n *ℤ weight a b (point_at d)
weight_sum a b c d p k m n e f g =
    solve (a.x ∷ a.y ∷ b.x ∷ b.y ∷ p.X ∷ p.Y ∷ p.W ∷ k ∷ []) (var 7 ⊗ ((var 2 ⊖ var 0) ⊗ (var 4 ⊖ var 0 ⊗ var 6) ⊕ (var 3 ⊖ var 1) ⊗ (var 5 ⊖ var 1 ⊗ var 6)))
    ((var 2 ⊖ var 0) ⊗ (var 7 ⊗ var 4 ⊖ var 0 ⊗ (var 7 ⊗ var 6)) ⊕ (var 3 ⊖ var 1) ⊗ (var 7 ⊗ var 5 ⊖ var 1 ⊗ (var 7 ⊗ var 6))) tt
    ∙ ap (λ (x : ℤ). (b.x -ℤ a.x) *ℤ (x -ℤ a.x *ℤ (k *ℤ p.W)) +ℤ (b.y -ℤ a.y) *ℤ (k *ℤ p.Y -ℤ a.y *ℤ (k *ℤ p.W))) e
    ∙ ap (λ (y : ℤ). (b.x -ℤ a.x) *ℤ ((m *ℤ c.x +ℤ n *ℤ d.x) -ℤ a.x *ℤ (k *ℤ p.W)) +ℤ (b.y -ℤ a.y) *ℤ (y -ℤ a.y *ℤ (k *ℤ p.W))) f
    ∙ ap (λ (w : ℤ). (b.x -ℤ a.x) *ℤ ((m *ℤ c.x +ℤ n *ℤ d.x) -ℤ a.x *ℤ w) +ℤ (b.y -ℤ a.y) *ℤ ((m *ℤ c.y +ℤ n *ℤ d.y) -ℤ a.y *ℤ w)) g
    ∙ solve (a.x ∷ a.y ∷ b.x ∷ b.y ∷ c.x ∷ c.y ∷ d.x ∷ d.y ∷ m ∷ n ∷ [])
    ((var 2 ⊖ var 0) ⊗ ((var 8 ⊗ var 4 ⊕ var 9 ⊗ var 6) ⊖ var 0 ⊗ (var 8 ⊕ var 9)) ⊕ (var 3 ⊖ var 1) ⊗ ((var 8 ⊗ var 5 ⊕ var 9 ⊗ var 7) ⊖ var 1 ⊗ (var 8 ⊕ var 9)))
    (var 8 ⊗ ((var 2 ⊖ var 0) ⊗ (var 4 ⊖ var 0 ⊗ lit (pos 1)) ⊕ (var 3 ⊖ var 1) ⊗ (var 5 ⊖ var 1 ⊗ lit (pos 1)))
    ⊕ var 9 ⊗ ((var 2 ⊖ var 0) ⊗ (var 6 ⊖ var 0 ⊗ lit (pos 1)) ⊕ (var 3 ⊖ var 1) ⊗ (var 7 ⊖ var 1 ⊗ lit (pos 1)))) tt

-- ---- signs of two numbers whose sum with weights is 0
abbrev Opposite : ℤ → ℤ → Type 0
Opposite x y = ((x <ℤ pos 0) × (pos 0 <ℤ y)) ⊎ ((pos 0 <ℤ x) × (y <ℤ pos 0))

no_factor : (n y : ℤ) → (y ≡ pos 0 → ⊥) → n *ℤ y ≡ pos 0 → n ≡ pos 0
no_factor n y some e = elim (zero_product n y e) [ inl n_is ↦ n_is | inr y_is ↦ absurd (some y_is) ]

not_below : (y : ℤ) → y <ℤ pos 0 → y ≡ pos 0 → ⊥
not_below y h e = omega (arith, ints)

-- a sum of two numbers of one sign is 0 only where both are
both_below : (s t : ℤ) → s ≤ℤ pos 0 → t ≤ℤ pos 0 → pos 0 ≤ℤ (s +ℤ t) → (s ≡ pos 0) × (t ≡ pos 0)
both_below s t h k e = (omega (arith, ints), omega (arith, ints))

both_above : (s t : ℤ) → pos 0 ≤ℤ s → pos 0 ≤ℤ t → (s +ℤ t) ≤ℤ pos 0 → (s ≡ pos 0) × (t ≡ pos 0)
both_above s t h k e = (omega (arith, ints), omega (arith, ints))

no_sum : (m n : ℤ) → pos 0 <ℤ (m +ℤ n) → m ≡ pos 0 → n ≡ pos 0 → ⊥
no_sum m n h e f = omega (arith, ints)

-- numbers that are both below 0 have no sum of at least 0, with weights of at least 0 that aren't both 0
never_below : (x y m n : ℤ) → pos 0 ≤ℤ m → pos 0 ≤ℤ n → pos 0 <ℤ (m +ℤ n) → x <ℤ pos 0 → y <ℤ pos 0 → pos 0 ≤ℤ (m *ℤ x +ℤ n *ℤ y) → ⊥
never_below x y m n hm hn some hx hy e =
    let zero = both_below (m *ℤ x) (n *ℤ y) (plus_minus m x hm (weak_negative x hx)) (plus_minus n y hn (weak_negative y hy)) e in
    no_sum m n some (no_factor m x (not_below x hx) zero.0) (no_factor n y (not_below y hy) zero.1)

-- and numbers that are both above 0 have none of at most 0
never_above : (x y m n : ℤ) → pos 0 ≤ℤ m → pos 0 ≤ℤ n → pos 0 <ℤ (m +ℤ n) → pos 0 <ℤ x → pos 0 <ℤ y → (m *ℤ x +ℤ n *ℤ y) ≤ℤ pos 0 → ⊥
never_above x y m n hm hn some hx hy e =
    let zero = both_above (m *ℤ x) (n *ℤ y) (plus_plus m x hm (weak_positive x hx)) (plus_plus n y hn (weak_positive y hy)) e in
    no_sum m n some (no_factor m x (positive_not_zero x hx) zero.0) (no_factor n y (positive_not_zero y hy) zero.1)

abbrev Signs : ℤ → ℤ → ℤ → ℤ → Type 0
Signs x y m n = Opposite x y ⊎ ((x ≡ pos 0) × (y ≡ pos 0)) ⊎ (n ≡ pos 0) ⊎ (m ≡ pos 0)

zero_below : (s : ℤ) → s ≡ pos 0 → pos 0 ≤ℤ s
zero_below s e = omega (arith, ints)

zero_above : (s : ℤ) → s ≡ pos 0 → s ≤ℤ pos 0
zero_above s e = omega (arith, ints)

-- where the first number is 0 the second's share is the whole sum
pub only_second : (x y m n : ℤ) → x ≡ pos 0 → m *ℤ x +ℤ n *ℤ y ≡ pos 0 → n *ℤ y ≡ pos 0
only_second x y m n e f = solve (y ∷ m ∷ n ∷ []) (var 2 ⊗ var 0) (var 1 ⊗ lit (pos 0) ⊕ var 2 ⊗ var 0) tt ∙ ap (λ (z : ℤ). m *ℤ z +ℤ n *ℤ y) (sym e) ∙ f

-- and where the second is, the first's share is
only_first : (x y m n : ℤ) → y ≡ pos 0 → m *ℤ x +ℤ n *ℤ y ≡ pos 0 → m *ℤ x ≡ pos 0
only_first x y m n e f = solve (x ∷ m ∷ n ∷ []) (var 1 ⊗ var 0) (var 1 ⊗ var 0 ⊕ var 2 ⊗ lit (pos 0)) tt ∙ ap (λ (z : ℤ). m *ℤ x +ℤ n *ℤ z) (sym e) ∙ f

-- where such a sum is 0 the numbers have opposite signs, or both are 0, or one of them has no weight
signs : (x y m n : ℤ) → pos 0 ≤ℤ m → pos 0 ≤ℤ n → pos 0 <ℤ (m +ℤ n) → m *ℤ x +ℤ n *ℤ y ≡ pos 0 → Signs x y m n
signs x y m n hm hn some e = go (three_ways x (pos 0)) (three_ways y (pos 0))
  where
    go : (x <ℤ pos 0) ⊎ ((x ≡ pos 0) ⊎ (pos 0 <ℤ x)) → (y <ℤ pos 0) ⊎ ((y ≡ pos 0) ⊎ (pos 0 <ℤ y)) → Signs x y m n
    go (inl hx) (inl hy) = absurd (never_below x y m n hm hn some hx hy (zero_below (m *ℤ x +ℤ n *ℤ y) e))
    go (inl hx) (inr (inl hy)) = inr (inr (inr (no_factor m x (not_below x hx) (only_first x y m n hy e))))
    go (inl hx) (inr (inr hy)) = inl (inl (hx, hy))
    go (inr (inl hx)) (inl hy) = inr (inr (inl (no_factor n y (not_below y hy) (only_second x y m n hx e))))
    go (inr (inl hx)) (inr (inl hy)) = inr (inl (hx, hy))
    go (inr (inl hx)) (inr (inr hy)) = inr (inr (inl (no_factor n y (positive_not_zero y hy) (only_second x y m n hx e))))
    go (inr (inr hx)) (inl hy) = inl (inr (hx, hy))
    go (inr (inr hx)) (inr (inl hy)) = inr (inr (inr (no_factor m x (positive_not_zero x hx) (only_first x y m n hy e))))
    go (inr (inr hx)) (inr (inr hy)) = absurd (never_above x y m n hm hn some hx hy (zero_above (m *ℤ x +ℤ n *ℤ y) e))

-- ---- a point of an edge with no weight on one end is the other end
-- without weight on the second number the sum is the first
one_coordinate : (k x w m n c d : ℤ) → pos 0 <ℤ k → k *ℤ x ≡ m *ℤ c +ℤ n *ℤ d → k *ℤ w ≡ m +ℤ n → n ≡ pos 0 → x *ℤ pos 1 ≡ c *ℤ w
one_coordinate k x w m n c d hk e f none = no_difference _ _ (cancel_zero k (x *ℤ pos 1 -ℤ c *ℤ w) hk
    (solve (k ∷ x ∷ w ∷ c ∷ []) (var 0 ⊗ (var 1 ⊗ lit (pos 1) ⊖ var 3 ⊗ var 2)) (var 0 ⊗ var 1 ⊖ var 3 ⊗ (var 0 ⊗ var 2)) tt
    ∙ ap₂ (λ (s t : ℤ). s -ℤ c *ℤ t) e f
    ∙ solve (m ∷ n ∷ c ∷ d ∷ []) ((var 0 ⊗ var 2 ⊕ var 1 ⊗ var 3) ⊖ var 2 ⊗ (var 0 ⊕ var 1)) (var 1 ⊗ (var 3 ⊖ var 2)) tt
    ∙ ap (λ (z : ℤ). z *ℤ (d -ℤ c)) none ∙ solve (c ∷ d ∷ []) (lit (pos 0) ⊗ (var 1 ⊖ var 0)) (lit (pos 0)) tt))

pub swapped : (k x m n c d : ℤ) → k *ℤ x ≡ m *ℤ c +ℤ n *ℤ d → k *ℤ x ≡ n *ℤ d +ℤ m *ℤ c
swapped k x m n c d e = e ∙ solve (m ∷ n ∷ c ∷ d ∷ []) (var 0 ⊗ var 2 ⊕ var 1 ⊗ var 3) (var 1 ⊗ var 3 ⊕ var 0 ⊗ var 2) tt

pub swapped_sum : (k w m n : ℤ) → k *ℤ w ≡ m +ℤ n → k *ℤ w ≡ n +ℤ m
swapped_sum k w m n e = e ∙ solve (m ∷ n ∷ []) (var 0 ⊕ var 1) (var 1 ⊕ var 0) tt

-- a point without weight on the end is the start
pub at_start : (f : Edge) (p : Point) (h : OnHull f p) → h.n ≡ pos 0 → same_point p (point_at f.start) ≡ true
at_start f p h none = same_from p (point_at f.start)
    (one_coordinate h.k p.X p.W h.m h.n f.start.x f.end.x h.from_k h.x_is h.w_is none)
    (one_coordinate h.k p.Y p.W h.m h.n f.start.y f.end.y h.from_k h.y_is h.w_is none)

-- and one without weight on the start is the end
at_end : (f : Edge) (p : Point) (h : OnHull f p) → h.m ≡ pos 0 → same_point p (point_at f.end) ≡ true
at_end f p h none = same_from p (point_at f.end)
    (one_coordinate h.k p.X p.W h.n h.m f.end.x f.start.x h.from_k (swapped h.k p.X h.m h.n f.start.x f.end.x h.x_is) (swapped_sum h.k p.W h.m h.n h.w_is) none)
    (one_coordinate h.k p.Y p.W h.n h.m f.end.y f.start.y h.from_k (swapped h.k p.Y h.m h.n f.start.y f.end.y h.y_is) (swapped_sum h.k p.W h.m h.n h.w_is) none)

-- a position that is the same as a point of an edge is on the edge
on_there : (e : Edge) (p : Point) (q : Position) → IsPoint p → on e p ≡ true → same_point p (point_at q) ≡ true → on e (point_at q) ≡ true
on_there e p q hp h same = sym (on_respects e p (point_at q) hp one_above same) ∙ h

-- the weights of a point on an edge aren't both 0
weights_some : (f : Edge) (p : Point) (h : OnHull f p) → IsPoint p → pos 0 <ℤ (h.m +ℤ h.n)
weights_some f p h hp = subst (λ (z : ℤ). pos 0 <ℤ z) h.w_is (strict_plus_plus h.k p.W h.from_k hp)

-- what the sides of the other edge's ends say, where a point is on both edges
abbrev Seen : Edge → Edge → Point → Type 0
Seen e f p = Opposite (side e.start e.end (point_at f.start)) (side e.start e.end (point_at f.end))
    ⊎ ((side e.start e.end (point_at f.start) ≡ pos 0) × (side e.start e.end (point_at f.end) ≡ pos 0))
    ⊎ (same_point p (point_at f.start) ≡ true) ⊎ (same_point p (point_at f.end) ≡ true)

pub zero_scaled : (k z : ℤ) → z ≡ pos 0 → k *ℤ z ≡ pos 0
zero_scaled k z e = ap (λ (t : ℤ). k *ℤ t) e ∙ solve (k ∷ []) (var 0 ⊗ lit (pos 0)) (lit (pos 0)) tt

-- a point on both edges has side 0 at e, so the ends of f are on opposite sides of e, or both on its line,
-- or one of them is the point
seen : (e f : Edge) (p : Point) → IsPoint p → on e p ≡ true → on f p ≡ true → Seen e f p
seen e f p hp on_e on_f = go (signs (side e.start e.end (point_at f.start)) (side e.start e.end (point_at f.end)) h.m h.n h.from_m h.from_n (weights_some f p h hp)
    (sym (side_sum e.start e.end f.start f.end p h.k h.m h.n h.x_is h.y_is h.w_is) ∙ zero_scaled h.k (side e.start e.end p) ((on_parts e p on_e).on_line)))
  where
    h : OnHull f p
    h = hull_from_on f p hp on_f

    go : Signs (side e.start e.end (point_at f.start)) (side e.start e.end (point_at f.end)) h.m h.n → Seen e f p
    go (inl o) = inl o
    go (inr (inl zero)) = inr (inl zero)
    go (inr (inr (inl none))) = inr (inr (inl (at_start f p h none)))
    go (inr (inr (inr none))) = inr (inr (inr (at_end f p h none)))

-- ---- on one line: the weights of the ends along the one edge
abbrev EndOn : Edge → Edge → Type 0
EndOn e f = (on e (point_at f.start) ≡ true) ⊎ (on e (point_at f.end) ≡ true) ⊎ (on f (point_at e.start) ≡ true)

-- a position on the line of an edge is on the edge where its weight along it is between 0 and the whole
pub along : (e : Edge) (q : Position) → pos 0 <ℤ square e.start e.end → side e.start e.end (point_at q) ≡ pos 0
    → pos 0 ≤ℤ weight e.start e.end (point_at q) → weight e.start e.end (point_at q) ≤ℤ square e.start e.end → on e (point_at q) ≡ true
along e q wide zero low high = let S = square e.start e.end in let t = weight e.start e.end (point_at q) in
    on_from_hull e (point_at q) (record {
      k = S;
      m = S *ℤ pos 1 -ℤ t;
      n = t;
      from_k = wide;
      from_m = apart t S high;
      from_n = low;
      x_is = x_of e.start e.end (point_at q) ∙ drop_zero ((S *ℤ pos 1 -ℤ t) *ℤ e.start.x +ℤ t *ℤ e.end.x) (side e.start e.end (point_at q)) (e.start.y -ℤ e.end.y) zero;
      y_is = y_of e.start e.end (point_at q) ∙ drop_zero ((S *ℤ pos 1 -ℤ t) *ℤ e.start.y +ℤ t *ℤ e.end.y) (side e.start e.end (point_at q)) (e.end.x -ℤ e.start.x) zero;
      w_is = rejoined (S *ℤ pos 1) t;
    })
  where
    apart : (t s : ℤ) → t ≤ℤ s → pos 0 ≤ℤ (s *ℤ pos 1 -ℤ t)
    apart t s h = omega (arith, ints)

    rejoined : (x y : ℤ) → x ≡ (x -ℤ y) +ℤ y
    rejoined x y = omega (arith, ints)

-- a is between c and d, whose weights along a b are apart from that of a on both sides
between_ends : (S tc td a b c d : ℤ) → S *ℤ c ≡ (S *ℤ pos 1 -ℤ tc) *ℤ a +ℤ tc *ℤ b → S *ℤ d ≡ (S *ℤ pos 1 -ℤ td) *ℤ a +ℤ td *ℤ b
    → (S *ℤ (td -ℤ tc)) *ℤ a ≡ (S *ℤ td) *ℤ c +ℤ (S *ℤ (pos 0 -ℤ tc)) *ℤ d
between_ends S tc td a b c d e f =
    solve (S ∷ tc ∷ td ∷ a ∷ b ∷ []) ((var 0 ⊗ (var 2 ⊖ var 1)) ⊗ var 3) (var 2 ⊗ ((var 0 ⊗ lit (pos 1) ⊖ var 1) ⊗ var 3 ⊕ var 1 ⊗ var 4) ⊕ (lit (pos 0) ⊖ var 1) ⊗ ((var 0 ⊗ lit (pos 1) ⊖ var 2) ⊗ var 3 ⊕ var 2 ⊗ var 4)) tt
    ∙ ap₂ (λ (s t : ℤ). td *ℤ s +ℤ (pos 0 -ℤ tc) *ℤ t) (sym e) (sym f)
    ∙ solve (S ∷ tc ∷ td ∷ c ∷ d ∷ []) (var 2 ⊗ (var 0 ⊗ var 3) ⊕ (lit (pos 0) ⊖ var 1) ⊗ (var 0 ⊗ var 4)) ((var 0 ⊗ var 2) ⊗ var 3 ⊕ (var 0 ⊗ (lit (pos 0) ⊖ var 1)) ⊗ var 4) tt

-- the same where c and d lie the other way round
between_ends_back : (S tc td a b c d : ℤ) → S *ℤ c ≡ (S *ℤ pos 1 -ℤ tc) *ℤ a +ℤ tc *ℤ b → S *ℤ d ≡ (S *ℤ pos 1 -ℤ td) *ℤ a +ℤ td *ℤ b
    → (S *ℤ (tc -ℤ td)) *ℤ a ≡ (S *ℤ (pos 0 -ℤ td)) *ℤ c +ℤ (S *ℤ tc) *ℤ d
between_ends_back S tc td a b c d e f =
    solve (S ∷ tc ∷ td ∷ a ∷ b ∷ []) ((var 0 ⊗ (var 1 ⊖ var 2)) ⊗ var 3) ((lit (pos 0) ⊖ var 2) ⊗ ((var 0 ⊗ lit (pos 1) ⊖ var 1) ⊗ var 3 ⊕ var 1 ⊗ var 4) ⊕ var 1 ⊗ ((var 0 ⊗ lit (pos 1) ⊖ var 2) ⊗ var 3 ⊕ var 2 ⊗ var 4)) tt
    ∙ ap₂ (λ (s t : ℤ). (pos 0 -ℤ td) *ℤ s +ℤ tc *ℤ t) (sym e) (sym f)
    ∙ solve (S ∷ tc ∷ td ∷ c ∷ d ∷ []) ((lit (pos 0) ⊖ var 2) ⊗ (var 0 ⊗ var 3) ⊕ var 1 ⊗ (var 0 ⊗ var 4)) ((var 0 ⊗ (lit (pos 0) ⊖ var 2)) ⊗ var 3 ⊕ (var 0 ⊗ var 1) ⊗ var 4) tt

span : (s t : ℤ) → s <ℤ pos 0 → pos 0 <ℤ t → pos 0 <ℤ (t -ℤ s)
span s t h k = omega (arith, ints)

-- the equation of one coordinate of an end on the line of the edge
pub x_along : (e : Edge) (q : Position) → side e.start e.end (point_at q) ≡ pos 0
    → square e.start e.end *ℤ q.x ≡ (square e.start e.end *ℤ pos 1 -ℤ weight e.start e.end (point_at q)) *ℤ e.start.x +ℤ weight e.start e.end (point_at q) *ℤ e.end.x
x_along e q zero = x_of e.start e.end (point_at q) ∙ drop_zero ((square e.start e.end *ℤ pos 1 -ℤ weight e.start e.end (point_at q)) *ℤ e.start.x +ℤ weight e.start e.end (point_at q) *ℤ e.end.x)
    (side e.start e.end (point_at q)) (e.start.y -ℤ e.end.y) zero

-- and of the other coordinate
pub y_along : (e : Edge) (q : Position) → side e.start e.end (point_at q) ≡ pos 0
    → square e.start e.end *ℤ q.y ≡ (square e.start e.end *ℤ pos 1 -ℤ weight e.start e.end (point_at q)) *ℤ e.start.y +ℤ weight e.start e.end (point_at q) *ℤ e.end.y
y_along e q zero = y_of e.start e.end (point_at q) ∙ drop_zero ((square e.start e.end *ℤ pos 1 -ℤ weight e.start e.end (point_at q)) *ℤ e.start.y +ℤ weight e.start e.end (point_at q) *ℤ e.end.y)
    (side e.start e.end (point_at q)) (e.end.x -ℤ e.start.x) zero

-- the weights of the two ends add up
weights_add : (S tc td : ℤ) → (S *ℤ (td -ℤ tc)) *ℤ pos 1 ≡ S *ℤ td +ℤ S *ℤ (pos 0 -ℤ tc)
weights_add S tc td = solve (S ∷ tc ∷ td ∷ []) ((var 0 ⊗ (var 2 ⊖ var 1)) ⊗ lit (pos 1)) (var 0 ⊗ var 2 ⊕ var 0 ⊗ (lit (pos 0) ⊖ var 1)) tt

-- and so they do the other way round
weights_add_back : (S tc td : ℤ) → (S *ℤ (tc -ℤ td)) *ℤ pos 1 ≡ S *ℤ (pos 0 -ℤ td) +ℤ S *ℤ tc
weights_add_back S tc td = solve (S ∷ tc ∷ td ∷ []) ((var 0 ⊗ (var 1 ⊖ var 2)) ⊗ lit (pos 1)) (var 0 ⊗ (lit (pos 0) ⊖ var 2) ⊕ var 0 ⊗ var 1) tt

-- an edge on the line of e that comes from before e's start and ends after it holds e's start
covers : (e f : Edge) → pos 0 <ℤ square e.start e.end → side e.start e.end (point_at f.start) ≡ pos 0 → side e.start e.end (point_at f.end) ≡ pos 0
    → weight e.start e.end (point_at f.start) <ℤ pos 0 → pos 0 <ℤ weight e.start e.end (point_at f.end) → on f (point_at e.start) ≡ true
covers e f wide zc zd below above = let S = square e.start e.end in let tc = weight e.start e.end (point_at f.start) in let td = weight e.start e.end (point_at f.end) in
    on_from_hull f (point_at e.start) (record {
      k = S *ℤ (td -ℤ tc);
      m = S *ℤ td;
      n = S *ℤ (pos 0 -ℤ tc);
      from_k = strict_plus_plus S (td -ℤ tc) wide (span tc td below above);
      from_m = plus_plus S td (weak_positive S wide) (weak_positive td above);
      from_n = plus_plus S (pos 0 -ℤ tc) (weak_positive S wide) (negative_turned tc below);
      x_is = between_ends S tc td e.start.x e.end.x f.start.x f.end.x (x_along e f.start zc) (x_along e f.end zd);
      y_is = between_ends S tc td e.start.y e.end.y f.start.y f.end.y (y_along e f.start zc) (y_along e f.end zd);
      w_is = weights_add S tc td;
    })

-- and so does one that runs the other way
covers_back : (e f : Edge) → pos 0 <ℤ square e.start e.end → side e.start e.end (point_at f.start) ≡ pos 0 → side e.start e.end (point_at f.end) ≡ pos 0
    → pos 0 <ℤ weight e.start e.end (point_at f.start) → weight e.start e.end (point_at f.end) <ℤ pos 0 → on f (point_at e.start) ≡ true
covers_back e f wide zc zd above below = let S = square e.start e.end in let tc = weight e.start e.end (point_at f.start) in let td = weight e.start e.end (point_at f.end) in
    on_from_hull f (point_at e.start) (record {
      k = S *ℤ (tc -ℤ td);
      m = S *ℤ (pos 0 -ℤ td);
      n = S *ℤ tc;
      from_k = strict_plus_plus S (tc -ℤ td) wide (span td tc below above);
      from_m = plus_plus S (pos 0 -ℤ td) (weak_positive S wide) (negative_turned td below);
      from_n = plus_plus S tc (weak_positive S wide) (weak_positive tc above);
      x_is = between_ends_back S tc td e.start.x e.end.x f.start.x f.end.x (x_along e f.start zc) (x_along e f.end zd);
      y_is = between_ends_back S tc td e.start.y e.end.y f.start.y f.end.y (y_along e f.start zc) (y_along e f.end zd);
      w_is = weights_add_back S tc td;
    })

-- a sum of two equal numbers is that number
level_coordinate : (k x w m n c d : ℤ) → pos 0 <ℤ k → k *ℤ x ≡ m *ℤ c +ℤ n *ℤ d → k *ℤ w ≡ m +ℤ n → d -ℤ c ≡ pos 0 → x *ℤ pos 1 ≡ c *ℤ w
level_coordinate k x w m n c d hk e f level = no_difference _ _ (cancel_zero k (x *ℤ pos 1 -ℤ c *ℤ w) hk
    (solve (k ∷ x ∷ w ∷ c ∷ []) (var 0 ⊗ (var 1 ⊗ lit (pos 1) ⊖ var 3 ⊗ var 2)) (var 0 ⊗ var 1 ⊖ var 3 ⊗ (var 0 ⊗ var 2)) tt
    ∙ ap₂ (λ (s t : ℤ). s -ℤ c *ℤ t) e f
    ∙ solve (m ∷ n ∷ c ∷ d ∷ []) ((var 0 ⊗ var 2 ⊕ var 1 ⊗ var 3) ⊖ var 2 ⊗ (var 0 ⊕ var 1)) (var 1 ⊗ (var 3 ⊖ var 2)) tt
    ∙ zero_scaled n (d -ℤ c) level))

-- both ends of an edge at one position: a point of it is there
pub at_both : (e : Edge) (p : Point) → IsPoint p → on e p ≡ true → e.end.x -ℤ e.start.x ≡ pos 0 → e.end.y -ℤ e.start.y ≡ pos 0 → same_point p (point_at e.start) ≡ true
at_both e p hp on_e level upright = let h = hull_from_on e p hp on_e in same_from p (point_at e.start)
    (level_coordinate h.k p.X p.W h.m h.n e.start.x e.end.x h.from_k h.x_is h.w_is level)
    (level_coordinate h.k p.Y p.W h.m h.n e.start.y e.end.y h.from_k h.y_is h.w_is upright)

-- what the weight of a sum lacks to the whole is the sum of what the ends' weights lack
rest_sum : (S W T k m n tc td : ℤ) → k *ℤ T ≡ m *ℤ tc +ℤ n *ℤ td → k *ℤ W ≡ m +ℤ n → k *ℤ (S *ℤ W -ℤ T) ≡ m *ℤ (S -ℤ tc) +ℤ n *ℤ (S -ℤ td)
rest_sum S W T k m n tc td e f = solve (S ∷ W ∷ T ∷ k ∷ []) (var 3 ⊗ (var 0 ⊗ var 1 ⊖ var 2)) (var 0 ⊗ (var 3 ⊗ var 1) ⊖ var 3 ⊗ var 2) tt
    ∙ ap₂ (λ (s t : ℤ). S *ℤ s -ℤ t) f e
    ∙ solve (S ∷ m ∷ n ∷ tc ∷ td ∷ []) (var 0 ⊗ (var 1 ⊕ var 2) ⊖ (var 1 ⊗ var 3 ⊕ var 2 ⊗ var 4)) (var 1 ⊗ (var 0 ⊖ var 3) ⊕ var 2 ⊗ (var 0 ⊖ var 4)) tt

-- of two edges on one line that share a point one has an end on the other: the ends of f aren't both before e,
-- nor both behind it, so one of them is on e, or f goes over e's start
collinear : (e f : Edge) (p : Point) → IsPoint p → on e p ≡ true → on f p ≡ true → side e.start e.end (point_at f.start) ≡ pos 0 → side e.start e.end (point_at f.end) ≡ pos 0 → EndOn e f
collinear e f p hp on_e on_f zc zd = choose (is_or_not (e.end.x -ℤ e.start.x)) (is_or_not (e.end.y -ℤ e.start.y))
  where
    h : OnHull f p
    h = hull_from_on f p hp on_f

    nonnegative : (s t : ℤ) → s ≡ t → pos 0 ≤ℤ s → pos 0 ≤ℤ t
    nonnegative s t e k = omega (arith, ints)

    below : (s t : ℤ) → s <ℤ t → (s -ℤ t) <ℤ pos 0
    below s t k = omega (arith, ints)

    through : (s t : ℤ) → pos 0 <ℤ s → s <ℤ t → pos 0 <ℤ t
    through s t k l = omega (arith, ints)

    low : (S T tc td : ℤ) → h.k *ℤ T ≡ h.m *ℤ tc +ℤ h.n *ℤ td → pos 0 ≤ℤ T → tc <ℤ pos 0 → td <ℤ pos 0 → ⊥
    low S T tc td sum from hc hd = never_below tc td h.m h.n h.from_m h.from_n (weights_some f p h hp) hc hd
        (nonnegative (h.k *ℤ T) (h.m *ℤ tc +ℤ h.n *ℤ td) sum (plus_plus h.k T (weak_positive h.k h.from_k) from))

    high : (S T tc td : ℤ) → h.k *ℤ T ≡ h.m *ℤ tc +ℤ h.n *ℤ td → pos 0 ≤ℤ (S *ℤ p.W -ℤ T) → S <ℤ tc → S <ℤ td → ⊥
    high S T tc td sum to hc hd = never_below (S -ℤ tc) (S -ℤ td) h.m h.n h.from_m h.from_n (weights_some f p h hp) (below S tc hc) (below S td hd)
        (nonnegative (h.k *ℤ (S *ℤ p.W -ℤ T)) (h.m *ℤ (S -ℤ tc) +ℤ h.n *ℤ (S -ℤ td)) (rest_sum S p.W T h.k h.m h.n tc td sum h.w_is) (plus_plus h.k (S *ℤ p.W -ℤ T) (weak_positive h.k h.from_k) to))

    wide : pos 0 <ℤ square e.start e.end → EndOn e f
    wide some = go (at_most_or_less (pos 0) (weight e.start e.end (point_at f.start))) (at_most_or_less (weight e.start e.end (point_at f.start)) (square e.start e.end))
        (at_most_or_less (pos 0) (weight e.start e.end (point_at f.end))) (at_most_or_less (weight e.start e.end (point_at f.end)) (square e.start e.end))
      where
        S : ℤ
        S = square e.start e.end

        sum : h.k *ℤ weight e.start e.end p ≡ h.m *ℤ weight e.start e.end (point_at f.start) +ℤ h.n *ℤ weight e.start e.end (point_at f.end)
        sum = weight_sum e.start e.end f.start f.end p h.k h.m h.n h.x_is h.y_is h.w_is

        go : ((pos 0 ≤ℤ weight e.start e.end (point_at f.start)) ⊎ (weight e.start e.end (point_at f.start) <ℤ pos 0))
            → ((weight e.start e.end (point_at f.start) ≤ℤ square e.start e.end) ⊎ (square e.start e.end <ℤ weight e.start e.end (point_at f.start)))
            → ((pos 0 ≤ℤ weight e.start e.end (point_at f.end)) ⊎ (weight e.start e.end (point_at f.end) <ℤ pos 0))
            → ((weight e.start e.end (point_at f.end) ≤ℤ square e.start e.end) ⊎ (square e.start e.end <ℤ weight e.start e.end (point_at f.end))) → EndOn e f
        go (inl c0) (inl cS) d1 d2 = inl (along e f.start some zc c0 cS)
        go c1 c2 (inl d0) (inl dS) = inr (inl (along e f.end some zd d0 dS))
        go (inr c0) c2 (inr d0) d2 = absurd (low (square e.start e.end) (weight e.start e.end p) (weight e.start e.end (point_at f.start)) (weight e.start e.end (point_at f.end)) sum (weight_low e p hp (on_parts e p on_e)) c0 d0)
        go c1 (inr cS) d1 (inr dS) = absurd (high (square e.start e.end) (weight e.start e.end p) (weight e.start e.end (point_at f.start)) (weight e.start e.end (point_at f.end)) sum (weight_high e p hp (on_parts e p on_e)) cS dS)
        go (inr c0) c2 (inl d0) (inr dS) = inr (inr (covers e f some zc zd c0 (through (square e.start e.end) (weight e.start e.end (point_at f.end)) some dS)))
        go (inl c0) (inr cS) (inr d0) d2 = inr (inr (covers_back e f some zc zd (through (square e.start e.end) (weight e.start e.end (point_at f.start)) some cS) d0))

    choose : ((e.end.x -ℤ e.start.x ≡ pos 0) ⊎ (e.end.x -ℤ e.start.x ≡ pos 0 → ⊥)) → ((e.end.y -ℤ e.start.y ≡ pos 0) ⊎ (e.end.y -ℤ e.start.y ≡ pos 0 → ⊥)) → EndOn e f
    choose (inl x0) (inl y0) = inr (inr (on_there f p e.start hp on_f (at_both e p hp on_e x0 y0)))
    choose (inr x1) y = wide (square_positive e.start e.end (λ q. x1 (gap_none e.start.x e.end.x (ap (λ (a : Position). a.x) q))))
    choose (inl x0) (inr y1) = wide (square_positive e.start e.end (λ q. y1 (gap_none e.start.y e.end.y (ap (λ (a : Position). a.y) q))))

-- ---- the tests
five_true : (p q r s t : Bool) → ((p ≡ true) ⊎ (q ≡ true) ⊎ (r ≡ true) ⊎ (s ≡ true) ⊎ (t ≡ true)) → p || q || r || s || t ≡ true
five_true true q r s t h = refl
five_true false true r s t h = refl
five_true false false true s t h = refl
five_true false false false true t h = refl
five_true false false false false true h = refl
five_true false false false false false (inl e) = e
five_true false false false false false (inr (inl e)) = e
five_true false false false false false (inr (inr (inl e))) = e
five_true false false false false false (inr (inr (inr (inl e)))) = e
five_true false false false false false (inr (inr (inr (inr e)))) = e

five_from : (p q r s t : Bool) → p || q || r || s || t ≡ true → (p ≡ true) ⊎ (q ≡ true) ⊎ (r ≡ true) ⊎ (s ≡ true) ⊎ (t ≡ true)
five_from true q r s t h = inl refl
five_from false true r s t h = inr (inl refl)
five_from false false true s t h = inr (inr (inl refl))
five_from false false false true t h = inr (inr (inr (inl refl)))
five_from false false false false t h = inr (inr (inr (inr h)))

-- the test of opposite signs passes where the signs are opposite
opposite_yes : (x y : ℤ) → Opposite x y → opposite x y ≡ true
opposite_yes x y (inl h) = rw (less_yes x (pos 0) h.0, less_yes (pos 0) y h.1) refl
opposite_yes x y (inr h) = or_right (int_lt x (pos 0) && int_lt (pos 0) y) (int_lt (pos 0) x && int_lt y (pos 0)) (and_from (int_lt (pos 0) x) (int_lt y (pos 0)) (less_yes (pos 0) x h.0) (less_yes y (pos 0) h.1))

-- and only there
opposite_from : (x y : ℤ) → opposite x y ≡ true → Opposite x y
opposite_from x y e = go (or_cases (int_lt x (pos 0) && int_lt (pos 0) y) (int_lt (pos 0) x && int_lt y (pos 0)) e)
  where
    go : ((int_lt x (pos 0) && int_lt (pos 0) y) ≡ true) ⊎ ((int_lt (pos 0) x && int_lt y (pos 0)) ≡ true) → Opposite x y
    go (inl h) = let parts = and_parts (int_lt x (pos 0)) (int_lt (pos 0) y) h in inl (less_from x (pos 0) parts.0, less_from (pos 0) y parts.1)
    go (inr h) = let parts = and_parts (int_lt (pos 0) x) (int_lt y (pos 0)) h in inr (less_from (pos 0) x parts.0, less_from y (pos 0) parts.1)

abbrev Five : Edge → Edge → Type 0
Five e f = (on e (point_at f.start) ≡ true) ⊎ (on e (point_at f.end) ≡ true) ⊎ (on f (point_at e.start) ≡ true) ⊎ (on f (point_at e.end) ≡ true) ⊎ (cross e f ≡ true)

-- an end on the other edge passes one of the five tests
five_of : (e f : Edge) → EndOn e f → Five e f
five_of e f (inl h) = inl h
five_of e f (inr (inl h)) = inr (inl h)
five_of e f (inr (inr h)) = inr (inr (inl h))

-- and so it does with the edges exchanged
five_back : (e f : Edge) → EndOn f e → Five e f
five_back e f (inl h) = inr (inr (inl h))
five_back e f (inr (inl h)) = inr (inr (inr (inl h)))
five_back e f (inr (inr h)) = inl h

-- of two edges that share a point one has an end on the other, or the ends of each are on opposite sides
-- of the other
one_of_five : (e f : Edge) (p : Point) → IsPoint p → on e p ≡ true → on f p ≡ true → Five e f
one_of_five e f p hp on_e on_f = go (seen e f p hp on_e on_f) (seen f e p hp on_f on_e)
  where
    go : Seen e f p → Seen f e p → Five e f
    go (inr (inl zero)) other = five_of e f (collinear e f p hp on_e on_f zero.0 zero.1)
    go (inr (inr (inl same))) other = inl (on_there e p f.start hp on_e same)
    go (inr (inr (inr same))) other = inr (inl (on_there e p f.end hp on_e same))
    go (inl o) (inr (inl zero)) = five_back e f (collinear f e p hp on_f on_e zero.0 zero.1)
    go (inl o) (inr (inr (inl same))) = inr (inr (inl (on_there f p e.start hp on_f same)))
    go (inl o) (inr (inr (inr same))) = inr (inr (inr (inl (on_there f p e.end hp on_f same))))
    go (inl o) (inl q) = inr (inr (inr (inr (and_from (opposite (side e.start e.end (point_at f.start)) (side e.start e.end (point_at f.end)))
        (opposite (side f.start f.end (point_at e.start)) (side f.start f.end (point_at e.end)))
        (opposite_yes (side e.start e.end (point_at f.start)) (side e.start e.end (point_at f.end)) o) (opposite_yes (side f.start f.end (point_at e.start)) (side f.start f.end (point_at e.end)) q)))))

-- ---- the point where two edges cross
abbrev A' : Expr
A' = (var 2 ⊖ var 0) ⊗ (var 5 ⊖ var 1 ⊗ lit (pos 1)) ⊖ (var 3 ⊖ var 1) ⊗ (var 4 ⊖ var 0 ⊗ lit (pos 1))

abbrev B' : Expr
B' = (var 2 ⊖ var 0) ⊗ (var 7 ⊖ var 1 ⊗ lit (pos 1)) ⊖ (var 3 ⊖ var 1) ⊗ (var 6 ⊖ var 0 ⊗ lit (pos 1))

abbrev C' : Expr
C' = (var 6 ⊖ var 4) ⊗ (var 1 ⊖ var 5 ⊗ lit (pos 1)) ⊖ (var 7 ⊖ var 5) ⊗ (var 0 ⊖ var 4 ⊗ lit (pos 1))

abbrev D' : Expr
D' = (var 6 ⊖ var 4) ⊗ (var 3 ⊖ var 5 ⊗ lit (pos 1)) ⊖ (var 7 ⊖ var 5) ⊗ (var 2 ⊖ var 4 ⊗ lit (pos 1))

abbrev zero' : Expr
zero' = lit (pos 0)

-- the sides of the ends of f at e, and of the ends of e at f
abbrev A : Edge → Edge → ℤ
A e f = side e.start e.end (point_at f.start)

abbrev B : Edge → Edge → ℤ
B e f = side e.start e.end (point_at f.end)

abbrev C : Edge → Edge → ℤ
C e f = side f.start f.end (point_at e.start)

abbrev D : Edge → Edge → ℤ
D e f = side f.start f.end (point_at e.end)

-- the sides of the ends, crosswise, are the weights with which the ends of e and those of f have one sum: its x
fore_x : (e f : Edge) → (pos 0 -ℤ D e f) *ℤ e.start.x +ℤ C e f *ℤ e.end.x ≡ B e f *ℤ f.start.x +ℤ (pos 0 -ℤ A e f) *ℤ f.end.x
fore_x e f = solve (e.start.x ∷ e.start.y ∷ e.end.x ∷ e.end.y ∷ f.start.x ∷ f.start.y ∷ f.end.x ∷ f.end.y ∷ []) ((zero' ⊖ D') ⊗ var 0 ⊕ C' ⊗ var 2) (B' ⊗ var 4 ⊕ (zero' ⊖ A') ⊗ var 6) tt

-- and its y
fore_y : (e f : Edge) → (pos 0 -ℤ D e f) *ℤ e.start.y +ℤ C e f *ℤ e.end.y ≡ B e f *ℤ f.start.y +ℤ (pos 0 -ℤ A e f) *ℤ f.end.y
fore_y e f = solve (e.start.x ∷ e.start.y ∷ e.end.x ∷ e.end.y ∷ f.start.x ∷ f.start.y ∷ f.end.x ∷ f.end.y ∷ []) ((zero' ⊖ D') ⊗ var 1 ⊕ C' ⊗ var 3) (B' ⊗ var 5 ⊕ (zero' ⊖ A') ⊗ var 7) tt

-- and its denominator
fore_w : (e f : Edge) → (pos 0 -ℤ D e f) +ℤ C e f ≡ B e f +ℤ (pos 0 -ℤ A e f)
fore_w e f = solve (e.start.x ∷ e.start.y ∷ e.end.x ∷ e.end.y ∷ f.start.x ∷ f.start.y ∷ f.end.x ∷ f.end.y ∷ []) ((zero' ⊖ D') ⊕ C') (B' ⊕ (zero' ⊖ A')) tt

-- the same with all signs turned: its x
back_x : (e f : Edge) → D e f *ℤ e.start.x +ℤ (pos 0 -ℤ C e f) *ℤ e.end.x ≡ (pos 0 -ℤ B e f) *ℤ f.start.x +ℤ A e f *ℤ f.end.x
back_x e f = solve (e.start.x ∷ e.start.y ∷ e.end.x ∷ e.end.y ∷ f.start.x ∷ f.start.y ∷ f.end.x ∷ f.end.y ∷ []) (D' ⊗ var 0 ⊕ (zero' ⊖ C') ⊗ var 2) ((zero' ⊖ B') ⊗ var 4 ⊕ A' ⊗ var 6) tt

-- and its y
back_y : (e f : Edge) → D e f *ℤ e.start.y +ℤ (pos 0 -ℤ C e f) *ℤ e.end.y ≡ (pos 0 -ℤ B e f) *ℤ f.start.y +ℤ A e f *ℤ f.end.y
back_y e f = solve (e.start.x ∷ e.start.y ∷ e.end.x ∷ e.end.y ∷ f.start.x ∷ f.start.y ∷ f.end.x ∷ f.end.y ∷ []) (D' ⊗ var 1 ⊕ (zero' ⊖ C') ⊗ var 3) ((zero' ⊖ B') ⊗ var 5 ⊕ A' ⊗ var 7) tt

-- and its denominator
back_w : (e f : Edge) → D e f +ℤ (pos 0 -ℤ C e f) ≡ (pos 0 -ℤ B e f) +ℤ A e f
back_w e f = solve (e.start.x ∷ e.start.y ∷ e.end.x ∷ e.end.y ∷ f.start.x ∷ f.start.y ∷ f.end.x ∷ f.end.y ∷ []) (D' ⊕ (zero' ⊖ C')) ((zero' ⊖ B') ⊕ A') tt

by_one : (x y : ℤ) → x ≡ y → pos 1 *ℤ x ≡ y
by_one x y e = solve (x ∷ []) (lit (pos 1) ⊗ var 0) (var 0) tt ∙ e

-- a point is on both edges where it is a sum of the ends of each
met : (e f : Edge) (m n r s : ℤ) → pos 0 <ℤ (m +ℤ n) → pos 0 ≤ℤ m → pos 0 ≤ℤ n → pos 0 ≤ℤ r → pos 0 ≤ℤ s
    → m *ℤ e.start.x +ℤ n *ℤ e.end.x ≡ r *ℤ f.start.x +ℤ s *ℤ f.end.x → m *ℤ e.start.y +ℤ n *ℤ e.end.y ≡ r *ℤ f.start.y +ℤ s *ℤ f.end.y → m +ℤ n ≡ r +ℤ s → SharePoint e f
met e f m n r s some hm hn hr hs x_is y_is w_is = let p : Point = record { X = m *ℤ e.start.x +ℤ n *ℤ e.end.x; Y = m *ℤ e.start.y +ℤ n *ℤ e.end.y; W = m +ℤ n } in
    record {
      at = p;
      is_point = some;
      on_first = on_from_hull e p (record { k = pos 1; m = m; n = n; from_k = one_above; from_m = hm; from_n = hn; x_is = by_one p.X p.X refl; y_is = by_one p.Y p.Y refl; w_is = by_one p.W p.W refl });
      on_second = on_from_hull f p (record { k = pos 1; m = r; n = s; from_k = one_above; from_m = hr; from_n = hs; x_is = by_one p.X _ x_is; y_is = by_one p.Y _ y_is; w_is = by_one p.W _ w_is });
    }

-- where the signs are opposite at both edges the weights are at least 0, so the two edges meet there
crossing : (e f : Edge) → Opposite (A e f) (B e f) → Opposite (C e f) (D e f) → SharePoint e f
crossing e f o (inl h) = back o
  where
    total : (c d : ℤ) → c <ℤ pos 0 → pos 0 <ℤ d → pos 0 <ℤ (d +ℤ (pos 0 -ℤ c))
    total c d h k = omega (arith, ints)

    wrong : (s a b : ℤ) → pos 0 <ℤ s → s ≡ (pos 0 -ℤ b) +ℤ a → a <ℤ pos 0 → pos 0 <ℤ b → ⊥
    wrong s a b h e k l = omega (arith, ints)

    back : Opposite (A e f) (B e f) → SharePoint e f
    back (inl k) = absurd (wrong (D e f +ℤ (pos 0 -ℤ C e f)) (A e f) (B e f) (total (C e f) (D e f) h.0 h.1) (back_w e f) k.0 k.1)
    back (inr k) = met e f (D e f) (pos 0 -ℤ C e f) (pos 0 -ℤ B e f) (A e f) (total (C e f) (D e f) h.0 h.1) (weak_positive (D e f) h.1) (negative_turned (C e f) h.0) (negative_turned (B e f) k.1) (weak_positive (A e f) k.0)
        (back_x e f) (back_y e f) (back_w e f)
crossing e f o (inr h) = fore o
  where
    total : (c d : ℤ) → pos 0 <ℤ c → d <ℤ pos 0 → pos 0 <ℤ ((pos 0 -ℤ d) +ℤ c)
    total c d h k = omega (arith, ints)

    wrong : (s a b : ℤ) → pos 0 <ℤ s → s ≡ b +ℤ (pos 0 -ℤ a) → pos 0 <ℤ a → b <ℤ pos 0 → ⊥
    wrong s a b h e k l = omega (arith, ints)

    fore : Opposite (A e f) (B e f) → SharePoint e f
    fore (inr k) = absurd (wrong ((pos 0 -ℤ D e f) +ℤ C e f) (A e f) (B e f) (total (C e f) (D e f) h.0 h.1) (fore_w e f) k.0 k.1)
    fore (inl k) = met e f (pos 0 -ℤ D e f) (C e f) (B e f) (pos 0 -ℤ A e f) (total (C e f) (D e f) h.0 h.1) (negative_turned (D e f) h.1) (weak_positive (C e f) h.0) (weak_positive (B e f) k.1) (negative_turned (A e f) k.0)
        (fore_x e f) (fore_y e f) (fore_w e f)

-- an end of one edge on the other is a shared point, and so is the crossing
share_of : (e f : Edge) → Five e f → SharePoint e f
share_of e f (inl h) = record { at = point_at f.start; is_point = one_above; on_first = h; on_second = start_on f }
share_of e f (inr (inl h)) = record { at = point_at f.end; is_point = one_above; on_first = h; on_second = end_on f }
share_of e f (inr (inr (inl h))) = record { at = point_at e.start; is_point = one_above; on_first = start_on e; on_second = h }
share_of e f (inr (inr (inr (inl h)))) = record { at = point_at e.end; is_point = one_above; on_first = end_on e; on_second = h }
share_of e f (inr (inr (inr (inr h)))) = let parts = and_parts (opposite (A e f) (B e f)) (opposite (C e f) (D e f)) h in
    crossing e f (opposite_from (A e f) (B e f) parts.0) (opposite_from (C e f) (D e f) parts.1)

-- the four tests of ends and that of a crossing say exactly whether two edges share a point
pub shared_point_is_decided : SharedPointIsDecided
shared_point_is_decided e f = (
  (λ h. share_of e f (five_from (on e (point_at f.start)) (on e (point_at f.end)) (on f (point_at e.start)) (on f (point_at e.end)) (cross e f) h)),
  (λ s. five_true (on e (point_at f.start)) (on e (point_at f.end)) (on f (point_at e.start)) (on f (point_at e.end)) (cross e f) (one_of_five e f s.at s.is_point s.on_first s.on_second)),
)
