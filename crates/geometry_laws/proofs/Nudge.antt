-- A point moved down or up by 1/n: from some n on it is off every edge that isn't vertical, and what is strictly above it there is what is at or above it here, or strictly above it.
use Rattle.std.proofs.Common.{ℕ, ◌<◌, ℤ, pos, ◌+ℤ◌, ◌-ℤ◌, ◌*ℤ◌, ◌≤ℤ◌, ◌<ℤ◌, int_lt, int_le, ◌≡◌, ◌⊎◌, inl, inr, Bool, true, false, ◌&&◌, if◌then◌else◌, refl, sym, ap, ap₂, ◌∙◌, [], ◌∷◌, arith}
use borrow.Author.Differences.{ints}
use Rattle.geometry_model.specs.Points.{Position, Point, IsPoint}
use Rattle.geometry_model.specs.Geometries.{Edge}
use Rattle.geometry_model.specs.Sides.{side, on}
use Rattle.geometry_model.specs.Crossings.{exactly_one as xor, reaches, spans, side_rightward, strictly_above, at_or_above}
use Rattle.geometry_model.specs.Dimensions.{weighted}
use Rattle.basics.proofs.Ring.{solve, var, lit, ◌⊕◌, ◌⊖◌, ◌⊗◌}
use Rattle.basics.proofs.Signs.{strict_plus_plus, plus_plus, plus_minus, cancel_positive, zero_product, at_most_or_less, less_yes, less_no, at_most_yes, at_most_no, at_most_from, not_at_most_from}
use Rattle.basics.proofs.Quotients.{at_most_scaled}
use Rattle.basics.proofs.Orders.{natural_positive, same_from_gap, weak_positive, natural_weak, negative_flipped}
use Rattle.basics.proofs.Bools.{by_contraries}
use Rattle.geometry_laws.proofs.LineSides.{side'}
use Rattle.geometry_laws.proofs.Hulls.{on_parts}
use Rattle.geometry_laws.proofs.Eventually.{Eventually, both, weaker, grows, from_one, always}
use Rattle.geometry_laws.specs.CoverLaws.{value, IsNotUprightAt}
use Rattle.geometry_laws.proofs.Lines.{value_weighted, Parted, parted, off_beyond}

-- the point moved up by d/(n W)
abbrev pub lifted : ℤ → ℕ → Point → Point
lifted d n p = weighted n p 1 (record { X = pos 0; Y = d; W = pos 0 })

-- moved up or down it is a point
pub lifted_is_point : (d : ℤ) (n : ℕ) (p : Point) → 0 < n → IsPoint p → IsPoint (lifted d n p)
lifted_is_point d n p h hp = carried (pos n *ℤ p.W) (strict_plus_plus (pos n) p.W (natural_positive n h) hp)
  where
    carried : (x : ℤ) → pos 0 <ℤ x → pos 0 <ℤ (x +ℤ pos 0)
    carried x h = omega (arith, ints)

-- ---- off the edges
-- moving a point upwards changes its side by the breadth of the line
pub side_lifted : (a b : Position) (d : ℤ) (n : ℕ) (p : Point) → side a b (lifted d n p) ≡ pos n *ℤ side a b p +ℤ d *ℤ (b.x -ℤ a.x)
side_lifted a b d n p = solve (a.x ∷ a.y ∷ b.x ∷ b.y ∷ p.X ∷ p.Y ∷ p.W ∷ pos n ∷ d ∷ [])
    ((var 2 ⊖ var 0) ⊗ ((var 7 ⊗ var 5 ⊕ lit (pos 1) ⊗ var 8) ⊖ var 1 ⊗ (var 7 ⊗ var 6 ⊕ lit (pos 1) ⊗ lit (pos 0))) ⊖ (var 3 ⊖ var 1) ⊗ ((var 7 ⊗ var 4 ⊕ lit (pos 1) ⊗ lit (pos 0)) ⊖ var 0 ⊗ (var 7 ⊗ var 6 ⊕ lit (pos 1) ⊗ lit (pos 0))))
    (var 7 ⊗ side' ⊕ var 8 ⊗ (var 2 ⊖ var 0)) tt

-- a point on an edge with breadth, moved up or down, leaves it
pub off_by_breadth : (d : ℤ) (e : Edge) (n : ℕ) (p : Point) → (d ≡ pos 0 → ⊥) → on e p ≡ true → (e.start.x ≡ e.end.x → ⊥) → on e (lifted d n p) ≡ false
off_by_breadth d e n p hd h f = by_contraries (on e (lifted d n p)) false (λ k. absurd (apart ((on_parts e (lifted d n p) k).on_line))) refl
  where
    drop : (n s t r : ℤ) → r ≡ n *ℤ s +ℤ t → s ≡ pos 0 → r ≡ pos 0 → t ≡ pos 0
    drop n s t r e f g = rest (n *ℤ s) t r e (ap (λ (z : ℤ). n *ℤ z) f ∙ solve (n ∷ []) (var 0 ⊗ lit (pos 0)) (lit (pos 0)) tt) g
      where
        rest : (x t r : ℤ) → r ≡ x +ℤ t → x ≡ pos 0 → r ≡ pos 0 → t ≡ pos 0
        rest x t r e f g = omega (arith, ints)

    pick : ((d ≡ pos 0) ⊎ (e.end.x -ℤ e.start.x ≡ pos 0)) → ⊥
    pick (inl g) = hd g
    pick (inr g) = f (same_from_gap e.start.x e.end.x g)

    apart : side e.start e.end (lifted d n p) ≡ pos 0 → ⊥
    apart g = pick (zero_product d (e.end.x -ℤ e.start.x) (drop (pos n) (side e.start e.end p) (d *ℤ (e.end.x -ℤ e.start.x)) (side e.start e.end (lifted d n p)) (side_lifted e.start e.end d n p) ((on_parts e p h).on_line) g))

-- off an edge a line parts it from the point, and soon from the moved point
off_by_line : (d : ℤ) (e : Edge) (p : Point) → IsPoint p → on e p ≡ false → Eventually (λ n. on e (lifted d n p) ≡ false)
off_by_line d e p hp f = go (parted e p f)
  where
    carried : (x y z : ℤ) → x ≡ y +ℤ pos 1 *ℤ z → pos 0 <ℤ (y +ℤ z) → pos 0 <ℤ x
    carried x y z e h = omega (arith, ints)

    go : Parted e p → Eventually (λ n. on e (lifted d n p) ≡ false)
    go c = weaker (λ n. (0 < n) × (pos 0 <ℤ (pos n *ℤ value c.line p +ℤ value c.line (record { X = pos 0; Y = d; W = pos 0 })))) (λ n. on e (lifted d n p) ≡ false)
        (λ n h. off_beyond c.line e (lifted d n p) (lifted_is_point d n p h.0 hp) c.parts (carried (value c.line (lifted d n p)) (pos n *ℤ value c.line p) (value c.line (record { X = pos 0; Y = d; W = pos 0 })) (value_weighted c.line n p 1 (record { X = pos 0; Y = d; W = pos 0 })) h.1))
        (both (λ n. 0 < n) (λ n. pos 0 <ℤ (pos n *ℤ value c.line p +ℤ value c.line (record { X = pos 0; Y = d; W = pos 0 }))) (from_one (λ n. 0 < n) (λ n k. k)) (grows (value c.line p) (value c.line (record { X = pos 0; Y = d; W = pos 0 })) c.above_at))

-- a point off an edge stays off when it is moved little enough, and one on it leaves it at once
pub off_soon : (d : ℤ) (e : Edge) (p : Point) → (d ≡ pos 0 → ⊥) → IsPoint p → IsNotUprightAt p e → Eventually (λ n. on e (lifted d n p) ≡ false)
off_soon d e p hd hp s = go (on e p) refl
  where
    go : (t : Bool) → on e p ≡ t → Eventually (λ n. on e (lifted d n p) ≡ false)
    go true h = always (λ n. on e (lifted d n p) ≡ false) (λ n. off_by_breadth d e n p hd h (s h))
    go false h = off_by_line d e p hp h

-- ---- what is above
-- moving a point upwards leaves alone which positions are to the right of it
reaches_lifted : (d : ℤ) (a : Position) (n : ℕ) (p : Point) → 0 < n → reaches a (lifted d n p) ≡ reaches a p
reaches_lifted d a n p h = ap₂ int_le (solve (a.x ∷ pos n ∷ p.W ∷ []) (var 0 ⊗ (var 1 ⊗ var 2 ⊕ lit (pos 1) ⊗ lit (pos 0))) (var 1 ⊗ (var 0 ⊗ var 2)) tt) (solve (pos n ∷ p.X ∷ []) (var 0 ⊗ var 1 ⊕ lit (pos 1) ⊗ lit (pos 0)) (var 0 ⊗ var 1) tt)
    ∙ at_most_scaled (pos n) (a.x *ℤ p.W) p.X (natural_positive n h)

-- and so which edges span it
pub spans_lifted : (d : ℤ) (e : Edge) (n : ℕ) (p : Point) → 0 < n → spans e (lifted d n p) ≡ spans e p
spans_lifted d e n p h = ap₂ xor (reaches_lifted d e.start n p h) (reaches_lifted d e.end n p h)

-- how far the edge reaches to the right
abbrev pub breadth : Edge → ℤ
breadth e = if int_le e.start.x e.end.x then e.end.x -ℤ e.start.x else e.start.x -ℤ e.end.x

-- the side of an edge taken from left to right grows by the edge's breadth
pub rightward_lifted : (d : ℤ) (e : Edge) (n : ℕ) (p : Point) → side_rightward e (lifted d n p) ≡ pos n *ℤ side_rightward e p +ℤ d *ℤ breadth e
rightward_lifted d e n p = go (int_le e.start.x e.end.x)
  where
    go : (t : Bool) → (if t then side e.start e.end (lifted d n p) else side e.end e.start (lifted d n p)) ≡ pos n *ℤ (if t then side e.start e.end p else side e.end e.start p) +ℤ d *ℤ (if t then e.end.x -ℤ e.start.x else e.start.x -ℤ e.end.x)
    go true = side_lifted e.start e.end d n p
    go false = side_lifted e.end e.start d n p

-- an edge that spans a point isn't vertical
strict_order : (s t x w : ℤ) → pos 0 <ℤ w → int_le (s *ℤ w) x ≡ true → int_le (t *ℤ w) x ≡ false → pos 0 <ℤ (t -ℤ s)
strict_order s t x w hw e f = cancel_positive w (t -ℤ s) (weak_positive w hw) (apart (s *ℤ w) (t *ℤ w) x (w *ℤ (t -ℤ s)) (solve (s ∷ t ∷ w ∷ []) (var 1 ⊗ var 2 ⊖ var 0 ⊗ var 2) (var 2 ⊗ (var 1 ⊖ var 0)) tt) (at_most_from (s *ℤ w) x e) (not_at_most_from (t *ℤ w) x f))
  where
    apart : (s t x r : ℤ) → t -ℤ s ≡ r → s ≤ℤ x → x <ℤ t → pos 0 <ℤ r
    apart s t x r e h k = omega (arith, ints)

-- the breadth is taken from the lesser x to the greater
positive_breadth : (s t : ℤ) → (pos 0 <ℤ (t -ℤ s)) ⊎ (pos 0 <ℤ (s -ℤ t)) → pos 0 <ℤ (if int_le s t then t -ℤ s else s -ℤ t)
positive_breadth s t h = go (int_le s t) refl h
  where
    clash : int_le s t ≡ true → pos 0 <ℤ (s -ℤ t) → ⊥
    clash e k = omega (arith, ints)

    clash_back : int_le s t ≡ false → pos 0 <ℤ (t -ℤ s) → ⊥
    clash_back e k = omega (arith, ints)

    go : (b : Bool) → int_le s t ≡ b → (pos 0 <ℤ (t -ℤ s)) ⊎ (pos 0 <ℤ (s -ℤ t)) → pos 0 <ℤ (if b then t -ℤ s else s -ℤ t)
    go true e (inl k) = k
    go true e (inr k) = absurd (clash e k)
    go false e (inl k) = absurd (clash_back e k)
    go false e (inr k) = k

-- one end isn't to the right of the point and the other is, so the edge has breadth
pub breadth_positive : (e : Edge) (p : Point) → IsPoint p → spans e p ≡ true → pos 0 <ℤ breadth e
breadth_positive e p hp h = positive_breadth e.start.x e.end.x (go (reaches e.start p) refl (reaches e.end p) refl h)
  where
    go : (a : Bool) → reaches e.start p ≡ a → (b : Bool) → reaches e.end p ≡ b → xor a b ≡ true → (pos 0 <ℤ (e.end.x -ℤ e.start.x)) ⊎ (pos 0 <ℤ (e.start.x -ℤ e.end.x))
    go true f true g k = absurd (let c : false ≡ true = k in cc)
    go true f false g k = inl (strict_order e.start.x e.end.x p.X p.W hp f g)
    go false f true g k = inr (strict_order e.end.x e.start.x p.X p.W hp g f)
    go false f false g k = absurd (let c : false ≡ true = k in cc)

-- ---- just below
abbrev pub down : ℤ
down = pos 0 -ℤ pos 1

-- a little lower a side of at most 0 is below 0, and one above 0 is still above it
sinks_number : (s d : ℤ) → pos 0 <ℤ d → Eventually (λ n. int_lt (pos n *ℤ s +ℤ down *ℤ d) (pos 0) ≡ int_le s (pos 0))
sinks_number s d hd = go (at_most_or_less s (pos 0))
  where
    below : (x d : ℤ) → x ≤ℤ pos 0 → pos 0 <ℤ d → (x +ℤ down *ℤ d) <ℤ pos 0
    below x d h k = omega (arith, ints)

    beyond : (x d : ℤ) → pos 0 <ℤ (x +ℤ (pos 0 -ℤ d)) → pos 0 ≤ℤ (x +ℤ down *ℤ d)
    beyond x d h = omega (arith, ints)

    go : (s ≤ℤ pos 0) ⊎ (pos 0 <ℤ s) → Eventually (λ n. int_lt (pos n *ℤ s +ℤ down *ℤ d) (pos 0) ≡ int_le s (pos 0))
    go (inl h) = always _ (λ n. less_yes (pos n *ℤ s +ℤ down *ℤ d) (pos 0) (below (pos n *ℤ s) d (plus_minus (pos n) s (natural_weak n) h) hd) ∙ sym (at_most_yes s (pos 0) h))
    go (inr h) = weaker (λ n. pos 0 <ℤ (pos n *ℤ s +ℤ (pos 0 -ℤ d))) (λ n. int_lt (pos n *ℤ s +ℤ down *ℤ d) (pos 0) ≡ int_le s (pos 0))
        (λ n k. less_no (pos n *ℤ s +ℤ down *ℤ d) (pos 0) (beyond (pos n *ℤ s) d k) ∙ sym (at_most_no s (pos 0) h)) (grows s (pos 0 -ℤ d) h)

-- a little higher a side below 0 is still below 0, and one of at least 0 isn't below it
rises_number : (s d : ℤ) → pos 0 <ℤ d → Eventually (λ n. int_lt (pos n *ℤ s +ℤ pos 1 *ℤ d) (pos 0) ≡ int_lt s (pos 0))
rises_number s d hd = go (at_most_or_less (pos 0) s)
  where
    over : (x d : ℤ) → pos 0 ≤ℤ x → pos 0 <ℤ d → pos 0 ≤ℤ (x +ℤ pos 1 *ℤ d)
    over x d h k = omega (arith, ints)

    product_turned : (n s : ℤ) → n *ℤ (pos 0 -ℤ s) ≡ pos 0 -ℤ n *ℤ s
    product_turned n s = solve (n ∷ s ∷ []) (var 0 ⊗ (lit (pos 0) ⊖ var 1)) (lit (pos 0) ⊖ var 0 ⊗ var 1) tt

    beyond : (x y d : ℤ) → y ≡ pos 0 -ℤ x → pos 0 <ℤ (y +ℤ (pos 0 -ℤ d)) → (x +ℤ pos 1 *ℤ d) <ℤ pos 0
    beyond x y d e h = omega (arith, ints)

    go : (pos 0 ≤ℤ s) ⊎ (s <ℤ pos 0) → Eventually (λ n. int_lt (pos n *ℤ s +ℤ pos 1 *ℤ d) (pos 0) ≡ int_lt s (pos 0))
    go (inl h) = always _ (λ n. less_no (pos n *ℤ s +ℤ pos 1 *ℤ d) (pos 0) (over (pos n *ℤ s) d (plus_plus (pos n) s (natural_weak n) h) hd) ∙ sym (less_no s (pos 0) h))
    go (inr h) = weaker (λ n. pos 0 <ℤ (pos n *ℤ (pos 0 -ℤ s) +ℤ (pos 0 -ℤ d))) (λ n. int_lt (pos n *ℤ s +ℤ pos 1 *ℤ d) (pos 0) ≡ int_lt s (pos 0))
        (λ n k. less_yes (pos n *ℤ s +ℤ pos 1 *ℤ d) (pos 0) (beyond (pos n *ℤ s) (pos n *ℤ (pos 0 -ℤ s)) d (product_turned (pos n) s) k) ∙ sym (less_yes s (pos 0) h)) (grows (pos 0 -ℤ s) (pos 0 -ℤ d) (negative_flipped s h))

-- moved down a little, a point has strictly above it what was at or above it
pub sinks : (e : Edge) (p : Point) → IsPoint p → Eventually (λ n. strictly_above e (lifted down n p) ≡ at_or_above e p)
sinks e p hp = go (spans e p) refl
  where
    go : (t : Bool) → spans e p ≡ t → Eventually (λ n. strictly_above e (lifted down n p) ≡ at_or_above e p)
    go false h = from_one (λ n. strictly_above e (lifted down n p) ≡ at_or_above e p)
        (λ n k. ap (λ (b : Bool). b && int_lt (side_rightward e (lifted down n p)) (pos 0)) (spans_lifted down e n p k ∙ h) ∙ ap (λ (b : Bool). b && int_le (side_rightward e p) (pos 0)) (sym h))
    go true h = weaker (λ n. (0 < n) × (int_lt (pos n *ℤ side_rightward e p +ℤ down *ℤ breadth e) (pos 0) ≡ int_le (side_rightward e p) (pos 0))) (λ n. strictly_above e (lifted down n p) ≡ at_or_above e p)
        (λ n k. ap₂ (λ (x y : Bool). x && y) (spans_lifted down e n p k.0) (ap (λ (z : ℤ). int_lt z (pos 0)) (rightward_lifted down e n p) ∙ k.1))
        (both (λ n. 0 < n) (λ n. int_lt (pos n *ℤ side_rightward e p +ℤ down *ℤ breadth e) (pos 0) ≡ int_le (side_rightward e p) (pos 0)) (from_one (λ n. 0 < n) (λ n k. k)) (sinks_number (side_rightward e p) (breadth e) (breadth_positive e p hp h)))

-- moved up a little, a point has strictly above it what it had
pub rises : (e : Edge) (p : Point) → IsPoint p → Eventually (λ n. strictly_above e (lifted (pos 1) n p) ≡ strictly_above e p)
rises e p hp = go (spans e p) refl
  where
    go : (t : Bool) → spans e p ≡ t → Eventually (λ n. strictly_above e (lifted (pos 1) n p) ≡ strictly_above e p)
    go false h = from_one (λ n. strictly_above e (lifted (pos 1) n p) ≡ strictly_above e p)
        (λ n k. ap (λ (b : Bool). b && int_lt (side_rightward e (lifted (pos 1) n p)) (pos 0)) (spans_lifted (pos 1) e n p k ∙ h) ∙ ap (λ (b : Bool). b && int_lt (side_rightward e p) (pos 0)) (sym h))
    go true h = weaker (λ n. (0 < n) × (int_lt (pos n *ℤ side_rightward e p +ℤ pos 1 *ℤ breadth e) (pos 0) ≡ int_lt (side_rightward e p) (pos 0))) (λ n. strictly_above e (lifted (pos 1) n p) ≡ strictly_above e p)
        (λ n k. ap₂ (λ (x y : Bool). x && y) (spans_lifted (pos 1) e n p k.0) (ap (λ (z : ℤ). int_lt z (pos 0)) (rightward_lifted (pos 1) e n p) ∙ k.1))
        (both (λ n. 0 < n) (λ n. int_lt (pos n *ℤ side_rightward e p +ℤ pos 1 *ℤ breadth e) (pos 0) ≡ int_lt (side_rightward e p) (pos 0)) (from_one (λ n. 0 < n) (λ n k. k)) (rises_number (side_rightward e p) (breadth e) (breadth_positive e p hp h)))
