-- Finitely many points don't cover a segment, and finitely many lines don't cover a triangle.
use Rattle.std.proofs.Common.{ℕ, ◌*◌, ℤ, pos, ◌+ℤ◌, ◌-ℤ◌, ◌*ℤ◌, ◌≤ℤ◌, ◌<ℤ◌, ◌≡◌, ◌≢◌, ◌⊎◌, inl, inr, true, false, refl, sym, ap, ap₂, ◌∙◌, List, [], ◌∷◌, arith}
use borrow.Author.Differences.{ints}
use Rattle.geometry_model.specs.Points.{Point, IsPoint, same_point}
use Rattle.geometry_model.specs.Dimensions.{area, weighted, weighted_three}
use Rattle.basics.proofs.Ring.{solve, var, lit, ◌⊕◌, ◌⊖◌, ◌⊗◌}
use Rattle.basics.proofs.Signs.{three_ways, is_or_not, zero_product, plus_plus}
use Rattle.basics.proofs.Bools.{by_contraries}
use Rattle.basics.proofs.Orders.{negative_flipped, natural_weak, gap_none, same_from_gap}
use Rattle.geometry_laws.proofs.Plane.{right}
use Rattle.geometry_laws.proofs.Each.{Each, each_map}
use Rattle.geometry_laws.proofs.Eventually.{Eventually, both, weaker, always, grows, each_eventually}
use Rattle.geometry_laws.proofs.Scaling.{same_x, same_y, same_from}
use Rattle.geometry_laws.proofs.PointOrder.{same_symmetric, same_transitive}
use Rattle.geometry_laws.specs.CoverLaws.{Line, value, IsLine}
use Rattle.geometry_laws.proofs.Lines.{value_weighted_three}
use Rattle.geometry_laws.proofs.LineOrder.{up}

-- ---- 1 s + t q + t t r isn't 0 in the end, where some of the three isn't 0
-- where the highest coefficient is above 0 the sum is above 0 in the end
quadratic_up : (p q r : ℤ) → pos 0 <ℤ r → Eventually (λ t. pos 0 <ℤ (pos 1 *ℤ p +ℤ pos t *ℤ q +ℤ pos (t * t) *ℤ r))
quadratic_up p q r h = weaker (λ t. (pos 0 <ℤ (pos t *ℤ r +ℤ q)) × (pos 0 <ℤ (pos t *ℤ pos 1 +ℤ p))) (λ t. pos 0 <ℤ (pos 1 *ℤ p +ℤ pos t *ℤ q +ℤ pos (t * t) *ℤ r))
    (λ t k. joined t k.0 k.1) (both (λ t. pos 0 <ℤ (pos t *ℤ r +ℤ q)) (λ t. pos 0 <ℤ (pos t *ℤ pos 1 +ℤ p)) (grows r q h) (grows (pos 1) p (omega (arith, ints))))
  where
    one_less : (z : ℤ) → pos 0 <ℤ z → pos 0 ≤ℤ (z -ℤ pos 1)
    one_less z h = omega (arith, ints)

    total : (x y z w : ℤ) → x ≡ y +ℤ (z +ℤ w) → pos 0 ≤ℤ y → pos 0 <ℤ (z *ℤ pos 1 +ℤ w) → pos 0 <ℤ x
    total x y z w e k l = omega (arith, ints)

    joined : (t : ℕ) → pos 0 <ℤ (pos t *ℤ r +ℤ q) → pos 0 <ℤ (pos t *ℤ pos 1 +ℤ p) → pos 0 <ℤ (pos 1 *ℤ p +ℤ pos t *ℤ q +ℤ pos (t * t) *ℤ r)
    joined t k l = total (pos 1 *ℤ p +ℤ pos t *ℤ q +ℤ pos (t * t) *ℤ r) (pos t *ℤ ((pos t *ℤ r +ℤ q) -ℤ pos 1)) (pos t) p
        (solve (p ∷ q ∷ r ∷ pos t ∷ []) (lit (pos 1) ⊗ var 0 ⊕ var 3 ⊗ var 1 ⊕ (var 3 ⊗ var 3) ⊗ var 2) (var 3 ⊗ ((var 3 ⊗ var 2 ⊕ var 1) ⊖ lit (pos 1)) ⊕ (var 3 ⊕ var 0)) tt)
        (plus_plus (pos t) ((pos t *ℤ r +ℤ q) -ℤ pos 1) (natural_weak t) (one_less (pos t *ℤ r +ℤ q) k)) l

not_zero : (z : ℤ) → pos 0 <ℤ z → z ≢ pos 0
not_zero z h e = omega (arith, ints)

not_zero_turned : (z w : ℤ) → w ≡ pos 0 -ℤ z → pos 0 <ℤ w → z ≢ pos 0
not_zero_turned z w e h f = omega (arith, ints)

-- a linear sum whose coefficients aren't both 0 isn't 0 in the end
linear_soon : (p q : ℤ) → (p ≡ pos 0 → q ≡ pos 0 → ⊥) → Eventually (λ t. pos 1 *ℤ p +ℤ pos t *ℤ q ≢ pos 0)
linear_soon p q f = go (three_ways (pos 0) q)
  where
    carried : (x p z : ℤ) → x ≡ pos 1 *ℤ p +ℤ z → pos 0 <ℤ (z +ℤ p) → x ≢ pos 0
    carried x p z e h g = omega (arith, ints)

    carried_back : (x p z w : ℤ) → x ≡ pos 1 *ℤ p +ℤ z → w ≡ pos 0 -ℤ z → pos 0 <ℤ (w +ℤ (pos 0 -ℤ p)) → x ≢ pos 0
    carried_back x p z w e f h g = omega (arith, ints)

    alone : (x p z : ℤ) → x ≡ pos 1 *ℤ p +ℤ z → z ≡ pos 0 → x ≡ pos 0 → p ≡ pos 0
    alone x p z e f g = omega (arith, ints)

    product_zero : (t : ℕ) → pos 0 ≡ q → pos t *ℤ q ≡ pos 0
    product_zero t e = ap (λ (z : ℤ). pos t *ℤ z) (sym e) ∙ solve (pos t ∷ []) (var 0 ⊗ lit (pos 0)) (lit (pos 0)) tt

    go : (pos 0 <ℤ q) ⊎ ((pos 0 ≡ q) ⊎ (q <ℤ pos 0)) → Eventually (λ t. pos 1 *ℤ p +ℤ pos t *ℤ q ≢ pos 0)
    go (inl h) = weaker (λ t. pos 0 <ℤ (pos t *ℤ q +ℤ p)) (λ t. pos 1 *ℤ p +ℤ pos t *ℤ q ≢ pos 0) (λ t k. carried (pos 1 *ℤ p +ℤ pos t *ℤ q) p (pos t *ℤ q) refl k) (grows q p h)
    go (inr (inl h)) = always (λ t. pos 1 *ℤ p +ℤ pos t *ℤ q ≢ pos 0) (λ t g. f (alone (pos 1 *ℤ p +ℤ pos t *ℤ q) p (pos t *ℤ q) refl (product_zero t h) g) (sym h))
    go (inr (inr h)) = weaker (λ t. pos 0 <ℤ (pos t *ℤ (pos 0 -ℤ q) +ℤ (pos 0 -ℤ p))) (λ t. pos 1 *ℤ p +ℤ pos t *ℤ q ≢ pos 0)
        (λ t k. carried_back (pos 1 *ℤ p +ℤ pos t *ℤ q) p (pos t *ℤ q) (pos t *ℤ (pos 0 -ℤ q)) refl (solve (pos t ∷ q ∷ []) (var 0 ⊗ (lit (pos 0) ⊖ var 1)) (lit (pos 0) ⊖ var 0 ⊗ var 1) tt) k) (grows (pos 0 -ℤ q) (pos 0 -ℤ p) (negative_flipped q h))

-- nor is a quadratic one whose coefficients aren't all 0: the highest that isn't 0 decides
quadratic_soon : (p q r : ℤ) → (p ≡ pos 0 → q ≡ pos 0 → r ≡ pos 0 → ⊥) → Eventually (λ t. pos 1 *ℤ p +ℤ pos t *ℤ q +ℤ pos (t * t) *ℤ r ≢ pos 0)
quadratic_soon p q r f = go (three_ways (pos 0) r)
  where
    drop : (x y : ℤ) → y ≡ pos 0 → x +ℤ y ≡ pos 0 → x ≡ pos 0
    drop x y e h = omega (arith, ints)

    product_zero : (t : ℕ) → pos 0 ≡ r → pos t *ℤ r ≡ pos 0
    product_zero t e = ap (λ (z : ℤ). pos t *ℤ z) (sym e) ∙ solve (pos t ∷ []) (var 0 ⊗ lit (pos 0)) (lit (pos 0)) tt

    go : (pos 0 <ℤ r) ⊎ ((pos 0 ≡ r) ⊎ (r <ℤ pos 0)) → Eventually (λ t. pos 1 *ℤ p +ℤ pos t *ℤ q +ℤ pos (t * t) *ℤ r ≢ pos 0)
    go (inl h) = weaker (λ t. pos 0 <ℤ (pos 1 *ℤ p +ℤ pos t *ℤ q +ℤ pos (t * t) *ℤ r)) (λ t. pos 1 *ℤ p +ℤ pos t *ℤ q +ℤ pos (t * t) *ℤ r ≢ pos 0) (λ t k. not_zero (pos 1 *ℤ p +ℤ pos t *ℤ q +ℤ pos (t * t) *ℤ r) k) (quadratic_up p q r h)
    go (inr (inl h)) = weaker (λ t. pos 1 *ℤ p +ℤ pos t *ℤ q ≢ pos 0) (λ t. pos 1 *ℤ p +ℤ pos t *ℤ q +ℤ pos (t * t) *ℤ r ≢ pos 0)
        (λ t k g. k (drop (pos 1 *ℤ p +ℤ pos t *ℤ q) (pos (t * t) *ℤ r) (product_zero (t * t) h) g)) (linear_soon p q (λ s u. f s u (sym h)))
    go (inr (inr h)) = weaker (λ t. pos 0 <ℤ (pos 1 *ℤ (pos 0 -ℤ p) +ℤ pos t *ℤ (pos 0 -ℤ q) +ℤ pos (t * t) *ℤ (pos 0 -ℤ r))) (λ t. pos 1 *ℤ p +ℤ pos t *ℤ q +ℤ pos (t * t) *ℤ r ≢ pos 0)
        (λ t k. not_zero_turned (pos 1 *ℤ p +ℤ pos t *ℤ q +ℤ pos (t * t) *ℤ r) (pos 1 *ℤ (pos 0 -ℤ p) +ℤ pos t *ℤ (pos 0 -ℤ q) +ℤ pos (t * t) *ℤ (pos 0 -ℤ r))
        (solve (p ∷ q ∷ r ∷ pos t ∷ []) (lit (pos 1) ⊗ (lit (pos 0) ⊖ var 0) ⊕ var 3 ⊗ (lit (pos 0) ⊖ var 1) ⊕ (var 3 ⊗ var 3) ⊗ (lit (pos 0) ⊖ var 2)) (lit (pos 0) ⊖ (lit (pos 1) ⊗ var 0 ⊕ var 3 ⊗ var 1 ⊕ (var 3 ⊗ var 3) ⊗ var 2)) tt) k)
        (quadratic_up (pos 0 -ℤ p) (pos 0 -ℤ q) (pos 0 -ℤ r) (negative_flipped r h))

-- ---- lines and a triangle
-- by Cramer's rule: a line's values at three points give its first coefficient times their area
cramer_a : (l : Line) (p q r : Point) → l.a *ℤ area p q r ≡ value l p *ℤ (q.Y *ℤ r.W -ℤ r.Y *ℤ q.W) -ℤ p.Y *ℤ (value l q *ℤ r.W -ℤ value l r *ℤ q.W) +ℤ p.W *ℤ (value l q *ℤ r.Y -ℤ value l r *ℤ q.Y)
cramer_a l p q r = solve (l.a ∷ l.b ∷ l.c ∷ p.X ∷ p.Y ∷ p.W ∷ q.X ∷ q.Y ∷ q.W ∷ r.X ∷ r.Y ∷ r.W ∷ [])
    (var 0 ⊗ (var 3 ⊗ (var 7 ⊗ var 11 ⊖ var 10 ⊗ var 8) ⊖ var 4 ⊗ (var 6 ⊗ var 11 ⊖ var 9 ⊗ var 8) ⊕ var 5 ⊗ (var 6 ⊗ var 10 ⊖ var 9 ⊗ var 7)))
    ((var 0 ⊗ var 3 ⊕ var 1 ⊗ var 4 ⊕ var 2 ⊗ var 5) ⊗ (var 7 ⊗ var 11 ⊖ var 10 ⊗ var 8)
    ⊖ var 4 ⊗ ((var 0 ⊗ var 6 ⊕ var 1 ⊗ var 7 ⊕ var 2 ⊗ var 8) ⊗ var 11 ⊖ (var 0 ⊗ var 9 ⊕ var 1 ⊗ var 10 ⊕ var 2 ⊗ var 11) ⊗ var 8)
    ⊕ var 5 ⊗ ((var 0 ⊗ var 6 ⊕ var 1 ⊗ var 7 ⊕ var 2 ⊗ var 8) ⊗ var 10 ⊖ (var 0 ⊗ var 9 ⊕ var 1 ⊗ var 10 ⊕ var 2 ⊗ var 11) ⊗ var 7)) tt

-- and its second
cramer_b : (l : Line) (p q r : Point) → l.b *ℤ area p q r ≡ p.X *ℤ (value l q *ℤ r.W -ℤ value l r *ℤ q.W) -ℤ value l p *ℤ (q.X *ℤ r.W -ℤ r.X *ℤ q.W) +ℤ p.W *ℤ (q.X *ℤ value l r -ℤ r.X *ℤ value l q)
cramer_b l p q r = solve (l.a ∷ l.b ∷ l.c ∷ p.X ∷ p.Y ∷ p.W ∷ q.X ∷ q.Y ∷ q.W ∷ r.X ∷ r.Y ∷ r.W ∷ [])
    (var 1 ⊗ (var 3 ⊗ (var 7 ⊗ var 11 ⊖ var 10 ⊗ var 8) ⊖ var 4 ⊗ (var 6 ⊗ var 11 ⊖ var 9 ⊗ var 8) ⊕ var 5 ⊗ (var 6 ⊗ var 10 ⊖ var 9 ⊗ var 7)))
    (var 3 ⊗ ((var 0 ⊗ var 6 ⊕ var 1 ⊗ var 7 ⊕ var 2 ⊗ var 8) ⊗ var 11 ⊖ (var 0 ⊗ var 9 ⊕ var 1 ⊗ var 10 ⊕ var 2 ⊗ var 11) ⊗ var 8)
    ⊖ (var 0 ⊗ var 3 ⊕ var 1 ⊗ var 4 ⊕ var 2 ⊗ var 5) ⊗ (var 6 ⊗ var 11 ⊖ var 9 ⊗ var 8)
    ⊕ var 5 ⊗ (var 6 ⊗ (var 0 ⊗ var 9 ⊕ var 1 ⊗ var 10 ⊕ var 2 ⊗ var 11) ⊖ var 9 ⊗ (var 0 ⊗ var 6 ⊕ var 1 ⊗ var 7 ⊕ var 2 ⊗ var 8))) tt

-- so no line goes through three points that span an area
not_all : (l : Line) (p q r : Point) → IsLine l → area p q r ≢ pos 0 → value l p ≡ pos 0 → value l q ≡ pos 0 → value l r ≡ pos 0 → ⊥
not_all l p q r h f e g k = go h
  where
    zero_a : l.a *ℤ area p q r ≡ pos 0
    zero_a = cramer_a l p q r
        ∙ ap (λ (z : ℤ). z *ℤ (q.Y *ℤ r.W -ℤ r.Y *ℤ q.W) -ℤ p.Y *ℤ (value l q *ℤ r.W -ℤ value l r *ℤ q.W) +ℤ p.W *ℤ (value l q *ℤ r.Y -ℤ value l r *ℤ q.Y)) e
        ∙ ap₂ (λ (y z : ℤ). pos 0 *ℤ (q.Y *ℤ r.W -ℤ r.Y *ℤ q.W) -ℤ p.Y *ℤ (y *ℤ r.W -ℤ z *ℤ q.W) +ℤ p.W *ℤ (y *ℤ r.Y -ℤ z *ℤ q.Y)) g k
        ∙ solve (p.Y ∷ p.W ∷ q.Y ∷ q.W ∷ r.Y ∷ r.W ∷ []) (lit (pos 0) ⊗ (var 2 ⊗ var 5 ⊖ var 4 ⊗ var 3) ⊖ var 0 ⊗ (lit (pos 0) ⊗ var 5 ⊖ lit (pos 0) ⊗ var 3) ⊕ var 1 ⊗ (lit (pos 0) ⊗ var 4 ⊖ lit (pos 0) ⊗ var 2)) (lit (pos 0)) tt

    zero_b : l.b *ℤ area p q r ≡ pos 0
    zero_b = cramer_b l p q r
        ∙ ap (λ (z : ℤ). p.X *ℤ (value l q *ℤ r.W -ℤ value l r *ℤ q.W) -ℤ z *ℤ (q.X *ℤ r.W -ℤ r.X *ℤ q.W) +ℤ p.W *ℤ (q.X *ℤ value l r -ℤ r.X *ℤ value l q)) e
        ∙ ap₂ (λ (y z : ℤ). p.X *ℤ (y *ℤ r.W -ℤ z *ℤ q.W) -ℤ pos 0 *ℤ (q.X *ℤ r.W -ℤ r.X *ℤ q.W) +ℤ p.W *ℤ (q.X *ℤ z -ℤ r.X *ℤ y)) g k
        ∙ solve (p.X ∷ p.W ∷ q.X ∷ q.W ∷ r.X ∷ r.W ∷ []) (var 0 ⊗ (lit (pos 0) ⊗ var 5 ⊖ lit (pos 0) ⊗ var 3) ⊖ lit (pos 0) ⊗ (var 2 ⊗ var 5 ⊖ var 4 ⊗ var 3) ⊕ var 1 ⊗ (var 2 ⊗ lit (pos 0) ⊖ var 4 ⊗ lit (pos 0))) (lit (pos 0)) tt

    pick : (z : ℤ) → z ≢ pos 0 → (z ≡ pos 0) ⊎ (area p q r ≡ pos 0) → ⊥
    pick z n (inl s) = n s
    pick z n (inr s) = f s

    go : IsLine l → ⊥
    go (inl n) = pick l.a n (zero_product l.a (area p q r) zero_a)
    go (inr n) = pick l.b n (zero_product l.b (area p q r) zero_b)

-- a point of the triangle off all the lines
pub record OffLines (ls : List Line) (p q r : Point) : Type 0 where
  pub t : ℕ
  pub off : Each (λ l. value l (weighted_three 1 p t q (t * t) r) ≢ pos 0) ls

-- along a curve through a triangle that isn't flat a line is met at most twice, so some sum of its corners is off each of finitely many
pub avoid_lines : (ls : List Line) (p q r : Point) → area p q r ≢ pos 0 → Each IsLine ls → OffLines ls p q r
avoid_lines ls p q r f h = go (each_eventually (λ l t. value l (weighted_three 1 p t q (t * t) r) ≢ pos 0) ls (each_map IsLine (λ l. Eventually (λ t. value l (weighted_three 1 p t q (t * t) r) ≢ pos 0)) ls (λ l k. one l k) h))
  where
    one : (l : Line) → IsLine l → Eventually (λ t. value l (weighted_three 1 p t q (t * t) r) ≢ pos 0)
    one l k = weaker (λ t. pos 1 *ℤ value l p +ℤ pos t *ℤ value l q +ℤ pos (t * t) *ℤ value l r ≢ pos 0) (λ t. value l (weighted_three 1 p t q (t * t) r) ≢ pos 0)
        (λ t n e. n (sym (value_weighted_three l 1 p t q (t * t) r) ∙ e)) (quadratic_soon (value l p) (value l q) (value l r) (not_all l p q r k f))

    go : Eventually (λ t. Each (λ l. value l (weighted_three 1 p t q (t * t) r) ≢ pos 0) ls) → OffLines ls p q r
    go v = record { t = v.start; off = v.holds v.start (omega arith) }

-- ---- points and a segment
pub record OffPoints (cs : List Point) (p q : Point) : Type 0 where
  pub t : ℕ
  pub off : Each (λ c. same_point c (weighted 1 p t q) ≡ false) cs

-- the distance to the right of a weighted point is the weighted sum of the distances
right_sum : (c p q : Point) (t : ℕ) → right c (weighted 1 p t q) ≡ pos 1 *ℤ right c p +ℤ pos t *ℤ right c q
right_sum c p q t = solve (c.X ∷ c.W ∷ p.X ∷ p.W ∷ q.X ∷ q.W ∷ pos t ∷ []) ((lit (pos 1) ⊗ var 2 ⊕ var 6 ⊗ var 4) ⊗ var 1 ⊖ var 0 ⊗ (lit (pos 1) ⊗ var 3 ⊕ var 6 ⊗ var 5)) (lit (pos 1) ⊗ (var 2 ⊗ var 1 ⊖ var 0 ⊗ var 3) ⊕ var 6 ⊗ (var 4 ⊗ var 1 ⊖ var 0 ⊗ var 5)) tt

-- and so is the distance upwards
up_sum : (c p q : Point) (t : ℕ) → up c (weighted 1 p t q) ≡ pos 1 *ℤ up c p +ℤ pos t *ℤ up c q
up_sum c p q t = solve (c.Y ∷ c.W ∷ p.Y ∷ p.W ∷ q.Y ∷ q.W ∷ pos t ∷ []) ((lit (pos 1) ⊗ var 2 ⊕ var 6 ⊗ var 4) ⊗ var 1 ⊖ var 0 ⊗ (lit (pos 1) ⊗ var 3 ⊕ var 6 ⊗ var 5)) (lit (pos 1) ⊗ (var 2 ⊗ var 1 ⊖ var 0 ⊗ var 3) ⊕ var 6 ⊗ (var 4 ⊗ var 1 ⊖ var 0 ⊗ var 5)) tt

-- of the sums of two points that differ at most one is at a given point, so one is at none of finitely many
pub avoid_points : (cs : List Point) (p q : Point) → IsPoint p → IsPoint q → same_point p q ≡ false → Each IsPoint cs → OffPoints cs p q
avoid_points cs p q hp hq f h = go (each_eventually (λ c t. same_point c (weighted 1 p t q) ≡ false) cs (each_map IsPoint (λ c. Eventually (λ t. same_point c (weighted 1 p t q) ≡ false)) cs (λ c k. one c k) h))
  where
    clash : (c : Point) → IsPoint c → same_point c p ≡ true → same_point c q ≡ true → ⊥
    clash c hc s t = let z : true ≡ false = sym (same_transitive p c q hc (same_symmetric p c ∙ s) t) ∙ f in absurd (cc)

    by_right : (c : Point) → (right c p ≡ pos 0 → right c q ≡ pos 0 → ⊥) → Eventually (λ t. same_point c (weighted 1 p t q) ≡ false)
    by_right c n = weaker (λ t. pos 1 *ℤ right c p +ℤ pos t *ℤ right c q ≢ pos 0) (λ t. same_point c (weighted 1 p t q) ≡ false)
        (λ t k. by_contraries (same_point c (weighted 1 p t q)) false (λ e. absurd (k (sym (right_sum c p q t) ∙ gap_none _ _ (same_x c (weighted 1 p t q) e)))) refl) (linear_soon (right c p) (right c q) n)

    by_up : (c : Point) → (up c p ≡ pos 0 → up c q ≡ pos 0 → ⊥) → Eventually (λ t. same_point c (weighted 1 p t q) ≡ false)
    by_up c n = weaker (λ t. pos 1 *ℤ up c p +ℤ pos t *ℤ up c q ≢ pos 0) (λ t. same_point c (weighted 1 p t q) ≡ false)
        (λ t k. by_contraries (same_point c (weighted 1 p t q)) false (λ e. absurd (k (sym (up_sum c p q t) ∙ gap_none _ _ (same_y c (weighted 1 p t q) e)))) refl) (linear_soon (up c p) (up c q) n)

    one : (c : Point) → IsPoint c → Eventually (λ t. same_point c (weighted 1 p t q) ≡ false)
    one c hc = pick (is_or_not (right c p)) (is_or_not (right c q))
      where
        pick : ((right c p ≡ pos 0) ⊎ (right c p ≡ pos 0 → ⊥)) → ((right c q ≡ pos 0) ⊎ (right c q ≡ pos 0 → ⊥)) → Eventually (λ t. same_point c (weighted 1 p t q) ≡ false)
        pick (inr n) s = by_right c (λ e g. n e)
        pick (inl e) (inr n) = by_right c (λ s g. n g)
        pick (inl e) (inl g) = by_up c (λ s u. clash c hc (same_from c p (same_from_gap _ _ e) (same_from_gap _ _ s)) (same_from c q (same_from_gap _ _ g) (same_from_gap _ _ u)))

    go : Eventually (λ t. Each (λ c. same_point c (weighted 1 p t q) ≡ false) cs) → OffPoints cs p q
    go v = record { t = v.start; off = v.holds v.start (omega arith) }
