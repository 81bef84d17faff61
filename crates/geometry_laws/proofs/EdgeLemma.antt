-- One edge and one stretch that don't meet: what the edge is above changes from one end of the stretch to the other just as the stretch changes sides of the edge's ends.
use Rattle.std.proofs.Common.{ℤ, pos, ◌+ℤ◌, ◌-ℤ◌, ◌*ℤ◌, ◌≤ℤ◌, ◌<ℤ◌, int_lt, ◌≡◌, ◌⊎◌, inl, inr, Bool, true, false, not, cond, ◌&&◌, refl, sym, ap₂, ◌∙◌, arith}
use Rattle.geometry_model.specs.Crossings.{exactly_one as xor}
use borrow.Author.Differences.{ints}
use Rattle.basics.proofs.Orders.{weak_turned}
use Rattle.geometry_model.specs.Points.{Point, IsPoint}
use Rattle.geometry_laws.proofs.Xor.{xor_self, xor_swap, xor_false, false_xor, xor_false_if_same}
use Rattle.geometry_model.specs.Dimensions.{area}
use Rattle.geometry_laws.proofs.Plane.{right, reaches, above, over, Meets}
use Rattle.geometry_laws.proofs.Identities.{by_v, by_u, by_q, by_p, common_x, common_y, common_w, common_back_x, common_back_y, common_back_w, area_turned, right_turned}
use Rattle.geometry_laws.proofs.FourSigns.{Areas, Crosses, CrossesBack, edge_spans, edge_spans_back, stretch_spans, stretch_spans_back, u_between, u_between_back, v_between, v_between_back}
use Rattle.geometry_laws.proofs.LeftToRight.{right_trans, right_trans_first, right_trans_last, reaches_means, not_reaches_means, not_reaches_turned}

-- ---- opposite signs both ways: the stretches meet
-- the areas, turned to be at least 0, are the weights of a point that is on both
meets : (u v p q : Point) → Crosses (area u v p) (area u v q) (area p q u) (area p q v) → Meets u v p q
meets u v p q c = record {
  m = area u v q;
  n = pos 0 -ℤ area u v p;
  k = pos 0 -ℤ area p q v;
  l = area p q u;
  from_m = c.of_b;
  from_n = weak_turned (area u v p) c.of_a;
  from_k = weak_turned (area p q v) c.of_d;
  from_l = c.of_c;
  some = sum (area u v p) (area u v q) c.some;
  in_x = common_x u v p q;
  in_y = common_y u v p q;
  in_w = common_w u v p q;
}
  where
    sum : (x y : ℤ) → pos 0 <ℤ (y -ℤ x) → pos 0 <ℤ (y +ℤ (pos 0 -ℤ x))
    sum x y h = omega (arith, ints)

-- the same with all signs turned
meets_back : (u v p q : Point) → CrossesBack (area u v p) (area u v q) (area p q u) (area p q v) → Meets u v p q
meets_back u v p q c = record {
  m = pos 0 -ℤ area u v q;
  n = area u v p;
  k = area p q v;
  l = pos 0 -ℤ area p q u;
  from_m = weak_turned (area u v q) c.of_b;
  from_n = c.of_a;
  from_k = c.of_d;
  from_l = weak_turned (area p q u) c.of_c;
  some = sum (area u v p) (area u v q) c.some;
  in_x = common_back_x u v p q;
  in_y = common_back_y u v p q;
  in_w = common_back_w u v p q;
}
  where
    sum : (x y : ℤ) → pos 0 <ℤ (x -ℤ y) → pos 0 <ℤ ((pos 0 -ℤ y) +ℤ x)
    sum x y h = omega (arith, ints)

-- ---- tests that agree because the other two cases are ruled out
-- both areas are below 0 or neither is
same_sign : (a b : ℤ) → (a <ℤ pos 0 → pos 0 ≤ℤ b → ⊥) → (pos 0 ≤ℤ a → b <ℤ pos 0 → ⊥) → int_lt a (pos 0) ≡ int_lt b (pos 0)
same_sign a b f g = grind (arith, ints)

-- both are above 0 or neither is
same_plus : (c d : ℤ) → (pos 0 <ℤ c → d ≤ℤ pos 0 → ⊥) → (c ≤ℤ pos 0 → pos 0 <ℤ d → ⊥) → int_lt (pos 0) c ≡ int_lt (pos 0) d
same_plus c d f g = grind (arith, ints)

-- the one is below 0 where the other is above 0
opposite : (b c : ℤ) → (pos 0 ≤ℤ b → pos 0 <ℤ c → ⊥) → (b <ℤ pos 0 → c ≤ℤ pos 0 → ⊥) → int_lt b (pos 0) ≡ int_lt (pos 0) c
opposite b c f g = grind (arith, ints)

-- ---- the table of the four positions from left to right
-- u being before v and p before q, six orders of the four are left; in each both sides of the equation agree
table : (up uq vp vq : Bool) (a a' b b' c c' d d' : Bool)
    → (vp ≡ true → up ≡ true) → (up ≡ true → uq ≡ true) → (vp ≡ true → vq ≡ true) → (vq ≡ true → uq ≡ true)
    → (up ≡ true → uq ≡ true → vp ≡ false → vq ≡ false → a ≡ b)
    → (up ≡ false → uq ≡ true → vp ≡ false → vq ≡ true → c' ≡ d')
    → (up ≡ false → uq ≡ true → vp ≡ false → vq ≡ false → b ≡ c')
    → (up ≡ true → uq ≡ true → vp ≡ false → vq ≡ true → a ≡ d')
    → xor (cond up (not vp && a) (vp && a')) (cond uq (not vq && b) (vq && b')) ≡ xor (cond up (not uq && c) (uq && c')) (cond vp (not vq && d) (vq && d'))
table true true true true a a' b b' c c' d d' f g h k e1 e2 e3 e4 = refl
table true true false false a a' b b' c c' d d' f g h k e1 e2 e3 e4 = xor_false_if_same a b (e1 refl refl refl refl) ∙ sym (xor_self false)
table true true false true a a' b b' c c' d d' f g h k e1 e2 e3 e4 = xor_false a ∙ e4 refl refl refl refl ∙ sym (false_xor d')
table false true false true a a' b b' c c' d d' f g h k e1 e2 e3 e4 = xor_self false ∙ sym (xor_false_if_same c' d' (e2 refl refl refl refl))
table false true false false a a' b b' c c' d d' f g h k e1 e2 e3 e4 = false_xor b ∙ e3 refl refl refl refl ∙ sym (xor_false c')
table false false false false a a' b b' c c' d d' f g h k e1 e2 e3 e4 = refl
table true false vp vq a a' b b' c c' d d' f g h k e1 e2 e3 e4 = absurd (let e : false ≡ true = g refl in cc)
table true true true false a a' b b' c c' d d' f g h k e1 e2 e3 e4 = absurd (let e : false ≡ true = h refl in cc)
table false true true vq a a' b b' c c' d d' f g h k e1 e2 e3 e4 = absurd (let e : false ≡ true = f refl in cc)
table false false true vq a a' b b' c c' d d' f g h k e1 e2 e3 e4 = absurd (let e : false ≡ true = f refl in cc)
table false false false true a a' b b' c c' d d' f g h k e1 e2 e3 e4 = absurd (let e : false ≡ true = k refl in cc)

-- ---- the lemma where u isn't to the right of v, nor p of q
-- the areas and distances of edge and stretch satisfy the four identities
areas : (u v p q : Point) → Areas (area u v p) (area u v q) (area p q u) (area p q v) (right u p) (right u q) (right p v) (right q v) (right u v) (right p q)
areas u v p q = record { by_v = by_v u v p q; by_u = by_u u v p q; by_q = by_q u v p q; by_p = by_p u v p q }

below_zero : (a b : Point) → reaches a b ≡ false → right a b <ℤ pos 0
below_zero a b e = omega (arith, ints)

back_at_most : (a b : Point) → reaches a b ≡ true → right b a ≤ℤ pos 0
back_at_most a b e = turned (right a b) (right b a) (right_turned a b) (reaches_means a b e)
  where
    turned : (x y : ℤ) → y ≡ pos 0 -ℤ x → pos 0 ≤ℤ x → y ≤ℤ pos 0
    turned x y e h = omega (arith, ints)

reaches_from : (a b : Point) → pos 0 ≤ℤ right a b → reaches a b ≡ true
reaches_from a b h = grind (arith, ints)

-- not being to the right of a point is transitive
reaches_trans : (a b c : Point) → IsPoint a → IsPoint b → IsPoint c → reaches a b ≡ true → reaches b c ≡ true → reaches a c ≡ true
reaches_trans a b c ha hb hc e f = reaches_from a c (right_trans a b c ha hb hc (reaches_means a b e) (reaches_means b c f))

-- order by order: where the tests differed, the areas would have the signs that make edge and stretch meet
sorted : (u v p q : Point) → IsPoint u → IsPoint v → IsPoint p → IsPoint q → reaches u v ≡ true → reaches p q ≡ true → (Meets u v p q → ⊥)
    → xor (above u v p) (above u v q) ≡ xor (over p q u) (over p q v)
sorted u v p q hu hv hp hq e f apart = table (reaches u p) (reaches u q) (reaches v p) (reaches v q)
    (int_lt (area u v p) (pos 0)) (int_lt (pos 0) (area u v p)) (int_lt (area u v q) (pos 0)) (int_lt (pos 0) (area u v q))
    (int_lt (area p q u) (pos 0)) (int_lt (pos 0) (area p q u)) (int_lt (area p q v) (pos 0)) (int_lt (pos 0) (area p q v))
    (λ h. reaches_trans u v p hu hv hp e h) (λ h. reaches_trans u p q hu hp hq h f) (λ h. reaches_trans v p q hv hp hq h f) (λ h. reaches_trans u v q hu hv hq e h)
    (λ up uq vp vq. same_sign (area u v p) (area u v q)
    (λ a b. apart (meets u v p q (edge_spans _ _ _ _ _ _ _ _ _ _ (areas u v p q) (reaches_means u p up) (reaches_means u q uq) (not_reaches_means v p vp) (not_reaches_means v q vq) (right_trans_last u p v hu hp hv (reaches_means u p up) (not_reaches_means v p vp)) a b)))
    (λ a b. apart (meets_back u v p q (edge_spans_back _ _ _ _ _ _ _ _ _ _ (areas u v p q) (reaches_means u p up) (reaches_means u q uq) (not_reaches_means v p vp) (not_reaches_means v q vq) (right_trans_last u p v hu hp hv (reaches_means u p up) (not_reaches_means v p vp)) a b))))
    (λ up uq vp vq. same_plus (area p q u) (area p q v)
    (λ c d. apart (meets u v p q (stretch_spans _ _ _ _ _ _ _ _ _ _ (areas u v p q) (below_zero u p up) (reaches_means u q uq) (not_reaches_means v p vp) (back_at_most v q vq) (right_trans_first p u q hp hu hq (not_reaches_means u p up) (reaches_means u q uq)) c d)))
    (λ c d. apart (meets_back u v p q (stretch_spans_back _ _ _ _ _ _ _ _ _ _ (areas u v p q) (below_zero u p up) (reaches_means u q uq) (not_reaches_means v p vp) (back_at_most v q vq) (right_trans_first p u q hp hu hq (not_reaches_means u p up) (reaches_means u q uq)) c d))))
    (λ up uq vp vq. opposite (area u v q) (area p q u)
    (λ b c. apart (meets u v p q (u_between _ _ _ _ _ _ _ _ _ _ (areas u v p q) (below_zero u p up) (reaches_means u q uq) (not_reaches_means v p vp) (not_reaches_means v q vq) (right_trans_first p u q hp hu hq (not_reaches_means u p up) (reaches_means u q uq)) b c)))
    (λ b c. apart (meets_back u v p q (u_between_back _ _ _ _ _ _ _ _ _ _ (areas u v p q) (below_zero u p up) (reaches_means u q uq) (not_reaches_means v p vp) (not_reaches_means v q vq) (right_trans_first p u q hp hu hq (not_reaches_means u p up) (reaches_means u q uq)) b c))))
    (λ up uq vp vq. opposite (area u v p) (area p q v)
    (λ a d. apart (meets_back u v p q (v_between_back _ _ _ _ _ _ _ _ _ _ (areas u v p q) (reaches_means u p up) (not_reaches_means v p vp) (back_at_most v q vq) (right_trans_last u p v hu hp hv (reaches_means u p up) (not_reaches_means v p vp)) (reaches_means p q f) a d)))
    (λ a d. apart (meets u v p q (v_between _ _ _ _ _ _ _ _ _ _ (areas u v p q) (reaches_means u p up) (not_reaches_means v p vp) (back_at_most v q vq) (right_trans_last u p v hu hp hv (reaches_means u p up) (not_reaches_means v p vp)) (reaches_means p q f) a d))))

-- ---- any order, by turning the edge and the stretch
-- turning a line swaps its ends and the area's sign, which leaves the test as it is
turned_test : (r s : Bool) (x y : ℤ) → y ≡ pos 0 -ℤ x → cond s (not r && int_lt y (pos 0)) (r && int_lt (pos 0) y) ≡ cond r (not s && int_lt x (pos 0)) (s && int_lt (pos 0) x)
turned_test true true x y e = refl
turned_test false false x y e = refl
turned_test true false x y e = minus x y e
  where
    minus : (x y : ℤ) → y ≡ pos 0 -ℤ x → int_lt (pos 0) y ≡ int_lt x (pos 0)
    minus x y e = grind (arith, ints)
turned_test false true x y e = plus x y e
  where
    plus : (x y : ℤ) → y ≡ pos 0 -ℤ x → int_lt y (pos 0) ≡ int_lt (pos 0) x
    plus x y e = grind (arith, ints)

-- so it doesn't matter in which direction the edge is taken
pub above_turned : (u v p : Point) → above v u p ≡ above u v p
above_turned u v p = turned_test (reaches u p) (reaches v p) (area u v p) (area v u p) (area_turned u v p)

-- nor in which the stretch is
pub over_turned : (p q u : Point) → over q p u ≡ over p q u
over_turned p q u = turned_test (reaches u p) (reaches u q) (area p q u) (area q p u) (area_turned p q u)

swap_sum : (x y : ℤ) → x +ℤ y ≡ y +ℤ x
swap_sum x y = omega (arith, ints)

-- an edge that meets a stretch meets it in the other direction too
pub meets_turned : (u v p q : Point) → Meets v u p q → Meets u v p q
meets_turned u v p q c = record {
  m = c.m;
  n = c.n;
  k = c.l;
  l = c.k;
  from_m = c.from_m;
  from_n = c.from_n;
  from_k = c.from_l;
  from_l = c.from_k;
  some = c.some;
  in_x = c.in_x ∙ swap_sum (c.k *ℤ v.X) (c.l *ℤ u.X);
  in_y = c.in_y ∙ swap_sum (c.k *ℤ v.Y) (c.l *ℤ u.Y);
  in_w = c.in_w ∙ swap_sum (c.k *ℤ v.W) (c.l *ℤ u.W);
}

-- and so does a stretch
pub meets_back_to_front : (u v p q : Point) → Meets u v q p → Meets u v p q
meets_back_to_front u v p q c = record {
  m = c.n;
  n = c.m;
  k = c.k;
  l = c.l;
  from_m = c.from_n;
  from_n = c.from_m;
  from_k = c.from_k;
  from_l = c.from_l;
  some = turned c.m c.n c.some;
  in_x = swap_sum (c.n *ℤ p.X) (c.m *ℤ q.X) ∙ c.in_x;
  in_y = swap_sum (c.n *ℤ p.Y) (c.m *ℤ q.Y) ∙ c.in_y;
  in_w = swap_sum (c.n *ℤ p.W) (c.m *ℤ q.W) ∙ c.in_w;
}
  where
    turned : (x y : ℤ) → pos 0 <ℤ (x +ℤ y) → pos 0 <ℤ (y +ℤ x)
    turned x y h = omega (arith, ints)

-- one of two points isn't to the right of the other
pub either_way : (a b : Point) → (reaches a b ≡ true) ⊎ (reaches b a ≡ true)
either_way a b = go (reaches a b) refl
  where
    go : (t : Bool) → reaches a b ≡ t → (reaches a b ≡ true) ⊎ (reaches b a ≡ true)
    go true e = inl e
    go false e = inr (reaches_from b a (not_reaches_turned a b e))

-- the lemma for a stretch in either direction
by_stretch : (u v p q : Point) → IsPoint u → IsPoint v → IsPoint p → IsPoint q → reaches u v ≡ true → (Meets u v p q → ⊥)
    → xor (above u v p) (above u v q) ≡ xor (over p q u) (over p q v)
by_stretch u v p q hu hv hp hq e apart = go (either_way p q)
  where
    go : (reaches p q ≡ true) ⊎ (reaches q p ≡ true) → xor (above u v p) (above u v q) ≡ xor (over p q u) (over p q v)
    go (inl f) = sorted u v p q hu hv hp hq e f apart
    go (inr f) = xor_swap (above u v p) (above u v q) ∙ sorted u v q p hu hv hq hp e f (λ c. apart (meets_back_to_front u v p q c)) ∙ ap₂ xor (over_turned p q u) (over_turned p q v)

-- an edge u v and a stretch p q that don't meet
pub edge_lemma : (u v p q : Point) → IsPoint u → IsPoint v → IsPoint p → IsPoint q → (Meets u v p q → ⊥)
    → xor (above u v p) (above u v q) ≡ xor (over p q u) (over p q v)
edge_lemma u v p q hu hv hp hq apart = go (either_way u v)
  where
    go : (reaches u v ≡ true) ⊎ (reaches v u ≡ true) → xor (above u v p) (above u v q) ≡ xor (over p q u) (over p q v)
    go (inl e) = by_stretch u v p q hu hv hp hq e apart
    go (inr e) = ap₂ xor (sym (above_turned u v p)) (sym (above_turned u v q)) ∙ by_stretch v u p q hv hu hp hq e (λ c. apart (meets_turned u v p q c)) ∙ xor_swap (over p q v) (over p q u)
