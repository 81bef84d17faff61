-- An edge by its lesser and its greater end: it holds what is on its line and neither before the one nor after the other.
use Rattle.std.proofs.Common.{◌≡◌, ◌⊎◌, inl, inr, Bool, true, false, cond, refl, sym, ap, subst, ◌∙◌, ℤ, pos, ◌*ℤ◌, arith}
use borrow.Author.Differences.{ints}
use Rattle.std.specs.declared.cmp.Ordering.{Ordering}
use Rattle.std.specs.declared.cmp.Ordering.TheVariants.{Less, Equal, Greater}
use Rattle.std.specs.Ordering.{is_lt, ord_max, ord_min}
use Rattle.geometry_model.specs.Points.{Position, Point, IsPoint, point_at, same_point, compare}
use Rattle.geometry_model.specs.Geometries.{Edge}
use Rattle.geometry_model.specs.Sides.{on}
use Rattle.geometry_model.specs.Dimensions.{area}
use Rattle.fraction.specs.Orders.{position_order}
use Rattle.fraction.proofs.OrderLemmas.{position_order_is}
use Rattle.geometry_laws.proofs.Scaling.{same_x, same_y}
use Rattle.geometry_laws.proofs.PointOrder.{equal_is_same, less_transitive}
use Rattle.geometry_laws.proofs.Respect.{on_respects}
use Rattle.geometry_laws.proofs.Hulls.{OnHull, on_from_hull}
use Rattle.geometry_laws.proofs.LineOrder.{sum_between, on_sum}
use Rattle.geometry_laws.proofs.RingParity.{position_is_point}
use Rattle.geometry_laws.proofs.Cuts.{turn_less, hull_of_start, hull_of_end, not_after_both as off_after, not_before_both as off_before}
use Rattle.noding.proofs.Order.{NotAfter, not_after_cases, not_after_or}

-- the edge's lesser and its greater end
pub record HasEnds (e : Edge) (low high : Position) : Type 0 where
  pub in_order : compare (point_at low) (point_at high) ≡ Less
  pub are_ends : ((low ≡ e.start) × (high ≡ e.end)) ⊎ ((low ≡ e.end) × (high ≡ e.start))

-- positions that are at one point are equal
pub same_position : (a b : Position) → same_point (point_at a) (point_at b) ≡ true → a ≡ b
same_position a b e = λ i. record { x = plain a.x b.x (same_x (point_at a) (point_at b) e) i; y = plain a.y b.y (same_y (point_at a) (point_at b) e) i }
  where
    plain : (x y : ℤ) → x *ℤ pos 1 ≡ y *ℤ pos 1 → x ≡ y
    plain x y e = omega (arith, ints)

-- the lesser and the greater of two different ends, by the order of positions
pub has_ends : (e : Edge) → (e.start ≡ e.end → ⊥) → HasEnds e (ord_min position_order e.start e.end) (ord_max position_order e.start e.end)
has_ends e wide = go (position_order e.end e.start) refl
  where
    order_is : compare (point_at e.end) (point_at e.start) ≡ position_order e.end e.start
    order_is = sym (position_order_is e.end e.start)

    chosen : (t : Bool) → HasEnds e (cond t e.end e.start) (cond t e.start e.end) → is_lt (position_order e.end e.start) ≡ t → HasEnds e (ord_min position_order e.start e.end) (ord_max position_order e.start e.end)
    chosen t h k = subst (λ (s : Bool). HasEnds e (cond s e.end e.start) (cond s e.start e.end)) (sym k) h

    go : (o : Ordering) → position_order e.end e.start ≡ o → HasEnds e (ord_min position_order e.start e.end) (ord_max position_order e.start e.end)
    go Less k = chosen true (record { in_order = order_is ∙ k; are_ends = inr (refl, refl) }) (ap is_lt k)
    go Equal k = absurd (wide (sym (same_position e.end e.start ((equal_is_same (point_at e.end) (point_at e.start)).0 (order_is ∙ k)))))
    go Greater k = chosen false (record { in_order = turn_less (point_at e.end) (point_at e.start) (order_is ∙ k); are_ends = inl (refl, refl) }) (ap is_lt k)

-- what holds of both ends holds of the lesser and of the greater
pub at_low : (P : Position → Type 0) (e : Edge) (low high : Position) → HasEnds e low high → P e.start → P e.end → P low
at_low P e low high h s t = go h.are_ends
  where
    go : ((low ≡ e.start) × (high ≡ e.end)) ⊎ ((low ≡ e.end) × (high ≡ e.start)) → P low
    go (inl k) = subst P (sym k.0) s
    go (inr k) = subst P (sym k.0) t

pub at_high : (P : Position → Type 0) (e : Edge) (low high : Position) → HasEnds e low high → P e.start → P e.end → P high
at_high P e low high h s t = go h.are_ends
  where
    go : ((low ≡ e.start) × (high ≡ e.end)) ⊎ ((low ≡ e.end) × (high ≡ e.start)) → P high
    go (inl k) = subst P (sym k.1) t
    go (inr k) = subst P (sym k.1) s

-- ---- what the edge holds is within its ends
-- it holds nothing before its lesser end
pub not_before_low : (e : Edge) (low high : Position) → HasEnds e low high → (x : Point) → IsPoint x → on e x ≡ true → NotAfter (point_at low) x
not_before_low e low high h x hx k = go (not_after_or (point_at low) x)
  where
    off : compare x (point_at low) ≡ Less → compare x (point_at high) ≡ Less → ⊥
    off f g = pick h.are_ends
      where
        clash : on e x ≡ false → ⊥
        clash z = let c : true ≡ false = sym k ∙ z in cc

        less_at : (a b : Position) → a ≡ b → compare x (point_at a) ≡ Less → compare x (point_at b) ≡ Less
        less_at a b q l = subst (λ (c : Position). compare x (point_at c) ≡ Less) q l

        pick : ((low ≡ e.start) × (high ≡ e.end)) ⊎ ((low ≡ e.end) × (high ≡ e.start)) → ⊥
        pick (inl q) = clash (off_before e x hx (less_at low e.start q.0 f) (less_at high e.end q.1 g))
        pick (inr q) = clash (off_before e x hx (less_at high e.start q.1 g) (less_at low e.end q.0 f))

    go : NotAfter (point_at low) x ⊎ (compare x (point_at low) ≡ Less) → NotAfter (point_at low) x
    go (inl n) = n
    go (inr f) = absurd (off f (less_transitive x (point_at low) (point_at high) hx (position_is_point low) (position_is_point high) f h.in_order))

-- and nothing after its greater end
pub not_after_high : (e : Edge) (low high : Position) → HasEnds e low high → (x : Point) → IsPoint x → on e x ≡ true → NotAfter x (point_at high)
not_after_high e low high h x hx k = go (not_after_or x (point_at high))
  where
    off : compare (point_at low) x ≡ Less → compare (point_at high) x ≡ Less → ⊥
    off f g = pick h.are_ends
      where
        clash : on e x ≡ false → ⊥
        clash z = let c : true ≡ false = sym k ∙ z in cc

        less_at : (a b : Position) → a ≡ b → compare (point_at a) x ≡ Less → compare (point_at b) x ≡ Less
        less_at a b q l = subst (λ (c : Position). compare (point_at c) x ≡ Less) q l

        pick : ((low ≡ e.start) × (high ≡ e.end)) ⊎ ((low ≡ e.end) × (high ≡ e.start)) → ⊥
        pick (inl q) = clash (off_after e x hx (less_at low e.start q.0 f) (less_at high e.end q.1 g))
        pick (inr q) = clash (off_after e x hx (less_at high e.start q.1 g) (less_at low e.end q.0 f))

    go : NotAfter x (point_at high) ⊎ (compare (point_at high) x ≡ Less) → NotAfter x (point_at high)
    go (inl n) = n
    go (inr f) = absurd (off (less_transitive (point_at low) (point_at high) x (position_is_point low) (position_is_point high) hx h.in_order f) f)

-- ---- and it holds all that is
-- a point on the edge's line that is neither before its lesser end nor after its greater lies on the edge
pub held : (e : Edge) (low high : Position) → HasEnds e low high → (x : Point) → IsPoint x → area (point_at low) (point_at high) x ≡ pos 0 → NotAfter (point_at low) x → NotAfter x (point_at high) → on e x ≡ true
held e low high h x hx z f g = go (not_after_cases (point_at low) x f) (not_after_cases x (point_at high) g)
  where
    low_hull : OnHull e (point_at low)
    low_hull = at_low (λ a. OnHull e (point_at a)) e low high h (hull_of_start e) (hull_of_end e)

    high_hull : OnHull e (point_at high)
    high_hull = at_high (λ a. OnHull e (point_at a)) e low high h (hull_of_start e) (hull_of_end e)

    go : (compare (point_at low) x ≡ Less) ⊎ (same_point (point_at low) x ≡ true) → (compare x (point_at high) ≡ Less) ⊎ (same_point x (point_at high) ≡ true) → on e x ≡ true
    go (inr s) t = sym (on_respects e (point_at low) x (position_is_point low) hx s) ∙ on_from_hull e (point_at low) low_hull
    go (inl s) (inr t) = on_respects e x (point_at high) hx (position_is_point high) t ∙ on_from_hull e (point_at high) high_hull
    go (inl s) (inl t) = on_from_hull e x (on_sum e (point_at low) (point_at high) x low_hull high_hull (sum_between (point_at low) (point_at high) x (position_is_point low) (position_is_point high) hx z s t h.in_order))
