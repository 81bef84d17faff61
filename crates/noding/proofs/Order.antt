-- Points that aren't after another, and the greater and the lesser of two positions.
use Rattle.std.proofs.Common.{◌≡◌, ◌⊎◌, inl, inr, Bool, true, false, cond, refl, sym, ap, subst, ◌∙◌}
use Rattle.std.specs.declared.cmp.Ordering.{Ordering}
use Rattle.std.specs.declared.cmp.Ordering.TheVariants.{Less, Equal, Greater}
use Rattle.std.specs.Ordering.{is_le, is_lt, ord_max, ord_min}
use Rattle.geometry_model.specs.Points.{Position, Point, IsPoint, point_at, same_point, compare}
use Rattle.fraction.specs.Orders.{position_order}
use Rattle.fraction.proofs.OrderLemmas.{position_order_is}
use Rattle.geometry_laws.proofs.PointOrder.{same_reflexive, same_symmetric, same_transitive, equal_is_same, less_transitive}
use Rattle.geometry_laws.proofs.Cuts.{turn_less, not_less_self}
use Rattle.matrix_laws.proofs.Stretches.{less_left, less_right}

-- p isn't after q
abbrev pub NotAfter : Point → Point → Type 0
NotAfter p q = is_le (compare p q) ≡ true

-- a point before another isn't after it
pub not_after_less : (p q : Point) → compare p q ≡ Less → NotAfter p q
not_after_less p q e = ap is_le e

-- nor is one that is the same
pub not_after_same : (p q : Point) → same_point p q ≡ true → NotAfter p q
not_after_same p q e = ap is_le ((equal_is_same p q).1 e)

-- a point that isn't after another is before it or the same
pub not_after_cases : (p q : Point) → NotAfter p q → (compare p q ≡ Less) ⊎ (same_point p q ≡ true)
not_after_cases p q h = go (compare p q) refl h
  where
    go : (o : Ordering) → compare p q ≡ o → is_le o ≡ true → (compare p q ≡ Less) ⊎ (same_point p q ≡ true)
    go Less e k = inl e
    go Equal e k = inr ((equal_is_same p q).0 e)
    go Greater e k = absurd (let f : false ≡ true = k in cc)

-- p isn't after q, or q is before it
pub not_after_or : (p q : Point) → NotAfter p q ⊎ (compare q p ≡ Less)
not_after_or p q = go (compare p q) refl
  where
    go : (o : Ordering) → compare p q ≡ o → NotAfter p q ⊎ (compare q p ≡ Less)
    go Less e = inl (ap is_le e)
    go Equal e = inl (ap is_le e)
    go Greater e = inr (turn_less p q e)

-- a point not after one that isn't after a third isn't after the third
pub not_after_trans : (p q r : Point) → IsPoint p → IsPoint q → IsPoint r → NotAfter p q → NotAfter q r → NotAfter p r
not_after_trans p q r hp hq hr h k = go (not_after_cases p q h) (not_after_cases q r k)
  where
    go : (compare p q ≡ Less) ⊎ (same_point p q ≡ true) → (compare q r ≡ Less) ⊎ (same_point q r ≡ true) → NotAfter p r
    go (inl e) (inl f) = not_after_less p r (less_transitive p q r hp hq hr e f)
    go (inl e) (inr f) = not_after_less p r (less_right p q r hq hr e f)
    go (inr e) (inl f) = not_after_less p r (less_left p q r hp hq e f)
    go (inr e) (inr f) = not_after_same p r (same_transitive p q r hq e f)

-- two points of which neither is after the other are the same
pub not_after_both : (p q : Point) → IsPoint p → IsPoint q → NotAfter p q → NotAfter q p → same_point p q ≡ true
not_after_both p q hp hq h k = go (not_after_cases p q h) (not_after_cases q p k)
  where
    go : (compare p q ≡ Less) ⊎ (same_point p q ≡ true) → (compare q p ≡ Less) ⊎ (same_point q p ≡ true) → same_point p q ≡ true
    go (inr e) f = e
    go (inl e) (inr f) = same_symmetric p q ∙ f
    go (inl e) (inl f) = absurd (not_less_self p p (same_reflexive p) (less_transitive p q p hp hq hp e f))

-- ---- the greater and the lesser of two positions
-- one of the two, and neither is after it
pub record IsGreater (a b m : Position) : Type 0 where
  pub first : NotAfter (point_at a) (point_at m)
  pub second : NotAfter (point_at b) (point_at m)
  pub is_one : (m ≡ a) ⊎ (m ≡ b)

-- one of the two, and it is after neither
pub record IsLesser (a b m : Position) : Type 0 where
  pub first : NotAfter (point_at m) (point_at a)
  pub second : NotAfter (point_at m) (point_at b)
  pub is_one : (m ≡ a) ⊎ (m ≡ b)

-- no position is after itself
itself : (a : Position) → NotAfter (point_at a) (point_at a)
itself a = not_after_same (point_at a) (point_at a) (same_reflexive (point_at a))

-- by whether b is before a
decided : (a b : Position) → ((position_order b a ≡ Less) × NotAfter (point_at b) (point_at a)) ⊎ ((is_lt (position_order b a) ≡ false) × NotAfter (point_at a) (point_at b))
decided a b = go (position_order b a) refl
  where
    back : compare (point_at b) (point_at a) ≡ Equal → NotAfter (point_at a) (point_at b)
    back e = not_after_same (point_at a) (point_at b) (same_symmetric (point_at a) (point_at b) ∙ (equal_is_same (point_at b) (point_at a)).0 e)

    go : (o : Ordering) → position_order b a ≡ o → ((position_order b a ≡ Less) × NotAfter (point_at b) (point_at a)) ⊎ ((is_lt (position_order b a) ≡ false) × NotAfter (point_at a) (point_at b))
    go Less e = inl (e, not_after_less (point_at b) (point_at a) (sym (position_order_is b a) ∙ e))
    go Equal e = inr (ap is_lt e, back (sym (position_order_is b a) ∙ e))
    go Greater e = inr (ap is_lt e, not_after_less (point_at a) (point_at b) (turn_less (point_at b) (point_at a) (sym (position_order_is b a) ∙ e)))

-- the greater by the order of positions is it
pub greater_is : (a b : Position) → IsGreater a b (ord_max position_order a b)
greater_is a b = go (decided a b)
  where
    at_first : NotAfter (point_at b) (point_at a) → IsGreater a b a
    at_first h = record { first = itself a; second = h; is_one = inl refl }

    at_second : NotAfter (point_at a) (point_at b) → IsGreater a b b
    at_second h = record { first = h; second = itself b; is_one = inr refl }

    go : ((position_order b a ≡ Less) × NotAfter (point_at b) (point_at a)) ⊎ ((is_lt (position_order b a) ≡ false) × NotAfter (point_at a) (point_at b)) → IsGreater a b (ord_max position_order a b)
    go (inl h) = subst (λ (t : Bool). IsGreater a b (cond t a b)) (sym (ap is_lt h.0)) (at_first h.1)
    go (inr h) = subst (λ (t : Bool). IsGreater a b (cond t a b)) (sym h.0) (at_second h.1)

-- and the lesser likewise
pub lesser_is : (a b : Position) → IsLesser a b (ord_min position_order a b)
lesser_is a b = go (decided a b)
  where
    at_first : NotAfter (point_at a) (point_at b) → IsLesser a b a
    at_first h = record { first = itself a; second = h; is_one = inl refl }

    at_second : NotAfter (point_at b) (point_at a) → IsLesser a b b
    at_second h = record { first = h; second = itself b; is_one = inr refl }

    go : ((position_order b a ≡ Less) × NotAfter (point_at b) (point_at a)) ⊎ ((is_lt (position_order b a) ≡ false) × NotAfter (point_at a) (point_at b)) → IsLesser a b (ord_min position_order a b)
    go (inl h) = subst (λ (t : Bool). IsLesser a b (cond t b a)) (sym (ap is_lt h.0)) (at_second h.1)
    go (inr h) = subst (λ (t : Bool). IsLesser a b (cond t b a)) (sym h.0) (at_first h.1)
