-- An edge wholly on one side of a point, left or right of it, or below or above a line through it: whether it holds the point
-- and lies above it.
use Rattle.std.proofs.Common.{ℤ, pos, ◌+ℤ◌, ◌-ℤ◌, ◌*ℤ◌, ◌≤ℤ◌, ◌<ℤ◌, int_lt, int_le, ◌≡◌, ◌⊎◌, inl, inr, Bool, true, false, ◌&&◌, ◌||◌, refl, sym, ap, ap₂, ◌∙◌, subst, [], ◌∷◌, arith}
use borrow.Author.Differences.{ints}
use Rattle.std.specs.Ordering.{int_eq}
use Rattle.geometry_model.specs.Points.{Position, Point, IsPoint}
use Rattle.geometry_model.specs.Geometries.{Edge}
use Rattle.geometry_model.specs.Sides.{side, on, between}
use Rattle.geometry_model.specs.Crossings.{exactly_one, reaches, spans, side_rightward, strictly_above, at_or_above}
use Rattle.basics.proofs.Ring.{solve, var, lit, ◌⊕◌, ◌⊖◌, ◌⊗◌}
use Rattle.basics.proofs.Signs.{plus_plus, plus_minus, minus_plus, minus_minus, strict_plus_plus, strict_plus_minus, cancel_positive, cancel_negative, zero_product, less_yes, less_no, at_most_yes, at_most_no}
use Rattle.basics.proofs.Tests.{equal_from}
use Rattle.basics.proofs.Orders.{one_above, weak_negative, weak_positive, positive_not_zero}
use Rattle.basics.proofs.Bools.{and_middle}
use Rattle.geometry_laws.proofs.LineSides.{side'}
use Rattle.geometry_laws.proofs.RingParity.{rightward_left, rightward_right}

-- ---- how far a point lies above the line of a direction through a position, times its way to the right
abbrev pub beyond : ℤ → ℤ → Position → Point → ℤ
beyond dx dy a p = dx *ℤ (p.Y -ℤ a.y *ℤ p.W) -ℤ dy *ℤ (p.X -ℤ a.x *ℤ p.W)

-- a point's side of an edge, times two factors, is the sum of how far it lies above each end in a direction,
-- each weighed by the point's way in x to the other end
slanted : (dx dy : ℤ) (a b : Position) (p : Point) → (b.x *ℤ p.W -ℤ p.X) *ℤ beyond dx dy a p +ℤ (p.X -ℤ a.x *ℤ p.W) *ℤ beyond dx dy b p ≡ (dx *ℤ p.W) *ℤ side a b p
slanted dx dy a b p = solve (a.x ∷ a.y ∷ b.x ∷ b.y ∷ p.X ∷ p.Y ∷ p.W ∷ dx ∷ dy ∷ [])
    ((var 2 ⊗ var 6 ⊖ var 4) ⊗ (var 7 ⊗ (var 5 ⊖ var 1 ⊗ var 6) ⊖ var 8 ⊗ (var 4 ⊖ var 0 ⊗ var 6)) ⊕ (var 4 ⊖ var 0 ⊗ var 6) ⊗ (var 7 ⊗ (var 5 ⊖ var 3 ⊗ var 6) ⊖ var 8 ⊗ (var 4 ⊖ var 2 ⊗ var 6)))
    ((var 7 ⊗ var 6) ⊗ side') tt

-- in the level direction it is the plain difference in height
level : (a : Position) (p : Point) → beyond (pos 1) (pos 0) a p ≡ p.Y -ℤ a.y *ℤ p.W
level a p = solve (a.x ∷ a.y ∷ p.X ∷ p.Y ∷ p.W ∷ []) (lit (pos 1) ⊗ (var 3 ⊖ var 1 ⊗ var 4) ⊖ lit (pos 0) ⊗ (var 2 ⊖ var 0 ⊗ var 4)) (var 3 ⊖ var 1 ⊗ var 4) tt

-- straight above or below the position
upright : (dx dy : ℤ) (a : Position) (p : Point) → p.X -ℤ a.x *ℤ p.W ≡ pos 0 → beyond dx dy a p ≡ dx *ℤ (p.Y -ℤ a.y *ℤ p.W)
upright dx dy a p e = ap (λ (z : ℤ). dx *ℤ (p.Y -ℤ a.y *ℤ p.W) -ℤ dy *ℤ z) e ∙ solve (dx ∷ dy ∷ (p.Y -ℤ a.y *ℤ p.W) ∷ []) (var 0 ⊗ var 2 ⊖ var 1 ⊗ lit (pos 0)) (var 0 ⊗ var 2) tt

-- tests of order that pass or fail, as the sign of a difference
more_than : (x y : ℤ) → int_le y x ≡ false → pos 0 <ℤ (y -ℤ x)
more_than x y e = omega (arith, ints)

less_than : (x y : ℤ) → int_le x y ≡ false → (y -ℤ x) <ℤ pos 0
less_than x y e = omega (arith, ints)

at_least : (x y : ℤ) → int_le x y ≡ true → pos 0 ≤ℤ (y -ℤ x)
at_least x y e = omega (arith, ints)

at_greatest : (x y : ℤ) → int_le y x ≡ true → (y -ℤ x) ≤ℤ pos 0
at_greatest x y e = omega (arith, ints)

-- ---- the side of a point that lies over or under both ends
-- heights above 0, with weights of which one is above 0 and none below it, make a side above 0
over : (c d u v w s : ℤ) → c *ℤ u +ℤ d *ℤ v ≡ w *ℤ s → pos 0 <ℤ w → pos 0 <ℤ c → pos 0 ≤ℤ d → pos 0 <ℤ u → pos 0 <ℤ v → pos 0 <ℤ s
over c d u v w s e hw hc hd hu hv = cancel_positive w s (weak_positive w hw) (sum (c *ℤ u) (d *ℤ v) (w *ℤ s) e (strict_plus_plus c u hc hu) (plus_plus d v hd (weak_positive v hv)))
  where
    sum : (x y z : ℤ) → x +ℤ y ≡ z → pos 0 <ℤ x → pos 0 ≤ℤ y → pos 0 <ℤ z
    sum x y z e h k = omega (arith, ints)

-- and heights below 0 make a side below 0
under : (c d u v w s : ℤ) → c *ℤ u +ℤ d *ℤ v ≡ w *ℤ s → pos 0 <ℤ w → pos 0 <ℤ c → pos 0 ≤ℤ d → u <ℤ pos 0 → v <ℤ pos 0 → s <ℤ pos 0
under c d u v w s e hw hc hd hu hv = cancel_negative w s (weak_positive w hw) (sum (c *ℤ u) (d *ℤ v) (w *ℤ s) e (strict_plus_minus c u hc hu) (plus_minus d v hd (weak_negative v hv)))
  where
    sum : (x y z : ℤ) → x +ℤ y ≡ z → x <ℤ pos 0 → y ≤ℤ pos 0 → z <ℤ pos 0
    sum x y z e h k = omega (arith, ints)

-- a point between a left end and a right end in x, above both in a direction, is on the upper side of the edge
side_over : (dx dy : ℤ) (a b : Position) (p : Point) → IsPoint p → pos 0 <ℤ dx → reaches a p ≡ true → reaches b p ≡ false → pos 0 <ℤ beyond dx dy a p → pos 0 <ℤ beyond dx dy b p → pos 0 <ℤ side a b p
side_over dx dy a b p hp hx f g h k = over (b.x *ℤ p.W -ℤ p.X) (p.X -ℤ a.x *ℤ p.W) (beyond dx dy a p) (beyond dx dy b p) (dx *ℤ p.W) (side a b p) (slanted dx dy a b p) (strict_plus_plus dx p.W hx hp)
    (more_than p.X (b.x *ℤ p.W) g) (at_least (a.x *ℤ p.W) p.X f) h k

-- and a point below both ends in a direction is on the lower side
side_under : (dx dy : ℤ) (a b : Position) (p : Point) → IsPoint p → pos 0 <ℤ dx → reaches a p ≡ true → reaches b p ≡ false → beyond dx dy a p <ℤ pos 0 → beyond dx dy b p <ℤ pos 0 → side a b p <ℤ pos 0
side_under dx dy a b p hp hx f g h k = under (b.x *ℤ p.W -ℤ p.X) (p.X -ℤ a.x *ℤ p.W) (beyond dx dy a p) (beyond dx dy b p) (dx *ℤ p.W) (side a b p) (slanted dx dy a b p) (strict_plus_plus dx p.W hx hp)
    (more_than p.X (b.x *ℤ p.W) g) (at_least (a.x *ℤ p.W) p.X f) h k

-- ---- an edge that holds no point so far away
neither_after : (a b c d : Bool) → b ≡ false → d ≡ false → (a && b) || (c && d) ≡ false
neither_after true b true d e f = ap₂ (λ (x y : Bool). x || y) e f
neither_after true b false d e f = ap (λ (x : Bool). x || false) e
neither_after false b true d e f = f
neither_after false b false d e f = refl

neither_before : (a b c d : Bool) → a ≡ false → c ≡ false → (a && b) || (c && d) ≡ false
neither_before a b c d e f = ap₂ (λ (x y : Bool). (x && b) || (y && d)) e f

-- a coordinate past both ends isn't between them
past : (s t n w : ℤ) → int_le n (s *ℤ w) ≡ false → int_le n (t *ℤ w) ≡ false → between s t n w ≡ false
past s t n w e f = neither_after (int_le (s *ℤ w) n) (int_le n (t *ℤ w)) (int_le (t *ℤ w) n) (int_le n (s *ℤ w)) f e

-- nor is a coordinate before both ends
ahead : (s t n w : ℤ) → int_le (s *ℤ w) n ≡ false → int_le (t *ℤ w) n ≡ false → between s t n w ≡ false
ahead s t n w e f = neither_before (int_le (s *ℤ w) n) (int_le n (t *ℤ w)) (int_le (t *ℤ w) n) (int_le n (s *ℤ w)) e f

-- an edge holds no point that isn't between its ends in x
on_off_in_x : (e : Edge) (p : Point) → between e.start.x e.end.x p.X p.W ≡ false → on e p ≡ false
on_off_in_x e p h = and_middle (int_eq (side e.start e.end p) (pos 0)) (between e.start.x e.end.x p.X p.W) (between e.start.y e.end.y p.Y p.W) h

off_in_y : (a b c : Bool) → (a ≡ true → b ≡ true → c ≡ false) → a && b && c ≡ false
off_in_y true true c h = h refl refl
off_in_y true false c h = refl
off_in_y false b c h = refl

-- both ways from the ends to the point go to the right, or both to the left
go_alike : (a b : ℤ) (p : Point) → between a b p.X p.W ≡ true
    → ((pos 0 ≤ℤ (b *ℤ p.W -ℤ p.X)) × (pos 0 ≤ℤ (p.X -ℤ a *ℤ p.W))) ⊎ (((b *ℤ p.W -ℤ p.X) ≤ℤ pos 0) × ((p.X -ℤ a *ℤ p.W) ≤ℤ pos 0))
go_alike a b p h = go (int_le (a *ℤ p.W) p.X) (int_le p.X (b *ℤ p.W)) (int_le (b *ℤ p.W) p.X) (int_le p.X (a *ℤ p.W)) refl refl refl refl h
  where
    go : (q r s t : Bool) → int_le (a *ℤ p.W) p.X ≡ q → int_le p.X (b *ℤ p.W) ≡ r → int_le (b *ℤ p.W) p.X ≡ s → int_le p.X (a *ℤ p.W) ≡ t → (q && r) || (s && t) ≡ true
        → ((pos 0 ≤ℤ (b *ℤ p.W -ℤ p.X)) × (pos 0 ≤ℤ (p.X -ℤ a *ℤ p.W))) ⊎ (((b *ℤ p.W -ℤ p.X) ≤ℤ pos 0) × ((p.X -ℤ a *ℤ p.W) ≤ℤ pos 0))
    go true true s t eq er es et h = inl (at_least p.X (b *ℤ p.W) er, at_least (a *ℤ p.W) p.X eq)
    go q r true true eq er es et h = inr (at_greatest p.X (b *ℤ p.W) es, at_greatest (a *ℤ p.W) p.X et)
    go true false true false eq er es et h = absurd (let n : false ≡ true = h in cc)
    go true false false t eq er es et h = absurd (let n : false ≡ true = h in cc)
    go false r true false eq er es et h = absurd (let n : false ≡ true = h in cc)
    go false r false t eq er es et h = absurd (let n : false ≡ true = h in cc)

-- products of one sign whose sum is 0, their second factors not 0
both_zero : (c d u v : ℤ) → c *ℤ u +ℤ d *ℤ v ≡ pos 0 → (u ≡ pos 0 → ⊥) → (v ≡ pos 0 → ⊥) → ((pos 0 ≤ℤ (c *ℤ u)) × (pos 0 ≤ℤ (d *ℤ v))) ⊎ (((c *ℤ u) ≤ℤ pos 0) × ((d *ℤ v) ≤ℤ pos 0))
    → (c ≡ pos 0) × (d ≡ pos 0)
both_zero c d u v e hu hv signs = (first (zero_product c u (left (c *ℤ u) (d *ℤ v) e signs)), second (zero_product d v (right (c *ℤ u) (d *ℤ v) e signs)))
  where
    left : (x y : ℤ) → x +ℤ y ≡ pos 0 → ((pos 0 ≤ℤ x) × (pos 0 ≤ℤ y)) ⊎ ((x ≤ℤ pos 0) × (y ≤ℤ pos 0)) → x ≡ pos 0
    left x y e (inl h) = let h0 = h.0 in let h1 = h.1 in omega (arith, ints, e, h0, h1)
    left x y e (inr h) = let h0 = h.0 in let h1 = h.1 in omega (arith, ints, e, h0, h1)

    right : (x y : ℤ) → x +ℤ y ≡ pos 0 → ((pos 0 ≤ℤ x) × (pos 0 ≤ℤ y)) ⊎ ((x ≤ℤ pos 0) × (y ≤ℤ pos 0)) → y ≡ pos 0
    right x y e (inl h) = let h0 = h.0 in let h1 = h.1 in omega (arith, ints, e, h0, h1)
    right x y e (inr h) = let h0 = h.0 in let h1 = h.1 in omega (arith, ints, e, h0, h1)

    first : (c ≡ pos 0) ⊎ (u ≡ pos 0) → c ≡ pos 0
    first (inl z) = z
    first (inr z) = absurd (hu z)

    second : (d ≡ pos 0) ⊎ (v ≡ pos 0) → d ≡ pos 0
    second (inl z) = z
    second (inr z) = absurd (hv z)

-- a point on an edge's line and between its ends in x, above or below both in a direction, lies straight above or below both
applies_upright : (dx dy : ℤ) (e : Edge) (p : Point) → int_eq (side e.start e.end p) (pos 0) ≡ true → between e.start.x e.end.x p.X p.W ≡ true
    → ((pos 0 <ℤ beyond dx dy e.start p) × (pos 0 <ℤ beyond dx dy e.end p)) ⊎ ((beyond dx dy e.start p <ℤ pos 0) × (beyond dx dy e.end p <ℤ pos 0))
    → (p.X -ℤ e.start.x *ℤ p.W ≡ pos 0) × (p.X -ℤ e.end.x *ℤ p.W ≡ pos 0)
applies_upright dx dy e p f g h = (zeros.1, turn (e.end.x *ℤ p.W) p.X zeros.0)
  where
    c : ℤ
    c = e.end.x *ℤ p.W -ℤ p.X

    d : ℤ
    d = p.X -ℤ e.start.x *ℤ p.W

    turn : (x y : ℤ) → x -ℤ y ≡ pos 0 → y -ℤ x ≡ pos 0
    turn x y e = omega (arith, ints, e)

    flat : (dx *ℤ p.W) *ℤ side e.start e.end p ≡ pos 0
    flat = ap (λ (z : ℤ). (dx *ℤ p.W) *ℤ z) (equal_from (side e.start e.end p) (pos 0) f) ∙ solve ((dx *ℤ p.W) ∷ []) (var 0 ⊗ lit (pos 0)) (lit (pos 0)) tt

    negative : (z : ℤ) → z <ℤ pos 0 → z ≡ pos 0 → ⊥
    negative z l e = omega (arith, ints, l, e)

    zeros : ((e.end.x *ℤ p.W -ℤ p.X) ≡ pos 0) × ((p.X -ℤ e.start.x *ℤ p.W) ≡ pos 0)
    zeros = go (go_alike e.start.x e.end.x p g) h
      where
        go : ((pos 0 ≤ℤ (e.end.x *ℤ p.W -ℤ p.X)) × (pos 0 ≤ℤ (p.X -ℤ e.start.x *ℤ p.W))) ⊎ (((e.end.x *ℤ p.W -ℤ p.X) ≤ℤ pos 0) × ((p.X -ℤ e.start.x *ℤ p.W) ≤ℤ pos 0))
            → ((pos 0 <ℤ beyond dx dy e.start p) × (pos 0 <ℤ beyond dx dy e.end p)) ⊎ ((beyond dx dy e.start p <ℤ pos 0) × (beyond dx dy e.end p <ℤ pos 0))
            → ((e.end.x *ℤ p.W -ℤ p.X) ≡ pos 0) × ((p.X -ℤ e.start.x *ℤ p.W) ≡ pos 0)
        go (inl m) (inl n) = both_zero c d (beyond dx dy e.start p) (beyond dx dy e.end p) (slanted dx dy e.start e.end p ∙ flat) (positive_not_zero (beyond dx dy e.start p) n.0) (positive_not_zero (beyond dx dy e.end p) n.1)
            (inl (plus_plus c (beyond dx dy e.start p) m.0 (weak_positive (beyond dx dy e.start p) n.0), plus_plus d (beyond dx dy e.end p) m.1 (weak_positive (beyond dx dy e.end p) n.1)))
        go (inl m) (inr n) = both_zero c d (beyond dx dy e.start p) (beyond dx dy e.end p) (slanted dx dy e.start e.end p ∙ flat) (negative (beyond dx dy e.start p) n.0) (negative (beyond dx dy e.end p) n.1)
            (inr (plus_minus c (beyond dx dy e.start p) m.0 (weak_negative (beyond dx dy e.start p) n.0), plus_minus d (beyond dx dy e.end p) m.1 (weak_negative (beyond dx dy e.end p) n.1)))
        go (inr m) (inl n) = both_zero c d (beyond dx dy e.start p) (beyond dx dy e.end p) (slanted dx dy e.start e.end p ∙ flat) (positive_not_zero (beyond dx dy e.start p) n.0) (positive_not_zero (beyond dx dy e.end p) n.1)
            (inr (minus_plus c (beyond dx dy e.start p) m.0 (weak_positive (beyond dx dy e.start p) n.0), minus_plus d (beyond dx dy e.end p) m.1 (weak_positive (beyond dx dy e.end p) n.1)))
        go (inr m) (inr n) = both_zero c d (beyond dx dy e.start p) (beyond dx dy e.end p) (slanted dx dy e.start e.end p ∙ flat) (negative (beyond dx dy e.start p) n.0) (negative (beyond dx dy e.end p) n.1)
            (inl (minus_minus c (beyond dx dy e.start p) m.0 (weak_negative (beyond dx dy e.start p) n.0), minus_minus d (beyond dx dy e.end p) m.1 (weak_negative (beyond dx dy e.end p) n.1)))

-- straight over or under a position, a point that lies above it in a direction is higher than it
higher : (dx dy : ℤ) (a : Position) (p : Point) → pos 0 <ℤ dx → p.X -ℤ a.x *ℤ p.W ≡ pos 0 → pos 0 <ℤ beyond dx dy a p → int_le p.Y (a.y *ℤ p.W) ≡ false
higher dx dy a p hx e h = no_more p.Y (a.y *ℤ p.W) (cancel_positive dx (p.Y -ℤ a.y *ℤ p.W) (weak_positive dx hx) (subst (λ (z : ℤ). pos 0 <ℤ z) (upright dx dy a p e) h))
  where
    no_more : (x y : ℤ) → pos 0 <ℤ (x -ℤ y) → int_le x y ≡ false
    no_more x y h = at_most_no x y (omega (arith, ints, h))

-- and one that lies below it in a direction is lower
lower : (dx dy : ℤ) (a : Position) (p : Point) → pos 0 <ℤ dx → p.X -ℤ a.x *ℤ p.W ≡ pos 0 → beyond dx dy a p <ℤ pos 0 → int_le (a.y *ℤ p.W) p.Y ≡ false
lower dx dy a p hx e h = no_less p.Y (a.y *ℤ p.W) (cancel_negative dx (p.Y -ℤ a.y *ℤ p.W) (weak_positive dx hx) (subst (λ (z : ℤ). z <ℤ pos 0) (upright dx dy a p e) h))
  where
    no_less : (x y : ℤ) → (x -ℤ y) <ℤ pos 0 → int_le y x ≡ false
    no_less x y h = at_most_no y x (omega (arith, ints, h))

-- an edge holds no point above both its ends in a direction: on its line such a point would be straight above both,
-- past them in y
pub on_off_beyond : (dx dy : ℤ) (e : Edge) (p : Point) → pos 0 <ℤ dx → pos 0 <ℤ beyond dx dy e.start p → pos 0 <ℤ beyond dx dy e.end p → on e p ≡ false
on_off_beyond dx dy e p hx h k = off_in_y (int_eq (side e.start e.end p) (pos 0)) (between e.start.x e.end.x p.X p.W) (between e.start.y e.end.y p.Y p.W)
    (λ f g. let zeros = applies_upright dx dy e p f g (inl (h, k)) in past e.start.y e.end.y p.Y p.W (higher dx dy e.start p hx zeros.0 h) (higher dx dy e.end p hx zeros.1 k))

-- nor does it hold a point below both its ends in a direction
pub on_off_short : (dx dy : ℤ) (e : Edge) (p : Point) → pos 0 <ℤ dx → beyond dx dy e.start p <ℤ pos 0 → beyond dx dy e.end p <ℤ pos 0 → on e p ≡ false
on_off_short dx dy e p hx h k = off_in_y (int_eq (side e.start e.end p) (pos 0)) (between e.start.x e.end.x p.X p.W) (between e.start.y e.end.y p.Y p.W)
    (λ f g. let zeros = applies_upright dx dy e p f g (inr (h, k)) in ahead e.start.y e.end.y p.Y p.W (lower dx dy e.start p hx zeros.0 h) (lower dx dy e.end p hx zeros.1 k))

-- the edge doesn't hold the point and isn't counted above it
pub record IsOff (p : Point) (e : Edge) : Type 0 where
  pub on : on e p ≡ false
  pub above : strictly_above e p ≡ false
  pub at_or_above : at_or_above e p ≡ false

-- the edge doesn't hold the point and is counted above it where it spans it
pub record IsOver (p : Point) (e : Edge) : Type 0 where
  pub on : on e p ≡ false
  pub above : strictly_above e p ≡ spans e p
  pub at_or_above : at_or_above e p ≡ spans e p

-- an edge that doesn't hold the point and doesn't span it isn't counted above it
unspanned : (e : Edge) (p : Point) → on e p ≡ false → spans e p ≡ false → IsOff p e
unspanned e p h k = record {
  on = h;
  above = ap (λ (b : Bool). b && int_lt (side_rightward e p) (pos 0)) k;
  at_or_above = ap (λ (b : Bool). b && int_le (side_rightward e p) (pos 0)) k;
}

turned : (a b : ℤ) → int_le a b ≡ false → int_le b a ≡ true
turned a b e = grind (arith, ints)

-- an edge wholly left of the point neither holds nor spans it, since no end is to the right of it
pub off_left : (e : Edge) (p : Point) → int_le p.X (e.start.x *ℤ p.W) ≡ false → int_le p.X (e.end.x *ℤ p.W) ≡ false → IsOff p e
off_left e p h k = unspanned e p (on_off_in_x e p (past e.start.x e.end.x p.X p.W h k)) (ap₂ exactly_one (turned p.X (e.start.x *ℤ p.W) h) (turned p.X (e.end.x *ℤ p.W) k))

-- an edge wholly right of the point neither holds nor spans it, since both ends are to the right of it
pub off_right : (e : Edge) (p : Point) → int_le (e.start.x *ℤ p.W) p.X ≡ false → int_le (e.end.x *ℤ p.W) p.X ≡ false → IsOff p e
off_right e p h k = unspanned e p (on_off_in_x e p (ahead e.start.x e.end.x p.X p.W h k)) (ap₂ exactly_one h k)

-- ---- an edge under a point, one over it
-- where an edge spans a point above both its ends in a direction, the point is on its upper side, whichever end is the left one
sign_under : (dx dy : ℤ) (e : Edge) (p : Point) (a b : Bool) → reaches e.start p ≡ a → reaches e.end p ≡ b → IsPoint p → pos 0 <ℤ dx → pos 0 <ℤ beyond dx dy e.start p → pos 0 <ℤ beyond dx dy e.end p
    → exactly_one a b ≡ true → pos 0 <ℤ side_rightward e p
sign_under dx dy e p true true f g hp hx h k s = absurd (let n : false ≡ true = s in cc)
sign_under dx dy e p false false f g hp hx h k s = absurd (let n : false ≡ true = s in cc)
sign_under dx dy e p true false f g hp hx h k s = rw (rightward_left e p hp f g) (side_over dx dy e.start e.end p hp hx f g h k)
sign_under dx dy e p false true f g hp hx h k s = rw (rightward_right e p hp f g) (side_over dx dy e.end e.start p hp hx g f k h)

-- where an edge spans a point below both its ends in a direction, the point is on its lower side
sign_over : (dx dy : ℤ) (e : Edge) (p : Point) (a b : Bool) → reaches e.start p ≡ a → reaches e.end p ≡ b → IsPoint p → pos 0 <ℤ dx → beyond dx dy e.start p <ℤ pos 0 → beyond dx dy e.end p <ℤ pos 0
    → exactly_one a b ≡ true → side_rightward e p <ℤ pos 0
sign_over dx dy e p true true f g hp hx h k s = absurd (let n : false ≡ true = s in cc)
sign_over dx dy e p false false f g hp hx h k s = absurd (let n : false ≡ true = s in cc)
sign_over dx dy e p true false f g hp hx h k s = rw (rightward_left e p hp f g) (side_under dx dy e.start e.end p hp hx f g h k)
sign_over dx dy e p false true f g hp hx h k s = rw (rightward_right e p hp f g) (side_under dx dy e.end e.start p hp hx g f k h)

no_product : (s t : Bool) → (s ≡ true → t ≡ false) → s && t ≡ false
no_product true t h = h refl
no_product false t h = refl

first_factor : (s t : Bool) → (s ≡ true → t ≡ true) → s && t ≡ s
first_factor true t h = h refl
first_factor false t h = refl

-- an edge both of whose ends are under the point in a direction isn't counted above it, as the point is on its upper side
pub off_beyond : (dx dy : ℤ) (e : Edge) (p : Point) → IsPoint p → pos 0 <ℤ dx → pos 0 <ℤ beyond dx dy e.start p → pos 0 <ℤ beyond dx dy e.end p → IsOff p e
off_beyond dx dy e p hp hx h k =
    let sign = sign_under dx dy e p (reaches e.start p) (reaches e.end p) refl refl hp hx h k in
    record {
      on = on_off_beyond dx dy e p hx h k;
      above = no_product (spans e p) (int_lt (side_rightward e p) (pos 0)) (λ s. less_no (side_rightward e p) (pos 0) (weak_positive (side_rightward e p) (sign s)));
      at_or_above = no_product (spans e p) (int_le (side_rightward e p) (pos 0)) (λ s. at_most_no (side_rightward e p) (pos 0) (sign s));
    }

-- an edge both of whose ends are over the point in a direction is counted above it exactly where it spans it
pub over_beyond : (dx dy : ℤ) (e : Edge) (p : Point) → IsPoint p → pos 0 <ℤ dx → beyond dx dy e.start p <ℤ pos 0 → beyond dx dy e.end p <ℤ pos 0 → IsOver p e
over_beyond dx dy e p hp hx h k =
    let sign = sign_over dx dy e p (reaches e.start p) (reaches e.end p) refl refl hp hx h k in
    record {
      on = on_off_short dx dy e p hx h k;
      above = first_factor (spans e p) (int_lt (side_rightward e p) (pos 0)) (λ s. less_yes (side_rightward e p) (pos 0) (sign s));
      at_or_above = first_factor (spans e p) (int_le (side_rightward e p) (pos 0)) (λ s. at_most_yes (side_rightward e p) (pos 0) (weak_negative (side_rightward e p) (sign s)));
    }

-- ---- the level direction
-- so an edge wholly below the point doesn't hold it and isn't counted above it
pub off_below : (e : Edge) (p : Point) → IsPoint p → int_le p.Y (e.start.y *ℤ p.W) ≡ false → int_le p.Y (e.end.y *ℤ p.W) ≡ false → IsOff p e
off_below e p hp h k = off_beyond (pos 1) (pos 0) e p hp one_above (raised e.start h) (raised e.end k)
  where
    raised : (a : Position) → int_le p.Y (a.y *ℤ p.W) ≡ false → pos 0 <ℤ beyond (pos 1) (pos 0) a p
    raised a h = subst (λ (z : ℤ). pos 0 <ℤ z) (sym (level a p)) (more_than (a.y *ℤ p.W) p.Y h)

-- and an edge wholly above the point is counted exactly where it spans it
pub is_over : (e : Edge) (p : Point) → IsPoint p → int_le (e.start.y *ℤ p.W) p.Y ≡ false → int_le (e.end.y *ℤ p.W) p.Y ≡ false → IsOver p e
is_over e p hp h k = over_beyond (pos 1) (pos 0) e p hp one_above (sunk e.start h) (sunk e.end k)
  where
    sunk : (a : Position) → int_le (a.y *ℤ p.W) p.Y ≡ false → beyond (pos 1) (pos 0) a p <ℤ pos 0
    sunk a h = subst (λ (z : ℤ). z <ℤ pos 0) (sym (level a p)) (less_than (a.y *ℤ p.W) p.Y h)
