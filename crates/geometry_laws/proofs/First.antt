-- The first edge above a point, and what is at or above the point of it there: just what is strictly above the point.
use Rattle.std.proofs.Common.{ℤ, pos, ◌+ℤ◌, ◌-ℤ◌, ◌*ℤ◌, ◌≤ℤ◌, ◌<ℤ◌, int_lt, int_le, ◌≡◌, ◌⊎◌, inl, inr, Bool, true, false, ◌&&◌, if◌then◌else◌, refl, sym, ap, ap₂, subst, ◌∙◌, List, [], ◌∷◌, arith}
use borrow.Author.Differences.{ints}
use Rattle.std.specs.Ordering.{int_eq}
use Rattle.std.proofs.lemmas.Bool.{and_parts, and_from}
use lib.Signed.{≤ℤ_refl}
use Rattle.geometry_model.specs.Points.{Position, Point, IsPoint}
use Rattle.geometry_model.specs.Geometries.{Edge}
use Rattle.geometry_model.specs.Sides.{side, on}
use Rattle.geometry_model.specs.Crossings.{exactly_one as xor, reaches, spans, side_rightward, strictly_above, at_or_above}
use Rattle.basics.proofs.Ring.{solve, var, lit, ◌⊕◌, ◌⊖◌, ◌⊗◌}
use Rattle.basics.proofs.Signs.{strict_plus_plus, strict_plus_minus, plus_plus, minus_plus, zero_times, at_most_from, at_most_or_less, at_most_yes, at_most_no, less_yes, less_no, less_from}
use Rattle.basics.proofs.Quotients.{trans_at_most, at_most_scaled}
use Rattle.basics.proofs.Tests.{equal_yes}
use Rattle.basics.proofs.Orders.{negative_flipped, less_weak, weak_positive, sum_last_positive}
use Rattle.geometry_laws.proofs.LineSides.{side', side_turned}
use Rattle.geometry_laws.proofs.Each.{Each, Among}
use Rattle.geometry_laws.proofs.Nudge.{breadth, breadth_positive}
use Rattle.geometry_laws.proofs.WithinPiece.{on_from_touch}
use Rattle.geometry_laws.proofs.Plane.{right}
use Rattle.geometry_laws.proofs.LineOrder.{up}
use Rattle.geometry_laws.proofs.Hulls.{on_parts}

-- how far the edge is above the point, times the breadth of the edge
abbrev pub height : Edge → Point → ℤ
height e x = pos 0 -ℤ side_rightward e x

pub record First (es : List Edge) (x : Point) : Type 0 where
  pub edge : Edge
  pub among : Among edge es
  pub is_above : strictly_above edge x ≡ true
  pub least : (g : Edge) → Among g es → strictly_above g x ≡ true → (height edge x *ℤ breadth g) ≤ℤ (height g x *ℤ breadth edge)

-- an edge strictly above a point spans it, so it has breadth
wide : (e : Edge) (x : Point) → IsPoint x → strictly_above e x ≡ true → pos 0 <ℤ breadth e
wide e x hx h = breadth_positive e x hx ((and_parts (spans e x) (int_lt (side_rightward e x) (pos 0)) h).0)

-- and it is higher than the point
high : (e : Edge) (x : Point) → strictly_above e x ≡ true → pos 0 <ℤ height e x
high e x h = negative_flipped (side_rightward e x) (less_from (side_rightward e x) (pos 0) ((and_parts (spans e x) (int_lt (side_rightward e x) (pos 0)) h).1))

-- the edges that are above x are compared at x, and the lowest is kept
pub first : (es : List Edge) (x : Point) → IsPoint x → Each (λ e. strictly_above e x ≡ false) es ⊎ First es x
first [] x hx = inl tt
first (e ∷ es) x hx = go (strictly_above e x) refl (first es x hx)
  where
    none_in : (fs : List Edge) → Each (λ f. strictly_above f x ≡ false) fs → (g : Edge) → Among g fs → strictly_above g x ≡ true → ⊥
    none_in [] h g m k = m
    none_in (f ∷ fs) h g (inl q) k = absurd (let z : false ≡ true = sym h.0 ∙ ap (λ (d : Edge). strictly_above d x) (sym q) ∙ k in cc)
    none_in (f ∷ fs) h g (inr m) k = none_in fs h.1 g m k

    alone : strictly_above e x ≡ true → Each (λ f. strictly_above f x ≡ false) es → First (e ∷ es) x
    alone f h = record { edge = e; among = inl refl; is_above = f; least = λ g m k. pick g m k }
      where
        pick : (g : Edge) → Among g (e ∷ es) → strictly_above g x ≡ true → (height e x *ℤ breadth g) ≤ℤ (height g x *ℤ breadth e)
        pick g (inl q) k = subst (λ (d : Edge). (height e x *ℤ breadth d) ≤ℤ (height d x *ℤ breadth e)) (sym q) (≤ℤ_refl (height e x *ℤ breadth e))
        pick g (inr m) k = absurd (none_in es h g m k)

    keep : (r : First es x) → (strictly_above e x ≡ true → (height r.edge x *ℤ breadth e) ≤ℤ (height e x *ℤ breadth r.edge)) → First (e ∷ es) x
    keep r f = record { edge = r.edge; among = inr r.among; is_above = r.is_above; least = λ g m k. pick g m k }
      where
        pick : (g : Edge) → Among g (e ∷ es) → strictly_above g x ≡ true → (height r.edge x *ℤ breadth g) ≤ℤ (height g x *ℤ breadth r.edge)
        pick g (inl q) k = subst (λ (d : Edge). (height r.edge x *ℤ breadth d) ≤ℤ (height d x *ℤ breadth r.edge)) (sym q) (f (ap (λ (d : Edge). strictly_above d x) (sym q) ∙ k))
        pick g (inr m) k = r.least g m k

    take : (r : First es x) → strictly_above e x ≡ true → (height e x *ℤ breadth r.edge) ≤ℤ (height r.edge x *ℤ breadth e) → First (e ∷ es) x
    take r f l = record { edge = e; among = inl refl; is_above = f; least = λ g m k. pick g m k }
      where
        pick : (g : Edge) → Among g (e ∷ es) → strictly_above g x ≡ true → (height e x *ℤ breadth g) ≤ℤ (height g x *ℤ breadth e)
        pick g (inl q) k = subst (λ (d : Edge). (height e x *ℤ breadth d) ≤ℤ (height d x *ℤ breadth e)) (sym q) (≤ℤ_refl (height e x *ℤ breadth e))
        pick g (inr m) k = trans_at_most (height e x) (breadth e) (height r.edge x) (breadth r.edge) (height g x) (breadth g) (wide e x hx f) (wide r.edge x hx r.is_above) (wide g x hx k) l (r.least g m k)

    choose : (r : First es x) → strictly_above e x ≡ true → ((height e x *ℤ breadth r.edge) ≤ℤ (height r.edge x *ℤ breadth e)) ⊎ ((height r.edge x *ℤ breadth e) <ℤ (height e x *ℤ breadth r.edge)) → First (e ∷ es) x
    choose r f (inl l) = take r f l
    choose r f (inr l) = keep r (λ k. less_weak (height r.edge x *ℤ breadth e) (height e x *ℤ breadth r.edge) l)

    go : (t : Bool) → strictly_above e x ≡ t → Each (λ f. strictly_above f x ≡ false) es ⊎ First es x → Each (λ f. strictly_above f x ≡ false) (e ∷ es) ⊎ First (e ∷ es) x
    go true f (inl h) = inr (alone f h)
    go false f (inl h) = inl (f, h)
    go true f (inr r) = inr (choose r f (at_most_or_less (height e x *ℤ breadth r.edge) (height r.edge x *ℤ breadth e)))
    go false f (inr r) = inr (keep r (λ k. absurd (let z : false ≡ true = sym f ∙ k in cc)))

-- ---- the point of an edge straight above x
unfoldable pub over_point : Edge → Point → Point
over_point f x = record { X = breadth f *ℤ x.X; Y = breadth f *ℤ x.Y +ℤ height f x; W = breadth f *ℤ x.W }

-- its denominator is above 0, since the edge has breadth
pub over_is_point : (f : Edge) (x : Point) → IsPoint x → strictly_above f x ≡ true → IsPoint (over_point f x)
unfolding over_point
over_is_point f x hx h = strict_plus_plus (breadth f) x.W (wide f x hx h) hx

raised : Point → ℤ → ℤ → Point
raised x d h = record { X = d *ℤ x.X; Y = d *ℤ x.Y +ℤ h; W = d *ℤ x.W }

-- raising a point changes its side by the rise times the breadth of the line
side_raised : (a b : Position) (d h : ℤ) (x : Point) → side a b (raised x d h) ≡ d *ℤ side a b x +ℤ h *ℤ (b.x -ℤ a.x)
unfolding raised
side_raised a b d h x = solve (a.x ∷ a.y ∷ b.x ∷ b.y ∷ x.X ∷ x.Y ∷ x.W ∷ d ∷ h ∷ [])
    ((var 2 ⊖ var 0) ⊗ ((var 7 ⊗ var 5 ⊕ var 8) ⊖ var 1 ⊗ (var 7 ⊗ var 6)) ⊖ (var 3 ⊖ var 1) ⊗ (var 7 ⊗ var 4 ⊖ var 0 ⊗ (var 7 ⊗ var 6)))
    (var 7 ⊗ side' ⊕ var 8 ⊗ (var 2 ⊖ var 0)) tt

-- and so it does for an edge taken from left to right
rightward_raised : (g : Edge) (d h : ℤ) (x : Point) → side_rightward g (raised x d h) ≡ d *ℤ side_rightward g x +ℤ h *ℤ breadth g
rightward_raised g d h x = go (int_le g.start.x g.end.x)
  where
    go : (t : Bool) → (if t then side g.start g.end (raised x d h) else side g.end g.start (raised x d h)) ≡ d *ℤ (if t then side g.start g.end x else side g.end g.start x) +ℤ h *ℤ (if t then g.end.x -ℤ g.start.x else g.start.x -ℤ g.end.x)
    go true = side_raised g.start g.end d h x
    go false = side_raised g.end g.start d h x

-- raising a point leaves alone which positions are to the right of it
reaches_raised : (a : Position) (d h : ℤ) (x : Point) → pos 0 <ℤ d → reaches a (raised x d h) ≡ reaches a x
unfolding raised
reaches_raised a d h x k = ap (λ (z : ℤ). int_le z (d *ℤ x.X)) (solve (a.x ∷ d ∷ x.W ∷ []) (var 0 ⊗ (var 1 ⊗ var 2)) (var 1 ⊗ (var 0 ⊗ var 2)) tt) ∙ at_most_scaled d (a.x *ℤ x.W) x.X k

-- and so which edges span it
spans_raised : (g : Edge) (d h : ℤ) (x : Point) → pos 0 <ℤ d → spans g (raised x d h) ≡ spans g x
spans_raised g d h x k = ap₂ xor (reaches_raised g.start d h x k) (reaches_raised g.end d h x k)

-- the point of an edge straight above x is x raised by the edge's height
over_is_raised : (f : Edge) (x : Point) → over_point f x ≡ raised x (breadth f) (height f x)
unfolding over_point raised
over_is_raised f x = refl

-- the edge goes through it
pub over_on : (f : Edge) (x : Point) → IsPoint x → strictly_above f x ≡ true → on f (over_point f x) ≡ true
over_on f x hx h = on_from_touch f (over_point f x) (over_is_point f x hx h) (and_from (spans f (over_point f x)) (int_eq (side_rightward f (over_point f x)) (pos 0))
    (ap (spans f) (over_is_raised f x) ∙ spans_raised f (breadth f) (height f x) x (wide f x hx h) ∙ (and_parts (spans f x) (int_lt (side_rightward f x) (pos 0)) h).0)
    (equal_yes (side_rightward f (over_point f x)) (pos 0) (ap (side_rightward f) (over_is_raised f x) ∙ rightward_raised f (breadth f) (height f x) x ∙ cancels (breadth f) (side_rightward f x))))
  where
    cancels : (d s : ℤ) → d *ℤ s +ℤ (pos 0 -ℤ s) *ℤ d ≡ pos 0
    cancels d s = solve (d ∷ s ∷ []) (var 0 ⊗ var 1 ⊕ (lit (pos 0) ⊖ var 1) ⊗ var 0) (lit (pos 0)) tt

-- what is at or above it is what is strictly above x
number : (d s h k : ℤ) → pos 0 <ℤ d → pos 0 <ℤ h → pos 0 <ℤ k → (s <ℤ pos 0 → (h *ℤ k) ≤ℤ ((pos 0 -ℤ s) *ℤ d)) → int_le (d *ℤ s +ℤ h *ℤ k) (pos 0) ≡ int_lt s (pos 0)
number d s h k hd hh hk f = go (at_most_or_less (pos 0) s)
  where
    under : (y z t : ℤ) → t ≡ pos 0 -ℤ y → z ≤ℤ t → (y +ℤ z) ≤ℤ pos 0
    under y z t e l = omega (arith, ints)

    go : (pos 0 ≤ℤ s) ⊎ (s <ℤ pos 0) → int_le (d *ℤ s +ℤ h *ℤ k) (pos 0) ≡ int_lt s (pos 0)
    go (inl l) = at_most_no (d *ℤ s +ℤ h *ℤ k) (pos 0) (sum_last_positive (d *ℤ s) (h *ℤ k) (plus_plus d s (weak_positive d hd) l) (strict_plus_plus h k hh hk)) ∙ sym (less_no s (pos 0) l)
    go (inr l) = at_most_yes (d *ℤ s +ℤ h *ℤ k) (pos 0) (under (d *ℤ s) (h *ℤ k) ((pos 0 -ℤ s) *ℤ d) (solve (d ∷ s ∷ []) ((lit (pos 0) ⊖ var 1) ⊗ var 0) (lit (pos 0) ⊖ var 0 ⊗ var 1) tt) (f l)) ∙ sym (less_yes s (pos 0) l)

-- at the lowest edge's point over x the edges at or above are those strictly above x
pub label_of_first : (es : List Edge) (x : Point) → IsPoint x → (r : First es x) (g : Edge) → Among g es → at_or_above g (over_point r.edge x) ≡ strictly_above g x
label_of_first es x hx r g m = go (spans g x) refl
  where
    spans_same : spans g (over_point r.edge x) ≡ spans g x
    spans_same = ap (spans g) (over_is_raised r.edge x) ∙ spans_raised g (breadth r.edge) (height r.edge x) x (wide r.edge x hx r.is_above)

    go : (t : Bool) → spans g x ≡ t → at_or_above g (over_point r.edge x) ≡ strictly_above g x
    go false e = ap (λ (b : Bool). b && int_le (side_rightward g (over_point r.edge x)) (pos 0)) (spans_same ∙ e) ∙ ap (λ (b : Bool). b && int_lt (side_rightward g x) (pos 0)) (sym e)
    go true e = ap₂ (λ (s t : Bool). s && t) spans_same
        (ap (λ (z : ℤ). int_le z (pos 0)) (ap (side_rightward g) (over_is_raised r.edge x) ∙ rightward_raised g (breadth r.edge) (height r.edge x) x)
        ∙ number (breadth r.edge) (side_rightward g x) (height r.edge x) (breadth g) (wide r.edge x hx r.is_above) (high r.edge x r.is_above) (breadth_positive g x hx e)
        (λ l. r.least g m (and_from (spans g x) (int_lt (side_rightward g x) (pos 0)) e (less_yes (side_rightward g x) (pos 0) l))))

-- no edge above x meets the vertical line between x and the first edge's point
straight_side : (a b : Position) (p q : Point) → side a b q *ℤ p.W ≡ side a b p *ℤ q.W +ℤ ((b.x -ℤ a.x) *ℤ up p q -ℤ (b.y -ℤ a.y) *ℤ right p q)
straight_side a b p q = solve (a.x ∷ a.y ∷ b.x ∷ b.y ∷ p.X ∷ p.Y ∷ p.W ∷ q.X ∷ q.Y ∷ q.W ∷ [])
    (((var 2 ⊖ var 0) ⊗ (var 8 ⊖ var 1 ⊗ var 9) ⊖ (var 3 ⊖ var 1) ⊗ (var 7 ⊖ var 0 ⊗ var 9)) ⊗ var 6)
    (((var 2 ⊖ var 0) ⊗ (var 5 ⊖ var 1 ⊗ var 6) ⊖ (var 3 ⊖ var 1) ⊗ (var 4 ⊖ var 0 ⊗ var 6)) ⊗ var 9
    ⊕ ((var 2 ⊖ var 0) ⊗ (var 8 ⊗ var 6 ⊖ var 5 ⊗ var 9) ⊖ (var 3 ⊖ var 1) ⊗ (var 7 ⊗ var 6 ⊖ var 4 ⊗ var 9))) tt

-- on one vertical line the side from left to right grows with the height, by the breadth
rightward_along : (g : Edge) (p q : Point) → right p q ≡ pos 0 → side_rightward g q *ℤ p.W ≡ side_rightward g p *ℤ q.W +ℤ breadth g *ℤ up p q
rightward_along g p q e = go (int_le g.start.x g.end.x)
  where
    dropped : (a b : Position) → side a b q *ℤ p.W ≡ side a b p *ℤ q.W +ℤ (b.x -ℤ a.x) *ℤ up p q
    dropped a b = straight_side a b p q ∙ ap (λ (z : ℤ). side a b p *ℤ q.W +ℤ ((b.x -ℤ a.x) *ℤ up p q -ℤ (b.y -ℤ a.y) *ℤ z)) e
        ∙ solve ((side a b p *ℤ q.W) ∷ ((b.x -ℤ a.x) *ℤ up p q) ∷ (b.y -ℤ a.y) ∷ []) (var 0 ⊕ (var 1 ⊖ var 2 ⊗ lit (pos 0))) (var 0 ⊕ var 1) tt

    go : (t : Bool) → (if t then side g.start g.end q else side g.end g.start q) *ℤ p.W ≡ (if t then side g.start g.end p else side g.end g.start p) *ℤ q.W +ℤ (if t then g.end.x -ℤ g.start.x else g.start.x -ℤ g.end.x) *ℤ up p q
    go true = dropped g.start g.end
    go false = dropped g.end g.start

-- an edge at or above p meets the vertical line through p at p or higher
pub not_lower : (g : Edge) (p z : Point) → IsPoint p → IsPoint z → at_or_above g p ≡ true → on g z ≡ true → right p z ≡ pos 0 → up p z <ℤ pos 0 → ⊥
not_lower g p z hp hz h k e l = clash (side_rightward g z *ℤ p.W) (side_rightward g p *ℤ z.W) (breadth g *ℤ up p z) (rightward_along g p z e) flat_times
    (times_weak (side_rightward g p) z.W (at_most_from (side_rightward g p) (pos 0) ((and_parts (spans g p) (int_le (side_rightward g p) (pos 0)) h).1)) hz)
    (strict_plus_minus (breadth g) (up p z) (breadth_positive g p hp ((and_parts (spans g p) (int_le (side_rightward g p) (pos 0)) h).0)) l)
  where
    turned : (s t : ℤ) → t ≡ pos 0 -ℤ s → s ≡ pos 0 → t ≡ pos 0
    turned s t e h = omega (arith, ints)

    flat : side_rightward g z ≡ pos 0
    flat = go (int_le g.start.x g.end.x)
      where
        go : (t : Bool) → (if t then side g.start g.end z else side g.end g.start z) ≡ pos 0
        go true = (on_parts g z k).on_line
        go false = turned (side g.start g.end z) (side g.end g.start z) (side_turned g.start g.end z) ((on_parts g z k).on_line)

    flat_times : side_rightward g z *ℤ p.W ≡ pos 0
    flat_times = zero_times (side_rightward g z) p.W flat

    times_weak : (s w : ℤ) → s ≤ℤ pos 0 → pos 0 <ℤ w → (s *ℤ w) ≤ℤ pos 0
    times_weak s w h k = minus_plus s w h (weak_positive w k)

    clash : (x y z : ℤ) → x ≡ y +ℤ z → x ≡ pos 0 → y ≤ℤ pos 0 → z <ℤ pos 0 → ⊥
    clash x y z e f h k = omega (arith, ints)

-- and it is higher than x
pub over_higher : (f : Edge) (x : Point) → IsPoint x → strictly_above f x ≡ true → (x.Y *ℤ (over_point f x).W) <ℤ ((over_point f x).Y *ℤ x.W)
unfolding over_point
over_higher f x hx h = raises (breadth f) (height f x) x.Y x.W (strict_plus_plus (height f x) x.W (high f x h) hx)
  where
    more : (s t r : ℤ) → t ≡ s +ℤ r → pos 0 <ℤ r → s <ℤ t
    more s t r e h = omega (arith, ints)

    raises : (d h y w : ℤ) → pos 0 <ℤ (h *ℤ w) → (y *ℤ (d *ℤ w)) <ℤ ((d *ℤ y +ℤ h) *ℤ w)
    raises d h y w k = more (y *ℤ (d *ℤ w)) ((d *ℤ y +ℤ h) *ℤ w) (h *ℤ w) (solve (d ∷ h ∷ y ∷ w ∷ []) ((var 0 ⊗ var 2 ⊕ var 1) ⊗ var 3) (var 2 ⊗ (var 0 ⊗ var 3) ⊕ var 1 ⊗ var 3) tt) k
