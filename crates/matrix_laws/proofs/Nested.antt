-- Two closed rings without a common point: either neither is inside the other, and no point is odd over both, or one is inside the other, and what is odd over it is odd over the other.
use Rattle.std.proofs.Common.{ℕ, ◌≡◌, ◌⊎◌, inl, inr, Bool, true, false, ◌&&◌, ℤ, pos, ◌+ℤ◌, ◌-ℤ◌, ◌*ℤ◌, ◌<ℤ◌, ◌≤ℤ◌, int_lt, refl, sym, ap, ap₂, ◌∙◌, List, [], ◌∷◌, ◌++◌, arith}
use lib.Signed.{≤ℤ_refl}
use borrow.Author.Differences.{ints}
use Rattle.geometry_model.specs.Points.{Position, Point, IsPoint, point_at}
use Rattle.geometry_model.specs.Geometries.{Edge, edges_of_line, edges_of_lines}
use Rattle.geometry_model.specs.Sides.{side, on}
use Rattle.geometry_model.specs.Crossings.{exactly_one as xor, reaches, side_rightward, strictly_above, at_or_above, odd_above}
use Rattle.geometry_model.specs.Dimensions.{weighted}
use Rattle.geometry_model.specs.Validity.{inside}
use Rattle.basics.proofs.Signs.{plus_plus, cancel_nonnegative, less_no, at_most_or_less, at_most_from, not_at_most_from}
use Rattle.basics.proofs.Bools.{not_both as clash, by_contraries}
use Rattle.basics.proofs.Orders.{less_weak, at_most_at_most, gap_weak}
use Rattle.geometry_laws.specs.RingLaws.{IsClosed, Misses}
use Rattle.geometry_laws.proofs.Each.{Each, Among, each_of, each_map, each_at, each_left, each_right, among_left, among_right, among_either, parity, parity_none, parity_append, same_parity}
use Rattle.geometry_laws.proofs.Xor.{xor_self, xor_false}
use Rattle.geometry_laws.proofs.Hulls.{on_from_hull, hull_from_on}
use Rattle.geometry_laws.proofs.RingParity.{parity_by_missing, parity_of_rings, position_is_point, rightward_left, rightward_right}
use Rattle.geometry_laws.proofs.Lines.{weighted_is_point}
use Rattle.geometry_laws.proofs.LineOrder.{on_sum, weighted_is_sum}
use Rattle.geometry_laws.proofs.Cuts.{hull_of_start, hull_of_end}
use Rattle.geometry_laws.proofs.WithinPiece.{touches, at_or_above_is, on_from_touch}
use Rattle.geometry_laws.proofs.First.{First, first, over_point, over_is_point, over_on, label_of_first}
use Rattle.matrix_laws.proofs.Outside.{by_heights}

-- the parity over one ring
abbrev pub odd_in : List Position → Point → Bool
odd_in r p = odd_above (r ∷ []) p

-- no point is on both rings
abbrev pub Disjoint : List Position → List Position → Type 0
Disjoint r s = (z : Point) → IsPoint z → (e f : Edge) → Among e (edges_of_line r) → Among f (edges_of_line s) → on e z ≡ true → on f z ≡ true → ⊥

-- sharing no point goes both ways
pub disjoint_turned : (r s : List Position) → Disjoint r s → Disjoint s r
disjoint_turned r s d z hz e f a b h k = d z hz f e b a k h

alone : (r : List Position) (e : Edge) → Among e (edges_of_lines (r ∷ [])) → Among e (edges_of_line r)
alone r e a = go (among_either e (edges_of_line r) [] a)
  where
    go : Among e (edges_of_line r) ⊎ Among e [] → Among e (edges_of_line r)
    go (inl b) = b
    go (inr b) = absurd b

-- the parity over a ring counts the ring's edges strictly above the point
pub parity_in : (r : List Position) (p : Point) → odd_in r p ≡ parity (λ e. strictly_above e p) (edges_of_line r)
parity_in r p = parity_of_rings (r ∷ []) p ∙ parity_append (λ e. strictly_above e p) (edges_of_line r) [] ∙ xor_false (parity (λ e. strictly_above e p) (edges_of_line r))

-- ---- along an edge of the one the parity over the other stays
-- the stretch from an edge's start to a point of the edge misses the other ring, so the parity over that closed ring stays
along : (r s : List Position) → IsClosed r → Disjoint r s → (e : Edge) → Among e (edges_of_line s) → (p : Point) → IsPoint p → on e p ≡ true → odd_in r (point_at e.start) ≡ odd_in r p
along r s c d e a p hp h = parity_by_missing (r ∷ []) (point_at e.start) p (position_is_point e.start) hp (c, tt) (each_of (Misses (point_at e.start) p) (edges_of_lines (r ∷ [])) (λ g m. misses g (alone r g m)))
  where
    on_edge : (m n : ℕ) → on e (weighted m (point_at e.start) n p) ≡ true
    on_edge m n = on_from_hull e (weighted m (point_at e.start) n p) (on_sum e (point_at e.start) p (weighted m (point_at e.start) n p) (hull_of_start e) (hull_from_on e p hp h) (weighted_is_sum m (point_at e.start) n p))

    misses : (g : Edge) → Among g (edges_of_line r) → Misses (point_at e.start) p g
    misses g b m n k = by_contraries (on g (weighted m (point_at e.start) n p)) false (λ q. absurd (d (weighted m (point_at e.start) n p) (weighted_is_point m (point_at e.start) n p (position_is_point e.start) hp k) g e b a q (on_edge m n))) refl

end_is_on : (e : Edge) → on e (point_at e.end) ≡ true
end_is_on e = on_from_hull e (point_at e.end) (hull_of_end e)

-- ---- all positions of the one have one parity over the other
-- what each edge keeps from its start to its end is the same at all positions of the line
alike : (F : Position → Bool) (a : Position) (rest : List Position) → ((e : Edge) → Among e (edges_of_line (a ∷ rest)) → F e.start ≡ F e.end) → Each (λ b. F b ≡ F a) (a ∷ rest)
alike F a [] h = (refl, tt)
alike F a (b ∷ rest) h = (refl, each_map (λ c. F c ≡ F b) (λ c. F c ≡ F a) (b ∷ rest) (λ c q. q ∙ sym (h (record { start = a; end = b }) (inl refl))) (alike F b rest (λ e m. h e (inr m))))

-- and the same at the starts of all its edges
starts_alike : (F : Position → Bool) (a : Position) (rest : List Position) → ((e : Edge) → Among e (edges_of_line (a ∷ rest)) → F e.start ≡ F e.end) → Each (λ e. F e.start ≡ F a) (edges_of_line (a ∷ rest))
starts_alike F a [] h = tt
starts_alike F a (b ∷ rest) h = (refl, each_map (λ e. F e.start ≡ F b) (λ e. F e.start ≡ F a) (edges_of_line (b ∷ rest)) (λ c q. q ∙ sym (h (record { start = a; end = b }) (inl refl))) (starts_alike F b rest (λ e m. h e (inr m))))

-- an edge has one parity at both its ends over a closed ring that it shares no point with
edge_keeps : (r s : List Position) → IsClosed r → Disjoint r s → (e : Edge) → Among e (edges_of_line s) → odd_in r (point_at e.start) ≡ odd_in r (point_at e.end)
edge_keeps r s c d e a = along r s c d e a (point_at e.end) (position_is_point e.end) (end_is_on e)

-- so all positions of a ring have one parity over a closed ring that shares no point with it
pub position_alike : (r : List Position) (a : Position) (rest : List Position) → IsClosed r → Disjoint r (a ∷ rest) → Each (λ b. odd_in r (point_at b) ≡ odd_in r (point_at a)) (a ∷ rest)
position_alike r a rest c d = alike (λ b. odd_in r (point_at b)) a rest (λ e m. edge_keeps r (a ∷ rest) c d e m)

-- and all points of its edges have that parity
pub on_ring : (r : List Position) (a : Position) (rest : List Position) → IsClosed r → Disjoint r (a ∷ rest) → (e : Edge) → Among e (edges_of_line (a ∷ rest)) → (p : Point) → IsPoint p → on e p ≡ true → odd_in r p ≡ odd_in r (point_at a)
on_ring r a rest c d e m p hp h = sym (along r (a ∷ rest) c d e m p hp h) ∙ each_at (λ g. odd_in r (point_at g.start) ≡ odd_in r (point_at a)) (edges_of_line (a ∷ rest)) e (starts_alike (λ b. odd_in r (point_at b)) a rest (λ g k. edge_keeps r (a ∷ rest) c d g k)) m

-- ---- the first edge above a point
-- an edge that doesn't go through the point is at or above it exactly where it is strictly above it
untouched : (g : Edge) (o : Point) → IsPoint o → on g o ≡ false → at_or_above g o ≡ strictly_above g o
untouched g o ho h = at_or_above_is g o ∙ ap (xor (strictly_above g o)) (by_contraries (touches g o) (on g o) (on_from_touch g o ho) h) ∙ xor_false (strictly_above g o)

-- where it is on the ring s, the point has over r the parity of the points of s
carried_over : (r s : List Position) (es : List Edge) (p : Point) → IsPoint p → Disjoint r s → ((g : Edge) → Among g (edges_of_line r) → Among g es) → (k : First es p) → Among k.edge (edges_of_line s) → odd_in r p ≡ odd_in r (over_point k.edge p)
carried_over r s es p hp d into k m = parity_in r p ∙ same_parity (λ g. strictly_above g p) (λ g. strictly_above g (over_point k.edge p)) (edges_of_line r)
    (each_of (λ g. strictly_above g p ≡ strictly_above g (over_point k.edge p)) (edges_of_line r) (λ g a. sym (label_of_first es p hp k g (into g a)) ∙ untouched g (over_point k.edge p) (over_is_point k.edge p hp k.is_above) (off g a)))
    ∙ sym (parity_in r (over_point k.edge p))
  where
    off : (g : Edge) → Among g (edges_of_line r) → on g (over_point k.edge p) ≡ false
    off g a = by_contraries (on g (over_point k.edge p)) false (λ q. absurd (d (over_point k.edge p) (over_is_point k.edge p hp k.is_above) g k.edge a m q (over_on k.edge p hp k.is_above))) refl

-- a point over which neither is odd, or whose parity over one ring is that of the other's positions
abbrev pub Shown : List Position → Position → List Position → Position → Point → Type 0
Shown r a s b p = ((odd_in r p ≡ false) × (odd_in s p ≡ false)) ⊎ (odd_in r p ≡ odd_in r (point_at b)) ⊎ (odd_in s p ≡ odd_in s (point_at a))

-- the first edge above the point, of both rings together, decides: there is none, or it is of one ring,
-- whose points have the parity that the point has over the other ring
pub shown : (a : Position) (u : List Position) (b : Position) (v : List Position) → IsClosed (a ∷ u) → IsClosed (b ∷ v) → Disjoint (a ∷ u) (b ∷ v) → (p : Point) → IsPoint p → Shown (a ∷ u) a (b ∷ v) b p
shown a u b v ca cb d p hp = go (first (edges_of_line (a ∷ u) ++ edges_of_line (b ∷ v)) p hp)
  where
    none : (r : List Position) → Each (λ e. strictly_above e p ≡ false) (edges_of_line r) → odd_in r p ≡ false
    none r h = parity_in r p ∙ parity_none (λ e. strictly_above e p) (edges_of_line r) h

    of : (k : First (edges_of_line (a ∷ u) ++ edges_of_line (b ∷ v)) p) → Among k.edge (edges_of_line (a ∷ u)) ⊎ Among k.edge (edges_of_line (b ∷ v)) → Shown (a ∷ u) a (b ∷ v) b p
    of k (inl m) = inr (inr (carried_over (b ∷ v) (a ∷ u) (edges_of_line (a ∷ u) ++ edges_of_line (b ∷ v)) p hp (disjoint_turned (a ∷ u) (b ∷ v) d) (λ g q. among_right g (edges_of_line (a ∷ u)) (edges_of_line (b ∷ v)) q) k m
        ∙ on_ring (b ∷ v) a u cb (disjoint_turned (a ∷ u) (b ∷ v) d) k.edge m (over_point k.edge p) (over_is_point k.edge p hp k.is_above) (over_on k.edge p hp k.is_above)))
    of k (inr m) = inr (inl (carried_over (a ∷ u) (b ∷ v) (edges_of_line (a ∷ u) ++ edges_of_line (b ∷ v)) p hp d (λ g q. among_left g (edges_of_line (a ∷ u)) (edges_of_line (b ∷ v)) q) k m
        ∙ on_ring (a ∷ u) b v ca d k.edge m (over_point k.edge p) (over_is_point k.edge p hp k.is_above) (over_on k.edge p hp k.is_above)))

    go : Each (λ e. strictly_above e p ≡ false) (edges_of_line (a ∷ u) ++ edges_of_line (b ∷ v)) ⊎ First (edges_of_line (a ∷ u) ++ edges_of_line (b ∷ v)) p → Shown (a ∷ u) a (b ∷ v) b p
    go (inl h) = inl (none (a ∷ u) (each_left (λ e. strictly_above e p ≡ false) (edges_of_line (a ∷ u)) (edges_of_line (b ∷ v)) h), none (b ∷ v) (each_right (λ e. strictly_above e p ≡ false) (edges_of_line (a ∷ u)) (edges_of_line (b ∷ v)) h))
    go (inr k) = of k (among_either k.edge (edges_of_line (a ∷ u)) (edges_of_line (b ∷ v)) k.among)

-- neither is inside the other: no point is odd over both
pub not_both : (a : Position) (u : List Position) (b : Position) (v : List Position) → IsClosed (a ∷ u) → IsClosed (b ∷ v) → Disjoint (a ∷ u) (b ∷ v)
    → odd_in (a ∷ u) (point_at b) ≡ false → odd_in (b ∷ v) (point_at a) ≡ false → (p : Point) → IsPoint p → odd_in (a ∷ u) p ≡ true → odd_in (b ∷ v) p ≡ true → ⊥
not_both a u b v ca cb d e f p hp g h = go (shown a u b v ca cb d p hp)
  where
    go : Shown (a ∷ u) a (b ∷ v) b p → ⊥
    go (inl k) = clash (odd_in (a ∷ u) p) g k.0
    go (inr (inl k)) = clash (odd_in (a ∷ u) p) g (k ∙ e)
    go (inr (inr k)) = clash (odd_in (b ∷ v) p) h (k ∙ f)

-- ---- the highest position
pub record Top (qs : List Position) : Type 0 where
  pub position : Position
  pub among : Among position qs
  pub highest : Each (λ b. b.y ≤ℤ position.y) qs

-- of the positions of a ring one is highest
top : (a : Position) (rest : List Position) → Top (a ∷ rest)
top a [] = record { position = a; among = inl refl; highest = (≤ℤ_refl a.y, tt) }
top a (b ∷ rest) = go (top b rest)
  where
    pick : (t : Top (b ∷ rest)) → (a.y ≤ℤ t.position.y) ⊎ (t.position.y <ℤ a.y) → Top (a ∷ b ∷ rest)
    pick t (inl h) = record { position = t.position; among = inr t.among; highest = (h, t.highest) }
    pick t (inr h) = record { position = a; among = inl refl; highest = (≤ℤ_refl a.y, each_map (λ c. c.y ≤ℤ t.position.y) (λ c. c.y ≤ℤ a.y) (b ∷ rest) (λ c k. at_most_at_most c.y t.position.y a.y k (less_weak t.position.y a.y h)) t.highest) }

    go : Top (b ∷ rest) → Top (a ∷ b ∷ rest)
    go t = pick t (at_most_or_less a.y t.position.y)

-- no edge is strictly above a position at least as high as both its ends
side_level : (a b q : Position) → a.y ≤ℤ q.y → b.y ≤ℤ q.y → reaches a (point_at q) ≡ true → reaches b (point_at q) ≡ false → int_lt (side a b (point_at q)) (pos 0) ≡ false
side_level a b q s t e f = less_no (side a b (point_at q)) (pos 0) (cancel_nonnegative (pos 1) (side a b (point_at q)) (omega (arith, ints)) (sum _ _ _ (by_heights a b (point_at q))
    (plus_plus (q.y -ℤ a.y *ℤ pos 1) (b.x *ℤ pos 1 -ℤ q.x) (gap a.y q.y s) (weak q.x (b.x *ℤ pos 1) (not_at_most_from (b.x *ℤ pos 1) q.x f)))
    (plus_plus (q.y -ℤ b.y *ℤ pos 1) (q.x -ℤ a.x *ℤ pos 1) (gap b.y q.y t) (gap_weak (a.x *ℤ pos 1) q.x (at_most_from (a.x *ℤ pos 1) q.x e)))))
  where
    gap : (x y : ℤ) → x ≤ℤ y → pos 0 ≤ℤ (y -ℤ x *ℤ pos 1)
    gap x y h = omega (arith, ints)

    weak : (x y : ℤ) → x <ℤ y → pos 0 ≤ℤ (y -ℤ x)
    weak x y h = omega (arith, ints)

    sum : (x y z : ℤ) → x ≡ y +ℤ z → pos 0 ≤ℤ y → pos 0 ≤ℤ z → pos 0 ≤ℤ x
    sum x y z e h k = omega (arith, ints)

-- so such an edge isn't counted, whichever of its ends is the left one
level_above : (q : Position) (e : Edge) → e.start.y ≤ℤ q.y → e.end.y ≤ℤ q.y → strictly_above e (point_at q) ≡ false
level_above q e s t = go (reaches e.start (point_at q)) refl (reaches e.end (point_at q)) refl
  where
    none : reaches e.start (point_at q) ≡ reaches e.end (point_at q) → strictly_above e (point_at q) ≡ false
    none f = ap (λ (u : Bool). u && int_lt (side_rightward e (point_at q)) (pos 0)) (ap (λ (u : Bool). xor u (reaches e.end (point_at q))) f ∙ xor_self (reaches e.end (point_at q)))

    go : (u : Bool) → reaches e.start (point_at q) ≡ u → (v : Bool) → reaches e.end (point_at q) ≡ v → strictly_above e (point_at q) ≡ false
    go true f true g = none (f ∙ sym g)
    go false f false g = none (f ∙ sym g)
    go true f false g = ap₂ (λ (x y : Bool). x && y) (ap₂ xor f g) (ap (λ (z : ℤ). int_lt z (pos 0)) (rightward_left e (point_at q) (position_is_point q) f g) ∙ side_level e.start e.end q s t f g)
    go false f true g = ap₂ (λ (x y : Bool). x && y) (ap₂ xor f g) (ap (λ (z : ℤ). int_lt z (pos 0)) (rightward_right e (point_at q) (position_is_point q) f g) ∙ side_level e.end e.start q t s g f)

-- what holds of all positions of a line holds of both ends of each edge
line_ends : (P : Position → Type 0) (l : List Position) → Each P l → Each (λ e. P e.start × P e.end) (edges_of_line l)
line_ends P [] h = tt
line_ends P (a ∷ []) h = tt
line_ends P (a ∷ b ∷ rest) h = ((h.0, h.1.0), line_ends P (b ∷ rest) h.1)

-- a position as high as all of a ring has none of its edges above it, so it is even over the ring
even_at_top : (r : List Position) (q : Position) → Each (λ b. b.y ≤ℤ q.y) r → odd_in r (point_at q) ≡ false
even_at_top r q h = parity_in r (point_at q) ∙ parity_none (λ e. strictly_above e (point_at q)) (edges_of_line r)
    (each_map (λ e. (e.start.y ≤ℤ q.y) × (e.end.y ≤ℤ q.y)) (λ e. strictly_above e (point_at q) ≡ false) (edges_of_line r) (λ e k. level_above q e k.0 k.1) (line_ends (λ b. b.y ≤ℤ q.y) r h))

-- not each is inside the other
-- the higher one of both rings' highest positions is even over the other ring, and all positions of its ring are alike
pub not_each : (a : Position) (u : List Position) (b : Position) (v : List Position) → IsClosed (a ∷ u) → IsClosed (b ∷ v) → Disjoint (a ∷ u) (b ∷ v)
    → odd_in (a ∷ u) (point_at b) ≡ true → odd_in (b ∷ v) (point_at a) ≡ true → ⊥
not_each a u b v ca cb d e f = go (top a u) (top b v)
  where
    pick : (s : Top (a ∷ u)) (t : Top (b ∷ v)) → (s.position.y ≤ℤ t.position.y) ⊎ (t.position.y <ℤ s.position.y) → ⊥
    pick s t (inl h) = clash (odd_in (a ∷ u) (point_at t.position)) (each_at (λ c. odd_in (a ∷ u) (point_at c) ≡ odd_in (a ∷ u) (point_at b)) (b ∷ v) t.position (position_alike (a ∷ u) b v ca d) t.among ∙ e)
        (even_at_top (a ∷ u) t.position (each_map (λ c. c.y ≤ℤ s.position.y) (λ c. c.y ≤ℤ t.position.y) (a ∷ u) (λ c k. at_most_at_most c.y s.position.y t.position.y k h) s.highest))
    pick s t (inr h) = clash (odd_in (b ∷ v) (point_at s.position)) (each_at (λ c. odd_in (b ∷ v) (point_at c) ≡ odd_in (b ∷ v) (point_at a)) (a ∷ u) s.position (position_alike (b ∷ v) a u cb (disjoint_turned (a ∷ u) (b ∷ v) d)) s.among ∙ f)
        (even_at_top (b ∷ v) s.position (each_map (λ c. c.y ≤ℤ t.position.y) (λ c. c.y ≤ℤ s.position.y) (b ∷ v) (λ c k. at_most_at_most c.y t.position.y s.position.y k (less_weak t.position.y s.position.y h)) t.highest))

    go : Top (a ∷ u) → Top (b ∷ v) → ⊥
    go s t = pick s t (at_most_or_less s.position.y t.position.y)

-- the second is inside the first: what is odd over it is odd over the first
-- otherwise the first ring would be inside the second as well
pub carried : (a : Position) (u : List Position) (b : Position) (v : List Position) → IsClosed (a ∷ u) → IsClosed (b ∷ v) → Disjoint (a ∷ u) (b ∷ v)
    → odd_in (a ∷ u) (point_at b) ≡ true → (p : Point) → IsPoint p → odd_in (b ∷ v) p ≡ true → odd_in (a ∷ u) p ≡ true
carried a u b v ca cb d e p hp h = go (shown a u b v ca cb d p hp)
  where
    go : Shown (a ∷ u) a (b ∷ v) b p → odd_in (a ∷ u) p ≡ true
    go (inl k) = absurd (clash (odd_in (b ∷ v) p) h k.1)
    go (inr (inl k)) = k ∙ e
    go (inr (inr k)) = absurd (not_each a u b v ca cb d e (sym k ∙ h))

-- ---- whether the rings have positions or not
-- a ring without positions has no edges, so every point is even over it
pub empty_even : (p : Point) → odd_in [] p ≡ false
empty_even p = parity_in [] p

-- what is odd over the inner ring is odd over the outer
pub carried_in : (r s : List Position) → IsClosed r → IsClosed s → Disjoint r s → inside r s ≡ true → (p : Point) → IsPoint p → odd_in s p ≡ true → odd_in r p ≡ true
carried_in r [] c k d f p hp o = absurd (clash (odd_in [] p) o (empty_even p))
carried_in [] (b ∷ v) c k d f p hp o = absurd (clash (odd_in [] (point_at b)) f (empty_even (point_at b)))
carried_in (a ∷ u) (b ∷ v) c k d f p hp o = carried a u b v c k d f p hp o

-- where neither is inside the other nothing is odd over both
pub over_neither : (r s : List Position) → IsClosed r → IsClosed s → Disjoint r s → inside r s ≡ false → inside s r ≡ false → (p : Point) → IsPoint p → odd_in r p ≡ true → odd_in s p ≡ true → ⊥
over_neither [] s c k d e f p hp g h = clash (odd_in [] p) g (empty_even p)
over_neither (a ∷ u) [] c k d e f p hp g h = clash (odd_in [] p) h (empty_even p)
over_neither (a ∷ u) (b ∷ v) c k d e f p hp g h = not_both a u b v c k d e f p hp g h

-- not each is inside the other
pub not_each_in : (r s : List Position) → IsClosed r → IsClosed s → Disjoint r s → inside r s ≡ true → inside s r ≡ true → ⊥
not_each_in [] s c k d e f = absurd (let z : false ≡ true = f in cc)
not_each_in (a ∷ u) [] c k d e f = absurd (let z : false ≡ true = e in cc)
not_each_in (a ∷ u) (b ∷ v) c k d e f = not_each a u b v c k d e f
