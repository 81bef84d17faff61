-- Edges that share a point have rectangles that overlap.
use Rattle.std.proofs.Common.{◌≡◌, ◌⊎◌, inl, inr, true, ◌&&◌, [], ◌∷◌, ℤ, pos, ◌-ℤ◌, ◌*ℤ◌, ◌<ℤ◌, ◌≤ℤ◌, int_le, refl, arith}
use Rattle.std.specs.Int.{int_min, int_max}
use Rattle.std.proofs.lemmas.Int.{ints, clamps}
use Rattle.std.proofs.lemmas.Bool.{and_parts, or_cases}
use Rattle.geometry_model.specs.Sides.{between}
use Rattle.basics.proofs.Ring.{var, ◌⊗◌, ◌⊖◌, solve}
use Rattle.basics.proofs.Signs.{at_most_or_less, strict_plus_plus, at_most_yes, at_most_from}
use Rattle.basics.proofs.Bools.{four_from}
use Rattle.geometry_laws.proofs.Hulls.{on_parts}
use Rattle.geometry_laws.proofs.SharedPoints.{shared_point_is_decided}
use Rattle.edge_boxes.specs.RunLaws.{SharingBoxesOverlap}

-- one of two ends is at most the coordinate, and one at least
low_end : (s t n w : ℤ) → between s t n w ≡ true → ((s *ℤ w) ≤ℤ n) ⊎ ((t *ℤ w) ≤ℤ n)
low_end s t n w h = go (or_cases (int_le (s *ℤ w) n && int_le n (t *ℤ w)) (int_le (t *ℤ w) n && int_le n (s *ℤ w)) h)
  where
    go : ((int_le (s *ℤ w) n && int_le n (t *ℤ w)) ≡ true) ⊎ ((int_le (t *ℤ w) n && int_le n (s *ℤ w)) ≡ true) → ((s *ℤ w) ≤ℤ n) ⊎ ((t *ℤ w) ≤ℤ n)
    go (inl e) = inl (at_most_from (s *ℤ w) n ((and_parts (int_le (s *ℤ w) n) (int_le n (t *ℤ w)) e).0))
    go (inr e) = inr (at_most_from (t *ℤ w) n ((and_parts (int_le (t *ℤ w) n) (int_le n (s *ℤ w)) e).0))

-- and one of the two ends is at least the coordinate
high_end : (s t n w : ℤ) → between s t n w ≡ true → (n ≤ℤ (s *ℤ w)) ⊎ (n ≤ℤ (t *ℤ w))
high_end s t n w h = go (or_cases (int_le (s *ℤ w) n && int_le n (t *ℤ w)) (int_le (t *ℤ w) n && int_le n (s *ℤ w)) h)
  where
    go : ((int_le (s *ℤ w) n && int_le n (t *ℤ w)) ≡ true) ⊎ ((int_le (t *ℤ w) n && int_le n (s *ℤ w)) ≡ true) → (n ≤ℤ (s *ℤ w)) ⊎ (n ≤ℤ (t *ℤ w))
    go (inl e) = inr (at_most_from n (t *ℤ w) ((and_parts (int_le (s *ℤ w) n) (int_le n (t *ℤ w)) e).1))
    go (inr e) = inl (at_most_from n (s *ℤ w) ((and_parts (int_le (t *ℤ w) n) (int_le n (s *ℤ w)) e).1))

-- between the one and the other over a positive denominator
in_order : (a b n w : ℤ) → pos 0 <ℤ w → (a *ℤ w) ≤ℤ n → n ≤ℤ (b *ℤ w) → a ≤ℤ b
in_order a b n w hw h k = go (at_most_or_less a b)
  where
    apart : (r p q : ℤ) → r ≡ p -ℤ q → pos 0 <ℤ r → p ≤ℤ n → n ≤ℤ q → ⊥
    apart r p q e f g l = omega (arith, ints, e, f, g, l)

    positive : b <ℤ a → pos 0 <ℤ (a -ℤ b)
    positive l = omega (arith, ints, l)

    go : (a ≤ℤ b) ⊎ (b <ℤ a) → a ≤ℤ b
    go (inl l) = l
    go (inr l) = absurd (apart (w *ℤ (a -ℤ b)) (a *ℤ w) (b *ℤ w) (solve (w ∷ a ∷ b ∷ []) (var 0 ⊗ (var 1 ⊖ var 2)) (var 1 ⊗ var 0 ⊖ var 2 ⊗ var 0) tt) (strict_plus_plus w (a -ℤ b) hw (positive l)) h k)

-- the least of two, an end of the one, an end of the other, the greatest of those two
least_below : (s t a b p q : ℤ) → (a ≡ s) ⊎ (a ≡ t) → (b ≡ p) ⊎ (b ≡ q) → a ≤ℤ b → int_min s t ≤ℤ int_max p q
least_below s t a b p q (inl e) (inl f) h = omega (arith, ints, clamps, e, f, h)
least_below s t a b p q (inl e) (inr f) h = omega (arith, ints, clamps, e, f, h)
least_below s t a b p q (inr e) (inl f) h = omega (arith, ints, clamps, e, f, h)
least_below s t a b p q (inr e) (inr f) h = omega (arith, ints, clamps, e, f, h)

-- two ranges that hold one coordinate meet: the least end of the one isn't past the greatest end of the other
ranges_meet : (s t p q n w : ℤ) → pos 0 <ℤ w → between s t n w ≡ true → between p q n w ≡ true → int_le (int_min s t) (int_max p q) ≡ true
ranges_meet s t p q n w hw h k = at_most_yes (int_min s t) (int_max p q) (go (low_end s t n w h) (high_end p q n w k))
  where
    go : ((s *ℤ w) ≤ℤ n) ⊎ ((t *ℤ w) ≤ℤ n) → (n ≤ℤ (p *ℤ w)) ⊎ (n ≤ℤ (q *ℤ w)) → int_min s t ≤ℤ int_max p q
    go (inl a) (inl b) = least_below s t s p p q (inl refl) (inl refl) (in_order s p n w hw a b)
    go (inl a) (inr b) = least_below s t s q p q (inl refl) (inr refl) (in_order s q n w hw a b)
    go (inr a) (inl b) = least_below s t t p p q (inr refl) (inl refl) (in_order t p n w hw a b)
    go (inr a) (inr b) = least_below s t t q p q (inr refl) (inr refl) (in_order t q n w hw a b)

-- the shared point is between the ends of both edges in x and in y, so their rectangles meet in both
pub sharing_boxes_overlap : SharingBoxesOverlap
sharing_boxes_overlap e f h = let w = (shared_point_is_decided e f).0 h in let m = on_parts e w.at w.on_first in let n = on_parts f w.at w.on_second in
    let a = ranges_meet e.start.x e.end.x f.start.x f.end.x w.at.X w.at.W w.is_point m.in_x n.in_x in
    let b = ranges_meet f.start.x f.end.x e.start.x e.end.x w.at.X w.at.W w.is_point n.in_x m.in_x in
    let c = ranges_meet e.start.y e.end.y f.start.y f.end.y w.at.Y w.at.W w.is_point m.in_y n.in_y in
    let d = ranges_meet f.start.y f.end.y e.start.y e.end.y w.at.Y w.at.W w.is_point n.in_y m.in_y in
    four_from _ _ _ _ a b c d
