-- Listed positions by x: those on an edge are in its range of x.
use Rattle.std.proofs.Common.{◌≡◌, ℕ, zero, suc, ◌+◌, ◌<◌, ◌≤◌, Bool, true, false, cond, refl, sym, ap, subst, ◌∙◌, List, [], ◌∷◌, ◌++◌, length, take, append_assoc, get_or, map, filter, ℤ, pos, ◌≤ℤ◌, ◌<ℤ◌, arith}
use Rattle.std.specs.List.Sorted.{IsPartitionPoint}
use Rattle.std.proofs.lemmas.Int.{ints}
use Rattle.std.proofs.Math.Seq.{take-suc}
use Rattle.std.proofs.lemmas.List.{get_or_default, map-append}
use Rattle.std.proofs.lemmas.List.Elements.{filter-append}
use Rattle.std.proofs.lemmas.Bool.{false_from_ne_true}
use Rattle.basics.proofs.Orders.{less_at_most}
use Rattle.geometry_model.specs.Points.{Position, point_at}
use Rattle.geometry_model.specs.Geometries.{Edge}
use Rattle.geometry_model.specs.Sides.{on, between}
use Rattle.geometry_laws.proofs.Hulls.{on_parts}
use Rattle.noding.specs.NodeRanges.{lesser, greater, least_x, greatest_x}
use Rattle.noding.specs.Sweeps.{AscendPositions}

-- ---- elements that fail a test
-- elements that all fail a test leave nothing
none_there : {X Y : Type 0} (f : Y → Bool) (g : X → Y) (xs : List X) → ((k : ℕ) (d : X) → k < length xs → f (g (get_or xs k d)) ≡ false) → filter f (map g xs) ≡ []
none_there f g [] h = refl
none_there f g (x ∷ xs) h = subst (λ (b : Bool). cond b (g x ∷ filter f (map g xs)) (filter f (map g xs)) ≡ []) (sym (h 0 x (omega arith)))
    (none_there f g xs (λ k d l. h (suc k) d (omega (arith, l))))

-- the same of the first of them
none_before : {X Y : Type 0} (f : Y → Bool) (g : X → Y) (n : ℕ) (xs : List X) → ((k : ℕ) (d : X) → k < n → f (g (get_or xs k d)) ≡ false) → filter f (map g (take n xs)) ≡ []
none_before f g zero xs h = refl
none_before f g (suc n) [] h = refl
none_before f g (suc n) (x ∷ xs) h = subst (λ (b : Bool). cond b (g x ∷ filter f (map g (take n xs))) (filter f (map g (take n xs))) ≡ []) (sym (h 0 x (omega arith)))
    (none_before f g n xs (λ k d l. h (suc k) d (omega (arith, l))))

-- where those from a place on fail, only those before it count
none_after : {X Y : Type 0} (f : Y → Bool) (g : X → Y) (n : ℕ) (xs : List X) → ((k : ℕ) (d : X) → n ≤ k → k < length xs → f (g (get_or xs k d)) ≡ false) → filter f (map g (take n xs)) ≡ filter f (map g xs)
none_after f g zero xs h = sym (none_there f g xs (λ k d l. h k d (omega arith) l))
none_after f g (suc n) [] h = refl
none_after f g (suc n) (x ∷ xs) h = ap (λ ys. cond (f (g x)) (g x ∷ ys) ys) (none_after f g n xs (λ k d a l. h (suc k) d (omega (arith, a)) (omega (arith, l))))

-- ---- one element more
-- one position more is tested, and kept where it passes
pub one_more : {X Y : Type 0} (f : Y → Bool) (g : X → Y) (xs : List X) (n : ℕ) (x : X) (first before after : List Y) → n < length xs → x ≡ get_or xs n x
    → before ≡ first ++ filter f (map g (take n xs)) → after ≡ before ++ filter f (g x ∷ []) → after ≡ first ++ filter f (map g (take (n + 1) xs))
one_more {X} f g xs n x first before after l is h grown = grown ∙ ap (λ ys. ys ++ filter f (g x ∷ [])) h ∙ append_assoc first (filter f (map g (take n xs))) (filter f (g x ∷ [])) ∙ ap (λ ys. first ++ ys) (sym further)
  where
    next : take (n + 1) xs ≡ take n xs ++ x ∷ []
    next = ap (λ k. take k xs) (at_next n) ∙ take-suc xs n x l ∙ ap (λ (y : X). take n xs ++ y ∷ []) (sym is)
      where
        at_next : (k : ℕ) → k + 1 ≡ suc k
        at_next k = omega arith

    further : filter f (map g (take (n + 1) xs)) ≡ filter f (map g (take n xs)) ++ filter f (g x ∷ [])
    further = ap (λ ys. filter f (map g ys)) next ∙ ap (filter f) (map-append g (take n xs) (x ∷ [])) ∙ filter-append f (map g (take n xs)) (g x ∷ [])

-- ---- a position on an edge is in its range of x
-- a coordinate between two others isn't below the lesser
from_least : (a b x : ℤ) → between a b x (pos 1) ≡ true → lesser a b ≤ℤ x
unfolding lesser
from_least a b x h = grind (arith, ints)

-- nor above the greater
to_greatest : (a b x : ℤ) → between a b x (pos 1) ≡ true → x ≤ℤ greater a b
unfolding greater
to_greatest a b x h = grind (arith, ints)

-- a position left of an edge's least x isn't on it
left_not_on : (e : Edge) (a : Position) → a.x <ℤ least_x e → on e (point_at a) ≡ false
left_not_on e a left = false_from_ne_true (on e (point_at a)) (λ k. clash (from_least e.start.x e.end.x a.x (on_parts e (point_at a) k).in_x))
  where
    clash : least_x e ≤ℤ a.x → ⊥
    clash l = omega (arith, ints)

-- nor is one right of its greatest x
right_not_on : (e : Edge) (a : Position) → greatest_x e <ℤ a.x → on e (point_at a) ≡ false
right_not_on e a right = false_from_ne_true (on e (point_at a)) (λ k. clash (to_greatest e.start.x e.end.x a.x (on_parts e (point_at a) k).in_x))
  where
    clash : a.x ≤ℤ greatest_x e → ⊥
    clash l = omega (arith, ints)

-- ---- the positions on an edge, from the first in its range to the last
-- no position before the edge's range of x lies on it
pub none_to_the_left : (e : Edge) (x : ℤ) (ps : List Position) (n : ℕ) → x ≡ least_x e → IsPartitionPoint (λ a. a.x <ℤ x) (λ a. x ≤ℤ a.x) ps n → filter (on e) (map point_at (take n ps)) ≡ []
none_to_the_left e x ps n is h = none_before (on e) point_at n ps (λ k d l. left_not_on e (get_or ps k d) (subst (λ z. (get_or ps k d).x <ℤ z) is (h.0 k d (omega arith) l)))

-- since positions ascend by x, once one is past the range all that follow are
pub none_to_the_right : (e : Edge) (ps : List Position) (n : ℕ) (a : Position) → AscendPositions ps → a ≡ get_or ps n a → greatest_x e <ℤ a.x → filter (on e) (map point_at (take n ps)) ≡ filter (on e) (map point_at ps)
none_to_the_right e ps n a up is past = none_after (on e) point_at n ps (λ k d m l. right_not_on e (get_or ps k d) (further k d m l))
  where
    further : (k : ℕ) (d : Position) → n ≤ k → k < length ps → greatest_x e <ℤ (get_or ps k d).x
    further k d m l = less_at_most (greatest_x e) (get_or ps n d).x (get_or ps k d).x (subst (λ (b : Position). greatest_x e <ℤ b.x) (is ∙ get_or_default ps n a d (omega (arith, m, l))) past) (up n k d m l)
