-- The side of a line: turned with the line, and 0 exactly on it.
use Rattle.std.proofs.Common.{ℤ, pos, ◌+ℤ◌, ◌-ℤ◌, ◌*ℤ◌, ◌≤ℤ◌, ◌<ℤ◌, ◌≡◌, ◌⊎◌, inl, inr, ◌↔◌, sym, ap, ◌∙◌, [], ◌∷◌, arith}
use borrow.Author.Differences.{ints}
use Rattle.geometry_model.specs.Points.{Position, Point}
use Rattle.geometry_model.specs.Sides.{side}
use Rattle.basics.proofs.Ring.{Expr, solve, var, lit, ◌⊕◌, ◌⊖◌, ◌⊗◌}
use Rattle.basics.proofs.Signs.{three_ways, is_or_not, cancel_zero, strict_plus_plus, strict_minus_minus, plus_plus, minus_minus, at_most_or_less}
use Rattle.basics.proofs.Orders.{weak_negative, same_from_gap, sum_first_positive, sum_last_positive}
use Rattle.geometry_laws.specs.SideLaws.{IsOnLine}

-- a at 0 and 1, b at 2 and 3, p at 4, 5 and 6
abbrev pub side' : Expr
side' = (var 2 ⊖ var 0) ⊗ (var 5 ⊖ var 1 ⊗ var 6) ⊖ (var 3 ⊖ var 1) ⊗ (var 4 ⊖ var 0 ⊗ var 6)

abbrev pub side_back' : Expr
side_back' = (var 0 ⊖ var 2) ⊗ (var 5 ⊖ var 3 ⊗ var 6) ⊖ (var 1 ⊖ var 3) ⊗ (var 4 ⊖ var 2 ⊗ var 6)

-- from b to a the side has the other sign
pub side_turned : (a b : Position) (p : Point) → side b a p ≡ pos 0 -ℤ side a b p
side_turned a b p = solve (a.x ∷ a.y ∷ b.x ∷ b.y ∷ p.X ∷ p.Y ∷ p.W ∷ []) side_back' (lit (pos 0) ⊖ side') tt

-- ---- on the line: the side is 0
-- where a multiple of p is a sum of a and b with weights, that multiple of its side is 0
pub weights_cancel : (a b : Position) (p : Point) (k m n : ℤ) → k *ℤ p.X ≡ m *ℤ a.x +ℤ n *ℤ b.x → k *ℤ p.Y ≡ m *ℤ a.y +ℤ n *ℤ b.y → k *ℤ p.W ≡ m +ℤ n → k *ℤ side a b p ≡ pos 0
weights_cancel a b p k m n e f g =
    solve (a.x ∷ a.y ∷ b.x ∷ b.y ∷ p.X ∷ p.Y ∷ p.W ∷ k ∷ []) (var 7 ⊗ side') ((var 2 ⊖ var 0) ⊗ (var 7 ⊗ var 5 ⊖ var 1 ⊗ (var 7 ⊗ var 6)) ⊖ (var 3 ⊖ var 1) ⊗ (var 7 ⊗ var 4 ⊖ var 0 ⊗ (var 7 ⊗ var 6))) tt
    ∙ ap (λ (x : ℤ). (b.x -ℤ a.x) *ℤ (k *ℤ p.Y -ℤ a.y *ℤ (k *ℤ p.W)) -ℤ (b.y -ℤ a.y) *ℤ (x -ℤ a.x *ℤ (k *ℤ p.W))) e
    ∙ ap (λ (y : ℤ). (b.x -ℤ a.x) *ℤ (y -ℤ a.y *ℤ (k *ℤ p.W)) -ℤ (b.y -ℤ a.y) *ℤ ((m *ℤ a.x +ℤ n *ℤ b.x) -ℤ a.x *ℤ (k *ℤ p.W))) f
    ∙ ap (λ (w : ℤ). (b.x -ℤ a.x) *ℤ ((m *ℤ a.y +ℤ n *ℤ b.y) -ℤ a.y *ℤ w) -ℤ (b.y -ℤ a.y) *ℤ ((m *ℤ a.x +ℤ n *ℤ b.x) -ℤ a.x *ℤ w)) g
    ∙ solve (a.x ∷ a.y ∷ b.x ∷ b.y ∷ m ∷ n ∷ []) ((var 2 ⊖ var 0) ⊗ ((var 4 ⊗ var 1 ⊕ var 5 ⊗ var 3) ⊖ var 1 ⊗ (var 4 ⊕ var 5)) ⊖ (var 3 ⊖ var 1) ⊗ ((var 4 ⊗ var 0 ⊕ var 5 ⊗ var 2) ⊖ var 0 ⊗ (var 4 ⊕ var 5))) (lit (pos 0)) tt

-- the multiple is above 0, so it cancels and the side is 0
zero_on_line : (a b : Position) (p : Point) → IsOnLine a b p → side a b p ≡ pos 0
zero_on_line a b p l = cancel_zero l.multiple (side a b p) l.positive (weights_cancel a b p l.multiple l.of_a l.of_b l.x_is l.y_is l.w_is)

-- ---- the side is 0: on the line, with the square of the distance of a and b as multiple
abbrev pub square : Position → Position → ℤ
square a b = (b.x -ℤ a.x) *ℤ (b.x -ℤ a.x) +ℤ (b.y -ℤ a.y) *ℤ (b.y -ℤ a.y)

abbrev pub weight : Position → Position → Point → ℤ
weight a b p = (b.x -ℤ a.x) *ℤ (p.X -ℤ a.x *ℤ p.W) +ℤ (b.y -ℤ a.y) *ℤ (p.Y -ℤ a.y *ℤ p.W)

abbrev pub square' : Expr
square' = (var 2 ⊖ var 0) ⊗ (var 2 ⊖ var 0) ⊕ (var 3 ⊖ var 1) ⊗ (var 3 ⊖ var 1)

abbrev pub weight' : Expr
weight' = (var 2 ⊖ var 0) ⊗ (var 4 ⊖ var 0 ⊗ var 6) ⊕ (var 3 ⊖ var 1) ⊗ (var 5 ⊖ var 1 ⊗ var 6)

pub drop_zero : (x y z : ℤ) → y ≡ pos 0 → x +ℤ z *ℤ y ≡ x
drop_zero x y z e = ap (λ (t : ℤ). x +ℤ z *ℤ t) e ∙ solve (x ∷ z ∷ []) (var 0 ⊕ var 1 ⊗ lit (pos 0)) (var 0) tt

-- the square of the distance times X is the ends' x with the weights along the line, and a multiple of the side
pub x_of : (a b : Position) (p : Point) → square a b *ℤ p.X ≡ ((square a b *ℤ p.W -ℤ weight a b p) *ℤ a.x +ℤ weight a b p *ℤ b.x) +ℤ (a.y -ℤ b.y) *ℤ side a b p
x_of a b p = solve (a.x ∷ a.y ∷ b.x ∷ b.y ∷ p.X ∷ p.Y ∷ p.W ∷ []) (square' ⊗ var 4) (((square' ⊗ var 6 ⊖ weight') ⊗ var 0 ⊕ weight' ⊗ var 2) ⊕ (var 1 ⊖ var 3) ⊗ side') tt

-- the same for Y
pub y_of : (a b : Position) (p : Point) → square a b *ℤ p.Y ≡ ((square a b *ℤ p.W -ℤ weight a b p) *ℤ a.y +ℤ weight a b p *ℤ b.y) +ℤ (b.x -ℤ a.x) *ℤ side a b p
y_of a b p = solve (a.x ∷ a.y ∷ b.x ∷ b.y ∷ p.X ∷ p.Y ∷ p.W ∷ []) (square' ⊗ var 5) (((square' ⊗ var 6 ⊖ weight') ⊗ var 1 ⊕ weight' ⊗ var 3) ⊕ (var 2 ⊖ var 0) ⊗ side') tt

-- a square is at least 0
square_weak : (x : ℤ) → pos 0 ≤ℤ (x *ℤ x)
square_weak x = go (at_most_or_less (pos 0) x)
  where
    go : (pos 0 ≤ℤ x) ⊎ (x <ℤ pos 0) → pos 0 ≤ℤ (x *ℤ x)
    go (inl h) = plus_plus x x h h
    go (inr h) = minus_minus x x (weak_negative x h) (weak_negative x h)

-- and above 0 where the number isn't 0
square_strict : (x : ℤ) → (x ≡ pos 0 → ⊥) → pos 0 <ℤ (x *ℤ x)
square_strict x f = go (three_ways (pos 0) x)
  where
    go : (pos 0 <ℤ x) ⊎ ((pos 0 ≡ x) ⊎ (x <ℤ pos 0)) → pos 0 <ℤ (x *ℤ x)
    go (inl h) = strict_plus_plus x x h h
    go (inr (inl h)) = absurd (f (sym h))
    go (inr (inr h)) = strict_minus_minus x x h h

-- two different positions are some distance apart
pub square_positive : (a b : Position) → (a ≡ b → ⊥) → pos 0 <ℤ square a b
square_positive a b f = go (is_or_not (b.x -ℤ a.x)) (is_or_not (b.y -ℤ a.y))
  where
    go : ((b.x -ℤ a.x ≡ pos 0) ⊎ (b.x -ℤ a.x ≡ pos 0 → ⊥)) → ((b.y -ℤ a.y ≡ pos 0) ⊎ (b.y -ℤ a.y ≡ pos 0 → ⊥)) → pos 0 <ℤ square a b
    go (inl e) (inl g) = absurd (f (λ i. record { x = same_from_gap a.x b.x e i; y = same_from_gap a.y b.y g i }))
    go (inr e) h = sum_first_positive ((b.x -ℤ a.x) *ℤ (b.x -ℤ a.x)) ((b.y -ℤ a.y) *ℤ (b.y -ℤ a.y)) (square_strict (b.x -ℤ a.x) e) (square_weak (b.y -ℤ a.y))
    go (inl e) (inr g) = sum_last_positive ((b.x -ℤ a.x) *ℤ (b.x -ℤ a.x)) ((b.y -ℤ a.y) *ℤ (b.y -ℤ a.y)) (square_weak (b.x -ℤ a.x)) (square_strict (b.y -ℤ a.y) g)

-- where the side is 0 its multiples fall out, and the weights of the ends give the point
on_line : (a b : Position) (p : Point) → (a ≡ b → ⊥) → side a b p ≡ pos 0 → IsOnLine a b p
on_line a b p f e = record {
  multiple = square a b;
  of_a = square a b *ℤ p.W -ℤ weight a b p;
  of_b = weight a b p;
  positive = square_positive a b f;
  x_is = x_of a b p ∙ drop_zero ((square a b *ℤ p.W -ℤ weight a b p) *ℤ a.x +ℤ weight a b p *ℤ b.x) (side a b p) (a.y -ℤ b.y) e;
  y_is = y_of a b p ∙ drop_zero ((square a b *ℤ p.W -ℤ weight a b p) *ℤ a.y +ℤ weight a b p *ℤ b.y) (side a b p) (b.x -ℤ a.x) e;
  w_is = rejoined (square a b *ℤ p.W) (weight a b p);
}
  where
    rejoined : (x y : ℤ) → x ≡ (x -ℤ y) +ℤ y
    rejoined x y = omega (arith, ints)

-- where the side is 0 the weights of the ends give the point, and where they give it they cancel in the side
pub zero_exactly_on_line : (a b : Position) (p : Point) → (a ≡ b → ⊥) → (side a b p ≡ pos 0) ↔ IsOnLine a b p
zero_exactly_on_line a b p f = (λ e. on_line a b p f e, λ l. zero_on_line a b p l)
