-- The order of quotients by cross-multiplication, at divisors above 0.
use mathlib.Core.List.{[], ◌∷◌}
use mathlib.Core.Path.{◌≡◌, refl, sym, ap, ◌∙◌}
use native.Mathlib.Omega.{arith}
use lib.IntN.{ℤ, pos, ◌+ℤ◌, ◌-ℤ◌, ◌*ℤ◌}
use lib.Signed.{◌≤ℤ◌, ◌<ℤ◌, lt_z as int_lt, le_z as int_le}
use borrow.Author.Differences.{ints}
use Rattle.basics.proofs.Ring.{solve, var, lit, ◌⊕◌, ◌⊖◌, ◌⊗◌}
use Rattle.basics.proofs.Signs.{plus_plus, strict_plus_plus, cancel_nonnegative, cancel_positive, cancel_zero, same_at_most, same_less}
use Rattle.basics.proofs.Orders.{weak_positive, gap_positive, less_from_gap, gap_weak, at_most_from_gap, gap_none, same_from_gap}

-- how far c/k lies past a/m, times m n k, is what b/n lies past a/m and c/k past b/n together
pub by_way : (a m b n c k : ℤ) → k *ℤ (b *ℤ m -ℤ a *ℤ n) +ℤ m *ℤ (c *ℤ n -ℤ b *ℤ k) ≡ n *ℤ (c *ℤ m -ℤ a *ℤ k)
by_way a m b n c k = solve (a ∷ m ∷ b ∷ n ∷ c ∷ k ∷ [])
    (var 5 ⊗ (var 2 ⊗ var 1 ⊖ var 0 ⊗ var 3) ⊕ var 1 ⊗ (var 4 ⊗ var 3 ⊖ var 2 ⊗ var 5)) (var 3 ⊗ (var 4 ⊗ var 1 ⊖ var 0 ⊗ var 5)) tt

-- less than is transitive for quotients: the way from the first to the last is the sum of two ways above 0
pub trans_less : (a m b n c k : ℤ) → pos 0 <ℤ m → pos 0 <ℤ n → pos 0 <ℤ k → (a *ℤ n) <ℤ (b *ℤ m) → (b *ℤ k) <ℤ (c *ℤ n) → (a *ℤ k) <ℤ (c *ℤ m)
trans_less a m b n c k hm hn hk p q = less_from_gap (a *ℤ k) (c *ℤ m) (cancel_positive n (c *ℤ m -ℤ a *ℤ k) (weak_positive n hn) (sum _ _ _ (by_way a m b n c k)
    (strict_plus_plus k (b *ℤ m -ℤ a *ℤ n) hk (gap_positive (a *ℤ n) (b *ℤ m) p)) (strict_plus_plus m (c *ℤ n -ℤ b *ℤ k) hm (gap_positive (b *ℤ k) (c *ℤ n) q))))
  where
    sum : (x y z : ℤ) → x +ℤ y ≡ z → pos 0 <ℤ x → pos 0 <ℤ y → pos 0 <ℤ z
    sum x y z e h l = omega (arith, ints)

-- and so is at most
pub trans_at_most : (a m b n c k : ℤ) → pos 0 <ℤ m → pos 0 <ℤ n → pos 0 <ℤ k → (a *ℤ n) ≤ℤ (b *ℤ m) → (b *ℤ k) ≤ℤ (c *ℤ n) → (a *ℤ k) ≤ℤ (c *ℤ m)
trans_at_most a m b n c k hm hn hk p q = at_most_from_gap (a *ℤ k) (c *ℤ m) (cancel_nonnegative n (c *ℤ m -ℤ a *ℤ k) hn (sum _ _ _ (by_way a m b n c k)
    (plus_plus k (b *ℤ m -ℤ a *ℤ n) (weak_positive k hk) (gap_weak (a *ℤ n) (b *ℤ m) p)) (plus_plus m (c *ℤ n -ℤ b *ℤ k) (weak_positive m hm) (gap_weak (b *ℤ k) (c *ℤ n) q))))
  where
    sum : (x y z : ℤ) → x +ℤ y ≡ z → pos 0 ≤ℤ x → pos 0 ≤ℤ y → pos 0 ≤ℤ z
    sum x y z e h l = omega (arith, ints)

-- equal quotients: transitive over a divisor above 0
pub trans_same : (a m b n c k : ℤ) → pos 0 <ℤ n → a *ℤ n ≡ b *ℤ m → b *ℤ k ≡ c *ℤ n → a *ℤ k ≡ c *ℤ m
trans_same a m b n c k hn p q = same_from_gap (a *ℤ k) (c *ℤ m) (cancel_zero n (c *ℤ m -ℤ a *ℤ k) hn (sym (by_way a m b n c k) ∙ sum k m _ _ (gap_none (a *ℤ n) (b *ℤ m) p) (gap_none (b *ℤ k) (c *ℤ n) q)))
  where
    sum : (x y s t : ℤ) → s ≡ pos 0 → t ≡ pos 0 → x *ℤ s +ℤ y *ℤ t ≡ pos 0
    sum x y s t e f = ap (λ (z : ℤ). x *ℤ z +ℤ y *ℤ t) e ∙ ap (λ (z : ℤ). x *ℤ pos 0 +ℤ y *ℤ z) f ∙ solve (x ∷ y ∷ []) (var 0 ⊗ lit (pos 0) ⊕ var 1 ⊗ lit (pos 0)) (lit (pos 0)) tt

-- both sides of a test times a number above 0
pub at_most_scaled : (k a b : ℤ) → pos 0 <ℤ k → int_le (k *ℤ a) (k *ℤ b) ≡ int_le a b
at_most_scaled k a b h = same_at_most (k *ℤ a) (k *ℤ b) a b
    (λ p. at_most_from_gap a b (cancel_nonnegative k (b -ℤ a) h (apart (k *ℤ a) (k *ℤ b) _ (product_over k a b) p)))
    (λ p. into (k *ℤ a) (k *ℤ b) _ (product_over k a b) (plus_plus k (b -ℤ a) (weak_positive k h) (apart a b (b -ℤ a) refl p)))
  where
    product_over : (k a b : ℤ) → k *ℤ b -ℤ k *ℤ a ≡ k *ℤ (b -ℤ a)
    product_over k a b = solve (k ∷ a ∷ b ∷ []) (var 0 ⊗ var 2 ⊖ var 0 ⊗ var 1) (var 0 ⊗ (var 2 ⊖ var 1)) tt

    apart : (x y z : ℤ) → y -ℤ x ≡ z → x ≤ℤ y → pos 0 ≤ℤ z
    apart x y z e h = omega (arith, ints)

    into : (x y z : ℤ) → y -ℤ x ≡ z → pos 0 ≤ℤ z → x ≤ℤ y
    into x y z e h = omega (arith, ints)

-- the same of a strict test
pub less_scaled : (k a b : ℤ) → pos 0 <ℤ k → int_lt (k *ℤ a) (k *ℤ b) ≡ int_lt a b
less_scaled k a b h = same_less (k *ℤ a) (k *ℤ b) a b
    (λ p. less_from_gap a b (cancel_positive k (b -ℤ a) (weak_positive k h) (apart (k *ℤ a) (k *ℤ b) _ (product_over k a b) p)))
    (λ p. into (k *ℤ a) (k *ℤ b) _ (product_over k a b) (strict_plus_plus k (b -ℤ a) h (apart a b (b -ℤ a) refl p)))
  where
    product_over : (k a b : ℤ) → k *ℤ b -ℤ k *ℤ a ≡ k *ℤ (b -ℤ a)
    product_over k a b = solve (k ∷ a ∷ b ∷ []) (var 0 ⊗ var 2 ⊖ var 0 ⊗ var 1) (var 0 ⊗ (var 2 ⊖ var 1)) tt

    apart : (x y z : ℤ) → y -ℤ x ≡ z → x <ℤ y → pos 0 <ℤ z
    apart x y z e h = omega (arith, ints)

    into : (x y z : ℤ) → y -ℤ x ≡ z → pos 0 <ℤ z → x <ℤ y
    into x y z e h = omega (arith, ints)
