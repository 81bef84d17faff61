-- The product of whole numbers distributes over the sum and is associative.
use Prim.Native.Nat.{ℕ, ◌*◌}
use native.Mathlib.Omega.{arith}
use mathlib.Core.Path.{◌≡◌, ap}
use lib.IntN.{ℤ, ◌+ℤ◌, ◌*ℤ◌}
use borrow.Author.Differences.{up, down, same_in, product_is, sum_is_lem}

times : (k : ℕ) {m n : ℕ} → m ≡ n → k * m ≡ k * n
times k e = ap (λ (n : ℕ). k * n) e

-- a product distributes over a sum, by the numbers as differences of natural numbers
pub distributes : (a b c : ℤ) → a *ℤ (b +ℤ c) ≡ a *ℤ b +ℤ a *ℤ c
distributes a b c = same_in (a *ℤ (b +ℤ c)) (a *ℤ b +ℤ a *ℤ c)
    (omega (arith, product_is a (b +ℤ c), product_is a b, product_is a c, sum_is_lem (a *ℤ b) (a *ℤ c), times (up a) (sum_is_lem b c), times (down a) (sum_is_lem b c)))

-- and it is associative
pub associates : (a b c : ℤ) → (a *ℤ b) *ℤ c ≡ a *ℤ (b *ℤ c)
associates a b c = same_in ((a *ℤ b) *ℤ c) (a *ℤ (b *ℤ c))
    (omega (arith, product_is (a *ℤ b) c, product_is a (b *ℤ c), times (up c) ((product_is a b).0), times (up c) ((product_is a b).1), times (down c) ((product_is a b).0), times (down c) ((product_is a b).1), times (up a) ((product_is b c).0), times (up a) ((product_is b c).1), times (down a) ((product_is b c).0), times (down a) ((product_is b c).1)))
