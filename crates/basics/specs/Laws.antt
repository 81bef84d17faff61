-- Laws of the whole numbers that the proofs of geometry use, each as one statement.
use Rattle.std.specs.Prelude.{◌≡◌, ℤ, pos, ◌+ℤ◌, ◌-ℤ◌, ◌*ℤ◌, ◌≤ℤ◌, ◌<ℤ◌, ◌⊎◌}
use Rattle.std.specs.Ordering.{int_cmp}

-- multiplication distributes over addition
abbrev pub Distributes : Type 0
Distributes = (a b c : ℤ) → a *ℤ (b +ℤ c) ≡ a *ℤ b +ℤ a *ℤ c

-- multiplication is associative
abbrev pub Associates : Type 0
Associates = (a b c : ℤ) → (a *ℤ b) *ℤ c ≡ a *ℤ (b *ℤ c)

-- the product of two differences, multiplied out
abbrev pub ProductOfDifferences : Type 0
ProductOfDifferences = (a b c d : ℤ) → (a -ℤ b) *ℤ (c -ℤ d) ≡ a *ℤ c -ℤ a *ℤ d -ℤ b *ℤ c +ℤ b *ℤ d

-- the quotient a/m is less than b/n
abbrev pub IsLessQuotient : ℤ → ℤ → ℤ → ℤ → Type 0
IsLessQuotient a m b n = (a *ℤ n) <ℤ (b *ℤ m)

-- the quotient a/m is at most b/n
abbrev pub IsAtMostQuotient : ℤ → ℤ → ℤ → ℤ → Type 0
IsAtMostQuotient a m b n = (a *ℤ n) ≤ℤ (b *ℤ m)

-- over divisors of at least 1 the strict order of quotients is transitive
abbrev pub LessIsTransitive : Type 0
LessIsTransitive = (a m b n c k : ℤ) → pos 0 <ℤ m → pos 0 <ℤ n → pos 0 <ℤ k → IsLessQuotient a m b n → IsLessQuotient b n c k → IsLessQuotient a m c k

-- over divisors of at least 1 the weak order of quotients is transitive
abbrev pub AtMostIsTransitive : Type 0
AtMostIsTransitive = (a m b n c k : ℤ) → pos 0 <ℤ m → pos 0 <ℤ n → pos 0 <ℤ k → IsAtMostQuotient a m b n → IsAtMostQuotient b n c k → IsAtMostQuotient a m c k

-- a product is 0 only where a factor is
abbrev pub ZeroProduct : Type 0
ZeroProduct = (a b : ℤ) → a *ℤ b ≡ pos 0 → (a ≡ pos 0) ⊎ (b ≡ pos 0)

-- a number times one above 0 has its sign
abbrev pub SignIsKept : Type 0
SignIsKept = (k a : ℤ) → pos 0 <ℤ k → int_cmp (k *ℤ a) (pos 0) ≡ int_cmp a (pos 0)
