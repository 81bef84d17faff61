-- Powers of two.
use Rattle.std.proofs.Common.{◌≡◌, ◌∙◌, ◌+◌, ◌-◌, ◌^◌, ◌<◌, ℕ, zero, suc, ap, arith}
use Rattle.std.proofs.Math.Nat.{two-pow-succ}

-- the powers below the first one
pub twice : (n : ℕ) → 0 < n → 2 ^ n ≡ 2 ^ (n - 1) + 2 ^ (n - 1)
twice zero h = omega arith
twice (suc n) h = two-pow-succ n ∙ ap (λ k. 2 ^ k + 2 ^ k) (back n)
  where
    back : (k : ℕ) → k ≡ suc k - 1
    back k = omega arith
