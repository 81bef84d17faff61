-- What holds at each place.
use Rattle.std.proofs.Common.{◌≡◌, ◌⊎◌, inl, inr, ◌+◌, ◌<◌, ℕ, subst, sym}
use Rattle.basics.proofs.Numbers.{earlier_or_last}

-- what holds at all earlier places and at the last
either_holds : (P : ℕ → Type 0) (k n : ℕ) → ((j : ℕ) → j < n → P j) → P n → (k < n) ⊎ (k ≡ n) → P k
either_holds P k n before last (inl below) = before k below
either_holds P k n before last (inr same) = subst P (sym same) last

-- what holds below a number and at it holds below one more
pub one_more_holds : (P : ℕ → Type 0) (n : ℕ) → ((j : ℕ) → j < n → P j) → P n → (k : ℕ) → k < n + 1 → P k
one_more_holds P n before last k within = either_holds P k n before last (earlier_or_last k n within)
