-- What holds from some number on.
use Rattle.std.proofs.Common.{ℕ, zero, suc, ◌+◌, ◌<◌, ◌≤◌, ℤ, pos, negsuc, ◌+ℤ◌, ◌*ℤ◌, ◌<ℤ◌, List, [], ◌∷◌, arith}
use borrow.Author.Differences.{ints}
use Rattle.geometry_laws.proofs.Each.{Each}

pub record Eventually (P : ℕ → Type 0) : Type 0 where
  pub start : ℕ
  pub holds : (n : ℕ) → start ≤ n → P n

pub always : (P : ℕ → Type 0) → ((n : ℕ) → P n) → Eventually P
always P f = record { start = 0; holds = λ n h. f n }

pub from_one : (P : ℕ → Type 0) → ((n : ℕ) → 0 < n → P n) → Eventually P
from_one P f = record { start = 1; holds = λ n h. f n h }

-- two things that hold from some number on hold together from the sum of the two numbers on
pub both : (P Q : ℕ → Type 0) → Eventually P → Eventually Q → Eventually (λ n. P n × Q n)
both P Q a b = record { start = a.start + b.start; holds = λ n h. (a.holds n (omega (arith, h)), b.holds n (omega (arith, h))) }

pub weaker : (P Q : ℕ → Type 0) → ((n : ℕ) → P n → Q n) → Eventually P → Eventually Q
weaker P Q f a = record { start = a.start; holds = λ n h. f n (a.holds n h) }

-- where each of finitely many things holds from some number on, all of them do from one number on
pub each_eventually : {X : Type 0} (P : X → ℕ → Type 0) (xs : List X) → Each (λ x. Eventually (P x)) xs → Eventually (λ n. Each (λ x. P x n) xs)
each_eventually P [] h = record { start = 0; holds = λ n k. tt }
each_eventually P (x ∷ xs) h = both (P x) (λ n. Each (λ y. P y n) xs) h.0 (each_eventually P xs h.1)

-- n u + v is above 0 in the end
pub grows : (u v : ℤ) → pos 0 <ℤ u → Eventually (λ n. pos 0 <ℤ (pos n *ℤ u +ℤ v))
grows (pos zero) v h = absurd (omega (arith, ints))
grows (pos (suc u)) (pos v) h = record { start = 1; holds = λ n k. up n k }
  where
    up : (n : ℕ) → 1 ≤ n → pos 0 <ℤ (pos n *ℤ pos (suc u) +ℤ pos v)
    up n k = omega (arith, ints)
grows (pos (suc u)) (negsuc v) h = record { start = v + 2; holds = λ n k. up n k }
  where
    up : (n : ℕ) → v + 2 ≤ n → pos 0 <ℤ (pos n *ℤ pos (suc u) +ℤ negsuc v)
    up n k = omega (arith, ints)
grows (negsuc u) v h = absurd (omega (arith, ints))
