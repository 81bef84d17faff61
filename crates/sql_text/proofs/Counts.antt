-- A count that falls by one, beside a loop that counts up or a recursion on its predecessor.
use Rattle.std.proofs.Common.{◌≡◌, ℕ, suc, ◌+◌, ◌-◌, ◌<◌, ap, ◌∙◌, arith}

-- what holds with the turns that are left holds with one turn and those after it
pub one_turn : {X : Type 0} {x : X} (f : ℕ → X) (end at : ℕ) → at < end → x ≡ f (end - at) → x ≡ f (suc (end - (at + 1)))
one_turn f end at below e = let turns : end - at ≡ suc (end - (at + 1)) = omega arith in e ∙ ap f turns

-- a count that isn't 0 follows another
pub one_level : {X : Type 0} (f : ℕ → X) (n : ℕ) → 0 < n → f n ≡ f (suc (n - 1))
one_level f n some = let e : n ≡ suc (n - 1) = omega arith in ap f e
