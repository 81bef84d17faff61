-- Pieces that are read one after another.
use Rattle.std.proofs.Common.{◌≡◌, ◌∙◌, ap, ℕ, suc, Ok, Err}
use Rattle.wkb.specs.BinaryReading.{State, and_then}
use Rattle.wkb.specs.BinaryPieces.{Pieces, Onto, repeated}
use Rattle.wkb.specs.declared.binary_fault.Refusal.{Refusal}

-- nothing is left
pub repeated_done : (step : Onto) (before : Pieces) (n : ℕ) (i : State) → n ≡ 0 → repeated step n before i ≡ Ok (before, i)
unfolding repeated
repeated_done step before n i is = ap (λ (m : ℕ). repeated step m before i) is

-- the next one is refused
pub repeated_fails : (step : Onto) (before : Pieces) (n left : ℕ) (i : State) (refusal : Refusal) → n ≡ suc left
    → step before i ≡ Err refusal → repeated step n before i ≡ Err refusal
unfolding repeated
repeated_fails step before n left i refusal is failed =
    ap (λ (m : ℕ). repeated step m before i) is ∙ ap (λ r. and_then r (λ found. repeated step left found)) failed

-- the next one is read
pub repeated_more : (step : Onto) (before found : Pieces) (n left : ℕ) (i j : State) → n ≡ suc left → step before i ≡ Ok (found, j)
    → repeated step n before i ≡ repeated step left found j
unfolding repeated
repeated_more step before found n left i j is read =
    ap (λ (m : ℕ). repeated step m before i) is ∙ ap (λ r. and_then r (λ found. repeated step left found)) read
