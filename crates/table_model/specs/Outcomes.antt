-- What a call that may run out of memory returns.
use Rattle.std.specs.Prelude.{◌≡◌, ◌≢◌, Result, Ok, Err}

-- a call returns what the definitions give, its value seen through `view`, or that memory ran out, which it always may
abbrev pub Gives : {X Y F : Type 0} → F → (X → Y) → Result X F → Result Y F → Type 0
Gives memory view (Ok x) answer = answer ≡ Ok (view x)
Gives memory view (Err fault) answer = fault ≢ memory → answer ≡ Err fault
