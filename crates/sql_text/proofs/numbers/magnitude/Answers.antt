use Rattle.std.proofs.Common.{ℕ, ◌+◌, ◌*◌, ◌<◌, ◌≤◌, List, [], ◌∷◌, length, drop, get_or, drop-cons, suc, arith}
use Rattle.std.specs.Char.{digit_value}
use Rattle.std.specs.Str.Parse.{digits_value_after}
use Rattle.sql_text.proofs.numbers.magnitude.Goals as goal

-- more digits make no smaller number
value-grows : (n : ℕ) (ds : List ℕ) → n ≤ digits_value_after 10 n ds
value-grows n [] = omega arith
value-grows n (d ∷ ds) = omega (arith, value-grows (n * 10 + digit_value d) ds)

past : (n limit i : ℕ) (ds : List ℕ) → i < length ds → limit < n * 10 + digit_value (get_or ds i 0) → limit < digits_value_after 10 n (drop i ds)
past n limit i ds inside h =
    let grows : n * 10 + digit_value (get_or ds i 0) ≤ digits_value_after 10 n (get_or ds i 0 ∷ drop (suc i) ds) = value-grows (n * 10 + digit_value (get_or ds i 0)) (drop (suc i) ds) in
    rw (drop-cons ds i 0) (omega arith)

pub returns-then-value-limit : goal.returns-then-value-limit
returns-then-value-limit c =
    rw (← c.loop-byte.invariant.0) (past c.loop-byte.value c.args.limit c.loop-byte.byte-index c.args.digits.now c.loop-byte-test.true (omega arith))
