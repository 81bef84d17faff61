-- Digits one after another, and the number that they write.
use Rattle.std.proofs.Common.{◌≡◌, ℕ, ◌+◌, ◌-◌, ◌*◌, ◌<◌, ◌≤◌, List, [], ◌∷◌, length, get_or, drop, drop-cons, suc, true, ap, sym, ◌∙◌, arith}
use Rattle.std.specs.Char.{is_ascii_digit, digit_value}
use Rattle.std.specs.List.{list_all}
use Rattle.std.specs.Str.Parse.{digits_value_after}
use Rattle.std.proofs.lemmas.Bool.{and_parts}
use Rattle.std.proofs.lemmas.Grind.{common_steps}

-- the value of a digit
pub value_of_digit : (c : ℕ) → is_ascii_digit c ≡ true → digit_value c ≡ c - 48
value_of_digit c digit = grind (arith, common_steps)

-- the next of some digits is a digit, and so are those behind it
pub next_digit : (ds : List ℕ) (i : ℕ) → i < length ds → list_all is_ascii_digit (drop i ds) ≡ true
    → (is_ascii_digit (get_or ds i 0) ≡ true) × (list_all is_ascii_digit (drop (suc i) ds) ≡ true)
next_digit ds i inside digits = and_parts _ _ (rw (drop-cons ds i 0) at digits)

-- a digit makes the number before it ten times as large, and adds its own value
one_digit : (n v c : ℕ) (ds : List ℕ) → v ≡ digit_value c → digits_value_after 10 n (c ∷ ds) ≡ digits_value_after 10 (n * 10 + v) ds
one_digit n v c ds is = ap (λ d. digits_value_after 10 (n * 10 + d) ds) (sym is)

-- one digit further
pub next_value : (n v i : ℕ) (ds : List ℕ) → i < length ds → list_all is_ascii_digit (drop i ds) ≡ true → v ≡ get_or ds i 0 - 48
    → digits_value_after 10 n (drop i ds) ≡ digits_value_after 10 (n * 10 + v) (drop (suc i) ds)
next_value n v i ds inside digits is =
    ap (λ l. digits_value_after 10 n l) (drop-cons ds i 0 inside)
    ∙ one_digit n v (get_or ds i 0) (drop (suc i) ds) (is ∙ sym (value_of_digit (get_or ds i 0) (next_digit ds i inside digits).0))

-- more digits make no smaller number
pub grows : (n : ℕ) (ds : List ℕ) → n ≤ digits_value_after 10 n ds
grows n [] = omega arith
grows n (d ∷ ds) = omega (arith, grows (n * 10 + digit_value d) ds)
