-- What a double is: its 64 bits stand for a whole number of the least double above 0, which is 2 to the power of -1074.
use Rattle.std.specs.Prelude.{ℕ, ◌+◌, ◌-◌, ◌*◌, ◌/◌, ◌%◌, ◌^◌, ◌==◌, Bool, true, false, ◌&&◌, not, nat_lt, cond, ℤ, pos, neg_ℤ}

-- the sign: whether the first bit is set (IEEE 754-2019, 3.4)
abbrev pub is_minus : ℕ → Bool
is_minus bits = bits / 2 ^ 63 == 1

-- the biased exponent: the eleven bits after it (IEEE 754-2019, 3.4)
abbrev pub exponent : ℕ → ℕ
exponent bits = bits / 2 ^ 52 % 2 ^ 11

-- the trailing significand field: the other 52 bits (IEEE 754-2019, 3.4)
abbrev pub trailing : ℕ → ℕ
trailing bits = bits % 2 ^ 52

-- whether it is a number, and neither infinite nor a NaN (IEEE 754-2019, 3.4)
abbrev pub is_finite : ℕ → Bool
is_finite bits = nat_lt (exponent bits) 2047

-- whether it is a NaN (IEEE 754-2019, 3.4)
abbrev pub is_nan : ℕ → Bool
is_nan bits = exponent bits == 2047 && not (trailing bits == 0)

-- the significand as a whole number: its leading bit is 1, unless the exponent is 0 (IEEE 754-2019, 3.4)
unfoldable pub significand : ℕ → ℕ
significand bits = cond (exponent bits == 0) (trailing bits) (2 ^ 52 + trailing bits)

-- how many of the least doubles above 0 the size is: the significand, doubled for each exponent above 1 (IEEE 754-2019, 3.4)
unfoldable pub magnitude : ℕ → ℕ
magnitude bits = significand bits * 2 ^ (exponent bits - 1)

-- a size with its sign
abbrev pub with_sign : Bool → ℕ → ℤ
with_sign false size = pos size
with_sign true size = neg_ℤ (pos size)

-- the exact value of a double that is a number, counted in the least double above 0 (IEEE 754-2019, 3.4)
abbrev pub value : ℕ → ℤ
value bits = with_sign (is_minus bits) (magnitude bits)

-- the number 1, counted in the least double above 0
unfoldable pub one : ℕ
one = 2 ^ 1074
