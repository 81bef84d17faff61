-- Whole numbers and texts as fields spell them.
use Rattle.std.proofs.Common.{◌≡◌, ap, sym, ◌&&◌, ◌<◌, ◌≤◌, ◌+◌, ◌++◌, ◌==◌, ◌^◌, get_or, take, ℕ, ℤ, pos, negsuc, Bool, true, false, List, [], ◌∷◌, Some, None, Result, Ok, Err, IsUtf8, IsAscii, arith, cond, drop, length, nat_lt, refl, ltb-true, lt-ltb}
use Rattle.std.proofs.lemmas.Bool.{false≢true, ne_eqb, and_parts}
use Rattle.std.proofs.lemmas.Bool.Decides.{nat_tests}
use Rattle.std.proofs.lemmas.Fmt.{IsAscii-from_digits}
use Rattle.std.proofs.lemmas.Str.{IsUtf8-from_ascii, IsUtf8-from_is_utf8, is_utf8-from_IsUtf8}
use Rattle.std.proofs.lemmas.Str.Parse.{IsNumeralModel, numerals_by_value, tells_all_ascii_digits}
use Rattle.std.proofs.lemmas.List.{take_more}
use Rattle.std.specs.Char.{is_ascii_digit}
use Rattle.std.specs.Int.{w64}
use Rattle.std.specs.Result.{result_ok}
use Rattle.std.specs.Str.{all_ascii_digits, is_utf8}
use Rattle.std.specs.Str.Parse.{IsNumeral, ParsesSigned, digits_value, signed_digits_value, starts_with_minus, without_leading_plus, without_leading_sign}
use Rattle.std.specs.Prelude.{FitsSigned}
use Rattle.std.proofs.lemmas.Str.Ascii.{IsAscii-cons}
use Rattle.table_model.specs.Loading.{GeometryReader, filled_value, fits_64_bits, is_number, number_in, value_of}
use Rattle.table_model.specs.declared.definitions.ColumnType.{ColumnType}
use Rattle.table_model.specs.declared.definitions.ColumnType.TheVariants as column
use Rattle.table_model.specs.declared.faults.LoadFault.TheVariants as fault
use Rattle.table_model.specs.declared.values.Value.TheVariants as value

-- decimal digits spell a number, and their value is it
numerals : IsNumeralModel (λ ds. all_ascii_digits ds ≡ true) (digits_value 10)
numerals = numerals_by_value _ tells_all_ascii_digits

-- the test of 64 bits passes the numbers that fit, and no others
fits-true : (z : ℤ) → FitsSigned w64 z → fits_64_bits z ≡ true
fits-true (pos n) h = lt-ltb n (2 ^ 63) h.sfits
fits-true (negsuc n) h = lt-ltb n (2 ^ 63) h.sfits

true-fits : (z : ℤ) → fits_64_bits z ≡ true → FitsSigned w64 z
true-fits (pos n) h = record { sfits = ltb-true n (2 ^ 63) h }
true-fits (negsuc n) h = record { sfits = ltb-true n (2 ^ 63) h }

-- what `parse` takes is a number
number-true : (text : List ℕ) → IsNumeral 10 (without_leading_sign text) × FitsSigned w64 (signed_digits_value 10 text) → is_number text ≡ true
number-true text h =
    rw (lt-ltb 0 (length (without_leading_sign text)) h.0.0, numerals.from (without_leading_sign text) h.0.1, fits-true (signed_digits_value 10 text) h.1) refl

digit-low : (c : ℕ) → is_ascii_digit c ≡ true → 48 ≤ c
digit-low c d = grind (arith, nat_tests)

and-both : (a b c : Bool) → (a && (b && c)) ≡ true → (a ≡ true) × (b ≡ true) × (c ≡ true)
and-both true true true h = (refl, refl, refl)
and-both true true false h = absurd (false≢true h)
and-both true false c h = absurd (false≢true h)
and-both false b c h = absurd (false≢true h)

-- and what is a number, `parse` takes
true-number : (text : List ℕ) → is_number text ≡ true → IsNumeral 10 (without_leading_sign text) × FitsSigned w64 (signed_digits_value 10 text)
true-number text h =
    let digits = without_leading_sign text in
    let parts = and-both (nat_lt 0 (length digits)) (all_ascii_digits digits) (fits_64_bits (signed_digits_value 10 text)) h in
    ((ltb-true 0 (length digits) parts.0, numerals.to digits parts.1), true-fits (signed_digits_value 10 text) parts.2)

-- one more digit
pub digits-more : (text : List ℕ) (i : ℕ) → i < length text → all_ascii_digits (take i text) ≡ true → is_ascii_digit (get_or text i 0) ≡ true
    → all_ascii_digits (take (i + 1) text) ≡ true
digits-more text i lt digits digit = rw (take_more text i 0 lt) (pushed (take i text) (get_or text i 0) digits digit)
  where
    pushed : (xs : List ℕ) (c : ℕ) → all_ascii_digits xs ≡ true → is_ascii_digit c ≡ true → all_ascii_digits (xs ++ c ∷ []) ≡ true
    pushed [] c a d = rw d refl
    pushed (x ∷ xs) c a d = let parts = and_parts (is_ascii_digit x) (all_ascii_digits xs) a in rw parts.0 (pushed xs c parts.1 d)

-- what is digits alone is a number without a sign
digits-unsigned : (c : ℕ) (cs : List ℕ) → is_ascii_digit c ≡ true → (starts_with_minus (c ∷ cs) ≡ false) × (without_leading_plus (c ∷ cs) ≡ c ∷ cs)
digits-unsigned c cs d =
    let low : 48 ≤ c = digit-low c d in
    let minus : (c == 45) ≡ false = ne_eqb c 45 (λ e. omega (arith, e)) in
    let plus : (c == 43) ≡ false = ne_eqb c 43 (λ e. omega (arith, e)) in
    (minus, rw plus refl)

pub digits-number : (text : List ℕ) (n : ℕ) → (length text == 0) ≡ false → all_ascii_digits text ≡ true → n ≡ digits_value 10 text → n < 2 ^ 63
    → number_in text ≡ Some (pos n)
digits-number [] n some digits value fits = cc
digits-number (c ∷ cs) n some digits value fits =
    let text : List ℕ = c ∷ cs in
    let unsigned = digits-unsigned c cs (and_parts (is_ascii_digit c) (all_ascii_digits cs) digits).0 in
    let signed : signed_digits_value 10 text ≡ pos n = rw (unsigned.0, unsigned.1) (ap pos (sym value)) in
    let filled : 0 < length text = omega arith in
    let numeral : IsNumeral 10 (without_leading_sign text) = rw (unsigned.0, unsigned.1) (filled, numerals.to text digits) in
    let within : FitsSigned w64 (signed_digits_value 10 text) = rw signed (record { sfits = fits }) in
    rw (number-true text (numeral, within), signed) refl

-- what `parse` answers
pub parsed : {E : Type 0} (text : List ℕ) (r : Result ℤ E) → ParsesSigned w64 10 text r → result_ok r ≡ number_in text
parsed text (Ok n) h = rw (number-true text h.0, h.1) refl
parsed text (Err e) h = go (is_number text) refl
  where
    go : (b : Bool) → is_number text ≡ b → None ≡ cond b (Some (signed_digits_value 10 text)) None
    go true e = absurd (h (true-number text e))
    go false e = refl

-- a text whose digits are ASCII is ASCII, since its sign is
ascii-signed : (text : List ℕ) → IsAscii (without_leading_sign text) → IsAscii text
ascii-signed [] h = h
ascii-signed (c ∷ cs) h = minus (c == 45) refl h
  where
    plus : (b : Bool) → (c == 43) ≡ b → IsAscii (drop (cond b 1 0) (c ∷ cs)) → IsAscii (c ∷ cs)
    plus true e h = IsAscii-cons c cs (grind (arith, nat_tests)) h
    plus false e h = h

    minus : (b : Bool) → (c == 45) ≡ b → IsAscii (cond b cs (drop (cond (c == 43) 1 0) (c ∷ cs))) → IsAscii (c ∷ cs)
    minus true e h = IsAscii-cons c cs (grind (arith, nat_tests)) h
    minus false e h = plus (c == 43) refl h

-- what is no text is no number
pub no_number : (text : List ℕ) → ¬ (IsUtf8 text) → None ≡ number_in text
no_number text h = go (is_number text) refl
  where
    go : (b : Bool) → is_number text ≡ b → None ≡ cond b (Some (signed_digits_value 10 text)) None
    go true e = absurd (h (IsUtf8-from_ascii text (ascii-signed text (IsAscii-from_digits (without_leading_sign text) (true-number text e).0.1))))
    go false e = refl

-- the test of a text that is none
utf8-false : (bytes : List ℕ) → ¬ (IsUtf8 bytes) → is_utf8 bytes ≡ false
utf8-false bytes h = go (is_utf8 bytes) refl
  where
    go : (b : Bool) → is_utf8 bytes ≡ b → b ≡ false
    go true e = absurd (h (IsUtf8-from_is_utf8 bytes e))
    go false e = refl

-- the value of a field that isn't empty
filled : {T G : Type 0} (geometry : GeometryReader T G) (number : ℕ) (required : Bool) (kind : ColumnType T) (bytes : List ℕ)
    → false ≡ (length bytes == 0) → value_of geometry number required kind bytes ≡ filled_value geometry number kind bytes
unfolding value_of
filled geometry number required kind [] h = absurd (false≢true h)
filled geometry number required kind (byte ∷ bytes) h = refl

-- the value of a text, and the fault of what is none
pub text_value : {T G : Type 0} (geometry : GeometryReader T G) (number : ℕ) (required : Bool) (kind : ColumnType T) (bytes : List ℕ)
    → kind ≡ column.Text → false ≡ (length bytes == 0) → IsUtf8 bytes → value_of geometry number required kind bytes ≡ Ok (value.Text bytes)
text_value geometry number required kind bytes is_text some is = rw (filled geometry number required kind bytes some, is_text, is_utf8-from_IsUtf8 bytes is) refl

-- a field that isn't UTF-8 has no value in a text column
pub no_text_value : {T G : Type 0} (geometry : GeometryReader T G) (number : ℕ) (required : Bool) (kind : ColumnType T) (bytes : List ℕ)
    → kind ≡ column.Text → false ≡ (length bytes == 0) → ¬ (IsUtf8 bytes) → value_of geometry number required kind bytes ≡ Err (fault.NotUtf8 number)
no_text_value geometry number required kind bytes is_text some other = rw (filled geometry number required kind bytes some, is_text, utf8-false bytes other) refl
