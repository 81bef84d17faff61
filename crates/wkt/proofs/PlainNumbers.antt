-- Numbers and positions as most writers spell them, read in one pass: the readers find the same.
use Rattle.std.proofs.Common.{◌≡◌, refl, sym, ap, ◌∙◌, subst, ℕ, suc, ◌+◌, ◌-◌, ◌*◌, ◌<◌, ◌≤◌, ◌==◌, ℤ, pos, neg_ℤ, Bool, true, false, List, [], ◌∷◌, length, take, drop, Option, Some, None, Result, Ok, Err, cond, one-add, get_or, arith}
use Rattle.std.proofs.Math.Seq.{take-length}
use Rattle.std.specs.Char.{is_ascii_digit}
use Rattle.std.specs.List.{prefix_len}
use Rattle.std.specs.Option.{is_some, MatchOption}
use Rattle.std.specs.Str.Parse.{digits_value, digits_value_after}
use Rattle.std.proofs.lemmas.List.{length-drop, length-take-le}
use Rattle.std.proofs.lemmas.List.Sums.{take_while-cons, prefix_len-le-length}
use Rattle.std.proofs.lemmas.Bool.{true≢false, false_from_ne_true, le-ltb}
use Rattle.std.proofs.lemmas.Bool.Decides.{Decides-eqb}
use Rattle.geometry_model.specs.Points.{Position}
use Rattle.geometry_model.specs.TextReading.{Input, Reader, FoundNumber, ◌>>=◌, and_then, pure, after, begins_with, sign, fraction, numeral, coordinate, space, position}
use Rattle.geometry_model.specs.WellKnownText.{coordinate_limit, is_white, signed}
use Rattle.geometry_model.specs.declared.text_faults.TextFault.{TextFault}
use Rattle.text_laws.proofs.TextSteps.{no_run}
use Rattle.text_laws.proofs.TextComplete.{differs, digit_not_white}
use Rattle.wkt.specs.PlainText.{Finds, whole_number, IsSigned, IsDigits, signed_size, BeginsWithNumber, BeginsWithPosition}
use Rattle.wkt.proofs.Digits.{value_of_digit}

-- ---- digits
-- the digits at the beginning of a text
abbrev pub front_digits : List ℕ → List ℕ
front_digits text = take (prefix_len is_ascii_digit text) text

-- a digit belongs to those at the beginning
digit_ahead : (c : ℕ) (cs : List ℕ) → is_ascii_digit c ≡ true → front_digits (c ∷ cs) ≡ c ∷ front_digits cs
digit_ahead c cs digit = take_while-cons is_ascii_digit c cs ∙ ap (λ b. cond b (c ∷ front_digits cs) []) digit

-- one digit further
pub digit_further : (n v c : ℕ) (cs : List ℕ) → is_ascii_digit c ≡ true → v ≡ c - 48
    → digits_value_after 10 n (front_digits (c ∷ cs)) ≡ digits_value_after 10 (n * 10 + v) (front_digits cs)
digit_further n v c cs digit is =
    ap (digits_value_after 10 n) (digit_ahead c cs digit)
    ∙ ap (λ d. digits_value_after 10 (n * 10 + d) (front_digits cs)) (value_of_digit c digit ∙ sym is)

-- and what comes behind the digits stays the same
pub behind_digit : (c : ℕ) (cs : List ℕ) → is_ascii_digit c ≡ true
    → drop (prefix_len is_ascii_digit (c ∷ cs)) (c ∷ cs) ≡ drop (prefix_len is_ascii_digit cs) cs
behind_digit c cs digit = ap (λ b. drop (cond b (1 + prefix_len is_ascii_digit cs) 0) (c ∷ cs)) digit ∙ ap (λ n. drop n (c ∷ cs)) (one-add (prefix_len is_ascii_digit cs))

length-cons : (c : ℕ) (cs : List ℕ) → length (c ∷ cs) ≡ suc (length cs)
length-cons c cs = refl

-- the same of a text by its first byte
pub text_further : (n v : ℕ) (text : List ℕ) → 1 ≤ length text → is_ascii_digit (get_or text 0 0) ≡ true → v ≡ get_or text 0 0 - 48
    → (digits_value_after 10 n (front_digits text) ≡ digits_value_after 10 (n * 10 + v) (front_digits (take (length text - 1) (drop 1 text))))
    × (drop (prefix_len is_ascii_digit text) text ≡ drop (prefix_len is_ascii_digit (take (length text - 1) (drop 1 text))) (take (length text - 1) (drop 1 text)))
text_further n v [] some digit is = absurd (omega (arith, some))
text_further n v (c ∷ cs) some digit is =
    let rest : take (length (c ∷ cs) - 1) (drop 1 (c ∷ cs)) ≡ cs =
    ap (λ n. take n cs) (omega (arith, length-cons c cs)) ∙ take-length cs in
    rw rest (digit_further n v c cs digit is, behind_digit c cs digit)

-- what is said of no value, where there is none
pub absent : {T : Type 0} (o : Option T) (P : Type 0) (Q : T → Type 0) → false ≡ is_some o → MatchOption o P Q → P
absent None P Q none said = said
absent (Some x) P Q none said = absurd (true≢false (sym none))

-- ---- a number
-- where digits come, the text begins with one
begins_with_digit : (text : List ℕ) → 0 < prefix_len is_ascii_digit text → begins_with is_ascii_digit text ≡ true
begins_with_digit text some = go (begins_with is_ascii_digit text) refl
  where
    go : (b : Bool) → begins_with is_ascii_digit text ≡ b → begins_with is_ascii_digit text ≡ true
    go true e = e
    go false e = absurd (omega (arith, some, no_run is_ascii_digit text e))

-- and with no byte that isn't a digit
no_other : (test : ℕ → Bool) → ((c : ℕ) → is_ascii_digit c ≡ true → test c ≡ false) → (text : List ℕ) → begins_with is_ascii_digit text ≡ true → begins_with test text ≡ false
no_other test other [] e = absurd (true≢false (sym e))
no_other test other (c ∷ cs) e = other c e

-- the numeral of digits alone
numeral_of_digits : (text : List ℕ) (at : ℕ) → 0 < prefix_len is_ascii_digit text → begins_with (λ b. b == 46) (drop (prefix_len is_ascii_digit text) text) ≡ false
    → (length (front_digits text) + length {A = ℕ} [] == 0) ≡ false
    → numeral (record { left = text; at = at })
    ≡ Ok (record { at = at; minus = false; whole = front_digits text; fraction = [] }, after (prefix_len is_ascii_digit text) (record { left = text; at = at }))
unfolding numeral sign fraction
numeral_of_digits text at some no_point filled =
    let digit = begins_with_digit text some in
    rw (no_other (λ b. b == 45) (λ c is. differs c 45 is refl) text digit, no_other (λ b. b == 43) (λ c is. differs c 43 is refl) text digit, no_point, filled) refl

-- and behind a minus
numeral_behind_minus : (text : List ℕ) (at : ℕ) → begins_with (λ b. b == 46) (drop (prefix_len is_ascii_digit text) text) ≡ false
    → (length (front_digits text) + length {A = ℕ} [] == 0) ≡ false
    → numeral (record { left = 45 ∷ text; at = at })
    ≡ Ok (record { at = at; minus = true; whole = front_digits text; fraction = [] }, after (prefix_len is_ascii_digit text) (record { left = text; at = at + 1 }))
unfolding numeral sign fraction
numeral_behind_minus text at no_point filled = rw (no_point, filled) refl

-- digits have bytes
filled : (text : List ℕ) → 0 < prefix_len is_ascii_digit text → (length (front_digits text) + length {A = ℕ} [] == 0) ≡ false
filled text some = go (length (front_digits text) + length {A = ℕ} [] == 0) refl
  where
    go : (b : Bool) → (length (front_digits text) + length {A = ℕ} [] == 0) ≡ b → (length (front_digits text) + length {A = ℕ} [] == 0) ≡ false
    go true e = absurd (omega (
      arith,
      some,
      (Decides-eqb (length (front_digits text) + length {A = ℕ} []) 0).0 e,
      length-take-le (prefix_len is_ascii_digit text) text (prefix_len-le-length is_ascii_digit text),
    ))
    go false e = e

-- how long the digits are
digits_length : (text : List ℕ) → prefix_len is_ascii_digit text ≡ length text - length (drop (prefix_len is_ascii_digit text) text)
digits_length text = omega (arith, length-drop (prefix_len is_ascii_digit text) text, prefix_len-le-length is_ascii_digit text)

-- the coordinate of digits alone
coordinate_of_digits : (at : ℕ) (minus : Bool) (digits : List ℕ) (i : Input) → digits_value 10 digits ≤ coordinate_limit
    → coordinate (record { at = at; minus = minus; whole = digits; fraction = [] }) i ≡ Ok (signed minus digits, i)
unfolding coordinate
coordinate_of_digits at minus digits i within = rw (le-ltb coordinate_limit (digits_value 10 digits) within) refl

-- a number of digits alone is found
digits_found : (text : List ℕ) (at : ℕ) → 0 < prefix_len is_ascii_digit text → begins_with (λ b. b == 46) (drop (prefix_len is_ascii_digit text) text) ≡ false
    → digits_value 10 (front_digits text) ≤ coordinate_limit
    → whole_number (record { left = text; at = at }) ≡ Ok (signed false (front_digits text), after (prefix_len is_ascii_digit text) (record { left = text; at = at }))
digits_found text at some no_point within =
    ap (λ r. and_then r coordinate) (numeral_of_digits text at some no_point (filled text some))
    ∙ coordinate_of_digits at false (front_digits text) (after (prefix_len is_ascii_digit text) (record { left = text; at = at })) within

-- and behind a minus
minus_found : (text : List ℕ) (at : ℕ) → 0 < prefix_len is_ascii_digit text → begins_with (λ b. b == 46) (drop (prefix_len is_ascii_digit text) text) ≡ false
    → digits_value 10 (front_digits text) ≤ coordinate_limit
    → whole_number (record { left = 45 ∷ text; at = at }) ≡ Ok (signed true (front_digits text), after (prefix_len is_ascii_digit text) (record { left = text; at = at + 1 }))
minus_found text at some no_point within =
    ap (λ r. and_then r coordinate) (numeral_behind_minus text at no_point (filled text some))
    ∙ coordinate_of_digits at true (front_digits text) (after (prefix_len is_ascii_digit text) (record { left = text; at = at + 1 })) within

-- some digits are there, where less is left
some_digits : (text rest : List ℕ) → rest ≡ drop (prefix_len is_ascii_digit text) text → length rest < length text → 0 < prefix_len is_ascii_digit text
some_digits text rest is less = omega (arith, ap length is, length-drop (prefix_len is_ascii_digit text) text, less)

-- what is left is a rest of the text
begins_plain : (text rest : List ℕ) (size : ℕ) → IsDigits text size rest → length rest < length text → begins_with (λ b. b == 46) rest ≡ false
    → BeginsWithNumber text (pos size) rest
begins_plain text rest size digits less no_point =
    let some = some_digits text rest digits.rest_is less in
    let found : Finds whole_number text (signed false (front_digits text)) (drop (prefix_len is_ascii_digit text) text) =
    λ at. digits_found text at some (ap (begins_with (λ b. b == 46)) (sym digits.rest_is) ∙ no_point) (omega (arith, digits.value, digits.within))
    ∙ ap (λ n. Ok (signed false (front_digits text), record { left = drop (prefix_len is_ascii_digit text) text; at = at + n })) (digits_length text) in
    record {
      found = rw (digits.value, digits.rest_is) found;
      shorter = omega (arith, less);
      not_white = no_other is_white digit_not_white text (begins_with_digit text some);
    }

begins_minus : (text rest : List ℕ) (size : ℕ) → IsDigits text size rest → length rest < length text → begins_with (λ b. b == 46) rest ≡ false
    → BeginsWithNumber (45 ∷ text) (neg_ℤ (pos size)) rest
begins_minus text rest size digits less no_point =
    let some = some_digits text rest digits.rest_is less in
    let longer : length (45 ∷ text) ≡ suc (length text) = refl in
    let found : Finds whole_number (45 ∷ text) (signed true (front_digits text)) (drop (prefix_len is_ascii_digit text) text) =
    λ at. minus_found text at some (ap (begins_with (λ b. b == 46)) (sym digits.rest_is) ∙ no_point) (omega (arith, digits.value, digits.within))
    ∙ ap (λ n. Ok (signed true (front_digits text), record { left = drop (prefix_len is_ascii_digit text) text; at = n }))
    (omega (arith, digits_length text, longer, length-drop (prefix_len is_ascii_digit text) text, prefix_len-le-length is_ascii_digit text)) in
    record {
      found = rw (digits.value, digits.rest_is) found;
      shorter = omega (arith, less, longer);
      not_white = refl;
    }

-- a number of digits alone, behind a minus or not
pub begins_with_number : (text : List ℕ) (minus : Bool) (unsigned rest : List ℕ) (size : ℕ) → IsSigned text minus unsigned → IsDigits unsigned size rest
    → length rest < length unsigned → begins_with (λ b. b == 46) rest ≡ false → BeginsWithNumber text (signed_size minus size) rest
begins_with_number text true unsigned rest size sign digits less no_point = subst (λ t. BeginsWithNumber t (neg_ℤ (pos size)) rest) (sym sign) (begins_minus unsigned rest size digits less no_point)
begins_with_number text false unsigned rest size sign digits less no_point = subst (λ t. BeginsWithNumber t (pos size) rest) sign.0 (begins_plain unsigned rest size digits less no_point)

-- ---- a position
-- one space before what isn't white
one_space : (text : List ℕ) (at : ℕ) → begins_with is_white text ≡ false → space (record { left = 32 ∷ text; at = at }) ≡ Ok (32 ∷ [], record { left = text; at = at + 1 })
unfolding space
one_space text at not_white = rw (no_run is_white text not_white) refl

-- a number and its coordinate, and what comes behind them
joined : {A : Type 0} (r : Result (FoundNumber × Input) TextFault) (next : ℤ → Reader A) → and_then r (λ first. coordinate first >>= next) ≡ and_then (and_then r coordinate) next
joined (Ok found) next = refl
joined (Err fault) next = refl

-- what comes behind the first coordinate, and behind the second
abbrev behind_x : ℤ → Reader Position
behind_x x = space >>= λ _. numeral >>= λ second. coordinate second >>= λ y. pure (record { x = x; y = y })

position_by_numbers : (room : ℕ) (i : Input) → 0 < room → position room i ≡ and_then (whole_number i) behind_x
unfolding position
position_by_numbers room i some = rw (false_from_ne_true (room == 0) (λ e. omega (arith, some, (Decides-eqb room 0).0 e))) (joined (numeral i) behind_x)

-- two numbers with a space between
two_numbers : (text behind second rest : List ℕ) (x y : ℤ) → Finds whole_number text x behind → behind ≡ 32 ∷ second → begins_with is_white second ≡ false → Finds whole_number second y rest
    → length behind ≤ length text → length rest ≤ length second → (room : ℕ) → 0 < room → Finds (position room) text (record { x = x; y = y }) rest
two_numbers text behind second rest x y first is not_white last shorter least room some at =
    let longer : length behind ≡ suc (length second) = ap length is in
    let next : ℕ = at + (length text - length behind) in
    position_by_numbers room (record { left = text; at = at }) some
    ∙ ap (λ r. and_then r behind_x) (first at)
    ∙ ap (λ l. behind_x x (record { left = l; at = next })) is
    ∙ ap (λ r. and_then r (λ _. numeral >>= λ second. coordinate second >>= λ y. pure (record { x = x; y = y }))) (one_space second next not_white)
    ∙ joined (numeral (record { left = second; at = next + 1 })) (λ y. pure (record { x = x; y = y }))
    ∙ ap (λ r. and_then r (λ y. pure (record { x = x; y = y }))) (last (next + 1))
    ∙ ap (λ n. Ok (record { x = x; y = y }, record { left = rest; at = n })) (omega (arith, longer, shorter, least))

pub begins_with_position : (text behind second rest : List ℕ) (x y : ℤ) → BeginsWithNumber text x behind → behind ≡ 32 ∷ second → BeginsWithNumber second y rest
    → BeginsWithPosition text (record { x = x; y = y }) rest
begins_with_position text behind second rest x y first is last = record {
  found = two_numbers text behind second rest x y first.found is last.not_white last.found first.shorter last.shorter;
  shorter = omega (arith, first.shorter, last.shorter, ap length is);
}
