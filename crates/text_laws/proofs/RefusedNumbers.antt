-- Where W2 or W3 applies, reading returns it.
use Rattle.std.proofs.Common.{◌≡◌, refl, sym, ap, ◌∙◌, ℕ, ◌==◌, ◌⊎◌, inl, inr, Bool, true, false, List, [], ◌∷◌, ◌++◌, length, Result, Ok, Err, nat_lt, codes, arith}
use Rattle.std.specs.List.{list_all, list_any}
use Rattle.std.specs.Char.{is_ascii_alphabetic, is_ascii_digit}
use Rattle.std.specs.Str.Parse.{digits_value}
use Rattle.std.proofs.Math.Nat.{zero-add}
use Rattle.std.proofs.lemmas.Bool.{true≢false, and_parts}
use Rattle.std.proofs.lemmas.Bool.Decides.{Decides-ltb}
use Rattle.geometry_model.specs.Geometries.{Geometry}
use Rattle.geometry_model.specs.WellKnownText.{begins_with, Numeral, Sign, is_white, is_whole, coordinate_limit}
use Rattle.geometry_model.specs.TextReading.{Input, FoundNumber, numeral, coordinate, whole, outcome, read_text}
use Rattle.geometry_model.specs.TextRefusals.{IsFirstNumber, HasNumber, IsOffGrid, IsOutOfRange}
use Rattle.geometry_model.specs.declared.text_faults.TextFault.{TextFault}
use Rattle.geometry_model.specs.declared.text_faults.TextFault.TheVariants.{OffGrid, OutOfRange}
use Rattle.text_laws.proofs.TextSound.{IfRead}
use Rattle.text_laws.proofs.TextComplete.{IsRead, IsFound, numeral_read, numeral_begins, digit_not_white, differs, spelled_is_read}
use Rattle.text_laws.proofs.TextRefused.{numeral_first}
use Rattle.text_laws.proofs.Fronts.{Fork}
use Rattle.text_laws.proofs.FrontTexts.{whole_ends}

-- ---- the longest number is read
-- digits have no point among them
no_point_in_digits : (digits rest : List ℕ) → list_all is_ascii_digit digits ≡ true → list_any (λ c. c == 46) rest ≡ false → list_any (λ c. c == 46) (digits ++ rest) ≡ false
no_point_in_digits [] rest all none = none
no_point_in_digits (d ∷ ds) rest all none = let parts = and_parts (is_ascii_digit d) (list_all is_ascii_digit ds) all in rw (differs d 46 parts.0 refl) (no_point_in_digits ds rest parts.1 none)

-- nor has a sign
no_point_behind_sign : (minus : Bool) (text rest : List ℕ) → Sign minus text → list_any (λ c. c == 46) rest ≡ false → list_any (λ c. c == 46) (text ++ rest) ≡ false
no_point_behind_sign true text rest s none = ap (λ t. list_any (λ c. c == 46) (t ++ rest)) s ∙ none
no_point_behind_sign false text rest (inl e) none = ap (λ t. list_any (λ c. c == 46) (t ++ rest)) e ∙ none
no_point_behind_sign false text rest (inr e) none = ap (λ t. list_any (λ c. c == 46) (t ++ rest)) e ∙ none

-- a number with nothing behind its whole digits has no point
pointless : (minus : Bool) (integer digits number : List ℕ) (t : Numeral minus integer digits number) → t.0.4.1 ≡ [] → list_any (λ c. c == 46) number ≡ false
pointless minus integer digits number t none = ap (list_any (λ c. c == 46)) (t.0.2 ∙ ap (λ r. t.0.0 ++ r) t.0.4.2)
    ∙ no_point_behind_sign minus t.0.0 (t.0.4.0 ++ t.0.4.1) t.0.3 (ap (λ r. list_any (λ c. c == 46) (r ++ t.0.4.1)) t.0.4.3.0 ∙ no_point_in_digits integer t.0.4.1 t.0.4.3.1 (ap (list_any (λ c. c == 46)) none))

-- what is read is that number, from this byte on
pub record Read (tail : List ℕ) (minus : Bool) (integer digits : List ℕ) (j : Input) : Type 0 where
  pub n : FoundNumber
  pub k : Input
  pub is : numeral j ≡ Ok (n, k)
  integer_is : n.whole ≡ integer
  digits_is : n.fraction ≡ digits
  at_is : n.at ≡ j.at

-- the longest number at the front of a text is what is read there: no digit follows it, and no point that it hasn't already
pub first_number : (tail : List ℕ) (minus : Bool) (integer digits : List ℕ) → IsFirstNumber tail minus integer digits → (j : Input) → j.left ≡ tail → Read tail minus integer digits j
first_number tail minus integer digits f j e = go (numeral j) refl (numeral_read j minus integer digits f.rest (f.number, e ∙ f.split, f.numeral.0) f.numeral.1 (f.no_digit, no_point f.no_point)) (numeral_first j)
  where
    no_point : (begins_with (λ c. c == 46) f.rest ≡ false) ⊎ (list_any (λ c. c == 46) f.number ≡ true) → f.numeral.0.4.1 ≡ [] → begins_with (λ c. c == 46) f.rest ≡ false
    no_point (inl quiet) none = quiet
    no_point (inr has) none = absurd (true≢false (sym has ∙ pointless minus integer digits f.number f.numeral none))

    go : (r : Result (FoundNumber × Input) TextFault) → numeral j ≡ r → IsRead r (IsFound minus integer digits f.rest) → IfRead r (λ n k. IsFirstNumber j.left n.minus n.whole n.fraction × (n.at ≡ j.at)) → Read tail minus integer digits j
    go (Ok found) is known place = record { n = found.0; k = found.1; is = is; integer_is = known.1; digits_is = known.2; at_is = place.1 }
    go (Err fault) is known place = absurd known

-- a digit is no letter
letter_is_no_digit : (c : ℕ) → is_ascii_digit c ≡ true → is_ascii_alphabetic c ≡ false
letter_is_no_digit c is = grind (arith, is)

-- ---- the two texts, from their first byte on
abbrev begin : List ℕ → Input
begin text = record { left = text; at = 0 }

-- what a number isn't
quiet : (text : List ℕ) (at : ℕ) (minus : Bool) (integer digits : List ℕ) (h : HasNumber text at minus integer digits) (test : ℕ → Bool) → test 43 ≡ false → test 45 ≡ false → test 46 ≡ false
    → ((c : ℕ) → is_ascii_digit c ≡ true → test c ≡ false) → begins_with test h.tail ≡ false
quiet text at minus integer digits h test p m d ds = ap (begins_with test) h.number.split ∙ numeral_begins test p m d ds minus integer digits h.number.number h.number.rest h.number.numeral

-- the text, and one that spells a geometry: alike up to the number, where the other text has a plus
fork : (text : List ℕ) (at : ℕ) (minus : Bool) (integer digits : List ℕ) (h : HasNumber text at minus integer digits) (fault : TextFault)
    → ((n : FoundNumber) (l : Input) → n.whole ≡ integer → n.fraction ≡ digits → n.at ≡ at → coordinate n l ≡ Err fault) → Fork
fork text at minus integer digits h fault bad = record {
  more = h.begins.0;
  tail = h.tail;
  fault = fault;
  at = length h.front;
  not_white = quiet text at minus integer digits h is_white refl refl refl digit_not_white;
  not_letter = quiet text at minus integer digits h is_ascii_alphabetic refl refl refl letter_is_no_digit;
  not_comma = quiet text at minus integer digits h (λ b. b == 44) refl refl refl (λ c is. differs c 44 is refl);
  not_open = quiet text at minus integer digits h (λ b. b == 40) refl refl refl (λ c is. differs c 40 is refl);
  not_close = quiet text at minus integer digits h (λ b. b == 41) refl refl refl (λ c is. differs c 41 is refl);
  refused = λ j e p. refuse j p (first_number h.tail minus integer digits h.number j e);
}
  where
    refuse : (j : Input) → j.at ≡ length h.front → Read h.tail minus integer digits j → (n : FoundNumber) × (k : Input) × (numeral j ≡ Ok (n, k)) × ((l : Input) → coordinate n l ≡ Err fault)
    refuse j p r = (r.n, r.k, r.is, λ l. bad r.n l r.integer_is r.digits_is ((r.at_is ∙ p) ∙ sym h.place))

-- a geometry is returned only where the whole text was read
some_outcome : (r : Result (Geometry × Input) TextFault) (g : Geometry) → outcome r ≡ Ok g → (found : Geometry × Input) × (r ≡ Ok found)
some_outcome (Ok found) g e = (found, refl)
some_outcome (Err fault) g e = absurd (let k : Err fault ≡ Ok g = e in cc)

plus_behind : (front rest : List ℕ) → front ++ codes "+" ++ rest ≡ front ++ (43 ∷ rest)
plus_behind [] rest = refl
plus_behind (x ∷ xs) rest = ap (λ r. x ∷ r) (plus_behind xs rest)

-- reading the text that spells a geometry comes to the plus, so reading this text comes to the number and ends with its fault
returned : (text : List ℕ) (at : ℕ) (minus : Bool) (integer digits : List ℕ) → HasNumber text at minus integer digits → (fault : TextFault)
    → ((n : FoundNumber) (l : Input) → n.whole ≡ integer → n.fraction ≡ digits → n.at ≡ at → coordinate n l ≡ Err fault) → read_text text ≡ Err fault
unfolding read_text fork
returned text at minus integer digits h fault bad = go (some_outcome (whole (begin (h.front ++ codes "+" ++ h.begins.0))) h.begins.1 (spelled_is_read (h.front ++ codes "+" ++ h.begins.0) h.begins.1 h.begins.2))
  where
    go : (found : Geometry × Input) × (whole (begin (h.front ++ codes "+" ++ h.begins.0)) ≡ Ok found) → outcome (whole (begin text)) ≡ Err fault
    go w = ap outcome (whole_ends (fork text at minus integer digits h fault bad) (begin (h.front ++ codes "+" ++ h.begins.0)) (begin text) (record {
      front = h.front;
      first = plus_behind h.front h.begins.0;
      second = h.split;
      same = refl;
      place = zero-add (length h.front);
    }) w.0 w.1)

-- what comes before the number can be read, so reading comes to it and stops there
pub off_grid_is_returned : (text : List ℕ) (at : ℕ) → IsOffGrid text at → read_text text ≡ Err (OffGrid at)
unfolding coordinate
off_grid_is_returned text at h = returned text at h.minus h.whole h.fraction h.number (OffGrid at)
    (λ n l integer digits place. rw (ap is_whole digits ∙ h.not_whole) (ap (λ p. Err (OffGrid p)) place))

-- the same where the number is whole, and past the limit
pub out_of_range_is_returned : (text : List ℕ) (at : ℕ) → IsOutOfRange text at → read_text text ≡ Err (OutOfRange at)
unfolding coordinate
out_of_range_is_returned text at h = returned text at h.minus h.whole h.fraction h.number (OutOfRange at)
    (λ n l integer digits place. rw (ap is_whole digits ∙ h.is_whole, ap (λ w. nat_lt coordinate_limit (digits_value 10 w)) integer ∙ (Decides-ltb coordinate_limit (digits_value 10 h.whole)).1 h.past) (ap (λ p. Err (OutOfRange p)) place))
