-- What is spelled is read.
use Rattle.std.proofs.Common.{◌≡◌, refl, sym, ap, ap₂, ◌∙◌, subst, ℕ, zero, suc, ◌+◌, ◌-◌, ◌<◌, ◌≤◌, ◌==◌, ◌⊎◌, inl, inr, ℤ, Bool, true, false, List, [], ◌∷◌, ◌++◌, length, take, drop, map, Option, Some, None, Result, Ok, Err, nat_lt, codes, if◌then◌else◌, append-nil, append_assoc, suc-le-suc, le_of_suc-le-suc, zero-lt-suc, zero-le, le_refl, lt_irrefl, arith}
use Rattle.std.specs.List.{list_all, prefix_len}
use Rattle.std.specs.Option.{option_to_list}
use Rattle.std.specs.Char.{is_ascii_alphabetic, is_ascii_digit, to_ascii_lowercase}
use Rattle.std.specs.Str.{str_eq_ignore_ascii_case, str_to_ascii_lowercase, bytes_eq}
use Rattle.std.specs.Str.Parse.{digits_value}
use Rattle.std.proofs.lemmas.Bool.{true≢false, le-ltb, and_parts, false_from_ne_true}
use Rattle.std.proofs.lemmas.Bool.Decides.{Decides-eqb}
use Rattle.std.proofs.lemmas.Slice.Eq.{bytes_eq-Decides}
use Rattle.std.proofs.lemmas.List.{length-map}
use Rattle.basics.proofs.Numbers.{not_zero}
use Rattle.geometry_model.specs.Points.{Position}
use Rattle.geometry_model.specs.Geometries.{Geometry, Point, MultiPoint, LineString, MultiLineString, Polygon, MultiPolygon, joined_rings}
use Rattle.geometry_model.specs.WellKnownText.{Rule, ◌⨾◌, Byte, Blank, Space, Padded, Enclosed, Word, Separated, Sign, Digits, Fraction, Numeral, Number, PositionText, PointText, LineText, PolygonText, Body, TaggedText, Writes, IsWithinCounts, coordinate_limit, position_limit, part_limit, is_white, is_whole, signed, geometry_of}
use Rattle.geometry_model.specs.TextReading.{Input, Reader, FoundNumber, and_then, pure, after, begins_with, refuse, too_long, ◌>>=◌, expect, padded, enclosed, sign, fraction, numeral, coordinate, space, position, point, separated, line, parts, polygon, polygons, body, lone, first, positions, lists, nested_lists, typed, tagged, whole, outcome, read_text}
use Rattle.geometry_model.specs.declared.text_faults.TextFault.{TextFault}
use Rattle.text_laws.specs.ReadingLaws.{SpelledIsRead}
use Rattle.text_laws.proofs.RoomLists.{positions_in, items, ring, alone, itself, rings_of, alone_of, parts_are_items, polygons_are_items, FitsCounts, first_fits, others_fit}
use Rattle.text_laws.proofs.TextSteps.{read_run, no_run, apart, byte_is, Took}

-- something is found, and has the property
abbrev pub IsRead : {A : Type 0} → Result (A × Input) TextFault → (A → Input → Type 0) → Type 0
IsRead (Ok found) Q = Q found.0 found.1
IsRead (Err fault) Q = ⊥

-- a step that finds something, and a next that finds something behind it, find it together
pub then_is : {A B : Type 0} (Q : A → Input → Type 0) (r : Result (A × Input) TextFault) (next : A → Reader B) (R : B → Input → Type 0)
    → IsRead r Q → ((x : A) (j : Input) → Q x j → IsRead (next x j) R) → IsRead (and_then r next) R
then_is Q (Ok found) next R read step = step found.0 found.1 read
then_is Q (Err fault) next R read step = absurd read

-- no longer number and no longer word is here
abbrev pub Ends : List ℕ → Type 0
Ends rest = (begins_with is_ascii_digit rest ≡ false) × (begins_with (λ b. b == 46) rest ≡ false) × (begins_with is_ascii_alphabetic rest ≡ false)

-- nor white space
abbrev pub Closed : List ℕ → Type 0
Closed rest = (begins_with is_white rest ≡ false) × Ends rest

-- each text of the rule that a list of more stops is read whole
abbrev pub Complete : {A : Type 0} → (A → Rule) → (List ℕ → Type 0) → Reader A → Type 0
Complete {A} P Stops step = (i : Input) (x : A) (rest : List ℕ) → Took i.left (P x) rest → Stops rest → IsRead (step i) (λ y j. (y ≡ x) × (j.left ≡ rest))

-- a text of the rule doesn't begin with a byte that passes the test
abbrev pub Begins : {A : Type 0} → (A → Rule) → (ℕ → Bool) → Type 0
Begins {A} P test = (x : A) (text rest : List ℕ) → P x text → begins_with test (text ++ rest) ≡ false

-- white space is one of four bytes
pub white_cases : (c : ℕ) → is_white c ≡ true → (c ≡ 32) ⊎ (c ≡ 9) ⊎ (c ≡ 10) ⊎ (c ≡ 13)
white_cases c is = grind (arith, is)

-- none of them is a digit, a point or a letter, so white space ends a number and a word
pub white_byte : (c : ℕ) (rest : List ℕ) → is_white c ≡ true → Ends (c ∷ rest)
white_byte c rest is = elim (white_cases c is) [
  | inl e ↦ subst (λ b. Ends (b ∷ rest)) (sym e) (refl, refl, refl)
  | inr more ↦ elim more [
    | inl e ↦ subst (λ b. Ends (b ∷ rest)) (sym e) (refl, refl, refl)
    | inr last ↦ elim last [
      | inl e ↦ subst (λ b. Ends (b ∷ rest)) (sym e) (refl, refl, refl)
      | inr e ↦ subst (λ b. Ends (b ∷ rest)) (sym e) (refl, refl, refl)
    ]
  ]
]

-- so does white space of one byte or more
pub space_ends : (white rest : List ℕ) → 0 < length white → list_all is_white white ≡ true → Ends (white ++ rest)
space_ends [] rest long all = absurd (lt_irrefl 0 long)
space_ends (c ∷ cs) rest long all = white_byte c (cs ++ rest) (and_parts (is_white c) (list_all is_white cs) all).0

-- and white space or none, before what ends them
pub white_ends : (white rest : List ℕ) → list_all is_white white ≡ true → Ends rest → Ends (white ++ rest)
white_ends [] rest all ends = ends
white_ends (c ∷ cs) rest all ends = white_byte c (cs ++ rest) (and_parts (is_white c) (list_all is_white cs) all).0

-- the byte is there, so it is met
pub met_byte : (c : ℕ) (i : Input) (rest : List ℕ) → i.left ≡ c ∷ rest → (met : Bool) → begins_with (λ b. b == c) i.left ≡ met
    → IsRead ((if met then pure true else refuse i.at) (if met then after 1 i else i)) (λ _ j. j.left ≡ rest)
met_byte c i rest is true e = ap (drop 1) is
met_byte c i rest is false e = true≢false (sym ((Decides-eqb c c).1 refl) ∙ (sym (ap (begins_with (λ b. b == c)) is) ∙ e))

-- a byte that has to come, and is there, is read
pub expect_read : (c : ℕ) (i : Input) (rest : List ℕ) → i.left ≡ c ∷ rest → IsRead (expect c i) (λ _ j. j.left ≡ rest)
expect_read c i rest is = met_byte c i rest is _ refl

-- white space is read to its end, where no more of it follows
pub blank_read : (left rest : List ℕ) → Took left Blank rest → begins_with is_white rest ≡ false → drop (prefix_len is_white left) left ≡ rest
blank_read left rest t stop = (read_run is_white left t.0 rest t.1 t.2 stop).1

-- a text with white space around it is read whole: it begins with none itself, and none follows
pub padded_read : {A : Type 0} (P : A → Rule) (step : Reader A) → Begins P is_white → Complete P Ends step → Complete (λ x. Padded (P x)) Closed (padded step)
padded_read P step starts complete i x rest t closed =
    let a = apart i.left rest Blank (P x ⨾ Blank) t in
    let b = apart a.0 rest (P x) Blank a.2 in
    let j = after (prefix_len is_white i.left) i in
    let j_is : j.left ≡ a.0 = blank_read i.left a.0 a.1 (ap (begins_with is_white) b.1.1 ∙ starts x b.1.0 b.0 b.1.2) in
    then_is (λ y k. (y ≡ x) × (k.left ≡ b.0)) (step j) _ _
    (complete j x b.0 (b.1.0, j_is ∙ b.1.1, b.1.2) (subst Ends (sym b.2.1) (white_ends b.2.0 rest b.2.2 closed.1)))
    (λ y k known. (known.0, blank_read k.left rest (b.2.0, known.1 ∙ b.2.1, b.2.2) closed.0))

-- a text in parentheses is read whole, since the closing parenthesis ends what they hold
pub enclosed_read : {A : Type 0} (P : A → Rule) (Stops : List ℕ → Type 0) (step : Reader A) → ((rest : List ℕ) → Stops (41 ∷ rest)) → Complete P Stops step
    → Complete (λ x. Enclosed (P x)) (λ _. Unit {0}) (enclosed step)
enclosed_read P Stops step close complete i x rest t any =
    let a = apart i.left rest (Byte 40) (P x ⨾ Byte 41) t in
    let b = apart a.0 rest (P x) (Byte 41) a.2 in
    let b_is : b.0 ≡ 41 ∷ rest = byte_is 41 b.0 rest b.2 in
    then_is (λ _ j. j.left ≡ a.0) (expect 40 i) _ _ (expect_read 40 i a.0 (byte_is 40 i.left a.0 a.1))
    (λ _ j j_is. then_is (λ y k. (y ≡ x) × (k.left ≡ b.0)) (step j) _ _
    (complete j x b.0 (b.1.0, j_is ∙ b.1.1, b.1.2) (subst Stops (sym b_is) (close rest)))
    (λ y k known. then_is (λ _ l. l.left ≡ rest) (expect 41 k) _ _ (expect_read 41 k rest (known.1 ∙ b_is))
    (λ _ l l_is. (known.0, l_is))))

-- numbers

-- behind a number with this text behind its whole digits: no digit, and no point that it hasn't already
abbrev pub NumberEnds : List ℕ → List ℕ → Type 0
NumberEnds fraction rest = (begins_with is_ascii_digit rest ≡ false) × (fraction ≡ [] → begins_with (λ b. b == 46) rest ≡ false)

-- a sign is read as it is written, where neither plus nor minus follows
pub sign_read : (i : Input) (minus : Bool) (rest : List ℕ) → Took i.left (Sign minus) rest → begins_with (λ b. b == 45) rest ≡ false → begins_with (λ b. b == 43) rest ≡ false
    → IsRead (sign i) (λ m j. (m ≡ minus) × (j.left ≡ rest))
unfolding sign
sign_read i true rest t no_minus no_plus = let is : i.left ≡ 45 ∷ rest = t.1 ∙ ap (λ u. u ++ rest) t.2 in
    rw (ap (begins_with (λ b. b == 45)) is) (refl, ap (drop 1) is)
sign_read i false rest t no_minus no_plus = elim t.2 [
  | inl e ↦ let is : i.left ≡ rest = t.1 ∙ ap (λ u. u ++ rest) e in
      rw (ap (begins_with (λ b. b == 45)) is ∙ no_minus, ap (begins_with (λ b. b == 43)) is ∙ no_plus) (refl, is)
  | inr e ↦ let is : i.left ≡ 43 ∷ rest = t.1 ∙ ap (λ u. u ++ rest) e in
      rw (ap (begins_with (λ b. b == 45)) is, ap (begins_with (λ b. b == 43)) is) (refl, ap (drop 1) is)
]

-- a point with its digits is read whole where no digit follows; without a point nothing is read, where none follows
pub fraction_read : (i : Input) (digits rest : List ℕ) → (t : Took i.left (Fraction digits) rest) → NumberEnds t.0 rest → IsRead (fraction i) (λ f j. (f ≡ digits) × (j.left ≡ rest))
unfolding fraction
fraction_read i digits rest t ends = elim t.2 [
  | inl e ↦ let is : i.left ≡ rest = t.1 ∙ ap (λ u. u ++ rest) e.0 in
      rw (ap (begins_with (λ b. b == 46)) is ∙ ends.1 e.0) (sym e.1, is)
  | inr e ↦ let is : i.left ≡ 46 ∷ (digits ++ rest) = t.1 ∙ ap (λ u. u ++ rest) (e.2 ∙ ap₂ (λ a b. a ++ b) e.3 e.4.0) in
      rw (ap (begins_with (λ b. b == 46)) is) (read_run is_ascii_digit (drop 1 i.left) digits rest (ap (drop 1) is) e.4.1 ends.0)
]

-- a digit isn't a byte that is no digit
pub differs : (c d : ℕ) → is_ascii_digit c ≡ true → is_ascii_digit d ≡ false → (c == d) ≡ false
differs c d is other = false_from_ne_true (c == d) (λ e. true≢false (sym is ∙ (ap is_ascii_digit ((Decides-eqb c d).0 e) ∙ other)))

-- nor is it white space
pub digit_not_white : (c : ℕ) → is_ascii_digit c ≡ true → is_white c ≡ false
digit_not_white c is = false_from_ne_true (is_white c) (λ white. true≢false (sym is ∙ (white_byte c [] white).0))

-- what begins with digits or a point, one digit at least, doesn't begin with a byte that is neither
pub first_byte : (test : ℕ → Bool) → test 46 ≡ false → ((c : ℕ) → is_ascii_digit c ≡ true → test c ≡ false)
    → (whole digits xs ys zs : List ℕ) → Took xs (Digits whole) ys → Took ys (Fraction digits) zs → 0 < length whole + length digits → begins_with test xs ≡ false
first_byte test at_point at_digit (c ∷ cs) digits xs ys zs t u long = ap (begins_with test) (t.1 ∙ ap (λ w. w ++ ys) t.2.0)
    ∙ at_digit c (and_parts (is_ascii_digit c) (list_all is_ascii_digit cs) t.2.1).0
first_byte test at_point at_digit [] digits xs ys zs t u long = elim u.2 [
  | inl e ↦ absurd (lt_irrefl 0 (subst (λ d. 0 < 0 + length d) e.1 long))
  | inr e ↦ ap (begins_with test) ((t.1 ∙ ap (λ w. w ++ ys) t.2.0) ∙ (u.1 ∙ ap (λ w. w ++ zs) (e.2 ∙ ap (λ w. w ++ e.1) e.3))) ∙ at_point
]

-- the digits before a fraction end there: it begins with a point, or no digit follows it
pub digits_stop : (digits ys zs : List ℕ) → Took ys (Fraction digits) zs → begins_with is_ascii_digit zs ≡ false → begins_with is_ascii_digit ys ≡ false
digits_stop digits ys zs u ends = elim u.2 [
  | inl e ↦ ap (begins_with is_ascii_digit) (u.1 ∙ ap (λ w. w ++ zs) e.0) ∙ ends
  | inr e ↦ ap (begins_with is_ascii_digit) (u.1 ∙ ap (λ w. w ++ zs) (e.2 ∙ ap (λ w. w ++ e.1) e.3))
]

abbrev pub IsFound : Bool → List ℕ → List ℕ → List ℕ → FoundNumber → Input → Type 0
IsFound minus integer digits rest n j = (n.minus ≡ minus) × (n.whole ≡ integer) × (n.fraction ≡ digits) × (j.left ≡ rest)

-- a number has a digit at least, so it isn't refused
pub numeral_done : (k : Input) (at : ℕ) (m : Bool) (w f : List ℕ) (minus : Bool) (integer digits rest : List ℕ) → m ≡ minus → w ≡ integer → f ≡ digits → k.left ≡ rest
    → 0 < length integer + length digits → (empty : Bool) → (length w + length f == 0) ≡ empty
    → IsRead {A = FoundNumber} ((if empty then refuse at else pure (record { at = at; minus = m; whole = w; fraction = f })) k) (IsFound minus integer digits rest)
numeral_done k at m w f minus integer digits rest e1 e2 e3 e4 long true e =
    let none : length w + length f ≡ 0 = (Decides-eqb (length w + length f) 0).0 e in
    lt_irrefl 0 (subst (λ n. 0 < n) (sym (ap₂ (λ a b. length a + length b) e2 e3) ∙ none) long)
numeral_done k at m w f minus integer digits rest e1 e2 e3 e4 long false e = (e1, e2, e3, e4)

-- a number is read as it is written: the sign ends at a digit or point, the digits at the point, and no digit follows
pub numeral_read : (i : Input) (minus : Bool) (integer digits rest : List ℕ) → (t : Took i.left (Sign minus ⨾ Digits integer ⨾ Fraction digits) rest) → 0 < length integer + length digits → NumberEnds t.2.4.1 rest
    → IsRead (numeral i) (IsFound minus integer digits rest)
unfolding numeral apart
numeral_read i minus integer digits rest t long ends =
    let a = apart i.left rest (Sign minus) (Digits integer ⨾ Fraction digits) t in
    let b = apart a.0 rest (Digits integer) (Fraction digits) a.2 in
    let none : (d : ℕ) → is_ascii_digit d ≡ false → (46 == d) ≡ false → begins_with (λ c. c == d) a.0 ≡ false =
    λ d other no_point. first_byte (λ c. c == d) no_point (λ c is. differs c d is other) integer digits a.0 b.0 rest b.1 b.2 long in
    then_is (λ m j. (m ≡ minus) × (j.left ≡ a.0)) (sign i) _ _ (sign_read i minus a.0 a.1 (none 45 refl refl) (none 43 refl refl))
    (λ m j known. let r = read_run is_ascii_digit j.left integer b.0 (known.1 ∙ (b.1.1 ∙ ap (λ w. w ++ b.0) b.1.2.0)) b.1.2.1 (digits_stop digits b.0 rest b.2 ends.0) in
    let k = after (prefix_len is_ascii_digit j.left) j in
    then_is (λ f l. (f ≡ digits) × (l.left ≡ rest)) (fraction k) _ _ (fraction_read k digits rest (b.2.0, r.1 ∙ b.2.1, b.2.2) ends)
    (λ f l last. numeral_done l i.at m (take (prefix_len is_ascii_digit j.left) j.left) f minus integer digits rest known.0 r.0 last.0 last.1 long _ refl))

-- a number that is whole and within the limit is found as the coordinate that it stands for
pub coordinate_read : (n : FoundNumber) (j : Input) (z : ℤ) (text rest : List ℕ) (t : Number z text) → IsFound t.0 t.1 t.2 rest n j → IsRead (coordinate n j) (λ y k. (y ≡ z) × (k.left ≡ rest))
unfolding coordinate
coordinate_read n j z text rest t found =
    rw (ap is_whole found.2 ∙ t.4, ap (λ w. nat_lt coordinate_limit (digits_value 10 w)) found.1 ∙ le-ltb coordinate_limit (digits_value 10 t.1) t.5)
    (ap₂ signed found.0 found.1 ∙ sym t.6, found.3)

-- a text that begins with a sign begins with a plus, a minus, or what comes after the empty sign
pub sign_begins : (test : ℕ → Bool) → test 43 ≡ false → test 45 ≡ false → (minus : Bool) (xs ys : List ℕ) → Took xs (Sign minus) ys → begins_with test ys ≡ false → begins_with test xs ≡ false
sign_begins test at_plus at_minus true xs ys t behind = ap (begins_with test) (t.1 ∙ ap (λ u. u ++ ys) t.2) ∙ at_minus
sign_begins test at_plus at_minus false xs ys t behind = elim t.2 [
  | inl e ↦ ap (begins_with test) (t.1 ∙ ap (λ u. u ++ ys) e) ∙ behind
  | inr e ↦ ap (begins_with test) (t.1 ∙ ap (λ u. u ++ ys) e) ∙ at_plus
]

-- what a number doesn't begin with
pub numeral_begins : (test : ℕ → Bool) → test 43 ≡ false → test 45 ≡ false → test 46 ≡ false → ((c : ℕ) → is_ascii_digit c ≡ true → test c ≡ false)
    → (minus : Bool) (integer digits text rest : List ℕ) → Numeral minus integer digits text → begins_with test (text ++ rest) ≡ false
numeral_begins test at_plus at_minus at_point at_digit minus integer digits text rest t =
    let a = apart (text ++ rest) rest (Sign minus) (Digits integer ⨾ Fraction digits) (text, refl, t.0) in
    let b = apart a.0 rest (Digits integer) (Fraction digits) a.2 in
    sign_begins test at_plus at_minus minus (text ++ rest) a.0 a.1 (first_byte test at_point at_digit integer digits a.0 b.0 rest b.1 b.2 t.1)

-- so no number begins with a byte that is neither sign, digit nor point
pub number_begins : (test : ℕ → Bool) → test 43 ≡ false → test 45 ≡ false → test 46 ≡ false → ((c : ℕ) → is_ascii_digit c ≡ true → test c ≡ false) → Begins Number test
number_begins test at_plus at_minus at_point at_digit z text rest t = numeral_begins test at_plus at_minus at_point at_digit t.0 t.1 t.2 text rest t.3

-- white space is such a byte
pub number_not_white : Begins Number is_white
number_not_white = number_begins is_white refl refl refl digit_not_white

-- a position begins as its first number does
pub position_begins : (test : ℕ → Bool) → test 43 ≡ false → test 45 ≡ false → test 46 ≡ false → ((c : ℕ) → is_ascii_digit c ≡ true → test c ≡ false) → Begins PositionText test
position_begins test at_plus at_minus at_point at_digit p text rest t =
    ap (begins_with test) (ap (λ u. u ++ rest) t.2 ∙ append_assoc t.0 t.1 rest) ∙ number_begins test at_plus at_minus at_point at_digit p.x t.0 (t.1 ++ rest) t.3

-- so it doesn't begin with white space
pub position_not_white : Begins PositionText is_white
position_not_white = position_begins is_white refl refl refl digit_not_white

-- a number at the front, and where it ends
pub numeral_at : (i : Input) (z : ℤ) (rest : List ℕ) (t : Took i.left (Number z) rest) → Ends rest → IsRead (numeral i) (IsFound t.2.0 t.2.1 t.2.2 rest)
numeral_at i z rest t ends = numeral_read i t.2.0 t.2.1 t.2.2 rest (t.0, t.1, t.2.3.0) t.2.3.1 (ends.0, λ _. ends.1)

-- white space of one byte or more isn't refused
pub space_done : (i : Input) (rest : List ℕ) (white : List ℕ) → take (prefix_len is_white i.left) i.left ≡ white → drop (prefix_len is_white i.left) i.left ≡ rest → 0 < length white
    → (empty : Bool) → (length (take (prefix_len is_white i.left) i.left) == 0) ≡ empty
    → IsRead ((if empty then refuse i.at else pure (take (prefix_len is_white i.left) i.left)) (after (prefix_len is_white i.left) i)) (λ _ j. j.left ≡ rest)
space_done i rest white e f long true none = lt_irrefl 0 (subst (λ n. 0 < n) (sym (ap length e) ∙ (Decides-eqb (length (take (prefix_len is_white i.left) i.left)) 0).0 none) long)
space_done i rest white e f long false none = f

-- white space that has to come is read to its end, where no more of it follows
pub space_read : (i : Input) (rest : List ℕ) → Took i.left Space rest → begins_with is_white rest ≡ false → IsRead (space i) (λ _ j. j.left ≡ rest)
unfolding space
space_read i rest t stop = let r = read_run is_white i.left t.0 rest t.1 t.2.1 stop in space_done i rest t.0 r.0 r.1 t.2.0 _ refl

-- where a position may come, its first number is found as the coordinate that it stands for
pub first_read : (room : ℕ) (n : FoundNumber) (j : Input) (z : ℤ) (text rest : List ℕ) (t : Number z text) → 0 < room → IsFound t.0 t.1 t.2 rest n j
    → IsRead ((if room == 0 then too_long else coordinate n) j) (λ y k. (y ≡ z) × (k.left ≡ rest))
first_read room n j z text rest t long found = rw (not_zero room long) (coordinate_read n j z text rest t found)

-- a position is read whole where one may come: white space ends its first number, and no longer number follows its second
pub position_read : (room : ℕ) → 0 < room → Complete PositionText Ends (position room)
unfolding position
position_read room long i p rest t ends =
    let a = apart i.left rest (Number p.x) (Space ⨾ Number p.y) t in
    let b = apart a.0 rest Space (Number p.y) a.2 in
    let stop : begins_with is_white b.0 ≡ false = ap (begins_with is_white) b.2.1 ∙ number_not_white p.y b.2.0 rest b.2.2 in
    then_is (IsFound a.1.2.0 a.1.2.1 a.1.2.2 a.0) (numeral i) _ _
    (numeral_at i p.x a.0 a.1 (subst Ends (sym b.1.1) (space_ends b.1.0 b.0 b.1.2.0 b.1.2.1)))
    (λ n j found. then_is (λ x k. (x ≡ p.x) × (k.left ≡ a.0)) _ _ _ (first_read room n j p.x a.1.0 a.0 a.1.2 long found)
    (λ x k x_is. then_is (λ _ l. l.left ≡ b.0) (space k) _ _ (space_read k b.0 (b.1.0, x_is.1 ∙ b.1.1, b.1.2) stop)
    (λ _ l l_is. then_is (IsFound b.2.2.0 b.2.2.1 b.2.2.2 rest) (numeral l) _ _ (numeral_at l p.y rest (b.2.0, l_is ∙ b.2.1, b.2.2) ends)
    (λ m o second. then_is (λ y q. (y ≡ p.y) × (q.left ≡ rest)) (coordinate m o) _ _ (coordinate_read m o p.y b.2.0 rest b.2.2 second)
    (λ y q y_is. (ap₂ (λ (u v : ℤ). record { x = u; y = v }) x_is.0 y_is.0, y_is.1))))))

-- points, lists

-- a point of a MULTIPOINT is read whole: a position doesn't begin with a parenthesis, so the next byte shows its form
pub point_read : (room : ℕ) → 0 < room → Complete PointText Ends (point room)
unfolding point
point_read room long i p rest t ends = elim t.2 [
  | inl e ↦ rw (ap (begins_with (λ c. c == 40)) t.1 ∙ position_begins (λ c. c == 40) refl refl refl (λ c is. differs c 40 is refl) p t.0 rest e)
      (position_read room long i p rest (t.0, t.1, e) ends)
  | inr e ↦ rw (ap (begins_with (λ c. c == 40)) (byte_is 40 i.left (apart i.left rest (Byte 40) (Padded (PositionText p) ⨾ Byte 41) (t.0, t.1, e)).0
      (apart i.left rest (Byte 40) (Padded (PositionText p) ⨾ Byte 41) (t.0, t.1, e)).1))
      (enclosed_read (λ q. Padded (PositionText q)) Closed (padded (position room)) (λ more. (refl, (refl, refl, refl)))
      (padded_read PositionText (position room) position_not_white (position_read room long)) i p rest (t.0, t.1, e) tt)
]

-- it doesn't begin with white space in either form
pub point_not_white : Begins PointText is_white
point_not_white p text rest (inl e) = position_not_white p text rest e
point_not_white p text rest (inr e) = ap (λ u. begins_with is_white (u ++ rest)) (e.2 ∙ ap (λ u. u ++ e.1) e.3)

-- no comma follows
abbrev pub Closes : List ℕ → Type 0
Closes rest = Closed rest × (begins_with (λ b. b == 44) rest ≡ false)

-- a comma ends an item
pub closed_by_comma : (rest : List ℕ) → Closed (44 ∷ rest)
closed_by_comma rest = (refl, (refl, refl, refl))

-- a closing parenthesis ends an item and its list
pub closes : (rest : List ℕ) → Closes (41 ∷ rest)
closes rest = ((refl, (refl, refl, refl)), refl)

-- a list with no more items than may come is read whole: behind each item but the last is a comma
pub separated_read : {A : Type 0} (P : A → Rule) (item : ℕ → Reader A) → Begins P is_white → ((room : ℕ) → 0 < room → Complete P Ends (item room))
    → (room : ℕ) (xs : List A) (i : Input) (rest : List ℕ) → length xs ≤ room → Took i.left (Separated P xs) rest → Closes rest
    → IsRead (separated item room i) (λ ys j. (ys ≡ xs) × (j.left ≡ rest))
unfolding separated
separated_read P item starts complete zero [] i rest fits t stop = absurd t.2
separated_read P item starts complete zero (x ∷ more) i rest fits t stop = absurd (omega (arith, fits))
separated_read P item starts complete (suc room) [] i rest fits t stop = absurd t.2
separated_read P item starts complete (suc room) (x ∷ []) i rest fits t stop = then_is (λ y j. (y ≡ x) × (j.left ≡ rest)) (padded (item (suc room)) i) _ _
    (padded_read P (item (suc room)) starts (complete (suc room) (zero-lt-suc room)) i x rest t stop.0)
    (λ y j known. rw (ap (begins_with (λ b. b == 44)) known.1 ∙ stop.1) (ap (λ z. z ∷ []) known.0, known.1))
separated_read P item starts complete (suc room) (x ∷ y ∷ more) i rest fits t stop =
    let a = apart i.left rest (Padded (P x)) (Byte 44 ⨾ Separated P (y ∷ more)) t in
    let b = apart a.0 rest (Byte 44) (Separated P (y ∷ more)) a.2 in
    let a_is : a.0 ≡ 44 ∷ b.0 = byte_is 44 a.0 b.0 b.1 in
    then_is (λ z j. (z ≡ x) × (j.left ≡ a.0)) (padded (item (suc room)) i) _ _
    (padded_read P (item (suc room)) starts (complete (suc room) (zero-lt-suc room)) i x a.0 a.1 (subst Closed (sym a_is) (closed_by_comma b.0)))
    (λ z j known. rw (ap (begins_with (λ b. b == 44)) (known.1 ∙ a_is))
    (then_is (λ zs k. (zs ≡ y ∷ more) × (k.left ≡ rest)) (separated item room (after 1 j)) _ _
    (separated_read P item starts complete room (y ∷ more) (after 1 j) rest (le_of_suc-le-suc fits) (b.2.0, ap (drop 1) (known.1 ∙ a_is) ∙ b.2.1, b.2.2) stop)
    (λ zs k last. (ap₂ (λ u v. u ∷ v) known.0 last.0, last.1))))

-- lists that fit, in parentheses
pub enclosed_list_read : {A : Type 0} (P : A → Rule) (Good : List A → Type 0) (inner : Reader (List A))
    → ((xs : List A) (i : Input) (rest : List ℕ) → Good xs → Took i.left (Separated P xs) rest → Closes rest → IsRead (inner i) (λ ys j. (ys ≡ xs) × (j.left ≡ rest)))
    → (xs : List A) (i : Input) (rest : List ℕ) → Good xs → Took i.left (Enclosed (Separated P xs)) rest → IsRead (enclosed inner i) (λ ys j. (ys ≡ xs) × (j.left ≡ rest))
enclosed_list_read P Good inner complete xs i rest good t = enclosed_read (λ ys text. Separated P ys text × Good ys) Closes inner closes
    (λ j ys more taken stop. complete ys j more taken.2.1 (taken.0, taken.1, taken.2.0) stop) i xs rest
    (t.0, t.1, (t.2.0, t.2.1, t.2.2, t.2.3, (t.2.4.0, t.2.4.1, t.2.4.2, (t.2.4.3, good), t.2.4.4))) tt

-- a line or ring with no more positions than may come is read whole
pub line_read : (room : ℕ) (ps : List Position) (i : Input) (rest : List ℕ) → length ps ≤ room → Took i.left (LineText ps) rest → IsRead (line room i) (λ qs j. (qs ≡ ps) × (j.left ≡ rest))
unfolding line
line_read room = enclosed_list_read PositionText (λ ps. length ps ≤ room) (separated position room)
    (λ xs i rest fits t stop. separated_read PositionText position position_not_white position_read room xs i rest fits t stop)

-- a list in parentheses, with white space around it
pub list_not_white : {A : Type 0} (P : A → Rule) (xs : List A) (text more : List ℕ) → Enclosed (Separated P xs) text → begins_with is_white (text ++ more) ≡ false
list_not_white P xs text more t = ap (λ u. begins_with is_white (u ++ more)) (t.2 ∙ ap (λ u. u ++ t.1) t.3)

-- so it is read whole with white space around it, where it is without
pub padded_list_read : {A : Type 0} (P : A → Rule) (Good : List A → Type 0) (step : Reader (List A))
    → ((xs : List A) (i : Input) (rest : List ℕ) → Good xs → Took i.left (Enclosed (Separated P xs)) rest → IsRead (step i) (λ ys j. (ys ≡ xs) × (j.left ≡ rest)))
    → (xs : List A) (i : Input) (rest : List ℕ) → Good xs → Took i.left (Padded (Enclosed (Separated P xs))) rest → Closed rest → IsRead (padded step i) (λ ys j. (ys ≡ xs) × (j.left ≡ rest))
padded_list_read P Good step complete xs i rest good t stop = padded_read (λ ys text. Enclosed (Separated P ys) text × Good ys) step
    (λ ys text more taken. list_not_white P ys text more taken.0)
    (λ j ys more taken ends. complete ys j more taken.2.1 (taken.0, taken.1, taken.2.0)) i xs rest
    (t.0, t.1, (t.2.0, t.2.1, t.2.2, t.2.3, (t.2.4.0, t.2.4.1, t.2.4.2, (t.2.4.3, good), t.2.4.4))) stop

-- a line or ring too
pub padded_line_read : (room : ℕ) (ps : List Position) (i : Input) (rest : List ℕ) → length ps ≤ room → Took i.left (Padded (LineText ps)) rest → Closed rest
    → IsRead (padded (line room) i) (λ qs j. (qs ≡ ps) × (j.left ≡ rest))
padded_line_read room = padded_list_read PositionText (λ ps. length ps ≤ room) (line room) (line_read room)

-- an item that fits is read whole
abbrev pub ReadsItem : {A : Type 0} → (A → Rule) → (ℕ → ℕ → Reader A) → (A → List (List Position)) → Type 0
ReadsItem {A} P item rings = (count room : ℕ) (x : A) (i : Input) (rest : List ℕ) → FitsCounts count room (rings x) → Took i.left (Padded (P x)) rest → Closed rest
    → IsRead (padded (item count room) i) (λ y j. (y ≡ x) × (j.left ≡ rest))

-- an item has a ring at least
abbrev pub HasRings : {A : Type 0} → (A → Rule) → (A → List (List Position)) → Type 0
HasRings {A} P rings = (x : A) (text : List ℕ) → P x text → 0 < length (rings x)

-- items that fit the counts are read whole: each fits what those before it left, and has a ring, so the turns are enough
pub items_read : {A : Type 0} (P : A → Rule) (item : ℕ → ℕ → Reader A) (rings : A → List (List Position)) → HasRings P rings → ReadsItem P item rings
    → (turns count room : ℕ) (xs : List A) (i : Input) (rest : List ℕ) → count ≤ turns → FitsCounts count room (rings_of rings xs) → Took i.left (Separated P xs) rest → Closes rest
    → IsRead (items item rings turns count room i) (λ ys j. (ys ≡ xs) × (j.left ≡ rest))
unfolding items
items_read P item rings full_item complete turns count room [] i rest enough fits t stop = absurd t.2
items_read P item rings full_item complete zero count room (x ∷ []) i rest enough fits t stop =
    absurd (omega (arith, enough, full_item x t.2.4.0 t.2.4.3, (first_fits count room (rings x) [] fits).0))
items_read P item rings full_item complete zero count room (x ∷ y ∷ more) i rest enough fits t stop =
    absurd (omega (arith, enough, full_item x t.2.3.4.0 t.2.3.4.3, (first_fits count room (rings x) (rings_of rings (y ∷ more)) fits).0))
items_read P item rings full_item complete (suc turns) count room (x ∷ []) i rest enough fits t stop = then_is (λ y j. (y ≡ x) × (j.left ≡ rest)) (padded (item count room) i) _ _
    (complete count room x i rest (first_fits count room (rings x) [] fits) t stop.0)
    (λ y j known. rw (ap (begins_with (λ b. b == 44)) known.1 ∙ stop.1) (ap (λ z. z ∷ []) known.0, known.1))
items_read P item rings full_item complete (suc turns) count room (x ∷ y ∷ more) i rest enough fits t stop =
    let a = apart i.left rest (Padded (P x)) (Byte 44 ⨾ Separated P (y ∷ more)) t in
    let b = apart a.0 rest (Byte 44) (Separated P (y ∷ more)) a.2 in
    let a_is : a.0 ≡ 44 ∷ b.0 = byte_is 44 a.0 b.0 b.1 in
    then_is (λ z j. (z ≡ x) × (j.left ≡ a.0)) (padded (item count room) i) _ _
    (complete count room x i a.0 (first_fits count room (rings x) (rings_of rings (y ∷ more)) fits) a.1 (subst Closed (sym a_is) (closed_by_comma b.0)))
    (λ z j known. rw (ap (begins_with (λ b. b == 44)) (known.1 ∙ a_is))
    (then_is (λ zs k. (zs ≡ y ∷ more) × (k.left ≡ rest)) (items item rings turns (count - length (rings z)) (room - positions_in (rings z)) (after 1 j)) _ _
    (items_read P item rings full_item complete turns (count - length (rings z)) (room - positions_in (rings z)) (y ∷ more) (after 1 j) rest
    (subst (λ w. count - length (rings w) ≤ turns) (sym known.0) (omega (arith, enough, full_item x t.2.3.4.0 t.2.3.4.3)))
    (subst (λ w. FitsCounts (count - length (rings w)) (room - positions_in (rings w)) (rings_of rings (y ∷ more))) (sym known.0) (others_fit count room (rings x) (rings_of rings (y ∷ more)) fits))
    (b.2.0, ap (drop 1) (known.1 ∙ a_is) ∙ b.2.1, b.2.2) stop)
    (λ zs k last. (ap₂ (λ u v. u ∷ v) known.0 last.0, last.1))))

-- rings and elements
-- an element or ring that fits is read whole; where none may come none fits
pub ring_read : ReadsItem LineText ring alone
unfolding ring
ring_read zero room x i rest fits t stop = absurd (omega (arith, fits.0))
ring_read (suc count) room x i rest fits t stop = padded_line_read room x i rest (rw (append-nil x) at fits.1) t stop

-- an element or ring counts as one
pub one_ring : HasRings LineText alone
one_ring x text t = zero-lt-suc 0

-- elements or rings that fit both counts are read whole
pub parts_read : (count room : ℕ) (xs : List (List Position)) (i : Input) (rest : List ℕ) → FitsCounts count room xs → Took i.left (Separated LineText xs) rest → Closes rest
    → IsRead (parts count room i) (λ ys j. (ys ≡ xs) × (j.left ≡ rest))
parts_read count room xs i rest fits t stop = rw (parts_are_items count room i)
    (items_read LineText ring alone one_ring ring_read count count room xs i rest (le_refl count) (subst (FitsCounts count room) (sym (alone_of xs)) fits) t stop)

-- polygons
-- a polygon whose rings fit both counts is read whole
pub polygon_read : ReadsItem PolygonText polygon itself
unfolding polygon
polygon_read count room = padded_list_read LineText (FitsCounts count room) (polygon count room)
    (enclosed_list_read LineText (FitsCounts count room) (parts count room) (parts_read count room))

-- it has a ring at least, since the grammar takes no empty list
pub rings_of_polygon : HasRings PolygonText itself
rings_of_polygon [] text t = absurd t.4.3
rings_of_polygon (r ∷ rs) text t = zero-lt-suc (length rs)

-- polygons whose rings fit both counts together are read whole
pub polygons_read : (turns count room : ℕ) → count ≤ turns → (xs : List (List (List Position))) (i : Input) (rest : List ℕ) → FitsCounts count room (joined_rings xs) → Took i.left (Separated PolygonText xs) rest → Closes rest
    → IsRead (polygons turns count room i) (λ ys j. (ys ≡ xs) × (j.left ≡ rest))
polygons_read turns count room enough xs i rest fits t stop = rw (polygons_are_items turns count room i)
    (items_read PolygonText polygon itself rings_of_polygon polygon_read turns count room xs i rest enough fits t stop)

-- words

-- a byte that is a letter in lower case is one as it is written
pub letter : (c : ℕ) → is_ascii_alphabetic (to_ascii_lowercase c) ≡ true → is_ascii_alphabetic c ≡ true
letter c is = grind (arith, is)

-- so a text that is all letters in lower case is so as it is written
pub letters : (text : List ℕ) → list_all is_ascii_alphabetic (map to_ascii_lowercase text) ≡ true → list_all is_ascii_alphabetic text ≡ true
letters [] all = refl
letters (c ∷ cs) all = let parts = and_parts (is_ascii_alphabetic (to_ascii_lowercase c)) (list_all is_ascii_alphabetic (map to_ascii_lowercase cs)) all in
    rw (letter c parts.0) (letters cs parts.1)

-- a letter isn't white space
pub letter_not_white : (c : ℕ) → is_ascii_alphabetic c ≡ true → is_white c ≡ false
letter_not_white c is = false_from_ne_true (is_white c) (λ white. true≢false (sym is ∙ (white_byte c [] white).2))

-- so a word doesn't begin with white space
pub word_begins : (text rest : List ℕ) → list_all is_ascii_alphabetic text ≡ true → 0 < length text → begins_with is_white (text ++ rest) ≡ false
word_begins [] rest all long = absurd (lt_irrefl 0 long)
word_begins (c ∷ cs) rest all long = letter_not_white c (and_parts (is_ascii_alphabetic c) (list_all is_ascii_alphabetic cs) all).0

-- a word in any case is as long as the name
pub same_length : (text name : List ℕ) → Word name text → length text ≡ length name
same_length text name e = sym (length-map text to_ascii_lowercase) ∙ (ap length e ∙ length-map name to_ascii_lowercase)

-- the word EMPTY behind white space is read as no items, where no letter follows it
pub empty_read : {A : Type 0} (inner : Reader (List A)) (i : Input) (rest : List ℕ) → Took i.left (Space ⨾ Word (codes "EMPTY")) rest → begins_with is_ascii_alphabetic rest ≡ false
    → IsRead (body inner i) (λ ys j. (ys ≡ []) × (j.left ≡ rest))
unfolding body
empty_read inner i rest t stop =
    let a = apart i.left rest Space (Word (codes "EMPTY")) t in
    let word = a.2.0 in
    let all : list_all is_ascii_alphabetic word ≡ true = letters word (ap (list_all is_ascii_alphabetic) a.2.2) in
    let long : 0 < length word = subst (λ n. 0 < n) (sym (same_length word (codes "EMPTY") a.2.2)) (zero-lt-suc 4) in
    let skip = read_run is_white i.left a.1.0 a.0 a.1.1 a.1.2.1 (ap (begins_with is_white) a.2.1 ∙ word_begins word rest all long) in
    let left = drop (prefix_len is_white i.left) i.left in
    let name = read_run is_ascii_alphabetic left word rest (skip.1 ∙ a.2.1) all stop in
    rw (
      ap (λ w. length w == 0) name.0 ∙ not_zero (length word) long,
      ap (λ w. str_eq_ignore_ascii_case w (codes "EMPTY")) name.0 ∙ (bytes_eq-Decides (str_to_ascii_lowercase word) (str_to_ascii_lowercase (codes "EMPTY"))).1 a.2.2,
    )
    (refl, name.1)

-- the same where something is in parentheses
pub nonempty_read : {A : Type 0} (P : A → Rule) (Good : List A → Type 0) (inner : Reader (List A))
    → ((xs : List A) (i : Input) (rest : List ℕ) → Good xs → Took i.left (Separated P xs) rest → Closes rest → IsRead (inner i) (λ ys j. (ys ≡ xs) × (j.left ≡ rest)))
    → (xs : List A) (i : Input) (rest : List ℕ) → Good xs → Took i.left (Blank ⨾ Enclosed (Separated P xs)) rest → IsRead (body inner i) (λ ys j. (ys ≡ xs) × (j.left ≡ rest))
unfolding body
nonempty_read P Good inner complete xs i rest good t =
    let a = apart i.left rest Blank (Enclosed (Separated P xs)) t in
    let b = apart a.0 rest (Byte 40) (Separated P xs ⨾ Byte 41) a.2 in
    let opens : a.0 ≡ 40 ∷ b.0 = byte_is 40 a.0 b.0 b.1 in
    let left = drop (prefix_len is_white i.left) i.left in
    let left_is : left ≡ a.0 = blank_read i.left a.0 a.1 (ap (begins_with is_white) opens) in
    let none : prefix_len is_ascii_alphabetic left ≡ 0 = no_run is_ascii_alphabetic left (ap (begins_with is_ascii_alphabetic) (left_is ∙ opens)) in
    let past : drop (prefix_len is_ascii_alphabetic left) left ≡ a.0 = ap (λ n. drop n left) none ∙ left_is in
    rw (ap (λ n. length (take n left) == 0) none)
    (enclosed_list_read P Good inner complete xs (after (prefix_len is_ascii_alphabetic left) (after (prefix_len is_white i.left) i)) rest good (a.2.0, past ∙ a.2.1, a.2.2))

-- a body is read whole: EMPTY, or a list in parentheses that fits
pub body_read : {A : Type 0} (P : A → Rule) (Good : List A → Type 0) (inner : Reader (List A))
    → ((xs : List A) (i : Input) (rest : List ℕ) → Good xs → Took i.left (Separated P xs) rest → Closes rest → IsRead (inner i) (λ ys j. (ys ≡ xs) × (j.left ≡ rest)))
    → (xs : List A) (i : Input) (rest : List ℕ) → Good xs → Took i.left (Body P xs) rest → begins_with is_ascii_alphabetic rest ≡ false → IsRead (body inner i) (λ ys j. (ys ≡ xs) × (j.left ≡ rest))
body_read P Good inner complete [] i rest good t stop = empty_read inner i rest t stop
body_read P Good inner complete (x ∷ more) i rest good t stop = nonempty_read P Good inner complete (x ∷ more) i rest good t

-- it doesn't begin with a letter, so the name before it ends there
pub body_begins : {A : Type 0} (P : A → Rule) (xs : List A) (text rest : List ℕ) → Took text (Body P xs) rest → begins_with is_ascii_alphabetic text ≡ false
body_begins P [] text rest t = let a = apart text rest Space (Word (codes "EMPTY")) t in
    ap (begins_with is_ascii_alphabetic) a.1.1 ∙ (space_ends a.1.0 a.0 a.1.2.0 a.1.2.1).2
body_begins P (x ∷ more) text rest t =
    let a = apart text rest Blank (Enclosed (Separated P (x ∷ more))) t in
    let b = apart a.0 rest (Byte 40) (Separated P (x ∷ more) ⨾ Byte 41) a.2 in
    ap (begins_with is_ascii_alphabetic) a.1.1 ∙ (white_ends a.1.0 a.0 a.1.2 (subst Ends (sym (byte_is 40 a.0 b.0 b.1)) (refl, refl, refl))).2

-- whether a name in any case is another type's name depends on the two names alone
pub named : (text own other : List ℕ) → Word own text → str_eq_ignore_ascii_case text other ≡ bytes_eq (str_to_ascii_lowercase own) (str_to_ascii_lowercase other)
named text own other e = ap (λ t. bytes_eq t (str_to_ascii_lowercase other)) e

-- the run of letters is the type's name, and behind it is the body
pub name_read : {A : Type 0} (own : List ℕ) (P : A → Rule) (xs : List A) (left rest : List ℕ) → list_all is_ascii_alphabetic (map to_ascii_lowercase own) ≡ true → Took left (Word own ⨾ Body P xs) rest
    → Word own (take (prefix_len is_ascii_alphabetic left) left) × Took (drop (prefix_len is_ascii_alphabetic left) left) (Body P xs) rest
name_read own P xs left rest all t =
    let a = apart left rest (Word own) (Body P xs) t in
    let r = read_run is_ascii_alphabetic left a.1.0 a.0 a.1.1 (letters a.1.0 (ap (list_all is_ascii_alphabetic) a.1.2 ∙ all)) (body_begins P xs a.0 rest a.2) in
    (ap str_to_ascii_lowercase r.0 ∙ a.1.2, (a.2.0, r.1 ∙ a.2.1, a.2.2))

-- the one position of a POINT is read whole
pub lone_complete : (xs : List Position) (i : Input) (rest : List ℕ) → length xs ≤ 1 → Took i.left (Separated PositionText xs) rest → Closes rest
    → IsRead ((padded (position position_limit) >>= λ p. pure (p ∷ [])) i) (λ ys j. (ys ≡ xs) × (j.left ≡ rest))
lone_complete [] i rest fits t stop = absurd t.2
lone_complete (x ∷ y ∷ more) i rest fits t stop = absurd (omega (arith, fits))
lone_complete (x ∷ []) i rest fits t stop = then_is (λ p j. (p ≡ x) × (j.left ≡ rest)) (padded (position position_limit) i) _ _
    (padded_read PositionText (position position_limit) position_not_white (position_read position_limit (zero-lt-suc 9999)) i x rest t stop.0)
    (λ p j known. (ap (λ z. z ∷ []) known.0, known.1))

-- a POINT has one position or none
pub lone_list : (p : Option Position) → length (option_to_list p) ≤ 1
lone_list None = zero-le
lone_list (Some p) = suc-le-suc zero-le

-- and that is the first of its list
pub first_of_lone : (p : Option Position) → first (option_to_list p) ≡ p
first_of_lone None = refl
first_of_lone (Some p) = refl

-- the points of a MULTIPOINT are read whole, within the limit
pub points_complete : (xs : List Position) (i : Input) (rest : List ℕ) → length xs ≤ position_limit → Took i.left (Separated PointText xs) rest → Closes rest
    → IsRead (separated point position_limit i) (λ ys j. (ys ≡ xs) × (j.left ≡ rest))
points_complete xs i rest fits t stop = separated_read PointText point point_not_white point_read position_limit xs i rest fits t stop

-- and the positions of a LINESTRING
pub line_complete : (xs : List Position) (i : Input) (rest : List ℕ) → length xs ≤ position_limit → Took i.left (Separated PositionText xs) rest → Closes rest
    → IsRead (separated position position_limit i) (λ ys j. (ys ≡ xs) × (j.left ≡ rest))
line_complete xs i rest fits t stop = separated_read PositionText position position_not_white position_read position_limit xs i rest fits t stop

-- type by type: its name is no other type's, and its body is read whole where it is within the counts
pub tagged_read : (w : Geometry) (i : Input) (rest : List ℕ) → IsWithinCounts w → Took i.left (TaggedText w) rest → Ends rest → IsRead (tagged i) (λ v j. (v ≡ w) × (j.left ≡ rest))
unfolding tagged typed
tagged_read (Point p) i rest counts t ends = let n = prefix_len is_ascii_alphabetic i.left in let own = codes "POINT" in
    let r = name_read own PositionText (option_to_list p) i.left rest refl t in
    rw (named (take n i.left) own (codes "POINT") r.0)
    (then_is (λ ys j. (ys ≡ option_to_list p) × (j.left ≡ rest)) (lone (after n i)) _ _
    (body_read PositionText (λ ys. length ys ≤ 1) _ lone_complete (option_to_list p) (after n i) rest (lone_list p) r.1 ends.2)
    (λ ys j known. (ap Point (ap first known.0 ∙ first_of_lone p), known.1)))
tagged_read (MultiPoint ps) i rest counts t ends = let n = prefix_len is_ascii_alphabetic i.left in let own = codes "MULTIPOINT" in
    let r = name_read own PointText ps i.left rest refl t in
    rw (named (take n i.left) own (codes "POINT") r.0, named (take n i.left) own (codes "MULTIPOINT") r.0)
    (then_is (λ ys j. (ys ≡ ps) × (j.left ≡ rest)) (positions point (after n i)) _ _
    (body_read PointText (λ ys. length ys ≤ position_limit) _ points_complete ps (after n i) rest counts.0 r.1 ends.2)
    (λ ys j known. (ap MultiPoint known.0, known.1)))
tagged_read (LineString ps) i rest counts t ends = let n = prefix_len is_ascii_alphabetic i.left in let own = codes "LINESTRING" in
    let r = name_read own PositionText ps i.left rest refl t in
    rw (named (take n i.left) own (codes "POINT") r.0, named (take n i.left) own (codes "MULTIPOINT") r.0, named (take n i.left) own (codes "LINESTRING") r.0)
    (then_is (λ ys j. (ys ≡ ps) × (j.left ≡ rest)) (positions position (after n i)) _ _
    (body_read PositionText (λ ys. length ys ≤ position_limit) _ line_complete ps (after n i) rest counts.0 r.1 ends.2)
    (λ ys j known. (ap LineString known.0, known.1)))
tagged_read (MultiLineString ls) i rest counts t ends = let n = prefix_len is_ascii_alphabetic i.left in let own = codes "MULTILINESTRING" in
    let r = name_read own LineText ls i.left rest refl t in
    rw (
      named (take n i.left) own (codes "POINT") r.0,
      named (take n i.left) own (codes "MULTIPOINT") r.0,
      named (take n i.left) own (codes "LINESTRING") r.0,
      named (take n i.left) own (codes "MULTILINESTRING") r.0,
    )
    (then_is (λ ys j. (ys ≡ ls) × (j.left ≡ rest)) (lists (after n i)) _ _
    (body_read LineText (FitsCounts part_limit position_limit) _ (parts_read part_limit position_limit) ls (after n i) rest (counts.1, counts.0) r.1 ends.2)
    (λ ys j known. (ap MultiLineString known.0, known.1)))
tagged_read (Polygon rs) i rest counts t ends = let n = prefix_len is_ascii_alphabetic i.left in let own = codes "POLYGON" in
    let r = name_read own LineText rs i.left rest refl t in
    rw (
      named (take n i.left) own (codes "POINT") r.0,
      named (take n i.left) own (codes "MULTIPOINT") r.0,
      named (take n i.left) own (codes "LINESTRING") r.0,
      named (take n i.left) own (codes "MULTILINESTRING") r.0,
      named (take n i.left) own (codes "POLYGON") r.0,
    )
    (then_is (λ ys j. (ys ≡ rs) × (j.left ≡ rest)) (lists (after n i)) _ _
    (body_read LineText (FitsCounts part_limit position_limit) _ (parts_read part_limit position_limit) rs (after n i) rest (counts.1, counts.0) r.1 ends.2)
    (λ ys j known. (ap Polygon known.0, known.1)))
tagged_read (MultiPolygon es) i rest counts t ends = let n = prefix_len is_ascii_alphabetic i.left in let own = codes "MULTIPOLYGON" in
    let r = name_read own PolygonText es i.left rest refl t in
    rw (
      named (take n i.left) own (codes "POINT") r.0,
      named (take n i.left) own (codes "MULTIPOINT") r.0,
      named (take n i.left) own (codes "LINESTRING") r.0,
      named (take n i.left) own (codes "MULTILINESTRING") r.0,
      named (take n i.left) own (codes "POLYGON") r.0,
      named (take n i.left) own (codes "MULTIPOLYGON") r.0,
    )
    (then_is (λ ys j. (ys ≡ es) × (j.left ≡ rest)) (nested_lists (after n i)) _ _
    (body_read PolygonText (λ ys. FitsCounts part_limit position_limit (joined_rings ys)) _ (polygons_read part_limit part_limit position_limit (le_refl part_limit)) es (after n i) rest (counts.1, counts.0) r.1 ends.2)
    (λ ys j known. (ap MultiPolygon known.0, known.1)))

-- a type's name isn't empty, and a letter isn't white space
pub name_not_white : {A : Type 0} (own : List ℕ) (P : A → Rule) (xs : List A) (text rest : List ℕ) → list_all is_ascii_alphabetic (map to_ascii_lowercase own) ≡ true → 0 < length own
    → (Word own ⨾ Body P xs) text → begins_with is_white (text ++ rest) ≡ false
name_not_white own P xs text rest all long t = ap (begins_with is_white) (ap (λ u. u ++ rest) t.2 ∙ append_assoc t.0 t.1 rest)
    ∙ word_begins t.0 (t.1 ++ rest) (letters t.0 (ap (list_all is_ascii_alphabetic) t.3 ∙ all)) (subst (λ n. 0 < n) (sym (same_length t.0 own t.3)) long)

-- so no text of any type begins with white space
pub tagged_not_white : (w : Geometry) (text rest : List ℕ) → TaggedText w text → begins_with is_white (text ++ rest) ≡ false
tagged_not_white (Point p) text rest t = name_not_white (codes "POINT") PositionText (option_to_list p) text rest refl (zero-lt-suc 4) t
tagged_not_white (MultiPoint ps) text rest t = name_not_white (codes "MULTIPOINT") PointText ps text rest refl (zero-lt-suc 9) t
tagged_not_white (LineString ps) text rest t = name_not_white (codes "LINESTRING") PositionText ps text rest refl (zero-lt-suc 9) t
tagged_not_white (MultiLineString ls) text rest t = name_not_white (codes "MULTILINESTRING") LineText ls text rest refl (zero-lt-suc 14) t
tagged_not_white (Polygon rs) text rest t = name_not_white (codes "POLYGON") LineText rs text rest refl (zero-lt-suc 6) t
tagged_not_white (MultiPolygon es) text rest t = name_not_white (codes "MULTIPOLYGON") PolygonText es text rest refl (zero-lt-suc 11) t

-- a whole text within the counts is read as what it writes, and nothing is left behind it
pub whole_read : (w : Geometry) (text : List ℕ) → IsWithinCounts w → Writes w text → IsRead (whole (record { left = text; at = 0 })) (λ v _. v ≡ w)
unfolding whole
whole_read w text counts t = let i : Input = record { left = text; at = 0 } in
    then_is (λ v j. (v ≡ w) × (j.left ≡ [])) (padded tagged i) _ _
    (padded_read (λ v part. TaggedText v part × IsWithinCounts v) tagged (λ v part rest taken. tagged_not_white v part rest taken.0)
    (λ j v rest taken ends. tagged_read v j rest taken.2.1 (taken.0, taken.1, taken.2.0) ends) i w []
    (text, sym (append-nil text), (t.0, t.1, t.2, t.3, (t.4.0, t.4.1, t.4.2, (t.4.3, counts), t.4.4))) (refl, (refl, refl, refl)))
    (λ v j known. rw (ap (λ l. length l == 0) known.1) known.0)

-- the answer is the geometry of what is written
pub found_geometry : (r : Result (Geometry × Input) TextFault) (w : Geometry) → IsRead r (λ v _. v ≡ w) → outcome r ≡ Ok (geometry_of w)
found_geometry (Ok found) w known = ap (λ v. Ok (geometry_of v)) known
found_geometry (Err fault) w known = absurd known

-- a text that spells a geometry writes one within the counts, which is read, and the answer is its geometry
pub spelled_is_read : SpelledIsRead
unfolding read_text
spelled_is_read text g s = found_geometry (whole (record { left = text; at = 0 })) s.written (whole_read s.written text s.counts s.spelled) ∙ ap Ok (sym s.meant)
