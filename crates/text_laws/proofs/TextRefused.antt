-- Where reading returns W2, W3 or W4, that refusal applies.
use Rattle.std.proofs.Common.{◌≡◌, refl, sym, ap, ◌∙◌, subst, ℕ, zero, suc, ◌+◌, ◌-◌, ◌<◌, ◌≤◌, ◌==◌, ◌⊎◌, inl, inr, ℤ, pos, Bool, true, false, List, [], ◌∷◌, ◌++◌, length, take, drop, Some, Result, Ok, Err, nat_lt, codes, if◌then◌else◌, take-append-drop, length-append, append-nil, append_assoc, suc-le-suc, zero-lt-suc, zero-le, arith}
use Rattle.std.specs.List.{list_any, prefix_len}
use Rattle.std.specs.Char.{is_ascii_alphabetic, is_ascii_digit}
use Rattle.std.specs.Str.{str_eq_ignore_ascii_case}
use Rattle.std.specs.Str.Parse.{digits_value}
use Rattle.std.proofs.lemmas.Bool.{or_parts}
use Rattle.std.proofs.lemmas.Bool.Decides.{Decides-ltb, Decides-eqb}
use Rattle.basics.proofs.Lists.{any_behind, front_passes}
use Rattle.geometry_model.specs.Points.{Position}
use Rattle.geometry_model.specs.Geometries.{Geometry, Point, MultiPoint, LineString, MultiLineString, Polygon, MultiPolygon, joined_rings}
use Rattle.geometry_model.specs.WellKnownText.{begins_with, Rule, ◌⨾◌, Byte, Blank, Space, Padded, Enclosed, Word, Separated, Sign, Digits, Fraction, Numeral, Number, PositionText, PointText, LineText, PolygonText, Body, TaggedText, Writes, IsWithinCounts, written_positions, written_parts, coordinate_limit, position_limit, part_limit, is_white, is_whole, geometry_of}
use Rattle.geometry_model.specs.TextReading.{Input, Reader, FoundNumber, and_then, pure, after, refuse, too_long, run, eat, ◌>>◌, ◌>>=◌, expect, padded, enclosed, sign, fraction, numeral, coordinate, space, position, point, separated, line, parts, polygon, polygons, body, lone, first, positions, lists, nested_lists, typed, tagged, whole, outcome, read_text}
use Rattle.geometry_model.specs.TextRefusals.{begins_more, IsFirstNumber, HasNumber, IsOffGrid, IsOutOfRange, HasTooManyPositions, HasTooManyParts, TakesNumber}
use Rattle.geometry_model.specs.declared.text_faults.TextFault.{TextFault}
use Rattle.geometry_model.specs.declared.text_faults.TextFault.TheVariants.{Syntax, OffGrid, OutOfRange, TooLong}
use Rattle.text_laws.specs.ReadingLaws.{RefusalsApply}
use Rattle.text_laws.proofs.RoomLists.{positions_in, items, ring, alone, itself, rings_of, alone_of, positions_of_both, parts_are_items, polygons_are_items, FitsCounts, both_fit}
use Rattle.text_laws.proofs.TextSteps.{stops, first_is, some, nothing, word_is, byte_is, Took, both, took_run}
use Rattle.text_laws.proofs.TextPlaces.{total, Keeps, keeps_if, ate, run_keeps, expect_keeps, padded_keeps, numeral_keeps, coordinate_keeps, space_keeps, position_keeps, point_keeps, line_keeps, polygon_keeps}
use Rattle.text_laws.proofs.TextSound.{IfRead, then_read, any_read, first_sound, behind, past_word, word_at, sign_sound, numeral_sound, space_sound, expect_sound, padded_sound, position_sound, point_sound, ring_sound, polygon_sound}

-- what is refused: a number, a further position, a further part
data Kind : Type 0 where
  AtNumber : Kind
  AtPosition : Kind
  AtPart : Kind

-- what is where reading stopped
abbrev What : Kind → TextFault → List ℕ → Type 0
What AtNumber (OffGrid at) tail = (m : Bool) × (w f : List ℕ) × IsFirstNumber tail m w f × (is_whole f ≡ false)
What AtNumber (OutOfRange at) tail = (m : Bool) × (w f : List ℕ) × IsFirstNumber tail m w f × (is_whole f ≡ true) × (coordinate_limit < digits_value 10 w)
What AtPosition TooLong tail = (m : Bool) × (w f : List ℕ) × IsFirstNumber tail m w f
What AtPart TooLong tail = (more : List ℕ) × (tail ≡ codes "(" ++ more)
What AtNumber (Syntax at) tail = ⊥
What AtNumber TooLong tail = ⊥
What AtPosition (Syntax at) tail = ⊥
What AtPosition (OffGrid at) tail = ⊥
What AtPosition (OutOfRange at) tail = ⊥
What AtPart (Syntax at) tail = ⊥
What AtPart (OffGrid at) tail = ⊥
What AtPart (OutOfRange at) tail = ⊥

-- where
abbrev Where : TextFault → List ℕ → ℕ → Type 0
Where (Syntax at) tail sum = Unit {0}
Where (OffGrid at) tail sum = at + length tail ≡ sum
Where (OutOfRange at) tail sum = at + length tail ≡ sum
Where TooLong tail sum = Unit {0}

-- what could be there instead
abbrev Marks : Kind → List ℕ → Type 0
Marks AtNumber mark = (more : List ℕ) × (mark ≡ codes "+" ++ more)
Marks AtPosition mark = mark ≡ codes "+0 0"
Marks AtPart mark = mark ≡ codes "(+0 0"

-- a text of the rule stops at the fault, and could go on
record Stuck {A : Type 0} (P : A → Rule) (R : Kind → A → Type 0) (i : Input) (fault : TextFault) : Type 0 where
  kind : Kind
  used : List ℕ
  tail : List ℕ
  mark : List ℕ
  closing : List ℕ
  x : A
  split : i.left ≡ used ++ tail
  what : What kind fault tail
  place : Where fault tail (total i)
  marked : Marks kind mark
  goes : P x (used ++ (mark ++ closing))
  no_more : list_any begins_more closing ≡ false
  counts : R kind x

-- W1 is no matter here
abbrev Unless : (TextFault → Type 0) → TextFault → Type 0
Unless Q (Syntax at) = Unit {0}
Unless Q (OffGrid at) = Q (OffGrid at)
Unless Q (OutOfRange at) = Q (OutOfRange at)
Unless Q TooLong = Q TooLong

abbrev IfFails : {A : Type 0} → Result (A × Input) TextFault → (TextFault → Type 0) → Type 0
IfFails (Ok found) Q = Unit {0}
IfFails (Err fault) Q = Unless Q fault

-- a fault other than W1 that shows one thing shows what follows from it
unless_so : (Q R : TextFault → Type 0) → ((fault : TextFault) → Q fault → R fault) → (fault : TextFault) → Unless Q fault → Unless R fault
unless_so Q R so (Syntax at) q = tt
unless_so Q R so (OffGrid at) q = so (OffGrid at) q
unless_so Q R so (OutOfRange at) q = so (OutOfRange at) q
unless_so Q R so TooLong q = so TooLong q

-- so does a step that fails
fails_so : {A : Type 0} (Q R : TextFault → Type 0) (r : Result (A × Input) TextFault) → ((fault : TextFault) → Q fault → R fault) → IfFails r Q → IfFails r R
fails_so Q R (Ok found) so q = tt
fails_so Q R (Err fault) so q = unless_so Q R so fault q

-- a step and then another fail as the first fails, or as the other does behind what the first found
then_fails : {A B : Type 0} (Q : A → Input → Type 0) (F G : TextFault → Type 0) (r : Result (A × Input) TextFault) (next : A → Reader B)
    → IfRead r Q → IfFails r F → ((fault : TextFault) → F fault → G fault) → ((x : A) (j : Input) → Q x j → IfFails (next x j) G) → IfFails (and_then r next) G
then_fails Q F G (Ok found) next read fails so step = step found.0 found.1 read
then_fails Q F G (Err fault) next read fails so step = unless_so F G so fault fails

-- a fact of what is found gives what follows from it
weaker : {A : Type 0} (P Q : A → Input → Type 0) (r : Result (A × Input) TextFault) → ((x : A) (j : Input) → P x j → Q x j) → IfRead r P → IfRead r Q
weaker P Q (Ok found) so read = so found.0 found.1 read
weaker P Q (Err fault) so read = tt

-- two facts of what is read
and_read : {A : Type 0} (P Q : A → Input → Type 0) (r : Result (A × Input) TextFault) → IfRead r P → IfRead r Q → IfRead r (λ x j. P x j × Q x j)
and_read P Q (Ok found) p q = (p, q)
and_read P Q (Err fault) p q = tt

-- where neither of two texts begins a further number or part, both together don't
none_before : (xs ys : List ℕ) → list_any begins_more xs ≡ false → list_any begins_more ys ≡ false → list_any begins_more (xs ++ ys) ≡ false
none_before [] ys e f = f
none_before (x ∷ xs) ys e f = let parts = or_parts (begins_more x) (list_any begins_more xs) e in rw parts.0 (none_before xs ys parts.1 f)

-- the place of a fault may be given by any sum that is equal
where_so : (fault : TextFault) (tail : List ℕ) (m n : ℕ) → m ≡ n → Where fault tail m → Where fault tail n
where_so fault tail m n e w = subst (Where fault tail) e w

-- behind a text that was read, before a text that is to come, and as part of another rule
stuck_behind : {A : Type 0} (B : Rule) (P : A → Rule) (R : Kind → A → Type 0) (i j : Input) (fault : TextFault) → Took i.left B j.left → total j ≡ total i → Stuck P R j fault
    → Stuck (λ x. B ⨾ P x) R i fault
stuck_behind B P R i j fault t e s = record {
  kind = s.kind;
  used = t.0 ++ s.used;
  tail = s.tail;
  mark = s.mark;
  closing = s.closing;
  x = s.x;
  split = t.1 ∙ (ap (λ r. t.0 ++ r) s.split ∙ sym (append_assoc t.0 s.used s.tail));
  what = s.what;
  place = where_so fault s.tail (total j) (total i) e s.place;
  marked = s.marked;
  goes = (t.0, s.used ++ (s.mark ++ s.closing), append_assoc t.0 s.used (s.mark ++ s.closing), t.2, s.goes);
  no_more = s.no_more;
  counts = s.counts;
}

stuck_before : {A : Type 0} (B : Rule) (P : A → Rule) (R : Kind → A → Type 0) (i : Input) (fault : TextFault) (text : List ℕ) → B text → list_any begins_more text ≡ false → Stuck P R i fault
    → Stuck (λ x. P x ⨾ B) R i fault
stuck_before B P R i fault text b none s = record {
  kind = s.kind;
  used = s.used;
  tail = s.tail;
  mark = s.mark;
  closing = s.closing ++ text;
  x = s.x;
  split = s.split;
  what = s.what;
  place = s.place;
  marked = s.marked;
  goes = (
    s.used ++ (s.mark ++ s.closing),
    text,
    ap (λ r. s.used ++ r) (sym (append_assoc s.mark s.closing text)) ∙ sym (append_assoc s.used (s.mark ++ s.closing) text),
    s.goes,
    b,
  );
  no_more = none_before s.closing text s.no_more none;
  counts = s.counts;
}

stuck_as : {A B : Type 0} (P : A → Rule) (Q : B → Rule) (R : Kind → A → Type 0) (S : Kind → B → Type 0) (f : A → B) (i : Input) (fault : TextFault)
    → ((x : A) (text : List ℕ) → P x text → Q (f x) text) → ((k : Kind) (x : A) → R k x → S k (f x)) → Stuck P R i fault → Stuck Q S i fault
stuck_as P Q R S f i fault so counts s = record {
  kind = s.kind;
  used = s.used;
  tail = s.tail;
  mark = s.mark;
  closing = s.closing;
  x = f s.x;
  split = s.split;
  what = s.what;
  place = s.place;
  marked = s.marked;
  goes = so s.x (s.used ++ (s.mark ++ s.closing)) s.goes;
  no_more = s.no_more;
  counts = counts s.kind s.x s.counts;
}

abbrev Fails : {A : Type 0} → (A → Rule) → (Kind → A → Type 0) → Reader A → Type 0
Fails P R step = (i : Input) → IfFails (step i) (Stuck P R i)

-- numbers

-- no point follows, or the text has one
abbrev PointEnds : List ℕ → List ℕ → Type 0
PointEnds text rest = (begins_with (λ c. c == 46) rest ≡ false) ⊎ (list_any (λ c. c == 46) text ≡ true)

abbrev Ended : List ℕ → Rule → List ℕ → Type 0
Ended from A to = (text : List ℕ) × (from ≡ text ++ to) × A text × (begins_with is_ascii_digit to ≡ false) × PointEnds text to

-- a point takes all digits behind it; without a point, neither point nor digit follows
fraction_ended : (i : Input) → begins_with is_ascii_digit i.left ≡ false → (met : Bool) → begins_with (λ b. b == 46) i.left ≡ met
    → IfRead ((if met then run is_ascii_digit else pure []) (if met then after 1 i else i)) (λ digits j. Ended i.left (Fraction digits) j.left)
fraction_ended i quiet true e = let rest = drop 1 i.left in let n = prefix_len is_ascii_digit rest in (
  46 ∷ take n rest,
  first_is 46 i.left e ∙ ap (λ r. 46 ∷ r) (sym (take-append-drop n rest)),
  inr (46 ∷ [], take n rest, refl, refl, (refl, front_passes is_ascii_digit rest)),
  stops is_ascii_digit rest,
  inr refl,
)
fraction_ended i quiet false e = ([], refl, inl (refl, refl), quiet, inl e)

-- so no digit follows the fraction that is found, and no point that it hasn't already
fraction_ends : (i : Input) → begins_with is_ascii_digit i.left ≡ false → IfRead (fraction i) (λ digits j. Ended i.left (Fraction digits) j.left)
unfolding fraction
fraction_ends i quiet = fraction_ended i quiet (begins_with (λ b. b == 46) i.left) refl

-- a point in the fraction is one in the number
point_behind : (xs ys rest : List ℕ) → PointEnds ys rest → PointEnds (xs ++ ys) rest
point_behind xs ys rest (inl e) = inl e
point_behind xs ys rest (inr e) = inr (any_behind (λ c. c == 46) xs ys e)

-- a sign, digits and a fraction that nothing can lengthen are the longest number there; without a digit they are refused
number_found : (k : Input) (at : ℕ) (minus : Bool) (integer digits : List ℕ) (from : List ℕ) (empty : Bool) → (length integer + length digits == 0) ≡ empty
    → Ended from (Sign minus ⨾ Digits integer ⨾ Fraction digits) k.left
    → IfRead {A = FoundNumber} ((if empty then refuse at else pure (record { at = at; minus = minus; whole = integer; fraction = digits })) k)
    (λ n l. IsFirstNumber from n.minus n.whole n.fraction × (n.at ≡ at))
number_found k at minus integer digits from true e t = tt
number_found k at minus integer digits from false e t = (
  record {
    number = t.0;
    rest = k.left;
    split = t.1;
    numeral = (t.2, some (length integer + length digits) e);
    no_digit = t.3;
    no_point = t.4;
  },
  refl,
)

-- a number that is found is the longest at the front of what is left, and begins at the byte that is read next
pub numeral_first : (i : Input) → IfRead (numeral i) (λ n j. IsFirstNumber i.left n.minus n.whole n.fraction × (n.at ≡ i.at))
unfolding numeral
numeral_first i = then_read (λ minus j. Took i.left (Sign minus) j.left) (sign i) _ _ (sign_sound i)
    (λ minus j t. let n = prefix_len is_ascii_digit j.left in let k = after n j in
    then_read (λ digits l. Ended k.left (Fraction digits) l.left) (fraction k) _ _ (fraction_ends k (stops is_ascii_digit j.left))
    (λ digits l u. let behind = both j.left k.left l.left (Digits (take n j.left)) (Fraction digits)
    (take n j.left, sym (take-append-drop n j.left), (refl, front_passes is_ascii_digit j.left)) (u.0, u.1, u.2) in
    let all = both i.left j.left l.left (Sign minus) (Digits (take n j.left) ⨾ Fraction digits) t behind in
    number_found l i.at minus (take n j.left) digits i.left _ refl
    (all.0, all.1, all.2, u.3, point_behind t.0 (take n j.left ++ u.0) l.left (point_behind (take n j.left) u.0 l.left u.4))))

-- what coordinate answers of a number at a place
coordinate_refused : (n : FoundNumber) (j from : Input) → IsFirstNumber from.left n.minus n.whole n.fraction → n.at ≡ from.at → (integral past : Bool)
    → is_whole n.fraction ≡ integral → nat_lt coordinate_limit (digits_value 10 n.whole) ≡ past
    → IfFails (coordinate n j) (λ fault. What AtNumber fault from.left × Where fault from.left (total from))
unfolding coordinate
coordinate_refused n j from f at_is false past e g = rw e ((n.minus, n.whole, n.fraction, f, e), ap (λ m. m + length from.left) at_is)
coordinate_refused n j from f at_is true true e g = rw (e, g) ((n.minus, n.whole, n.fraction, f, e, (Decides-ltb coordinate_limit (digits_value 10 n.whole)).0 g), ap (λ m. m + length from.left) at_is)
coordinate_refused n j from f at_is true false e g = rw (e, g) tt

-- a zero is a number, with a plus or without
zero_number : (text : List ℕ) (sign_text : List ℕ) → Sign false sign_text → text ≡ sign_text ++ codes "0" → Number (pos 0) text
zero_number text sign_text s is = (false, codes "0", [], ((sign_text, codes "0", is, s, (codes "0", [], refl, (refl, refl), inl (refl, refl))), zero-lt-suc 0), refl, zero-le, refl)

-- where so many positions may still come
abbrev Room : ℕ → Kind → Position → Type 0
Room room AtNumber p = 0 < room
Room room AtPosition p = room ≡ 0
Room room AtPart p = ⊥

-- so two zeros, with a plus before the first, are a position
zero_position : PositionText (record { x = pos 0; y = pos 0 }) (codes "+0 0")
zero_position = (codes "+0", codes " 0", refl, zero_number (codes "+0") (codes "+") (inr refl) refl, (codes " ", codes "0", refl, (zero-lt-suc 0, refl), zero_number (codes "0") [] (inl refl) refl))

-- the first number of a position is refused where a position may come: one of two zeros could be there
first_stuck : (room : ℕ) (i : Input) (fault : TextFault) → 0 < room → What AtNumber fault i.left × Where fault i.left (total i) → Stuck PositionText (Room room) i fault
first_stuck room i fault long known = record {
  kind = AtNumber;
  used = [];
  tail = i.left;
  mark = codes "+0 0";
  closing = [];
  x = record { x = pos 0; y = pos 0 };
  split = refl;
  what = known.0;
  place = known.1;
  marked = (codes "0 0", refl);
  goes = zero_position;
  no_more = refl;
  counts = long;
}

-- the first number of a position is where none may come: one of two zeros would be a position too many
full_stuck : (room : ℕ) (i : Input) (m : Bool) (w f : List ℕ) → room ≡ 0 → IsFirstNumber i.left m w f → Stuck PositionText (Room room) i TooLong
full_stuck room i m w f full first = record {
  kind = AtPosition;
  used = [];
  tail = i.left;
  mark = codes "+0 0";
  closing = [];
  x = record { x = pos 0; y = pos 0 };
  split = refl;
  what = (m, w, f, first);
  place = tt;
  marked = refl;
  goes = zero_position;
  no_more = refl;
  counts = full;
}

-- the second number of a position is refused: a zero could be there, behind the first number and the white space
second_stuck : (room : ℕ) (x : ℤ) (i k l : Input) (fault : TextFault) → 0 < room → Took i.left (Number x) k.left → Took k.left Space l.left → total l ≡ total i
    → What AtNumber fault l.left × Where fault l.left (total l) → Stuck PositionText (Room room) i fault
second_stuck room x i k l fault long t u e known = let both_texts = both i.left k.left l.left (Number x) Space t u in
    record {
      kind = AtNumber;
      used = t.0 ++ u.0;
      tail = l.left;
      mark = codes "+0";
      closing = [];
      x = record { x = x; y = pos 0 };
      split = both_texts.1;
      what = known.0;
      place = where_so fault l.left (total l) (total i) e known.1;
      marked = (codes "0", refl);
      goes = (t.0, u.0 ++ codes "+0", append_assoc t.0 u.0 (codes "+0"), t.2, (u.0, codes "+0", refl, u.2, zero_number (codes "+0") (codes "+") (inr refl) refl));
      no_more = refl;
      counts = long;
    }

-- steps that answer no fault but W1
abbrev Quiet : {A : Type 0} → Reader A → Type 0
Quiet step = (i : Input) → IfFails (step i) (λ _. ⊥)

-- a step that fails as W1 only, and then another: both together fail as the other does
quiet_then : {A B : Type 0} (r : Result (A × Input) TextFault) (next : A → Reader B) (G : TextFault → Type 0) → IfFails r (λ _. ⊥) → ((x : A) (j : Input) → IfFails (next x j) G) → IfFails (and_then r next) G
quiet_then r next G fails others = then_fails (λ _ _. Unit {0}) (λ _. ⊥) G r next (any_read r) fails (λ fault b. absurd b) (λ x j _. others x j)

-- whichever of two such steps is taken, it fails as W1 only
quiet_if : {A : Type 0} (b : Bool) (s t : Reader A) (i : Input) → IfFails (s i) (λ _. ⊥) → IfFails (t i) (λ _. ⊥) → IfFails ((if b then s else t) i) (λ _. ⊥)
quiet_if true s t i f g = f
quiet_if false s t i f g = g

-- bytes that have to come, signs, fractions, numbers and white space fail as W1 only: no value or count is looked at yet
expect_quiet : (c : ℕ) → Quiet (expect c)
expect_quiet c i = quiet_if (begins_with (λ b. b == c) i.left) (pure true) (refuse i.at) (if begins_with (λ b. b == c) i.left then after 1 i else i) tt tt

sign_quiet : Quiet sign
unfolding sign
sign_quiet i = quiet_if (begins_with (λ b. b == 45) i.left) (pure true) (eat 43 >> pure false) (if begins_with (λ b. b == 45) i.left then after 1 i else i) tt tt

fraction_quiet : Quiet fraction
unfolding fraction
fraction_quiet i = quiet_if (begins_with (λ b. b == 46) i.left) (run is_ascii_digit) (pure {A = List ℕ} []) (if begins_with (λ b. b == 46) i.left then after 1 i else i) tt tt

numeral_quiet : Quiet numeral
unfolding numeral
numeral_quiet i = quiet_then (sign i) _ (λ _. ⊥) (sign_quiet i) (λ minus j. let k = after (prefix_len is_ascii_digit j.left) j in
    quiet_then (fraction k) _ (λ _. ⊥) (fraction_quiet k) (λ digits l. let w = take (prefix_len is_ascii_digit j.left) j.left in let n : FoundNumber = record { at = i.at; minus = minus; whole = w; fraction = digits } in
    quiet_if (length w + length digits == 0) (refuse i.at) (pure n) l tt tt))

space_quiet : Quiet space
unfolding space
space_quiet i = let w = take (prefix_len is_white i.left) i.left in quiet_if (length w == 0) (refuse i.at) (pure w) (after (prefix_len is_white i.left) i) tt tt

-- the first number of a position fails by the count, or by its own value
first_fails : (room : ℕ) (n : FoundNumber) (i j : Input) → IsFirstNumber i.left n.minus n.whole n.fraction → n.at ≡ i.at → (full : Bool) → (room == 0) ≡ full
    → IfFails ((if full then too_long else coordinate n) j) (Stuck PositionText (Room room) i)
first_fails room n i j first at_is true e = full_stuck room i n.minus n.whole n.fraction ((Decides-eqb room 0).0 e) first
first_fails room n i j first at_is false e = fails_so (λ fault. What AtNumber fault i.left × Where fault i.left (total i)) (Stuck PositionText (Room room) i) (coordinate n j)
    (λ fault known. first_stuck room i fault (some room e) known) (coordinate_refused n j i first at_is _ _ refl refl)

-- all that is known of a number that was found
abbrev FoundAt : Input → FoundNumber → Input → Type 0
FoundAt i n j = Took i.left (Numeral n.minus n.whole n.fraction) j.left × (IsFirstNumber i.left n.minus n.whole n.fraction × (n.at ≡ i.at)) × (total j ≡ total i)

-- what is known of a number that was found: it is in the grammar, the longest there, and no byte was lost
numeral_known : (i : Input) → IfRead (numeral i) (FoundAt i)
numeral_known i = weaker (λ n j. Took i.left (Numeral n.minus n.whole n.fraction) j.left × ((IsFirstNumber i.left n.minus n.whole n.fraction × (n.at ≡ i.at)) × (total j ≡ total i))) (FoundAt i) (numeral i)
    (λ n j known. (known.0, known.1.0, known.1.1))
    (and_read (λ n j. Took i.left (Numeral n.minus n.whole n.fraction) j.left) (λ n j. (IsFirstNumber i.left n.minus n.whole n.fraction × (n.at ≡ i.at)) × (total j ≡ total i)) (numeral i)
    (numeral_sound i) (and_read (λ n j. IsFirstNumber i.left n.minus n.whole n.fraction × (n.at ≡ i.at)) (λ _ j. total j ≡ total i) (numeral i) (numeral_first i) (numeral_keeps i)))

-- a position fails by the count or by one of its numbers, and each time the text up to there could go on as a position
position_fails : (room : ℕ) → Fails PositionText (Room room) (position room)
unfolding position
position_fails room i = then_fails (FoundAt i) (λ _. ⊥) (Stuck PositionText (Room room) i) (numeral i) _ (numeral_known i) (numeral_quiet i) (λ fault b. absurd b)
    (λ n j found. let step = (if room == 0 then too_long else coordinate n) in
    then_fails (λ x k. (Took i.left (Number x) k.left × (0 < room)) × (total k ≡ total j)) (Stuck PositionText (Room room) i) (Stuck PositionText (Room room) i) (step j) _
    (and_read (λ x k. Took i.left (Number x) k.left × (0 < room)) (λ _ k. total k ≡ total j) (step j) (first_sound room n j i.left found.0 _ refl)
    (keeps_if (room == 0) too_long (coordinate n) (λ _. tt) (coordinate_keeps n) j))
    (first_fails room n i j found.1.0 found.1.1 _ refl) (λ fault s. s)
    (λ x k first. then_fails (λ _ l. Took k.left Space l.left × (total l ≡ total k)) (λ _. ⊥) (Stuck PositionText (Room room) i) (space k) _
    (and_read (λ _ l. Took k.left Space l.left) (λ _ l. total l ≡ total k) (space k) (space_sound k) (space_keeps k)) (space_quiet k) (λ fault b. absurd b)
    (λ _ l white. then_fails (FoundAt l) (λ _. ⊥) (Stuck PositionText (Room room) i) (numeral l) _ (numeral_known l) (numeral_quiet l) (λ fault b. absurd b)
    (λ m o second. then_fails (λ _ _. Unit {0}) (λ fault. What AtNumber fault l.left × Where fault l.left (total l)) (Stuck PositionText (Room room) i) (coordinate m o) _ (any_read (coordinate m o))
    (coordinate_refused m o l second.1.0 second.1.1 _ _ refl refl)
    (λ fault known. second_stuck room x i k l fault first.0.1 first.0.0 white.0 (white.1 ∙ (first.1 ∙ found.2)) known)
    (λ y q _. tt)))))

-- lists

-- a text that stops at a fault does so with white space before it
padded_fails : {A B : Type 0} (P : A → Rule) (R : Kind → A → Type 0) (step : Reader B) → ((i : Input) → IfFails (step i) (Stuck P R i)) → (i : Input) → IfFails (padded step i) (Stuck (λ x. Padded (P x)) R i)
padded_fails P R step fails i = let j = after (prefix_len is_white i.left) i in
    then_fails (λ _ _. Unit {0}) (Stuck P R j) (Stuck (λ x. Padded (P x)) R i) (step j) _ (any_read (step j)) (fails j)
    (λ fault s. stuck_behind Blank (λ x. P x ⨾ Blank) R i j fault (took_run is_white i.left) (run_keeps is_white i) (stuck_before Blank P R j fault [] refl refl s))
    (λ x k _. tt)

-- and in parentheses: behind the place where it could go on, the closing one is all that need follow
enclosed_fails : {A B : Type 0} (P : A → Rule) (R : Kind → A → Type 0) (step : Reader B) → ((i : Input) → IfFails (step i) (Stuck P R i)) → (i : Input) → IfFails (enclosed step i) (Stuck (λ x. Enclosed (P x)) R i)
enclosed_fails P R step fails i = let G = Stuck (λ x. Enclosed (P x)) R i in
    then_fails (λ _ j. Took i.left (Byte 40) j.left × (total j ≡ total i)) (λ _. ⊥) G (expect 40 i) _
    (and_read (λ _ j. Took i.left (Byte 40) j.left) (λ _ j. total j ≡ total i) (expect 40 i) (expect_sound 40 i) (expect_keeps 40 i)) (expect_quiet 40 i) (λ fault b. absurd b)
    (λ _ j opened. then_fails (λ _ _. Unit {0}) (Stuck P R j) G (step j) _ (any_read (step j)) (fails j)
    (λ fault s. stuck_behind (Byte 40) (λ x. P x ⨾ Byte 41) R i j fault opened.0 opened.1 (stuck_before (Byte 41) P R j fault (codes ")") refl refl s))
    (λ x k _. quiet_then (expect 41 k) _ G (expect_quiet 41 k) (λ _ _. tt)))

-- a point of a MULTIPOINT fails as its position does, in either form
point_cases : (room : ℕ) (i : Input) (opened : Bool) → IfFails ((if opened then enclosed (padded (position room)) else position room) i) (Stuck PointText (Room room) i)
point_cases room i true = fails_so _ _ (enclosed (padded (position room)) i)
    (λ fault s. stuck_as (λ p. Enclosed (Padded (PositionText p))) PointText (Room room) (Room room) (λ p. p) i fault (λ p text t. inr t) (λ k p r. r) s)
    (enclosed_fails (λ p. Padded (PositionText p)) (Room room) (padded (position room)) (padded_fails PositionText (Room room) (position room) (position_fails room)) i)
point_cases room i false = fails_so _ _ (position room i)
    (λ fault s. stuck_as PositionText PointText (Room room) (Room room) (λ p. p) i fault (λ p text t. inl t) (λ k p r. r) s) (position_fails room i)

point_fails : (room : ℕ) → Fails PointText (Room room) (point room)
unfolding point
point_fails room i = point_cases room i (begins_with (λ c. c == 40) i.left)

abbrev RoomList : ℕ → Kind → List Position → Type 0
RoomList room AtNumber xs = length xs ≤ room
RoomList room AtPosition xs = length xs ≡ suc room
RoomList room AtPart xs = ⊥

-- the counts of a list whose first item fails
one_item : (room : ℕ) (k : Kind) (x : Position) → Room room k x → RoomList room k (x ∷ [])
one_item room AtNumber x long = long
one_item room AtPosition x full = ap suc (sym full)
one_item room AtPart x none = none

-- and those of one that fails behind its first item, where one item less may come
more_items : (room : ℕ) (x : Position) (k : Kind) (xs : List Position) → RoomList room k xs → RoomList (suc room) k (x ∷ xs)
more_items room x AtNumber xs fits = suc-le-suc fits
more_items room x AtPosition xs full = ap suc full
more_items room x AtPart xs none = none

-- an item, a comma and a list are a list
cons_text : {A : Type 0} (P : A → Rule) (x : A) (more : List A) (text : List ℕ) → (Padded (P x) ⨾ Byte 44 ⨾ Separated P more) text → Separated P (x ∷ more) text
cons_text P x [] text t = absurd t.4.4
cons_text P x (y ∷ more) text t = t

-- the fault is in what follows a comma
later_stuck : {A : Type 0} (P : A → Rule) (R S : Kind → List A → Type 0) (x : A) (i j : Input) (fault : TextFault) → Took i.left (Padded (P x)) j.left → total j ≡ total i
    → begins_with (λ b. b == 44) j.left ≡ true → ((k : Kind) (xs : List A) → R k xs → S k (x ∷ xs)) → Stuck (Separated P) R (after 1 j) fault → Stuck (Separated P) S i fault
later_stuck P R S x i j fault t e met counts s = stuck_as (λ more. Padded (P x) ⨾ Byte 44 ⨾ Separated P more) (Separated P) R S (λ more. x ∷ more) i fault (cons_text P x) counts
    (stuck_behind (Padded (P x)) (λ more. Byte 44 ⨾ Separated P more) R i j fault t e
    (stuck_behind (Byte 44) (Separated P) R j (after 1 j) fault (44 ∷ [], first_is 44 j.left met, refl) (ate 44 j true met) s))

-- behind an item a comma goes on with more, and the fault of these is the list's
later_fails : {A : Type 0} (P : A → Rule) (R S : Kind → List A → Type 0) (next : Reader (List A)) → Fails (Separated P) R next → (x : A) (i j : Input) → Took i.left (Padded (P x)) j.left → total j ≡ total i
    → ((k : Kind) (xs : List A) → R k xs → S k (x ∷ xs)) → (met : Bool) → begins_with (λ b. b == 44) j.left ≡ met
    → IfFails ((if met then (next >>= λ more. pure (x ∷ more)) else pure (x ∷ [])) (if met then after 1 j else j)) (Stuck (Separated P) S i)
later_fails P R S next fails x i j t e counts true met = then_fails (λ _ _. Unit {0}) (Stuck (Separated P) R (after 1 j)) (Stuck (Separated P) S i) (next (after 1 j)) _ (any_read (next (after 1 j)))
    (fails (after 1 j)) (λ fault s. later_stuck P R S x i j fault t e met counts s) (λ _ _ _. tt)
later_fails P R S next fails x i j t e counts false met = tt

-- a list fails in its first item, or in those behind the comma, where one item less may come
separated_fails : (P : Position → Rule) (item : ℕ → Reader Position) → ((room : ℕ) (i : Input) → IfRead (padded (item room) i) (λ x j. Took i.left (Padded (P x)) j.left × (0 < room)))
    → ((room : ℕ) → Keeps (item room)) → ((room : ℕ) → Fails P (Room room) (item room)) → (room : ℕ) → Fails (Separated P) (RoomList room) (separated item room)
unfolding separated
separated_fails P item sound keeps fails zero i = then_fails (λ _ _. Unit {0}) (Stuck (λ x. Padded (P x)) (Room 0) i) (Stuck (Separated P) (RoomList 0) i) (padded (item zero) i) _ (any_read (padded (item zero) i))
    (padded_fails P (Room 0) (item zero) (fails zero) i)
    (λ fault s. stuck_as (λ x. Padded (P x)) (Separated P) (Room 0) (RoomList 0) (λ x. x ∷ []) i fault (λ x text t. t) (one_item 0) s) (λ _ _ _. tt)
separated_fails P item sound keeps fails (suc room) i = let step = padded (item (suc room)) in
    then_fails (λ x j. (Took i.left (Padded (P x)) j.left × (0 < suc room)) × (total j ≡ total i)) (Stuck (λ x. Padded (P x)) (Room (suc room)) i) (Stuck (Separated P) (RoomList (suc room)) i) (step i) _
    (and_read (λ x j. Took i.left (Padded (P x)) j.left × (0 < suc room)) (λ _ j. total j ≡ total i) (step i) (sound (suc room) i) (padded_keeps (item (suc room)) (keeps (suc room)) i))
    (padded_fails P (Room (suc room)) (item (suc room)) (fails (suc room)) i)
    (λ fault s. stuck_as (λ x. Padded (P x)) (Separated P) (Room (suc room)) (RoomList (suc room)) (λ x. x ∷ []) i fault (λ x text t. t) (one_item (suc room)) s)
    (λ x j known. later_fails P (RoomList room) (RoomList (suc room)) (separated item room) (separated_fails P item sound keeps fails room) x i j known.0.0 known.1 (more_items room x) _ refl)

-- so do the positions of a line or ring
positions_fails : (room : ℕ) → Fails (Separated PositionText) (RoomList room) (separated position room)
positions_fails = separated_fails PositionText position (λ room. padded_sound PositionText (λ _. 0 < room) (position room) (position_sound room)) position_keeps position_fails

-- and the points of a MULTIPOINT
points_fails : (room : ℕ) → Fails (Separated PointText) (RoomList room) (separated point room)
points_fails = separated_fails PointText point (λ room. padded_sound PointText (λ _. 0 < room) (point room) (point_sound room)) point_keeps point_fails

-- and a line or ring, which is such a list in parentheses
line_fails : (room : ℕ) → Fails LineText (RoomList room) (line room)
unfolding line
line_fails room = enclosed_fails (Separated PositionText) (RoomList room) (separated position room) (positions_fails room)

-- elements and rings

abbrev RoomParts : ℕ → ℕ → Kind → List (List Position) → Type 0
RoomParts count room AtNumber xs = FitsCounts count room xs
RoomParts count room AtPosition xs = positions_in xs ≡ suc room
RoomParts count room AtPart xs = length xs ≡ suc count

abbrev OnlyPart : Kind → List Position → Type 0
OnlyPart AtNumber x = ⊥
OnlyPart AtPosition x = ⊥
OnlyPart AtPart x = Unit {0}

abbrev zero_zero : Position
zero_zero = record { x = pos 0; y = pos 0 }

-- where no part may come, a part of one position could be from this parenthesis on, and would be one too many
part_stuck : (i : Input) (rest : List ℕ) → i.left ≡ 40 ∷ rest → Stuck LineText OnlyPart i TooLong
part_stuck i rest opened = record {
  kind = AtPart;
  used = [];
  tail = i.left;
  mark = codes "(+0 0";
  closing = codes ")";
  x = zero_zero ∷ [];
  split = refl;
  what = (rest, opened);
  place = tt;
  marked = refl;
  goes = (codes "(", codes "+0 0)", refl, refl, (codes "+0 0", codes ")", refl, ([], codes "+0 0", refl, refl, (codes "+0 0", [], refl, zero_position, refl)), refl));
  no_more = refl;
  counts = tt;
}

-- where its parenthesis isn't the step fails as W1, and where it does as a part too many
part_fails : (i : Input) → IfFails {A = List Position} ((expect 40 >> too_long) i) (Stuck LineText OnlyPart i)
part_fails i = then_fails (λ _ j. Took i.left (Byte 40) j.left) (λ _. ⊥) (Stuck LineText OnlyPart i) (expect 40 i) _ (expect_sound 40 i) (expect_quiet 40 i) (λ fault b. absurd b)
    (λ _ j t. part_stuck i j.left (byte_is 40 i.left j.left t))

-- a list of one item has the counts of that item
one_part : (count room : ℕ) (k : Kind) (xs : List (List Position)) → RoomParts count room k xs → RoomParts count room k (xs ++ [])
one_part count room k xs counts = rw (append-nil xs) counts

-- the counts of what follows an item that fits give those of the whole list
more_parts : (count room : ℕ) (xs : List (List Position)) → FitsCounts count room xs → (k : Kind) (ys : List (List Position)) → RoomParts (count - length xs) (room - positions_in xs) k ys → RoomParts count room k (xs ++ ys)
more_parts count room xs fits AtNumber ys others = both_fit count room xs ys fits others
more_parts count room xs fits AtPosition ys full = omega (arith, positions_of_both xs ys, fits.1, full)
more_parts count room xs fits AtPart ys full = omega (arith, length-append xs ys, fits.0, full)

-- items fail in the first, or in those behind the comma, where its rings and positions are used up
items_fails : {A : Type 0} (P : A → Rule) (item : ℕ → ℕ → Reader A) (rings : A → List (List Position))
    → ((count room : ℕ) (i : Input) → IfRead (padded (item count room) i) (λ x j. Took i.left (Padded (P x)) j.left × FitsCounts count room (rings x)))
    → ((count room : ℕ) → Keeps (item count room)) → ((count room : ℕ) → Fails P (λ k x. RoomParts count room k (rings x)) (item count room))
    → (turns count room : ℕ) → Fails (Separated P) (λ k xs. RoomParts count room k (rings_of rings xs)) (items item rings turns count room)
unfolding items
items_fails P item rings sound keeps fails zero count room i = then_fails (λ _ _. Unit {0}) (Stuck (λ x. Padded (P x)) (λ k x. RoomParts count room k (rings x)) i)
    (Stuck (Separated P) (λ k xs. RoomParts count room k (rings_of rings xs)) i) (padded (item count room) i) _ (any_read (padded (item count room) i))
    (padded_fails P (λ k x. RoomParts count room k (rings x)) (item count room) (fails count room) i)
    (λ fault s. stuck_as (λ x. Padded (P x)) (Separated P) (λ k x. RoomParts count room k (rings x)) (λ k xs. RoomParts count room k (rings_of rings xs)) (λ x. x ∷ []) i fault (λ x text t. t)
    (λ k x. one_part count room k (rings x)) s) (λ _ _ _. tt)
items_fails P item rings sound keeps fails (suc turns) count room i =
    then_fails (λ x j. (Took i.left (Padded (P x)) j.left × FitsCounts count room (rings x)) × (total j ≡ total i)) (Stuck (λ x. Padded (P x)) (λ k x. RoomParts count room k (rings x)) i)
    (Stuck (Separated P) (λ k xs. RoomParts count room k (rings_of rings xs)) i) (padded (item count room) i) _
    (and_read (λ x j. Took i.left (Padded (P x)) j.left × FitsCounts count room (rings x)) (λ _ j. total j ≡ total i) (padded (item count room) i) (sound count room i) (padded_keeps (item count room) (keeps count room) i))
    (padded_fails P (λ k x. RoomParts count room k (rings x)) (item count room) (fails count room) i)
    (λ fault s. stuck_as (λ x. Padded (P x)) (Separated P) (λ k x. RoomParts count room k (rings x)) (λ k xs. RoomParts count room k (rings_of rings xs)) (λ x. x ∷ []) i fault (λ x text t. t)
    (λ k x. one_part count room k (rings x)) s)
    (λ x j known. later_fails P (λ k xs. RoomParts (count - length (rings x)) (room - positions_in (rings x)) k (rings_of rings xs)) (λ k xs. RoomParts count room k (rings_of rings xs))
    (items item rings turns (count - length (rings x)) (room - positions_in (rings x)))
    (items_fails P item rings sound keeps fails turns (count - length (rings x)) (room - positions_in (rings x))) x i j known.0.0 known.1
    (λ k xs. more_parts count room (rings x) known.0.1 k (rings_of rings xs)) _ refl)

-- rings and elements
-- where no ring may come, one is a part too many
no_ring : (room : ℕ) (k : Kind) (x : List Position) → OnlyPart k x → RoomParts zero room k (alone x)
no_ring room AtNumber x none = absurd none
no_ring room AtPosition x none = absurd none
no_ring room AtPart x one = refl

-- where one may come, it counts by its positions
one_ring : (count room : ℕ) (k : Kind) (x : List Position) → RoomList room k x → RoomParts (suc count) room k (alone x)
one_ring count room AtNumber x fits = (suc-le-suc zero-le, rw (append-nil x) fits)
one_ring count room AtPosition x full = ap length (append-nil x) ∙ full
one_ring count room AtPart x none = absurd none

-- an element or ring fails as a part too many, or as a line
ring_fails : (count room : ℕ) → Fails LineText (λ k x. RoomParts count room k (alone x)) (ring count room)
unfolding ring
ring_fails zero room i = fails_so (Stuck LineText OnlyPart i) _ ((expect 40 >> too_long) i)
    (λ fault s. stuck_as LineText LineText OnlyPart (λ k x. RoomParts zero room k (alone x)) (λ x. x) i fault (λ x text t. t) (no_ring room) s) (part_fails i)
ring_fails (suc count) room i = fails_so (Stuck LineText (RoomList room) i) _ (line room i)
    (λ fault s. stuck_as LineText LineText (RoomList room) (λ k x. RoomParts (suc count) room k (alone x)) (λ x. x) i fault (λ x text t. t) (one_ring count room) s) (line_fails room i)

-- it loses no byte
ring_keeps : (count room : ℕ) → Keeps (ring count room)
unfolding ring
ring_keeps zero room i = then_read (λ _ _. Unit {0}) (expect 40 i) _ _ (any_read (expect 40 i)) (λ _ _ _. tt)
ring_keeps (suc count) room i = line_keeps room i

-- elements or rings fail as items, each of them one part
parts_fails : (count room : ℕ) → Fails (Separated LineText) (RoomParts count room) (parts count room)
parts_fails count room i = rw (parts_are_items count room i) (fails_so (Stuck (Separated LineText) (λ k xs. RoomParts count room k (rings_of alone xs)) i) _ (items ring alone count count room i)
    (λ fault s. stuck_as (Separated LineText) (Separated LineText) (λ k xs. RoomParts count room k (rings_of alone xs)) (RoomParts count room) (λ xs. xs) i fault (λ xs text t. t)
    (λ k xs counts. subst (RoomParts count room k) (alone_of xs) counts) s)
    (items_fails LineText ring alone (λ n m. padded_sound LineText (λ x. FitsCounts n m (alone x)) (ring n m) (ring_sound n m)) ring_keeps ring_fails count count room i))

-- polygons
-- a polygon fails as its rings do
polygon_fails : (count room : ℕ) → Fails PolygonText (RoomParts count room) (polygon count room)
unfolding polygon
polygon_fails count room = enclosed_fails (Separated LineText) (RoomParts count room) (parts count room) (parts_fails count room)

-- polygons fail as items that count by their rings
polygons_fails : (turns count room : ℕ) → Fails (Separated PolygonText) (λ k xs. RoomParts count room k (joined_rings xs)) (polygons turns count room)
polygons_fails turns count room i = rw (polygons_are_items turns count room i)
    (items_fails PolygonText polygon itself (λ n m. padded_sound PolygonText (FitsCounts n m) (polygon n m) (polygon_sound n m)) polygon_keeps polygon_fails turns count room i)

-- the whole text

-- a list of the grammar in parentheses is a body, since it has an item
body_text : {A : Type 0} (P : A → Rule) (xs : List A) (text : List ℕ) → (Blank ⨾ Enclosed (Separated P xs)) text → Body P xs text
body_text P [] text t = absurd t.4.4.3
body_text P (x ∷ more) text t = t

-- by the word that is there: with none the list in parentheses fails, with EMPTY nothing does, with another it is W1
body_cases : {A B C : Type 0} (P : A → Rule) (f : B → List A) (R : Kind → B → Type 0) (inner : Reader (List C)) → ((i : Input) → IfFails (inner i) (Stuck (λ x. Separated P (f x)) R i)) → (i : Input)
    → (empty named : Bool) → (length (word_at (behind i)) == 0) ≡ empty
    → IfFails ((if empty then enclosed inner else (if named then pure [] else refuse (behind i).at)) (past_word (behind i))) (Stuck (λ x. Body P (f x)) R i)
body_cases P f R inner fails i true named e =
    let n = prefix_len is_white i.left in let j = behind i in let k = past_word j in
    let same : j.left ≡ k.left = sym (take-append-drop (prefix_len is_ascii_alphabetic j.left) j.left) ∙ ap (λ w. w ++ k.left) (nothing (word_at j) e) in
    fails_so (Stuck (λ x. Enclosed (Separated P (f x))) R k) _ (enclosed inner k)
    (λ fault s. stuck_as (λ x. Blank ⨾ Enclosed (Separated P (f x))) (λ x. Body P (f x)) R R (λ x. x) i fault (λ x text t. body_text P (f x) text t) (λ k x r. r)
    (stuck_behind Blank (λ x. Enclosed (Separated P (f x))) R i k fault
    (take n i.left, sym (take-append-drop n i.left) ∙ ap (λ r. take n i.left ++ r) same, front_passes is_white i.left)
    (run_keeps is_ascii_alphabetic j ∙ run_keeps is_white i) s))
    (enclosed_fails (λ x. Separated P (f x)) R inner fails k)
body_cases P f R inner fails i false true e = tt
body_cases P f R inner fails i false false e = tt

-- so a body fails as its list in parentheses does
body_fails : {A B C : Type 0} (P : A → Rule) (f : B → List A) (R : Kind → B → Type 0) (inner : Reader (List C)) → ((i : Input) → IfFails (inner i) (Stuck (λ x. Separated P (f x)) R i)) → (i : Input)
    → IfFails (body inner i) (Stuck (λ x. Body P (f x)) R i)
unfolding body
body_fails P f R inner fails i = body_cases P f R inner fails i _ _ refl

abbrev RoomGeometry : Kind → Geometry → Type 0
RoomGeometry AtNumber g = IsWithinCounts g
RoomGeometry AtPosition g = length (written_positions g) ≡ position_limit + 1
RoomGeometry AtPart g = length (written_parts g) ≡ part_limit + 1

-- the counts of a list are those of its geometry, type by type: of a POINT
lone_counts : (k : Kind) (p : Position) → Room position_limit k p → RoomGeometry k (Point (Some p))
lone_counts AtNumber p long = (long, zero-le)
lone_counts AtPosition p full = absurd (omega (arith, full))
lone_counts AtPart p none = absurd none

-- of a MULTIPOINT
points_counts : (k : Kind) (ps : List Position) → RoomList position_limit k ps → RoomGeometry k (MultiPoint ps)
points_counts AtNumber ps fits = (fits, zero-le)
points_counts AtPosition ps full = full
points_counts AtPart ps none = absurd none

-- of a LINESTRING
line_counts : (k : Kind) (ps : List Position) → RoomList position_limit k ps → RoomGeometry k (LineString ps)
line_counts AtNumber ps fits = (fits, zero-le)
line_counts AtPosition ps full = full
line_counts AtPart ps none = absurd none

-- of a MULTILINESTRING
lines_counts : (k : Kind) (ls : List (List Position)) → RoomParts part_limit position_limit k ls → RoomGeometry k (MultiLineString ls)
lines_counts AtNumber ls fits = (fits.1, fits.0)
lines_counts AtPosition ls full = full
lines_counts AtPart ls full = full

-- of a POLYGON
rings_counts : (k : Kind) (ls : List (List Position)) → RoomParts part_limit position_limit k ls → RoomGeometry k (Polygon ls)
rings_counts AtNumber ls fits = (fits.1, fits.0)
rings_counts AtPosition ls full = full
rings_counts AtPart ls full = full

-- of a MULTIPOLYGON
polygons_counts : (k : Kind) (es : List (List (List Position))) → RoomParts part_limit position_limit k (joined_rings es) → RoomGeometry k (MultiPolygon es)
polygons_counts AtNumber es fits = (fits.1, fits.0)
polygons_counts AtPosition es full = full
polygons_counts AtPart es full = full

-- behind a type's name
named_fails : {A B C : Type 0} (own : List ℕ) (P : A → Rule) (f : B → List A) (R : Kind → B → Type 0) (make : B → Geometry) (inner : Reader (List C)) (result : List C → Geometry)
    → ((i : Input) → IfFails (inner i) (Stuck (λ x. Separated P (f x)) R i)) → ((x : B) (text : List ℕ) → (Word own ⨾ Body P (f x)) text → TaggedText (make x) text) → ((k : Kind) (x : B) → R k x → RoomGeometry k (make x))
    → (i j : Input) → Took i.left (Word own) j.left → total j ≡ total i → IfFails ((body inner >>= λ xs. pure (result xs)) j) (Stuck TaggedText RoomGeometry i)
named_fails own P f R make inner result fails so counts i j t e = then_fails (λ _ _. Unit {0}) (Stuck (λ x. Body P (f x)) R j) (Stuck TaggedText RoomGeometry i) (body inner j) _ (any_read (body inner j))
    (body_fails P f R inner fails j)
    (λ fault s. stuck_as (λ x. Word own ⨾ Body P (f x)) TaggedText R RoomGeometry make i fault so counts (stuck_behind (Word own) (λ x. Body P (f x)) R i j fault t e s)) (λ _ _ _. tt)

-- the one position of a POINT fails as a position does
lone_fails : (i : Input) → IfFails ((padded (position position_limit) >>= λ p. pure (p ∷ [])) i) (Stuck (λ p. Separated PositionText (p ∷ [])) (Room position_limit) i)
lone_fails i = then_fails (λ _ _. Unit {0}) (Stuck (λ p. Padded (PositionText p)) (Room position_limit) i) (Stuck (λ p. Separated PositionText (p ∷ [])) (Room position_limit) i)
    (padded (position position_limit) i) _ (any_read (padded (position position_limit) i))
    (padded_fails PositionText (Room position_limit) (position position_limit) (position_fails position_limit) i) (λ fault s. s) (λ _ _ _. tt)

-- name by name: behind it the body of that type fails, and an unknown name is W1
typed_fails : (at : ℕ) (name : List ℕ) (i j : Input) → i.left ≡ name ++ j.left → total j ≡ total i
    → (b1 b2 b3 b4 b5 b6 : Bool) → str_eq_ignore_ascii_case name (codes "POINT") ≡ b1 → str_eq_ignore_ascii_case name (codes "MULTIPOINT") ≡ b2
    → str_eq_ignore_ascii_case name (codes "LINESTRING") ≡ b3 → str_eq_ignore_ascii_case name (codes "MULTILINESTRING") ≡ b4 → str_eq_ignore_ascii_case name (codes "POLYGON") ≡ b5 → str_eq_ignore_ascii_case name (codes "MULTIPOLYGON") ≡ b6
    → IfFails ((if b1 then (lone >>= λ ps. pure (Point (first ps)))
    else if b2 then (positions point >>= λ ps. pure (MultiPoint ps))
    else if b3 then (positions position >>= λ ps. pure (LineString ps))
    else if b4 then (lists >>= λ ls. pure (MultiLineString ls))
    else if b5 then (lists >>= λ ls. pure (Polygon ls))
    else if b6 then (nested_lists >>= λ es. pure (MultiPolygon es))
    else refuse at) j) (Stuck TaggedText RoomGeometry i)
typed_fails at name i j split e true b2 b3 b4 b5 b6 e1 e2 e3 e4 e5 e6 = named_fails (codes "POINT") PositionText (λ p. p ∷ []) (Room position_limit) (λ p. Point (Some p))
    (padded (position position_limit) >>= λ p. pure (p ∷ [])) (λ ps. Point (first ps)) lone_fails (λ p text t. t) lone_counts i j (name, split, word_is name (codes "POINT") e1) e
typed_fails at name i j split e false true b3 b4 b5 b6 e1 e2 e3 e4 e5 e6 = named_fails (codes "MULTIPOINT") PointText (λ ps. ps) (RoomList position_limit) MultiPoint
    (separated point position_limit) MultiPoint (points_fails position_limit) (λ ps text t. t) points_counts i j (name, split, word_is name (codes "MULTIPOINT") e2) e
typed_fails at name i j split e false false true b4 b5 b6 e1 e2 e3 e4 e5 e6 = named_fails (codes "LINESTRING") PositionText (λ ps. ps) (RoomList position_limit) LineString
    (separated position position_limit) LineString (positions_fails position_limit) (λ ps text t. t) line_counts i j (name, split, word_is name (codes "LINESTRING") e3) e
typed_fails at name i j split e false false false true b5 b6 e1 e2 e3 e4 e5 e6 = named_fails (codes "MULTILINESTRING") LineText (λ ls. ls) (RoomParts part_limit position_limit) MultiLineString
    (parts part_limit position_limit) MultiLineString (parts_fails part_limit position_limit) (λ ls text t. t) lines_counts i j (name, split, word_is name (codes "MULTILINESTRING") e4) e
typed_fails at name i j split e false false false false true b6 e1 e2 e3 e4 e5 e6 = named_fails (codes "POLYGON") LineText (λ ls. ls) (RoomParts part_limit position_limit) Polygon
    (parts part_limit position_limit) Polygon (parts_fails part_limit position_limit) (λ ls text t. t) rings_counts i j (name, split, word_is name (codes "POLYGON") e5) e
typed_fails at name i j split e false false false false false true e1 e2 e3 e4 e5 e6 = named_fails (codes "MULTIPOLYGON") PolygonText (λ es. es) (λ k es. RoomParts part_limit position_limit k (joined_rings es)) MultiPolygon
    (polygons part_limit part_limit position_limit) MultiPolygon (polygons_fails part_limit part_limit position_limit) (λ es text t. t) polygons_counts i j (name, split, word_is name (codes "MULTIPOLYGON") e6) e
typed_fails at name i j split e false false false false false false e1 e2 e3 e4 e5 e6 = tt

-- so the text of a type fails in its body, behind the name that was read
tagged_fails : Fails TaggedText RoomGeometry tagged
unfolding tagged typed
tagged_fails i = let m = prefix_len is_ascii_alphabetic i.left in
    typed_fails i.at (take m i.left) i (after m i) (sym (take-append-drop m i.left)) (run_keeps is_ascii_alphabetic i) _ _ _ _ _ _ refl refl refl refl refl refl

-- what is left behind a geometry is W1
ended_quiet : (i : Input) (g : Geometry) (j : Input) (empty : Bool) → IfFails (and_then (if empty then Ok (true, j) else Err (Syntax j.at)) (λ _. pure g)) (Stuck Writes RoomGeometry i)
ended_quiet i g j true = tt
ended_quiet i g j false = tt

-- so a whole text that fails other than as W1 could go on as a text of the grammar from the fault on
whole_fails : (i : Input) → IfFails (whole i) (Stuck Writes RoomGeometry i)
unfolding whole
whole_fails i = then_fails (λ _ _. Unit {0}) (Stuck Writes RoomGeometry i) (Stuck Writes RoomGeometry i) (padded tagged i) _ (any_read (padded tagged i))
    (padded_fails TaggedText RoomGeometry tagged tagged_fails i) (λ fault s. s) (λ g j _. ended_quiet i g j (length j.left == 0))

-- the law

-- the fault that is returned is the one with which reading failed
returned : (Q : TextFault → Type 0) (r : Result (Geometry × Input) TextFault) (fault : TextFault) → IfFails r Q → outcome r ≡ Err fault → Unless Q fault
returned Q (Ok found) fault fails e = absurd cc
returned Q (Err f) fault fails e = let same : f ≡ fault = cc in subst (Unless Q) same fails

abbrev start : List ℕ → Input
start text = record { left = text; at = 0 }

-- no byte is lost, so the byte of the fault is as far on as what comes before it is long
place_is : (at : ℕ) (used tail text : List ℕ) → text ≡ used ++ tail → at + length tail ≡ 0 + length text → at ≡ length used
place_is at used tail text split e = omega (arith, ap length split, length-append used tail, e)

-- the text before the fault begins a geometry, with a plus behind it
takes_number : (used mark more closing : List ℕ) (g : Geometry) → mark ≡ codes "+" ++ more → Writes g (used ++ (mark ++ closing)) → IsWithinCounts g → TakesNumber used
takes_number used mark more closing g is goes counts = (
  more ++ closing,
  geometry_of g,
  record {
    written = g;
    spelled = subst (Writes g) (ap (λ m. used ++ (m ++ closing)) is ∙ sym (append_assoc used (codes "+") (more ++ closing))) goes;
    counts = counts;
    meant = refl;
  },
)

-- so a number is at that byte, where a new number can be there
has_number : (text : List ℕ) (at : ℕ) (m : Bool) (w f used tail mark closing : List ℕ) (g : Geometry) → text ≡ used ++ tail → at + length tail ≡ 0 + length text → Marks AtNumber mark
    → Writes g (used ++ (mark ++ closing)) → IsWithinCounts g → IsFirstNumber tail m w f → HasNumber text at m w f
has_number text at m w f used tail mark closing g split e marked goes counts first = record {
  front = used;
  tail = tail;
  split = split;
  place = place_is at used tail text split e;
  begins = takes_number used mark marked.0 closing g marked.1 goes counts;
  number = first;
}

-- a number that failed as W2 shows that W2 applies there
off_grid : (text : List ℕ) (at : ℕ) (k : Kind) (used tail mark closing : List ℕ) (g : Geometry) → text ≡ used ++ tail → What k (OffGrid at) tail → at + length tail ≡ 0 + length text → Marks k mark
    → Writes g (used ++ (mark ++ closing)) → RoomGeometry k g → IsOffGrid text at
off_grid text at AtNumber used tail mark closing g split what e marked goes counts = record {
  minus = what.0;
  whole = what.1;
  fraction = what.2;
  number = has_number text at what.0 what.1 what.2 used tail mark closing g split e marked goes counts what.3;
  not_whole = what.4;
}
off_grid text at AtPosition used tail mark closing g split what e marked goes counts = absurd what
off_grid text at AtPart used tail mark closing g split what e marked goes counts = absurd what

-- one that failed as W3 shows that W3 applies
out_of_range : (text : List ℕ) (at : ℕ) (k : Kind) (used tail mark closing : List ℕ) (g : Geometry) → text ≡ used ++ tail → What k (OutOfRange at) tail → at + length tail ≡ 0 + length text → Marks k mark
    → Writes g (used ++ (mark ++ closing)) → RoomGeometry k g → IsOutOfRange text at
out_of_range text at AtNumber used tail mark closing g split what e marked goes counts = record {
  minus = what.0;
  whole = what.1;
  fraction = what.2;
  number = has_number text at what.0 what.1 what.2 used tail mark closing g split e marked goes counts what.3;
  is_whole = what.4;
  past = what.5;
}
out_of_range text at AtPosition used tail mark closing g split what e marked goes counts = absurd what
out_of_range text at AtPart used tail mark closing g split what e marked goes counts = absurd what

-- and a position or part that failed as W4 shows that W4 applies, by that position or part
too_many : (text : List ℕ) (k : Kind) (used tail mark closing : List ℕ) (g : Geometry) → text ≡ used ++ tail → What k TooLong tail → Marks k mark
    → Writes g (used ++ (mark ++ closing)) → list_any begins_more closing ≡ false → RoomGeometry k g → HasTooManyPositions text ⊎ HasTooManyParts text
too_many text AtNumber used tail mark closing g split what marked goes none counts = absurd what
too_many text AtPosition used tail mark closing g split what marked goes none counts = inl (record {
  front = used;
  tail = tail;
  split = split;
  minus = what.0;
  whole = what.1;
  fraction = what.2;
  number = what.3;
  closing = closing;
  no_more = none;
  written = g;
  spelled = subst (Writes g) (ap (λ m. used ++ (m ++ closing)) marked ∙ sym (append_assoc used (codes "+0 0") closing)) goes;
  counted = counts;
})
too_many text AtPart used tail mark closing g split what marked goes none counts = inr (record {
  front = used;
  tail = what.0;
  split = split ∙ (ap (λ r. used ++ r) what.1 ∙ sym (append_assoc used (codes "(") what.0));
  closing = closing;
  no_more = none;
  written = g;
  spelled = subst (Writes g) (ap (λ m. used ++ (m ++ closing)) marked ∙ sym (append_assoc used (codes "(+0 0") closing)) goes;
  counted = counts;
})

-- reading that failed shows a text of the grammar that begins like this one up to the fault, so the fault applies
pub refusals_apply : RefusalsApply
unfolding read_text
refusals_apply text at = let i = start text in (
  (λ e. let s = returned (Stuck Writes RoomGeometry i) (whole i) (OffGrid at) (whole_fails i) e in
      off_grid text at s.kind s.used s.tail s.mark s.closing s.x s.split s.what s.place s.marked s.goes s.counts),
  (λ e. let s = returned (Stuck Writes RoomGeometry i) (whole i) (OutOfRange at) (whole_fails i) e in
      out_of_range text at s.kind s.used s.tail s.mark s.closing s.x s.split s.what s.place s.marked s.goes s.counts),
  (λ e. let s = returned (Stuck Writes RoomGeometry i) (whole i) TooLong (whole_fails i) e in
      too_many text s.kind s.used s.tail s.mark s.closing s.x s.split s.what s.marked s.goes s.no_more s.counts),
)
