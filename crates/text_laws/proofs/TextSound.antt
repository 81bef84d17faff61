-- What is read is spelled.
use Rattle.std.proofs.Common.{◌≡◌, refl, sym, ap, ◌∙◌, subst, ℕ, zero, suc, ◌+◌, ◌-◌, ◌<◌, ◌≤◌, ◌==◌, inl, inr, Bool, true, false, List, [], ◌∷◌, ◌++◌, length, take, drop, Result, Ok, Err, nat_lt, codes, if◌then◌else◌, take-append-drop, append-nil, suc-le-suc, zero-le, lt_irrefl}
use Rattle.std.specs.List.{prefix_len}
use Rattle.std.specs.Option.{option_to_list}
use Rattle.std.specs.Char.{is_ascii_alphabetic, is_ascii_digit}
use Rattle.std.specs.Str.{str_eq_ignore_ascii_case}
use Rattle.std.specs.Str.Parse.{digits_value}
use Rattle.std.proofs.lemmas.Bool.{true≢false, ltb-false}
use Rattle.basics.proofs.Lists.{front_passes}
use Rattle.geometry_model.specs.Points.{Position}
use Rattle.geometry_model.specs.Geometries.{Geometry, Point, MultiPoint, LineString, MultiLineString, Polygon, MultiPolygon, joined_rings}
use Rattle.geometry_model.specs.WellKnownText.{Rule, ◌⨾◌, Byte, Blank, Space, Padded, Enclosed, Word, Separated, Sign, Digits, Fraction, Numeral, Number, PositionText, PointText, LineText, PolygonText, Body, TaggedText, Writes, Spells, IsWithinCounts, coordinate_limit, position_limit, part_limit, is_white, is_whole}
use Rattle.geometry_model.specs.TextReading.{Input, Reader, FoundNumber, and_then, pure, after, begins_with, refuse, too_long, run, eat, ◌>>◌, ◌>>=◌, expect, padded, enclosed, sign, fraction, numeral, coordinate, space, position, point, separated, line, parts, polygon, polygons, body, lone, first, positions, lists, nested_lists, typed, tagged, whole, outcome, read_text}
use Rattle.geometry_model.specs.declared.text_faults.TextFault.{TextFault}
use Rattle.geometry_model.specs.declared.text_faults.TextFault.TheVariants.{Syntax}
use Rattle.text_laws.specs.ReadingLaws.{ReadIsSpelled}
use Rattle.text_laws.proofs.RoomLists.{positions_in, items, ring, alone, itself, rings_of, alone_of, parts_are_items, polygons_are_items, FitsCounts, one_fits, both_fit}
use Rattle.text_laws.proofs.TextSteps.{stops, no_run, first_is, some, nothing, word_is, Took, both, took_run}

-- what is found, where something is, has the property
abbrev pub IfRead : {A : Type 0} → Result (A × Input) TextFault → (A → Input → Type 0) → Type 0
IfRead (Ok found) Q = Q found.0 found.1
IfRead (Err fault) Q = Unit {0}

-- what the first step found is known to the next, and what that finds is known of both
pub then_read : {A B : Type 0} (Q : A → Input → Type 0) (r : Result (A × Input) TextFault) (next : A → Reader B) (R : B → Input → Type 0)
    → IfRead r Q → ((x : A) (j : Input) → Q x j → IfRead (next x j) R) → IfRead (and_then r next) R
then_read Q (Ok found) next R read step = step found.0 found.1 read
then_read Q (Err fault) next R read step = tt

-- a fact of what is found gives what follows from it
weaker : {A : Type 0} (P Q : A → Input → Type 0) (r : Result (A × Input) TextFault) → ((x : A) (j : Input) → P x j → Q x j) → IfRead r P → IfRead r Q
weaker P Q (Ok found) so read = so found.0 found.1 read
weaker P Q (Err fault) so read = tt

-- a fact that doesn't depend on what is found is kept beside it
kept : {A R : Type 0} (P : A → Input → Type 0) (r : Result (A × Input) TextFault) → R → IfRead r P → IfRead r (λ x j. P x j × R)
kept P (Ok found) known read = (read, known)
kept P (Err fault) known read = tt

pub any_read : {A : Type 0} (r : Result (A × Input) TextFault) → IfRead r (λ _ _. Unit {0})
any_read (Ok found) = tt
any_read (Err fault) = tt

-- the step reads a text of the rule, and what it finds has the property
abbrev pub Sound : {A : Type 0} → (A → Rule) → (A → Type 0) → Reader A → Type 0
Sound P R step = (i : Input) → IfRead (step i) (λ x j. Took i.left (P x) j.left × R x)

-- the byte is there and is taken, or nothing is found
expected : (c : ℕ) (i : Input) (met : Bool) → begins_with (λ b. b == c) i.left ≡ met
    → IfRead ((if met then pure true else refuse i.at) (if met then after 1 i else i)) (λ _ j. Took i.left (Byte c) j.left)
expected c i true e = (c ∷ [], first_is c i.left e, refl)
expected c i false e = tt

-- a reader that found the byte has taken it, as the grammar does
pub expect_sound : (c : ℕ) (i : Input) → IfRead (expect c i) (λ _ j. Took i.left (Byte c) j.left)
expect_sound c i = expected c i (begins_with (λ b. b == c) i.left) refl

-- each step takes a text of its rule: white space, a text of the rule and white space are the rule with white space around it
pub padded_sound : {A : Type 0} (P : A → Rule) (R : A → Type 0) (step : Reader A) → Sound P R step → Sound (λ x. Padded (P x)) R (padded step)
padded_sound P R step sound i = let j = after (prefix_len is_white i.left) i in
    then_read (λ x k. Took j.left (P x) k.left × R x) (step j) _ _ (sound j)
    (λ x k took. let rest = drop (prefix_len is_white k.left) k.left in
    (both i.left j.left rest Blank (P x ⨾ Blank) (took_run is_white i.left) (both j.left k.left rest (P x) Blank took.0 (took_run is_white k.left)), took.1))

-- a parenthesis, a text of the rule and a parenthesis are the rule in parentheses
pub enclosed_sound : {A : Type 0} (P : A → Rule) (R : A → Type 0) (step : Reader A) → Sound P R step → Sound (λ x. Enclosed (P x)) R (enclosed step)
enclosed_sound P R step sound i = then_read (λ _ j. Took i.left (Byte 40) j.left) (expect 40 i) _ _ (expect_sound 40 i)
    (λ _ j open_took. then_read (λ x k. Took j.left (P x) k.left × R x) (step j) _ _ (sound j)
    (λ x k took. then_read (λ _ l. Took k.left (Byte 41) l.left) (expect 41 k) _ _ (expect_sound 41 k)
    (λ _ l close_took. (both i.left j.left l.left (Byte 40) (P x ⨾ Byte 41) open_took (both j.left k.left l.left (P x) (Byte 41) took.0 close_took), took.1))))

-- a minus, a plus or nothing is taken, and each of them is a sign
signed_minus : (i : Input) (met : Bool) → begins_with (λ b. b == 45) i.left ≡ met → (plus : Bool) → begins_with (λ b. b == 43) i.left ≡ plus
    → IfRead ((if met then pure true else (eat 43 >> pure false)) (if met then after 1 i else i)) (λ minus j. Took i.left (Sign minus) j.left)
signed_minus i true e plus f = (45 ∷ [], first_is 45 i.left e, refl)
signed_minus i false e true f = rw f (43 ∷ [], first_is 43 i.left f, inr refl)
signed_minus i false e false f = rw f ([], refl, inl refl)

-- so the sign that is found is the one that the grammar takes
pub sign_sound : (i : Input) → IfRead (sign i) (λ minus j. Took i.left (Sign minus) j.left)
unfolding sign
sign_sound i = signed_minus i (begins_with (λ b. b == 45) i.left) refl (begins_with (λ b. b == 43) i.left) refl

-- a point with the run of digits behind it is taken, or nothing
pointed : (i : Input) (met : Bool) → begins_with (λ b. b == 46) i.left ≡ met
    → IfRead ((if met then run is_ascii_digit else pure []) (if met then after 1 i else i)) (λ digits j. Took i.left (Fraction digits) j.left)
pointed i true e = let rest = drop 1 i.left in let n = prefix_len is_ascii_digit rest in
    let taken = both i.left rest (drop n rest) (Byte 46) (Digits (take n rest)) (46 ∷ [], first_is 46 i.left e, refl)
    (take n rest, sym (take-append-drop n rest), (refl, front_passes is_ascii_digit rest)) in
    (taken.0, taken.1, inr taken.2)
pointed i false e = ([], refl, inl (refl, refl))

-- so the fraction that is found is one of the grammar
pub fraction_sound : (i : Input) → IfRead (fraction i) (λ digits j. Took i.left (Fraction digits) j.left)
unfolding fraction
fraction_sound i = pointed i (begins_with (λ b. b == 46) i.left) refl

-- a sign, digits and a fraction are a number of the grammar where they have a digit; without one they are refused
numeral_ends : (i k : Input) (at : ℕ) (minus : Bool) (integer digits : List ℕ) (empty : Bool) → (length integer + length digits == 0) ≡ empty
    → Took i.left (Sign minus ⨾ Digits integer ⨾ Fraction digits) k.left
    → IfRead {A = FoundNumber} ((if empty then refuse at else pure (record { at = at; minus = minus; whole = integer; fraction = digits })) k)
    (λ n l. Took i.left (Numeral n.minus n.whole n.fraction) l.left)
numeral_ends i k at minus integer digits true e taken = tt
numeral_ends i k at minus integer digits false e taken = (taken.0, taken.1, (taken.2, some (length integer + length digits) e))

-- a number that is found is a number of the grammar
pub numeral_sound : (i : Input) → IfRead (numeral i) (λ n j. Took i.left (Numeral n.minus n.whole n.fraction) j.left)
unfolding numeral
numeral_sound i = then_read (λ minus j. Took i.left (Sign minus) j.left) (sign i) _ _ (sign_sound i)
    (λ minus j sign_took. let n = prefix_len is_ascii_digit j.left in let k = after n j in
    then_read (λ digits l. Took k.left (Fraction digits) l.left) (fraction k) _ _ (fraction_sound k)
    (λ digits l fraction_took. numeral_ends i l i.at minus (take n j.left) digits _ refl
    (both i.left j.left l.left (Sign minus) (Digits (take n j.left) ⨾ Fraction digits) sign_took
    (both j.left k.left l.left (Digits (take n j.left)) (Fraction digits)
    (take n j.left, sym (take-append-drop n j.left), (refl, front_passes is_ascii_digit j.left)) fraction_took))))

-- a number is found only where it is whole and its size within the limit
within : (n : FoundNumber) (i : Input) (from : List ℕ) → Took from (Numeral n.minus n.whole n.fraction) i.left
    → (integral past : Bool) → is_whole n.fraction ≡ integral → nat_lt coordinate_limit (digits_value 10 n.whole) ≡ past
    → IfRead (coordinate n i) (λ z j. Took from (Number z) j.left)
unfolding coordinate
within n i from taken false past e f = rw e tt
within n i from taken true true e f = rw (e, f) tt
within n i from taken true false e f = rw (e, f) (taken.0, taken.1, (n.minus, n.whole, n.fraction, taken.2, e, ltb-false coordinate_limit (digits_value 10 n.whole) f, refl))

-- so the coordinate that is found is what the number taken stands for
pub number_sound : (n : FoundNumber) (i : Input) (from : List ℕ) → Took from (Numeral n.minus n.whole n.fraction) i.left → IfRead (coordinate n i) (λ z j. Took from (Number z) j.left)
number_sound n i from taken = within n i from taken _ _ refl refl

-- white space of no byte is refused
spaced : (i : Input) (empty : Bool) → (length (take (prefix_len is_white i.left) i.left) == 0) ≡ empty
    → IfRead ((if empty then refuse i.at else pure (take (prefix_len is_white i.left) i.left)) (after (prefix_len is_white i.left) i)) (λ _ j. Took i.left Space j.left)
spaced i true e = tt
spaced i false e = let n = prefix_len is_white i.left in
    (take n i.left, sym (take-append-drop n i.left), (some (length (take n i.left)) e, front_passes is_white i.left))

-- so white space that is found is of one byte or more
pub space_sound : (i : Input) → IfRead (space i) (λ _ j. Took i.left Space j.left)
unfolding space
space_sound i = spaced i _ refl

-- the first number of a position
pub first_sound : (room : ℕ) (n : FoundNumber) (i : Input) (from : List ℕ) → Took from (Numeral n.minus n.whole n.fraction) i.left → (full : Bool) → (room == 0) ≡ full
    → IfRead ((if full then too_long else coordinate n) i) (λ z j. Took from (Number z) j.left × (0 < room))
first_sound room n i from taken true e = tt
first_sound room n i from taken false e = kept (λ z j. Took from (Number z) j.left) (coordinate n i) (some room e) (number_sound n i from taken)

-- a position is a number, white space and a number; one is found only where it may come
pub position_sound : (room : ℕ) → Sound PositionText (λ _. 0 < room) (position room)
unfolding position
position_sound room i =
    then_read (λ n j. Took i.left (Numeral n.minus n.whole n.fraction) j.left) (numeral i) _ _ (numeral_sound i)
    (λ n j first_numeral. then_read (λ x k. Took i.left (Number x) k.left × (0 < room)) _ _ _ (first_sound room n j i.left first_numeral _ refl)
    (λ x k first. then_read (λ _ l. Took k.left Space l.left) (space k) _ _ (space_sound k)
    (λ _ l white. then_read (λ m o. Took l.left (Numeral m.minus m.whole m.fraction) o.left) (numeral l) _ _ (numeral_sound l)
    (λ m o second_numeral. then_read (λ y q. Took l.left (Number y) q.left) (coordinate m o) _ _ (number_sound m o l.left second_numeral)
    (λ y q second. (both i.left k.left q.left (Number x) (Space ⨾ Number y) first.0 (both k.left l.left q.left Space (Number y) white second), first.1))))))

-- a step that takes texts of one rule takes those of another, where each text of the one is a text of the other
left_of : {A : Type 0} (P Q : A → Rule) (room : ℕ) (step : Reader A) → ((x : A) (text : List ℕ) → P x text → Q x text) → Sound P (λ _. 0 < room) step → Sound Q (λ _. 0 < room) step
left_of P Q room step so sound i = weaker (λ x j. Took i.left (P x) j.left × (0 < room)) (λ x j. Took i.left (Q x) j.left × (0 < room)) (step i)
    (λ x j taken. ((taken.0.0, taken.0.1, so x taken.0.0 taken.0.2), taken.1)) (sound i)

-- the next byte chooses between the two forms of a point, and each of them is in the grammar
enclosed_or_not : (room : ℕ) (i : Input) (open_comes : Bool)
    → IfRead ((if open_comes then enclosed (padded (position room)) else position room) i) (λ p j. Took i.left (PointText p) j.left × (0 < room))
enclosed_or_not room i true = left_of (λ p. Enclosed (Padded (PositionText p))) PointText room (enclosed (padded (position room))) (λ p text taken. inr taken)
    (enclosed_sound (λ p. Padded (PositionText p)) (λ _. 0 < room) (padded (position room)) (padded_sound PositionText (λ _. 0 < room) (position room) (position_sound room))) i
enclosed_or_not room i false = left_of PositionText PointText room (position room) (λ p text taken. inl taken) (position_sound room) i

pub point_sound : (room : ℕ) → Sound PointText (λ _. 0 < room) (point room)
unfolding point
point_sound room i = enclosed_or_not room i (begins_with (λ c. c == 40) i.left)

-- a part, a comma, and more parts
joined : {A : Type 0} (P : A → Rule) (x : A) (more : List A) (us bs cs ds : List ℕ) → Took us (Padded (P x)) bs → Took bs (Byte 44) cs → Took cs (Separated P more) ds
    → Took us (Separated P (x ∷ more)) ds
joined P x [] us bs cs ds one comma others = absurd others.2
joined P x (y ∷ more) us bs cs ds one comma others = both us bs ds (Padded (P x)) (Byte 44 ⨾ Separated P (y ∷ more)) one
    (both bs cs ds (Byte 44) (Separated P (y ∷ more)) comma others)

-- a comma and a list that fits the room that is left, or the end of the list
goes_on : {A : Type 0} (P : A → Rule) (room : ℕ) (next : Reader (List A)) → Sound (Separated P) (λ xs. length xs ≤ room) next
    → (from : List ℕ) (x : A) (j : Input) → Took from (Padded (P x)) j.left → (met : Bool) → begins_with (λ b. b == 44) j.left ≡ met
    → IfRead ((if met then (next >>= λ more. pure (x ∷ more)) else pure (x ∷ [])) (if met then after 1 j else j)) (λ xs k. Took from (Separated P xs) k.left × (length xs ≤ suc room))
goes_on P room next sound from x j one true e = then_read (λ more k. Took (drop 1 j.left) (Separated P more) k.left × (length more ≤ room)) (next (after 1 j)) _ _ (sound (after 1 j))
    (λ more k others. (joined P x more from j.left (drop 1 j.left) k.left one (44 ∷ [], first_is 44 j.left e, refl) others.0, suc-le-suc others.1))
goes_on P room next sound from x j one false e = (one, suc-le-suc zero-le)

-- items with commas between are a list of the grammar, of no more items than may come
pub separated_sound : {A : Type 0} (P : A → Rule) (item : ℕ → Reader A) → ((room : ℕ) → Sound P (λ _. 0 < room) (item room))
    → (room : ℕ) → Sound (Separated P) (λ xs. length xs ≤ room) (separated item room)
unfolding separated
separated_sound P item sound zero i = then_read (λ x j. Took i.left (Padded (P x)) j.left × (0 < 0)) (padded (item zero) i) _ _ (padded_sound P (λ _. 0 < 0) (item zero) (sound zero) i)
    (λ x j taken. absurd (lt_irrefl 0 taken.1))
separated_sound P item sound (suc room) i = then_read (λ x j. Took i.left (Padded (P x)) j.left × (0 < suc room)) (padded (item (suc room)) i) _ _
    (padded_sound P (λ _. 0 < suc room) (item (suc room)) (sound (suc room)) i)
    (λ x j taken. goes_on P room (separated item room) (separated_sound P item sound room) i.left x j taken.0 _ refl)

-- such a list of positions in parentheses is a line
pub line_sound : (room : ℕ) → Sound LineText (λ xs. length xs ≤ room) (line room)
unfolding line
line_sound room = enclosed_sound (Separated PositionText) (λ xs. length xs ≤ room) (separated position room) (separated_sound PositionText position position_sound room)

-- items, and what they use up of the rooms
more_items : {A : Type 0} (P : A → Rule) (rings : A → List (List Position)) (count room : ℕ) (next : Reader (List A)) (x : A) → FitsCounts count room (rings x)
    → Sound (Separated P) (λ xs. FitsCounts (count - length (rings x)) (room - positions_in (rings x)) (rings_of rings xs)) next
    → (from : List ℕ) (j : Input) → Took from (Padded (P x)) j.left → (met : Bool) → begins_with (λ b. b == 44) j.left ≡ met
    → IfRead ((if met then (next >>= λ more. pure (x ∷ more)) else pure (x ∷ [])) (if met then after 1 j else j))
    (λ xs k. Took from (Separated P xs) k.left × FitsCounts count room (rings_of rings xs))
more_items P rings count room next x fits sound from j one true e =
    then_read (λ more k. Took (drop 1 j.left) (Separated P more) k.left × FitsCounts (count - length (rings x)) (room - positions_in (rings x)) (rings_of rings more)) (next (after 1 j)) _ _ (sound (after 1 j))
    (λ more k others. (
      joined P x more from j.left (drop 1 j.left) k.left one (44 ∷ [], first_is 44 j.left e, refl) others.0,
      both_fit count room (rings x) (rings_of rings more) fits others.1,
    ))
more_items P rings count room next x fits sound from j one false e = (one, one_fits count room (rings x) fits)

-- items that each fit what those before them left are a list of the grammar, which fits both counts
items_sound : {A : Type 0} (P : A → Rule) (item : ℕ → ℕ → Reader A) (rings : A → List (List Position)) → ((count room : ℕ) → Sound P (λ x. FitsCounts count room (rings x)) (item count room))
    → (turns count room : ℕ) → Sound (Separated P) (λ xs. FitsCounts count room (rings_of rings xs)) (items item rings turns count room)
unfolding items
items_sound P item rings sound zero count room i = then_read (λ x j. Took i.left (Padded (P x)) j.left × FitsCounts count room (rings x)) (padded (item count room) i) _ _
    (padded_sound P (λ x. FitsCounts count room (rings x)) (item count room) (sound count room) i)
    (λ x j taken. (taken.0, one_fits count room (rings x) taken.1))
items_sound P item rings sound (suc turns) count room i = then_read (λ x j. Took i.left (Padded (P x)) j.left × FitsCounts count room (rings x)) (padded (item count room) i) _ _
    (padded_sound P (λ x. FitsCounts count room (rings x)) (item count room) (sound count room) i)
    (λ x j taken. more_items P rings count room (items item rings turns (count - length (rings x)) (room - positions_in (rings x))) x taken.1
    (items_sound P item rings sound turns (count - length (rings x)) (room - positions_in (rings x))) i.left j taken.0 _ refl)

-- rings and elements
-- a ring is found only where a part may come, and it is a line then
pub ring_sound : (count room : ℕ) → Sound LineText (λ x. FitsCounts count room (alone x)) (ring count room)
unfolding ring
ring_sound zero room i = then_read (λ _ _. Unit {0}) (expect 40 i) _ _ (any_read (expect 40 i)) (λ _ j _. tt)
ring_sound (suc count) room i = weaker (λ x j. Took i.left (LineText x) j.left × (length x ≤ room)) (λ x j. Took i.left (LineText x) j.left × FitsCounts (suc count) room (alone x)) (line room i)
    (λ x j taken. (taken.0, (suc-le-suc zero-le, rw (append-nil x) taken.1))) (line_sound room i)

-- elements and rings are such items, each of them one part
pub parts_sound : (count room : ℕ) → Sound (Separated LineText) (FitsCounts count room) (parts count room)
parts_sound count room i = rw (parts_are_items count room i)
    (weaker (λ xs j. Took i.left (Separated LineText xs) j.left × FitsCounts count room (rings_of alone xs)) (λ xs j. Took i.left (Separated LineText xs) j.left × FitsCounts count room xs)
    (items ring alone count count room i) (λ xs j taken. (taken.0, subst (FitsCounts count room) (alone_of xs) taken.1)) (items_sound LineText ring alone ring_sound count count room i))

-- polygons
-- a polygon is a list of rings in parentheses
pub polygon_sound : (count room : ℕ) → Sound PolygonText (FitsCounts count room) (polygon count room)
unfolding polygon
polygon_sound count room = enclosed_sound (Separated LineText) (FitsCounts count room) (parts count room) (parts_sound count room)

-- polygons are items that count by their rings
pub polygons_sound : (turns count room : ℕ) → Sound (Separated PolygonText) (λ xs. FitsCounts count room (joined_rings xs)) (polygons turns count room)
polygons_sound turns count room i = rw (polygons_are_items turns count room i) (items_sound PolygonText polygon itself polygon_sound turns count room i)

-- a list in parentheses has an item, since the grammar takes no empty list
pub in_parentheses : {A : Type 0} (P : A → Rule) (xs : List A) (us bs cs : List ℕ) → Took us Blank bs → Took bs (Enclosed (Separated P xs)) cs → Took us (Body P xs) cs
in_parentheses P [] us bs cs white taken = absurd taken.2.4.3
in_parentheses P (x ∷ more) us bs cs white taken = both us bs cs Blank (Enclosed (Separated P (x ∷ more))) white taken

-- a word that begins where no letter is has white space before it
pub spaced_word : (left : List ℕ) → begins_with is_ascii_alphabetic left ≡ false → (n : ℕ) (empty : Bool) → (length (take n left) == 0) ≡ empty
    → (length (take (prefix_len is_ascii_alphabetic (drop n left)) (drop n left)) == 0) ≡ false → 0 < length (take n left)
spaced_word left quiet n false e f = some (length (take n left)) e
spaced_word left quiet n true e f =
    let same : left ≡ drop n left = sym (take-append-drop n left) ∙ ap (λ xs. xs ++ drop n left) (nothing (take n left) e) in
    let none : prefix_len is_ascii_alphabetic (drop n left) ≡ 0 = no_run is_ascii_alphabetic (drop n left) (ap (begins_with is_ascii_alphabetic) (sym same) ∙ quiet) in
    absurd (true≢false (ap (λ m. length (take m (drop n left)) == 0) (sym none) ∙ f))

-- behind white space, and behind a word
abbrev pub behind : Input → Input
behind i = after (prefix_len is_white i.left) i

abbrev pub past_word : Input → Input
past_word j = after (prefix_len is_ascii_alphabetic j.left) j

abbrev pub word_at : Input → List ℕ
word_at j = take (prefix_len is_ascii_alphabetic j.left) j.left

-- the word that is there chooses: none and a list in parentheses, EMPTY and no items, another word and a refusal
bodied : {A : Type 0} (P : A → Rule) (R : List A → Type 0) (inner : Reader (List A)) → R [] → Sound (Separated P) R inner
    → (i : Input) → begins_with is_ascii_alphabetic i.left ≡ false
    → (empty named : Bool) → (length (word_at (behind i)) == 0) ≡ empty → str_eq_ignore_ascii_case (word_at (behind i)) (codes "EMPTY") ≡ named
    → IfRead ((if empty then enclosed inner else (if named then pure [] else refuse (behind i).at)) (past_word (behind i))) (λ xs l. Took i.left (Body P xs) l.left × R xs)
bodied P R inner base sound i quiet true named e f =
    let n = prefix_len is_white i.left in let j = behind i in let k = past_word j in
    let same : j.left ≡ k.left = sym (take-append-drop (prefix_len is_ascii_alphabetic j.left) j.left) ∙ ap (λ w. w ++ k.left) (nothing (word_at j) e) in
    weaker (λ xs l. Took k.left (Enclosed (Separated P xs)) l.left × R xs) _ (enclosed inner k)
    (λ xs l taken. (
      in_parentheses P xs i.left k.left l.left
          (take n i.left, sym (take-append-drop n i.left) ∙ ap (λ r. take n i.left ++ r) same, front_passes is_white i.left) taken.0,
      taken.1,
    ))
    (enclosed_sound (Separated P) R inner sound k)
bodied P R inner base sound i quiet false true e f =
    let n = prefix_len is_white i.left in let j = behind i in let k = past_word j in (
      both i.left j.left k.left Space (Word (codes "EMPTY"))
          (take n i.left, sym (take-append-drop n i.left), (spaced_word i.left quiet n _ refl e, front_passes is_white i.left))
          (word_at j, sym (take-append-drop (prefix_len is_ascii_alphabetic j.left) j.left), word_is (word_at j) (codes "EMPTY") f),
      base,
    )
bodied P R inner base sound i quiet false false e f = tt

-- a body of the grammar is taken; white space is before EMPTY, because no letter is where the name ended
pub body_sound : {A : Type 0} (P : A → Rule) (R : List A → Type 0) (inner : Reader (List A)) → R [] → Sound (Separated P) R inner
    → (i : Input) → begins_with is_ascii_alphabetic i.left ≡ false → IfRead (body inner i) (λ xs j. Took i.left (Body P xs) j.left × R xs)
unfolding body
body_sound P R inner base sound i quiet = bodied P R inner base sound i quiet _ _ refl refl

-- the positions of a POINT: one or none
abbrev IsLone : List Position → Type 0
IsLone ps = (option_to_list (first ps) ≡ ps) × (length ps ≤ position_limit)

-- behind POINT is one position, or EMPTY
pub lone_sound : (i : Input) → begins_with is_ascii_alphabetic i.left ≡ false → IfRead (lone i) (λ ps j. Took i.left (Body PositionText ps) j.left × IsLone ps)
lone_sound i quiet = body_sound PositionText IsLone _ (refl, zero-le)
    (λ k. then_read (λ p l. Took k.left (Padded (PositionText p)) l.left × (0 < position_limit)) (padded (position position_limit) k) _ _
    (padded_sound PositionText (λ _. 0 < position_limit) (position position_limit) (position_sound position_limit) k)
    (λ p l taken. (taken.0, (refl, taken.1))))
    i quiet

-- what comes after the name is known by the name
abbrev Tagged : List ℕ → Geometry → Input → Type 0
Tagged from g j = Took from (TaggedText g) j.left × IsWithinCounts g

-- name by name: the name and the body behind it are the text of that type, and its counts are kept
typed_by : (at : ℕ) (name : List ℕ) (i : Input) (from : List ℕ) → begins_with is_ascii_alphabetic i.left ≡ false → from ≡ name ++ i.left
    → (b1 b2 b3 b4 b5 b6 : Bool) → str_eq_ignore_ascii_case name (codes "POINT") ≡ b1 → str_eq_ignore_ascii_case name (codes "MULTIPOINT") ≡ b2
    → str_eq_ignore_ascii_case name (codes "LINESTRING") ≡ b3 → str_eq_ignore_ascii_case name (codes "MULTILINESTRING") ≡ b4 → str_eq_ignore_ascii_case name (codes "POLYGON") ≡ b5 → str_eq_ignore_ascii_case name (codes "MULTIPOLYGON") ≡ b6
    → IfRead ((if b1 then (lone >>= λ ps. pure (Point (first ps)))
    else if b2 then (positions point >>= λ ps. pure (MultiPoint ps))
    else if b3 then (positions position >>= λ ps. pure (LineString ps))
    else if b4 then (lists >>= λ ls. pure (MultiLineString ls))
    else if b5 then (lists >>= λ ls. pure (Polygon ls))
    else if b6 then (nested_lists >>= λ es. pure (MultiPolygon es))
    else refuse at) i) (Tagged from)
typed_by at name i from quiet whole_is true b2 b3 b4 b5 b6 e1 e2 e3 e4 e5 e6 = then_read (λ ps j. Took i.left (Body PositionText ps) j.left × IsLone ps) (lone i) _ _ (lone_sound i quiet)
    (λ ps j taken. (
      both from i.left j.left (Word (codes "POINT")) (Body PositionText (option_to_list (first ps))) (name, whole_is, word_is name (codes "POINT") e1)
          (rw taken.1.0 taken.0),
      (rw taken.1.0 taken.1.1, zero-le),
    ))
typed_by at name i from quiet whole_is false true b3 b4 b5 b6 e1 e2 e3 e4 e5 e6 = then_read (λ ps j. Took i.left (Body PointText ps) j.left × (length ps ≤ position_limit)) (positions point i) _ _
    (body_sound PointText (λ ps. length ps ≤ position_limit) _ zero-le (separated_sound PointText point point_sound position_limit) i quiet)
    (λ ps j taken. (both from i.left j.left (Word (codes "MULTIPOINT")) (Body PointText ps) (name, whole_is, word_is name (codes "MULTIPOINT") e2) taken.0, (taken.1, zero-le)))
typed_by at name i from quiet whole_is false false true b4 b5 b6 e1 e2 e3 e4 e5 e6 = then_read (λ ps j. Took i.left (Body PositionText ps) j.left × (length ps ≤ position_limit)) (positions position i) _ _
    (body_sound PositionText (λ ps. length ps ≤ position_limit) _ zero-le (separated_sound PositionText position position_sound position_limit) i quiet)
    (λ ps j taken. (both from i.left j.left (Word (codes "LINESTRING")) (Body PositionText ps) (name, whole_is, word_is name (codes "LINESTRING") e3) taken.0, (taken.1, zero-le)))
typed_by at name i from quiet whole_is false false false true b5 b6 e1 e2 e3 e4 e5 e6 = then_read (λ ls j. Took i.left (Body LineText ls) j.left × FitsCounts part_limit position_limit ls) (lists i) _ _
    (body_sound LineText (FitsCounts part_limit position_limit) _ (zero-le, zero-le) (parts_sound part_limit position_limit) i quiet)
    (λ ls j taken. (both from i.left j.left (Word (codes "MULTILINESTRING")) (Body LineText ls) (name, whole_is, word_is name (codes "MULTILINESTRING") e4) taken.0, (taken.1.1, taken.1.0)))
typed_by at name i from quiet whole_is false false false false true b6 e1 e2 e3 e4 e5 e6 = then_read (λ ls j. Took i.left (Body LineText ls) j.left × FitsCounts part_limit position_limit ls) (lists i) _ _
    (body_sound LineText (FitsCounts part_limit position_limit) _ (zero-le, zero-le) (parts_sound part_limit position_limit) i quiet)
    (λ ls j taken. (both from i.left j.left (Word (codes "POLYGON")) (Body LineText ls) (name, whole_is, word_is name (codes "POLYGON") e5) taken.0, (taken.1.1, taken.1.0)))
typed_by at name i from quiet whole_is false false false false false true e1 e2 e3 e4 e5 e6 = then_read (λ es j. Took i.left (Body PolygonText es) j.left × FitsCounts part_limit position_limit (joined_rings es)) (nested_lists i) _ _
    (body_sound PolygonText (λ es. FitsCounts part_limit position_limit (joined_rings es)) _ (zero-le, zero-le) (polygons_sound part_limit part_limit position_limit) i quiet)
    (λ es j taken. (both from i.left j.left (Word (codes "MULTIPOLYGON")) (Body PolygonText es) (name, whole_is, word_is name (codes "MULTIPOLYGON") e6) taken.0, (taken.1.1, taken.1.0)))
typed_by at name i from quiet whole_is false false false false false false e1 e2 e3 e4 e5 e6 = tt

-- the name takes all letters that are there, so no letter is where the body begins
tagged_sound : Sound TaggedText IsWithinCounts tagged
unfolding tagged typed
tagged_sound i = let m = prefix_len is_ascii_alphabetic i.left in
    typed_by i.at (take m i.left) (after m i) i.left (stops is_ascii_alphabetic i.left) (sym (take-append-drop m i.left)) _ _ _ _ _ _ refl refl refl refl refl refl

-- nothing is left behind the text that was taken, so it is the whole text
ended : (text : List ℕ) (g : Geometry) (j : Input) → Took text (Writes g) j.left → IsWithinCounts g → (empty : Bool) → (length j.left == 0) ≡ empty
    → IfRead (and_then (if empty then Ok (true, j) else Err (Syntax j.at)) (λ _. pure g)) (λ h _. Writes h text × IsWithinCounts h)
ended text g j taken counts true e = (subst (Writes g) (sym (taken.1 ∙ ap (λ r. taken.0 ++ r) (nothing j.left e) ∙ append-nil taken.0)) taken.2, counts)
ended text g j taken counts false e = tt

-- what is found of a whole text writes that text, and is within the counts
whole_sound : (i : Input) → IfRead (whole i) (λ g _. Writes g i.left × IsWithinCounts g)
unfolding whole
whole_sound i = then_read (λ g j. Took i.left (Writes g) j.left × IsWithinCounts g) (padded tagged i) _ _ (padded_sound TaggedText IsWithinCounts tagged tagged_sound i)
    (λ g j taken. ended i.left g j taken.0 taken.1 _ refl)

-- the answer is the geometry of what was found, so the text spells it
spelled : (text : List ℕ) (r : Result (Geometry × Input) TextFault) → IfRead r (λ g _. Writes g text × IsWithinCounts g) → (g : Geometry) → outcome r ≡ Ok g → Spells text g
spelled text (Ok found) known g e = record { written = found.0; spelled = known.0; counts = known.1; meant = cc }
spelled text (Err fault) known g e = absurd cc

-- the law
pub read_is_spelled : ReadIsSpelled
unfolding read_text
read_is_spelled text g e = spelled text (whole (record { left = text; at = 0 })) (whole_sound (record { left = text; at = 0 })) g e
