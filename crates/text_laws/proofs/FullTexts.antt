-- A text with more positions than the count allows is read as too long.
use Rattle.std.proofs.Common.{◌≡◌, refl, sym, ap, ◌∙◌, subst, ℕ, zero, suc, ◌-◌, ◌<◌, ◌≤◌, ◌==◌, ◌⊎◌, inl, inr, List, [], ◌∷◌, length, take, drop, Option, Some, None, Result, Ok, Err, codes, append-nil, le_of_suc-le-suc, zero-lt-suc, le_refl, arith}
use Rattle.std.specs.List.{prefix_len, flat_map}
use Rattle.std.specs.Char.{is_ascii_alphabetic}
use Rattle.geometry_model.specs.Points.{Position}
use Rattle.geometry_model.specs.Geometries.{Geometry, Point, MultiPoint, LineString, MultiLineString, Polygon, MultiPolygon, joined_rings}
use Rattle.geometry_model.specs.WellKnownText.{begins_with, written_parts, Rule, ◌⨾◌, Byte, Blank, Space, Padded, Enclosed, Separated, Number, PositionText, PointText, LineText, PolygonText, Body, TaggedText, Writes, IsWithinCounts, is_white, written_positions, position_limit, part_limit}
use Rattle.geometry_model.specs.TextReading.{Input, Reader, and_then, after, too_long, ◌>>◌, expect, padded, enclosed, numeral, position, point, separated, line, parts, polygon, polygons, body, positions, lists, nested_lists, typed, tagged, whole, outcome, read_text}
use Rattle.geometry_model.specs.declared.text_faults.TextFault.{TextFault}
use Rattle.geometry_model.specs.declared.text_faults.TextFault.TheVariants.{Syntax, OffGrid, OutOfRange, TooLong}
use Rattle.text_laws.specs.RefusalLaws.{TooManyIsTooLong}
use Rattle.text_laws.proofs.RoomLists.{positions_in, items, ring, alone, itself, rings_of, alone_of, parts_are_items, polygons_are_items, FitsCounts, IsOver, fits_or_not, fits_or_over, rest_over}
use Rattle.text_laws.proofs.TextSteps.{Took, apart, byte_is, no_run}
use Rattle.text_laws.proofs.TextComplete.{IsRead, IsFound, Ends, Closed, Begins, Complete, space_ends, white_ends, expect_read, blank_read, padded_read, numeral_at, position_begins, position_not_white, position_read, point_read, point_not_white, Closes, closed_by_comma, closes, differs, name_read, named, tagged_not_white, list_not_white, ReadsItem, HasRings, ring_read, one_ring, polygon_read, rings_of_polygon}

-- the text is read as too long
abbrev pub IsFull : {A : Type 0} → Result (A × Input) TextFault → Type 0
IsFull (Ok found) = ⊥
IsFull (Err (Syntax at)) = ⊥
IsFull (Err (OffGrid at)) = ⊥
IsFull (Err (OutOfRange at)) = ⊥
IsFull (Err TooLong) = Unit {0}

-- a step that is too long ends the reading, whatever comes next
pub full_then : {A B : Type 0} (r : Result (A × Input) TextFault) (next : A → Reader B) → IsFull r → IsFull (and_then r next)
full_then (Ok found) next full = absurd full
full_then (Err (Syntax at)) next full = absurd full
full_then (Err (OffGrid at)) next full = absurd full
full_then (Err (OutOfRange at)) next full = absurd full
full_then (Err TooLong) next full = tt

-- a step that finds something, and a next that is too long behind it
pub then_full : {A B : Type 0} (Q : A → Input → Type 0) (r : Result (A × Input) TextFault) (next : A → Reader B)
    → IsRead r Q → ((x : A) (j : Input) → Q x j → IsFull (next x j)) → IsFull (and_then r next)
then_full Q (Ok found) next read step = step found.0 found.1 read
then_full Q (Err fault) next read step = absurd read

-- each text of the rule that a list of more stops is too long
abbrev pub Full : {A : Type 0} → (A → Rule) → (List ℕ → Type 0) → Reader A → Type 0
Full {A} P Stops step = (i : Input) (x : A) (rest : List ℕ) → Took i.left (P x) rest → Stops rest → IsFull (step i)

-- ---- steps
-- a text that is too long is so with white space around it
padded_full : {A : Type 0} (P : A → Rule) (step : Reader A) → Begins P is_white → Full P Ends step → Full (λ x. Padded (P x)) Closed (padded step)
padded_full P step starts full i x rest t closed =
    let a = apart i.left rest Blank (P x ⨾ Blank) t in
    let b = apart a.0 rest (P x) Blank a.2 in
    let j = after (prefix_len is_white i.left) i in
    let j_is : j.left ≡ a.0 = blank_read i.left a.0 a.1 (ap (begins_with is_white) b.1.1 ∙ starts x b.1.0 b.0 b.1.2) in
    full_then (step j) _ (full j x b.0 (b.1.0, j_is ∙ b.1.1, b.1.2) (subst Ends (sym b.2.1) (white_ends b.2.0 rest b.2.2 closed.1)))

-- and in parentheses
enclosed_full : {A : Type 0} (P : A → Rule) (Stops : List ℕ → Type 0) (step : Reader A) → ((rest : List ℕ) → Stops (41 ∷ rest)) → Full P Stops step
    → Full (λ x. Enclosed (P x)) (λ _. Unit {0}) (enclosed step)
enclosed_full P Stops step close full i x rest t any =
    let a = apart i.left rest (Byte 40) (P x ⨾ Byte 41) t in
    let b = apart a.0 rest (P x) (Byte 41) a.2 in
    let b_is : b.0 ≡ 41 ∷ rest = byte_is 41 b.0 rest b.2 in
    then_full (λ _ j. j.left ≡ a.0) (expect 40 i) _ (expect_read 40 i a.0 (byte_is 40 i.left a.0 a.1))
    (λ _ j j_is. full_then (step j) _ (full j x b.0 (b.1.0, j_is ∙ b.1.1, b.1.2) (subst Stops (sym b_is) (close rest))))

-- ---- a position where none may come
-- where no position may come, its first number is read, and then it is too long
position_full : Full PositionText Ends (position zero)
unfolding position
position_full i p rest t ends =
    let a = apart i.left rest (Number p.x) (Space ⨾ Number p.y) t in
    let b = apart a.0 rest Space (Number p.y) a.2 in
    then_full (IsFound a.1.2.0 a.1.2.1 a.1.2.2 a.0) (numeral i) _
    (numeral_at i p.x a.0 a.1 (subst Ends (sym b.1.1) (space_ends b.1.0 b.0 b.1.2.0 b.1.2.1)))
    (λ n j found. tt)

-- so is a point of a MULTIPOINT, in either form
point_full : Full PointText Ends (point zero)
unfolding point
point_full i p rest t ends = elim t.2 [
  | inl e ↦ rw (ap (begins_with (λ c. c == 40)) t.1 ∙ position_begins (λ c. c == 40) refl refl refl (λ c is. differs c 40 is refl) p t.0 rest e)
      (position_full i p rest (t.0, t.1, e) ends)
  | inr e ↦ rw (ap (begins_with (λ c. c == 40)) (byte_is 40 i.left (apart i.left rest (Byte 40) (Padded (PositionText p) ⨾ Byte 41) (t.0, t.1, e)).0
      (apart i.left rest (Byte 40) (Padded (PositionText p) ⨾ Byte 41) (t.0, t.1, e)).1))
      (enclosed_full (λ q. Padded (PositionText q)) Closed (padded (position zero)) (λ more. (refl, (refl, refl, refl)))
      (padded_full PositionText (position zero) position_not_white position_full) i p rest (t.0, t.1, e) tt)
]

-- ---- lists with more than there is room for
-- the items that may come are read, and the first one that may not is too long
separated_full : {A : Type 0} (P : A → Rule) (item : ℕ → Reader A) → Begins P is_white → ((room : ℕ) → 0 < room → Complete P Ends (item room)) → Full P Ends (item zero)
    → (room : ℕ) (xs : List A) (i : Input) (rest : List ℕ) → room < length xs → Took i.left (Separated P xs) rest → Closes rest → IsFull (separated item room i)
unfolding separated
separated_full P item starts complete full zero [] i rest many t stop = absurd t.2
separated_full P item starts complete full zero (x ∷ []) i rest many t stop = full_then (padded (item zero) i) _ (padded_full P (item zero) starts full i x rest t stop.0)
separated_full P item starts complete full zero (x ∷ y ∷ more) i rest many t stop =
    let a = apart i.left rest (Padded (P x)) (Byte 44 ⨾ Separated P (y ∷ more)) t in
    let b = apart a.0 rest (Byte 44) (Separated P (y ∷ more)) a.2 in
    let a_is : a.0 ≡ 44 ∷ b.0 = byte_is 44 a.0 b.0 b.1 in
    full_then (padded (item zero) i) _ (padded_full P (item zero) starts full i x a.0 a.1 (subst Closed (sym a_is) (closed_by_comma b.0)))
separated_full P item starts complete full (suc room) [] i rest many t stop = absurd t.2
separated_full P item starts complete full (suc room) (x ∷ []) i rest many t stop = absurd (omega (arith, many))
separated_full P item starts complete full (suc room) (x ∷ y ∷ more) i rest many t stop =
    let a = apart i.left rest (Padded (P x)) (Byte 44 ⨾ Separated P (y ∷ more)) t in
    let b = apart a.0 rest (Byte 44) (Separated P (y ∷ more)) a.2 in
    let a_is : a.0 ≡ 44 ∷ b.0 = byte_is 44 a.0 b.0 b.1 in
    then_full (λ z j. (z ≡ x) × (j.left ≡ a.0)) (padded (item (suc room)) i) _
    (padded_read P (item (suc room)) starts (complete (suc room) (zero-lt-suc room)) i x a.0 a.1 (subst Closed (sym a_is) (closed_by_comma b.0)))
    (λ z j known. rw (ap (begins_with (λ b. b == 44)) (known.1 ∙ a_is))
    (full_then (separated item room (after 1 j)) _
    (separated_full P item starts complete full room (y ∷ more) (after 1 j) rest (le_of_suc-le-suc many) (b.2.0, ap (drop 1) (known.1 ∙ a_is) ∙ b.2.1, b.2.2) stop)))

-- ---- lists in parentheses
-- a list that is over what may come is too long in parentheses
enclosed_list_full : {A : Type 0} (P : A → Rule) (Over : List A → Type 0) (inner : Reader (List A))
    → ((xs : List A) (i : Input) (rest : List ℕ) → Over xs → Took i.left (Separated P xs) rest → Closes rest → IsFull (inner i))
    → (xs : List A) (i : Input) (rest : List ℕ) → Over xs → Took i.left (Enclosed (Separated P xs)) rest → IsFull (enclosed inner i)
enclosed_list_full P Over inner full xs i rest over t = enclosed_full (λ ys text. Separated P ys text × Over ys) Closes inner closes
    (λ j ys more taken stop. full ys j more taken.2.1 (taken.0, taken.1, taken.2.0) stop) i xs rest
    (t.0, t.1, (t.2.0, t.2.1, t.2.2, t.2.3, (t.2.4.0, t.2.4.1, t.2.4.2, (t.2.4.3, over), t.2.4.4))) tt

-- and with white space around these
padded_list_full : {A : Type 0} (P : A → Rule) (Over : List A → Type 0) (step : Reader (List A))
    → ((xs : List A) (i : Input) (rest : List ℕ) → Over xs → Took i.left (Enclosed (Separated P xs)) rest → IsFull (step i))
    → (xs : List A) (i : Input) (rest : List ℕ) → Over xs → Took i.left (Padded (Enclosed (Separated P xs))) rest → Closed rest → IsFull (padded step i)
padded_list_full P Over step full xs i rest over t stop = padded_full (λ ys text. Enclosed (Separated P ys) text × Over ys) step
    (λ ys text more taken. list_not_white P ys text more taken.0)
    (λ j ys more taken ends. full ys j more taken.2.1 (taken.0, taken.1, taken.2.0)) i xs rest
    (t.0, t.1, (t.2.0, t.2.1, t.2.2, t.2.3, (t.2.4.0, t.2.4.1, t.2.4.2, (t.2.4.3, over), t.2.4.4))) stop

-- so is a line or ring with more positions than may come
padded_line_full : (room : ℕ) (ps : List Position) (i : Input) (rest : List ℕ) → room < length ps → Took i.left (Padded (LineText ps)) rest → Closed rest → IsFull (padded (line room) i)
unfolding line
padded_line_full room = padded_list_full PositionText (λ ps. room < length ps) (line room)
    (enclosed_list_full PositionText (λ ps. room < length ps) (separated position room) (separated_full PositionText position position_not_white position_read position_full room))

-- ---- items
-- an item with more rings or positions than may come is too long
abbrev pub FullItem : {A : Type 0} → (A → Rule) → (ℕ → ℕ → Reader A) → (A → List (List Position)) → Type 0
FullItem {A} P item rings = (count room : ℕ) (x : A) (i : Input) (rest : List ℕ) → IsOver count room (rings x) → Took i.left (Padded (P x)) rest → Closed rest → IsFull (padded (item count room) i)

-- an item that is too long
pub item_full : {A : Type 0} (item : ℕ → ℕ → Reader A) (rings : A → List (List Position)) (turns count room : ℕ) (i : Input) → IsFull (padded (item count room) i) → IsFull (items item rings turns count room i)
unfolding items
item_full item rings zero count room i full = full_then (padded (item count room) i) _ full
item_full item rings (suc turns) count room i full = full_then (padded (item count room) i) _ full

-- an item and a comma: it is too long itself, or it fits and what follows is too long
pub item_and_more : {A : Type 0} (P : A → Rule) (item : ℕ → ℕ → Reader A) (rings : A → List (List Position)) → HasRings P rings → ReadsItem P item rings → FullItem P item rings
    → (turns count room : ℕ) (x : A) (i : Input) (behind : List ℕ) → count ≤ turns → Took i.left (Padded (P x)) (44 ∷ behind)
    → ((t : ℕ) (j : Input) → count - length (rings x) ≤ t → FitsCounts count room (rings x) → j.left ≡ behind → IsFull (items item rings t (count - length (rings x)) (room - positions_in (rings x)) j))
    → IsFull (items item rings turns count room i)
unfolding items
item_and_more P item rings has complete full zero count room x i behind enough t again =
    full_then (padded (item count room) i) _ (full count room x i (44 ∷ behind) (inl (omega (arith, enough, has x t.2.4.0 t.2.4.3))) t (closed_by_comma behind))
item_and_more P item rings has complete full (suc turns) count room x i behind enough t again = go (fits_or_over count room (rings x))
  where
    go : FitsCounts count room (rings x) ⊎ IsOver count room (rings x) → IsFull (items item rings (suc turns) count room i)
    go (inr over) = full_then (padded (item count room) i) _ (full count room x i (44 ∷ behind) over t (closed_by_comma behind))
    go (inl fits) = then_full (λ z j. (z ≡ x) × (j.left ≡ 44 ∷ behind)) (padded (item count room) i) _ (complete count room x i (44 ∷ behind) fits t (closed_by_comma behind))
        (λ z j known. rw (ap (begins_with (λ b. b == 44)) known.1)
        (full_then (items item rings turns (count - length (rings z)) (room - positions_in (rings z)) (after 1 j)) _
        (subst (λ w. IsFull (items item rings turns (count - length (rings w)) (room - positions_in (rings w)) (after 1 j))) (sym known.0)
        (again turns (after 1 j) (omega (arith, enough, has x t.2.4.0 t.2.4.3)) fits (ap (drop 1) known.1)))))

-- the first item and the rest of the text
pub comma_behind : {A : Type 0} (P : A → Rule) (x y : A) (more : List A) (from rest : List ℕ) → Took from (Separated P (x ∷ y ∷ more)) rest
    → (behind : List ℕ) × Took from (Padded (P x)) (44 ∷ behind) × Took behind (Separated P (y ∷ more)) rest
comma_behind P x y more from rest t =
    let a = apart from rest (Padded (P x)) (Byte 44 ⨾ Separated P (y ∷ more)) t in
    let b = apart a.0 rest (Byte 44) (Separated P (y ∷ more)) a.2 in
    (b.0, subst (Took from (Padded (P x))) (byte_is 44 a.0 b.0 b.1) a.1, b.2)

-- items over a count: the first of them that is over what those before it left is too long
items_full : {A : Type 0} (P : A → Rule) (item : ℕ → ℕ → Reader A) (rings : A → List (List Position)) → HasRings P rings → ReadsItem P item rings → FullItem P item rings
    → (turns count room : ℕ) (xs : List A) (i : Input) (rest : List ℕ) → count ≤ turns → IsOver count room (rings_of rings xs) → Took i.left (Separated P xs) rest → Closes rest → IsFull (items item rings turns count room i)
items_full P item rings has complete full turns count room [] i rest enough over t stop = absurd t.2
items_full P item rings has complete full turns count room (x ∷ []) i rest enough over t stop = item_full item rings turns count room i
    (full count room x i rest (subst (IsOver count room) (append-nil (rings x)) over) t stop.0)
items_full P item rings has complete full turns count room (x ∷ y ∷ more) i rest enough over t stop =
    let c = comma_behind P x y more i.left rest t in
    item_and_more P item rings has complete full turns count room x i c.0 enough c.1
    (λ s j enough_left fits j_is. items_full P item rings has complete full s (count - length (rings x)) (room - positions_in (rings x)) (y ∷ more) j rest enough_left
    (rest_over count room (rings x) (rings_of rings (y ∷ more)) over fits) (c.2.0, j_is ∙ c.2.1, c.2.2) stop)

-- ---- rings and elements, polygons
-- a part where none may come: its parenthesis is enough
no_ring_full : (ps : List Position) (i : Input) (rest : List ℕ) → Took i.left (Padded (LineText ps)) rest → IsFull {A = List Position} (padded (expect 40 >> too_long) i)
no_ring_full ps i rest t =
    let a = apart i.left rest Blank (LineText ps ⨾ Blank) t in
    let b = apart a.0 rest (LineText ps) Blank a.2 in
    let c = apart a.0 b.0 (Byte 40) (Separated PositionText ps ⨾ Byte 41) b.1 in
    let opens : a.0 ≡ 40 ∷ c.0 = byte_is 40 a.0 c.0 c.1 in
    let j = after (prefix_len is_white i.left) i in
    let j_is : j.left ≡ a.0 = blank_read i.left a.0 a.1 (ap (begins_with is_white) opens) in
    full_then {A = List Position} ((expect 40 >> too_long) j) _
    (then_full (λ _ k. k.left ≡ c.0) (expect 40 j) (λ _. too_long) (expect_read 40 j c.0 (j_is ∙ opens)) (λ _ k known. tt))

-- where a part may come, a line or ring that is over the counts has too many positions
long_line : (x : List Position) (count room : ℕ) → IsOver (suc count) room (alone x) → room < length x
long_line x count room (inl many) = absurd (omega (arith, many))
long_line x count room (inr many) = rw (append-nil x) at many

-- an element or ring over the counts is too long: no part may come, or it has too many positions
pub ring_full : FullItem LineText ring alone
unfolding ring
ring_full zero room x i rest over t stop = no_ring_full x i rest t
ring_full (suc count) room x i rest over t stop = padded_line_full room x i rest (long_line x count room over) t stop

-- so are elements or rings that are over a count together
parts_full : (count room : ℕ) (xs : List (List Position)) (i : Input) (rest : List ℕ) → IsOver count room xs → Took i.left (Separated LineText xs) rest → Closes rest → IsFull (parts count room i)
parts_full count room xs i rest over t stop = rw (parts_are_items count room i)
    (items_full LineText ring alone one_ring ring_read ring_full count count room xs i rest (le_refl count) (subst (IsOver count room) (sym (alone_of xs)) over) t stop)

-- a polygon, by its rings
pub polygon_full : FullItem PolygonText polygon itself
unfolding polygon
polygon_full count room = padded_list_full LineText (IsOver count room) (polygon count room) (enclosed_list_full LineText (IsOver count room) (parts count room) (parts_full count room))

-- and polygons, by the rings of all
polygons_full : (turns count room : ℕ) → count ≤ turns → (xs : List (List (List Position))) (i : Input) (rest : List ℕ) → IsOver count room (joined_rings xs) → Took i.left (Separated PolygonText xs) rest → Closes rest
    → IsFull (polygons turns count room i)
polygons_full turns count room enough xs i rest over t stop = rw (polygons_are_items turns count room i)
    (items_full PolygonText polygon itself rings_of_polygon polygon_read polygon_full turns count room xs i rest enough over t stop)

-- ---- whole texts
-- a body over the counts isn't EMPTY, so its list in parentheses is too long
body_full : {A : Type 0} (P : A → Rule) (Over : List A → Type 0) (inner : Reader (List A)) → (Over [] → ⊥)
    → ((xs : List A) (i : Input) (rest : List ℕ) → Over xs → Took i.left (Separated P xs) rest → Closes rest → IsFull (inner i))
    → (xs : List A) (i : Input) (rest : List ℕ) → Over xs → Took i.left (Body P xs) rest → IsFull (body inner i)
unfolding body
body_full P Over inner none full [] i rest over t = absurd (none over)
body_full P Over inner none full (x ∷ more) i rest over t =
    let a = apart i.left rest Blank (Enclosed (Separated P (x ∷ more))) t in
    let b = apart a.0 rest (Byte 40) (Separated P (x ∷ more) ⨾ Byte 41) a.2 in
    let opens : a.0 ≡ 40 ∷ b.0 = byte_is 40 a.0 b.0 b.1 in
    let left = drop (prefix_len is_white i.left) i.left in
    let left_is : left ≡ a.0 = blank_read i.left a.0 a.1 (ap (begins_with is_white) opens) in
    let no_letter : prefix_len is_ascii_alphabetic left ≡ 0 = no_run is_ascii_alphabetic left (ap (begins_with is_ascii_alphabetic) (left_is ∙ opens)) in
    let past : drop (prefix_len is_ascii_alphabetic left) left ≡ a.0 = ap (λ n. drop n left) no_letter ∙ left_is in
    rw (ap (λ n. length (take n left) == 0) no_letter)
    (enclosed_list_full P Over inner full (x ∷ more) (after (prefix_len is_ascii_alphabetic left) (after (prefix_len is_white i.left) i)) rest over (a.2.0, past ∙ a.2.1, a.2.2))

-- more positions or parts than the counts allow
abbrev pub IsOverCounts : Geometry → Type 0
IsOverCounts w = (position_limit < length (written_positions w)) ⊎ (part_limit < length (written_parts w))

-- a POINT has no part and no second position, so it is over no count
one_position : (p : Option Position) → IsOverCounts (Point p) → ⊥
one_position None (inl many) = omega (arith, many)
one_position (Some p) (inl many) = omega (arith, many)
one_position p (inr many) = omega (arith, many)

-- a geometry without parts can be over the count of positions only
over_positions : (n : ℕ) → (position_limit < n) ⊎ (part_limit < 0) → position_limit < n
over_positions n (inl many) = many
over_positions n (inr many) = absurd (omega (arith, many))

turned : (ls : List (List Position)) → (position_limit < length (flat_map (λ l. l) ls)) ⊎ (part_limit < length ls) → IsOver part_limit position_limit ls
turned ls (inl many) = inr many
turned ls (inr many) = inl many

-- an empty geometry is over no count
not_over_none : IsOver part_limit position_limit [] → ⊥
not_over_none (inl many) = omega (arith, many)
not_over_none (inr many) = omega (arith, many)

-- the elements or rings behind a name, where they are over a count
lists_full : (ls : List (List Position)) (i : Input) (rest : List ℕ) → IsOver part_limit position_limit ls → Took i.left (Body LineText ls) rest → IsFull (lists i)
lists_full ls i rest over t = body_full LineText (IsOver part_limit position_limit) (parts part_limit position_limit) not_over_none
    (parts_full part_limit position_limit) ls i rest over t

-- type by type: its name is no other type's, and its body is too long where it is over a count
tagged_full : (w : Geometry) (i : Input) (rest : List ℕ) → IsOverCounts w → Took i.left (TaggedText w) rest → IsFull (tagged i)
unfolding tagged typed
tagged_full (Point p) i rest over t = absurd (one_position p over)
tagged_full (MultiPoint ps) i rest over t = let n = prefix_len is_ascii_alphabetic i.left in let own = codes "MULTIPOINT" in
    let r = name_read own PointText ps i.left rest refl t in
    rw (named (take n i.left) own (codes "POINT") r.0, named (take n i.left) own (codes "MULTIPOINT") r.0)
    (full_then (positions point (after n i)) _ (body_full PointText (λ ys. position_limit < length ys) (separated point position_limit) (λ many. omega (arith, many))
    (λ xs j more many took stop. separated_full PointText point point_not_white point_read point_full position_limit xs j more many took stop) ps (after n i) rest (over_positions (length ps) over) r.1))
tagged_full (LineString ps) i rest over t = let n = prefix_len is_ascii_alphabetic i.left in let own = codes "LINESTRING" in
    let r = name_read own PositionText ps i.left rest refl t in
    rw (named (take n i.left) own (codes "POINT") r.0, named (take n i.left) own (codes "MULTIPOINT") r.0, named (take n i.left) own (codes "LINESTRING") r.0)
    (full_then (positions position (after n i)) _ (body_full PositionText (λ ys. position_limit < length ys) (separated position position_limit) (λ many. omega (arith, many))
    (λ xs j more many took stop. separated_full PositionText position position_not_white position_read position_full position_limit xs j more many took stop) ps (after n i) rest (over_positions (length ps) over) r.1))
tagged_full (MultiLineString ls) i rest over t = let n = prefix_len is_ascii_alphabetic i.left in let own = codes "MULTILINESTRING" in
    let r = name_read own LineText ls i.left rest refl t in
    rw (
      named (take n i.left) own (codes "POINT") r.0,
      named (take n i.left) own (codes "MULTIPOINT") r.0,
      named (take n i.left) own (codes "LINESTRING") r.0,
      named (take n i.left) own (codes "MULTILINESTRING") r.0,
    )
    (full_then (lists (after n i)) _ (lists_full ls (after n i) rest (turned ls over) r.1))
tagged_full (Polygon rs) i rest over t = let n = prefix_len is_ascii_alphabetic i.left in let own = codes "POLYGON" in
    let r = name_read own LineText rs i.left rest refl t in
    rw (
      named (take n i.left) own (codes "POINT") r.0,
      named (take n i.left) own (codes "MULTIPOINT") r.0,
      named (take n i.left) own (codes "LINESTRING") r.0,
      named (take n i.left) own (codes "MULTILINESTRING") r.0,
      named (take n i.left) own (codes "POLYGON") r.0,
    )
    (full_then (lists (after n i)) _ (lists_full rs (after n i) rest (turned rs over) r.1))
tagged_full (MultiPolygon es) i rest over t = let n = prefix_len is_ascii_alphabetic i.left in let own = codes "MULTIPOLYGON" in
    let r = name_read own PolygonText es i.left rest refl t in
    rw (
      named (take n i.left) own (codes "POINT") r.0,
      named (take n i.left) own (codes "MULTIPOINT") r.0,
      named (take n i.left) own (codes "LINESTRING") r.0,
      named (take n i.left) own (codes "MULTILINESTRING") r.0,
      named (take n i.left) own (codes "POLYGON") r.0,
      named (take n i.left) own (codes "MULTIPOLYGON") r.0,
    )
    (full_then (nested_lists (after n i)) _ (body_full PolygonText (λ ys. IsOver part_limit position_limit (joined_rings ys)) (polygons part_limit part_limit position_limit) not_over_none
    (polygons_full part_limit part_limit position_limit (le_refl part_limit)) es (after n i) rest (turned (joined_rings es) over) r.1))

-- so a whole text over the counts is too long
pub whole_full : (w : Geometry) (text : List ℕ) → IsOverCounts w → Writes w text → IsFull (whole (record { left = text; at = 0 }))
unfolding whole
whole_full w text over t = full_then (padded tagged (record { left = text; at = 0 })) _
    (padded_full (λ v part. TaggedText v part × IsOverCounts v) tagged (λ v part more taken. tagged_not_white v part more taken.0)
    (λ j v more taken ends. tagged_full v j more taken.2.1 (taken.0, taken.1, taken.2.0)) (record { left = text; at = 0 }) w []
    (text, sym (append-nil text), (t.0, t.1, t.2, t.3, (t.4.0, t.4.1, t.4.2, (t.4.3, over), t.4.4))) (refl, (refl, refl, refl)))

-- a geometry that isn't within the counts is over one of them
not_within : (w : Geometry) → (IsWithinCounts w → ⊥) → IsOverCounts w
not_within w none = go (fits_or_not (length (written_positions w)) position_limit) (fits_or_not (length (written_parts w)) part_limit)
  where
    go : (length (written_positions w) ≤ position_limit) ⊎ (position_limit < length (written_positions w)) → (length (written_parts w) ≤ part_limit) ⊎ (part_limit < length (written_parts w)) → IsOverCounts w
    go (inr many) e = inl many
    go (inl few) (inr many) = inr many
    go (inl few) (inl few_parts) = absurd (none (few, few_parts))

-- to be read as too long is to end with that fault
pub full_is : (r : Result (Geometry × Input) TextFault) → IsFull r → r ≡ Err TooLong
full_is (Ok found) full = absurd full
full_is (Err (Syntax at)) full = absurd full
full_is (Err (OffGrid at)) full = absurd full
full_is (Err (OutOfRange at)) full = absurd full
full_is (Err TooLong) full = refl

-- a text of the grammar that isn't within the counts is read up to the first position or part that may not come
pub too_many_is_too_long : TooManyIsTooLong
unfolding read_text
too_many_is_too_long text w t none = ap outcome (full_is (whole (record { left = text; at = 0 })) (whole_full w text (not_within w none) t))
