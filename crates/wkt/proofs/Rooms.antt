-- Rings and polygons, read one after another: each leaves less room.
use Rattle.std.proofs.Common.{◌≡◌, refl, sym, ap, ap₂, ◌∙◌, ℕ, zero, suc, ◌-◌, ◌==◌, Bool, true, false, if◌then◌else◌, List, [], ◌∷◌, ◌++◌, length, map, Result, Ok, Err, append_assoc, append-nil, length-append, suc-ne-zero, arith}
use Rattle.std.specs.List.{prefix_len}
use Rattle.std.proofs.lemmas.Bool.Decides.{Decides-eqb}
use Rattle.geometry_model.specs.Points.{Position}
use Rattle.geometry_model.specs.Geometries.{joined_rings}
use Rattle.geometry_model.specs.TextReading.{Input, Reader, ◌>>=◌, ◌>>◌, and_then, pure, eat, expect, too_long, padded, enclosed, position, separated, line, parts, polygon, run, after}
use Rattle.geometry_model.specs.WellKnownText.{is_white, without_repeats}
use Rattle.geometry_model.specs.declared.text_faults.TextFault.{TextFault}
use Rattle.geometry_model.specs.declared.text_faults.TextFault.TheVariants.{TooLong}
use Rattle.text_laws.proofs.RoomLists.{items, ring, alone, itself, rings_of, alone_of, positions_in, positions_of_both, parts_are_items, polygons_are_items, going_on, then_same}
use Rattle.wkt.specs.ReadingSteps as steps
use Rattle.wkt.specs.ReadingSteps.{left_of}
use Rattle.wkt.specs.declared.list_reader.Room.{Room}

-- two readers that read alike are one
pub alike : {A : Type 0} (s t : Reader A) → ((i : Input) → s i ≡ t i) → s ≡ t
alike s t same = λ k i. same i k

-- ---- back from what was made
abbrev out : {X Y : Type 0} → Result X Y → X → X
out (Ok x) d = x
out (Err y) d = d

-- what was made of something found shows what was found, at the same place
pub found_back : {A B : Type 0} (r : Result (A × Input) TextFault) (f : A → B) (y : B) (j : Input) → and_then r (λ x. pure (f x)) ≡ Ok (y, j)
    → (x : A) × (r ≡ Ok (x, j)) × (f x ≡ y)
found_back (Ok found) f y j e =
    let pair = ap (λ r. out r (f found.0, found.1)) e in
    (found.0, ap (λ k. Ok (found.0, k)) (ap (λ p. p.1) pair), ap (λ p. p.0) pair)
found_back {B = B} (Err fault) f y j e = let no_found : ◌≡◌ {A = Result (B × Input) TextFault} (Err fault) (Ok (y, j)) = e in cc

-- a fault behind which something would be made is the fault itself
pub fault_back : {A B : Type 0} (r : Result (A × Input) TextFault) (f : A → B) (fault : TextFault) → and_then r (λ x. pure (f x)) ≡ Err fault → r ≡ Err fault
fault_back {B = B} (Ok found) f fault e = let no_fault : ◌≡◌ {A = Result (B × Input) TextFault} (Ok (f found.0, found.1)) (Err fault) = e in cc
fault_back {B = B} (Err other) f fault e = let same : ◌≡◌ {A = Result (B × Input) TextFault} (Err other) (Err fault) = e in let faults : other ≡ fault = cc in ap (λ x. Err x) faults

-- ---- one item
-- what is made of an item, and the room that it leaves
abbrev pub made : {A B : Type 0} → (A → B) → (A → List (List Position)) → Room → Reader A → Reader (B × Room)
made f rings room step = step >>= λ x. pure (f x, left_of (rings x) room)

-- what was made before, and then what is made of more items
abbrev pub behind_made : {A B : Type 0} → (A → B) → (A → List (List Position)) → List B → Room → Result (List A × Input) TextFault → Result ((List B × Room) × Input) TextFault
behind_made f rings kept room r = and_then r (λ more. pure (kept ++ map f more, left_of (rings_of rings more) room))

-- two lists of rings leave the room that the second leaves of what the first left
left_of_both : (xs ys : List (List Position)) (room : Room) → left_of (xs ++ ys) room ≡ left_of ys (left_of xs room)
left_of_both xs ys room = ap₂ (λ (m n : ℕ). record { parts = m; positions = n })
    (omega (arith, length-append xs ys)) (omega (arith, positions_of_both xs ys))

-- an item ahead of others goes to what was made before, and its rings are taken off the room
put_ahead : {A B : Type 0} (f : A → B) (rings : A → List (List Position)) (kept : List B) (room : Room) (x : A) (r : Result (List A × Input) TextFault)
    → behind_made f rings kept room (and_then r (λ xs. pure (x ∷ xs))) ≡ behind_made f rings (kept ++ f x ∷ []) (left_of (rings x) room) r
put_ahead f rings kept room x (Ok found) =
    ap₂ (λ l left. Ok ((l, left), found.1)) (sym (append_assoc kept (f x ∷ []) (map f found.0))) (left_of_both (rings x) (rings_of rings found.0) room)
put_ahead f rings kept room x (Err fault) = refl

-- where one item is read, a comma decides whether others come
one_item : {A : Type 0} (item : ℕ → ℕ → Reader A) (rings : A → List (List Position)) (turns left count room : ℕ) (i j : Input) (x : A) → turns ≡ suc left → padded (item count room) i ≡ Ok (x, j)
    → items item rings turns count room i ≡ going_on x (items item rings left (count - length (rings x)) (room - positions_in (rings x))) j
unfolding items
one_item item rings turns left count room i j x is read = ap (λ n. items item rings n count room i) is
    ∙ ap (λ r. and_then r (λ x. going_on x (items item rings left (count - length (rings x)) (room - positions_in (rings x))))) read

abbrev by_comma : {A : Type 0} → A → Reader (List A) → Bool → Reader (List A)
by_comma x more met = if met then (more >>= λ xs. pure (x ∷ xs)) else pure (x ∷ [])

-- a comma goes on
pub made_and_more : {A B : Type 0} (item : ℕ → ℕ → Reader A) (rings : A → List (List Position)) (f : A → B) (kept : List B) (turns next : ℕ) (room left : Room) (i j k : Input) (y : B)
    → turns ≡ suc next → made f rings room (padded (item room.parts room.positions)) i ≡ Ok ((y, left), j) → eat 44 j ≡ Ok (true, k)
    → behind_made f rings kept room (items item rings turns room.parts room.positions i) ≡ behind_made f rings (kept ++ y ∷ []) left (items item rings next left.parts left.positions k)
made_and_more item rings f kept turns next room left i j k y is read comma =
    let b = found_back (padded (item room.parts room.positions) i) (λ x. (f x, left_of (rings x) room)) (y, left) j read in
    let more = items item rings next (room.parts - length (rings b.0)) (room.positions - positions_in (rings b.0)) in
    ap (behind_made f rings kept room) (one_item item rings turns next room.parts room.positions i j b.0 is b.1 ∙ ap (λ r. and_then r (by_comma b.0 more)) comma)
    ∙ (put_ahead f rings kept room b.0 (more k)
    ∙ ap (λ p. behind_made f rings (kept ++ p.0 ∷ []) p.1 (items item rings next p.1.parts p.1.positions k)) b.2)

-- no comma: these are all
pub made_last : {A B : Type 0} (item : ℕ → ℕ → Reader A) (rings : A → List (List Position)) (f : A → B) (kept : List B) (turns next : ℕ) (room left : Room) (i j k : Input) (y : B)
    → turns ≡ suc next → made f rings room (padded (item room.parts room.positions)) i ≡ Ok ((y, left), j) → eat 44 j ≡ Ok (false, k)
    → behind_made f rings kept room (items item rings turns room.parts room.positions i) ≡ Ok ((kept ++ y ∷ [], left), k)
made_last item rings f kept turns next room left i j k y is read comma =
    let b = found_back (padded (item room.parts room.positions) i) (λ x. (f x, left_of (rings x) room)) (y, left) j read in
    let more = items item rings next (room.parts - length (rings b.0)) (room.positions - positions_in (rings b.0)) in
    ap (behind_made f rings kept room) (one_item item rings turns next room.parts room.positions i j b.0 is b.1 ∙ ap (λ r. and_then r (by_comma b.0 more)) comma)
    ∙ (ap (λ rs. Ok ((kept ++ f b.0 ∷ [], left_of rs room), k)) (append-nil (rings b.0))
    ∙ ap (λ p. Ok ((kept ++ p.0 ∷ [], p.1), k)) b.2)

-- the fault of an item is the list's
pub made_fails : {A B : Type 0} (item : ℕ → ℕ → Reader A) (rings : A → List (List Position)) (f : A → B) (kept : List B) (turns : ℕ) (room : Room) (i : Input) (fault : TextFault)
    → made f rings room (padded (item room.parts room.positions)) i ≡ Err fault → behind_made f rings kept room (items item rings turns room.parts room.positions i) ≡ Err fault
unfolding items
made_fails item rings f kept zero room i fault failed =
    ap (λ r. behind_made f rings kept room (and_then r (λ x. pure (x ∷ [])))) (fault_back (padded (item room.parts room.positions) i) _ fault failed)
made_fails item rings f kept (suc turns) room i fault failed =
    ap (λ r. behind_made f rings kept room (and_then r (λ x. going_on x (items item rings turns (room.parts - length (rings x)) (room.positions - positions_in (rings x))))))
    (fault_back (padded (item room.parts room.positions) i) _ fault failed)

-- ---- what the readers of the code are
-- what is made of what parentheses hold can be made inside them
pub enclosed_mapped : {A B : Type 0} (inner : Reader A) (f : A → B) (i : Input) → and_then (enclosed inner i) (λ x. pure (f x)) ≡ enclosed (inner >>= λ x. pure (f x)) i
enclosed_mapped inner f i = opened (expect 40 i)
  where
    closed : (x : _) (r : Result (Bool × Input) TextFault) → and_then (and_then r (λ _. pure x)) (λ y. pure (f y)) ≡ and_then r (λ _. pure (f x))
    closed x (Ok found) = refl
    closed x (Err fault) = refl

    inside : (r : Result (_ × Input) TextFault) → and_then (and_then r (λ x. (expect 41 >>= λ _. pure x))) (λ y. pure (f y)) ≡ and_then (and_then r (λ x. pure (f x))) (λ y. (expect 41 >>= λ _. pure y))
    inside (Ok found) = closed found.0 (expect 41 found.1)
    inside (Err fault) = refl

    opened : (r : Result (Bool × Input) TextFault) → and_then (and_then r (λ _. (inner >>= λ x. (expect 41 >>= λ _. pure x)))) (λ y. pure (f y))
        ≡ and_then r (λ _. ((inner >>= λ x. pure (f x)) >>= λ y. (expect 41 >>= λ _. pure y)))
    opened (Ok found) = inside (inner found.1)
    opened (Err fault) = refl

-- and what white space surrounds, likewise
pub padded_mapped : {A B : Type 0} (step : Reader A) (f : A → B) (i : Input) → padded (step >>= λ x. pure (f x)) i ≡ and_then (padded step i) (λ x. pure (f x))
padded_mapped step f i = go (step (after (prefix_len is_white i.left) i))
  where
    go : (r : Result (_ × Input) TextFault) → and_then (and_then r (λ x. pure (f x))) (λ y. run is_white >> pure y) ≡ and_then (and_then r (λ x. run is_white >> pure x)) (λ x. pure (f x))
    go (Ok found) = refl
    go (Err fault) = refl

not_zero : (n : ℕ) → (n ≡ 0 → ⊥) → (n == 0) ≡ false
not_zero n some = go (n == 0) refl
  where
    go : (none : Bool) → (n == 0) ≡ none → (n == 0) ≡ false
    go true e = absurd (some ((Decides-eqb n 0).0 e))
    go false e = e

-- what is made of a ring, and the room that it leaves
abbrev ring_left : ℕ → ℕ → List Position → List Position × Room
ring_left count room x = (without_repeats x, record { parts = count - 1; positions = room - length (x ++ []) })

abbrev pub closing : ℕ → List Position × ℕ → Reader (List Position × Room)
closing count found = expect 41 >>= λ _. pure (found.0, record { parts = count - 1; positions = found.1 })

abbrev ring_as : ℕ → ℕ → Reader (List Position × Room)
ring_as count room = expect 40 >>= λ _. ((if count == 0 then too_long else steps.line_positions room) >>= closing count)

-- a ring of the code is one of the definition, without its repeats and with the room that it leaves
ring_is : (count room : ℕ) (i : Input) → ring_as count room i ≡ and_then (ring count room i) (λ x. pure (ring_left count room x))
unfolding ring line
ring_is zero room i = opened (expect 40 i)
  where
    opened : (r : Result (Bool × Input) TextFault)
        → and_then r (λ _. (too_long >>= closing zero))
        ≡ and_then (and_then r (λ _. too_long)) (λ x. pure (ring_left zero room x))
    opened (Ok found) = refl
    opened (Err fault) = refl
ring_is (suc count) room i = ap (λ b. and_then (expect 40 i) (λ _. ((if b then too_long else steps.line_positions room) >>= closing (suc count)))) (not_zero (suc count) (suc-ne-zero count))
    ∙ opened (expect 40 i)
  where
    closed : (x : List Position) (r : Result (Bool × Input) TextFault)
        → and_then r (λ _. pure (without_repeats x, record { parts = suc count - 1; positions = room - length x }))
        ≡ and_then (and_then r (λ _. pure x)) (λ x. pure (ring_left (suc count) room x))
    closed x (Ok found) = ap (λ l. Ok ((without_repeats x, record { parts = suc count - 1; positions = room - length l }), found.1)) (sym (append-nil x))
    closed x (Err fault) = refl

    inside : (r : Result (List Position × Input) TextFault)
        → and_then (and_then r (λ ps. pure (without_repeats ps, room - length ps))) (closing (suc count))
        ≡ and_then (and_then r (λ x. (expect 41 >>= λ _. pure x))) (λ x. pure (ring_left (suc count) room x))
    inside (Ok found) = closed found.0 (expect 41 found.1)
    inside (Err fault) = refl

    opened : (r : Result (Bool × Input) TextFault)
        → and_then r (λ _. (steps.line_positions room >>= closing (suc count)))
        ≡ and_then (and_then r (λ _. (separated position room >>= λ x. (expect 41 >>= λ _. pure x)))) (λ x. pure (ring_left (suc count) room x))
    opened (Ok found) = inside (separated position room found.1)
    opened (Err fault) = refl

-- a ring of the code, by the ring of the definition
pub ring_made : (room : Room) (i : Input) → padded (steps.ring room) i ≡ made without_repeats alone room (padded (ring room.parts room.positions)) i
unfolding steps.ring
ring_made room i = ap (λ s. padded s i) (alike (steps.ring room) _ (ring_is room.parts room.positions))
    ∙ padded_mapped (ring room.parts room.positions) (λ x. (without_repeats x, left_of (alone x) room)) i

-- a polygon of the code, by the polygon of the definition
pub polygon_made : (room : Room) (i : Input) → padded (enclosed (steps.rings room)) i ≡ made (map without_repeats) itself room (padded (polygon room.parts room.positions)) i
unfolding polygon
polygon_made room i =
    let f : List (List Position) → List (List Position) × Room = λ ls. (map without_repeats ls, left_of ls room) in
    ap (λ s. padded s i) (alike (enclosed (steps.rings room)) _ (λ j. sym (enclosed_mapped (parts room.parts room.positions) f j)))
    ∙ padded_mapped (polygon room.parts room.positions) f i

-- rings of the code begin with nothing kept
pub rings_begin : (room : Room) (i : Input) → steps.rings room i ≡ behind_made without_repeats alone [] room (items ring alone room.parts room.parts room.positions i)
rings_begin room i = ap (λ r. and_then r (λ ls. pure (map without_repeats ls, left_of ls room))) (parts_are_items room.parts room.positions i)
    ∙ then_same (items ring alone room.parts room.parts room.positions i) _ _ (λ ls j. ap (λ l. Ok ((map without_repeats ls, left_of l room), j)) (sym (alone_of ls)))

-- so do polygons
pub polygons_begin : (room : Room) (i : Input) → steps.polygons room i ≡ behind_made (map without_repeats) itself [] room (items polygon itself room.parts room.parts room.positions i)
polygons_begin room i = ap (λ r. and_then r (λ es. pure (map (map without_repeats) es, left_of (joined_rings es) room))) (polygons_are_items room.parts room.parts room.positions i)

-- a ring too many is refused behind its parenthesis
pub ring_none : (room : Room) (i j : Input) (met : Bool) → room.parts ≡ 0 → expect 40 i ≡ Ok (met, j) → steps.ring room i ≡ Err TooLong
unfolding steps.ring
ring_none room i j met none opened = ap (λ r. and_then r (λ _. ((if room.parts == 0 then too_long else steps.line_positions room.positions) >>= closing room.parts))) opened
    ∙ ap (λ n. and_then ((if n == 0 then too_long else steps.line_positions room.positions) j) (closing room.parts)) none

-- and one that may come is read behind it
pub ring_some : (room : Room) (i j : Input) (met : Bool) → (room.parts ≡ 0 → ⊥) → expect 40 i ≡ Ok (met, j) → steps.ring room i ≡ and_then (steps.line_positions room.positions j) (closing room.parts)
unfolding steps.ring
ring_some room i j met some opened = ap (λ r. and_then r (λ _. ((if room.parts == 0 then too_long else steps.line_positions room.positions) >>= closing room.parts))) opened
    ∙ ap (λ b. and_then ((if b then too_long else steps.line_positions room.positions) j) (closing room.parts)) (not_zero room.parts some)
