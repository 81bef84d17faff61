-- A text whose last position is one too many is read as too long, whatever comes after the first number of that position.
use Rattle.std.proofs.Common.{◌≡◌, refl, sym, ap, ◌∙◌, subst, ℕ, zero, suc, ◌+◌, ◌-◌, ◌<◌, ◌≤◌, ◌==◌, ◌⊎◌, inl, inr, Bool, true, false, List, [], ◌∷◌, ◌++◌, length, drop, map, Some, None, Ok, Err, codes, append_assoc, append-nil, le_refl, zero-lt-suc, arith}
use Rattle.std.specs.List.{list_all, list_any, prefix_len}
use Rattle.std.specs.Char.{is_ascii_alphabetic, is_ascii_digit, to_ascii_lowercase}
use Rattle.std.proofs.lemmas.Bool.{or_parts}
use Rattle.basics.proofs.Lists.{any_behind}
use Rattle.geometry_model.specs.Points.{Position}
use Rattle.geometry_model.specs.Geometries.{Geometry, Point, MultiPoint, LineString, MultiLineString, Polygon, MultiPolygon, joined_rings}
use Rattle.geometry_model.specs.WellKnownText.{begins_with, Rule, ◌⨾◌, Byte, Blank, Padded, Enclosed, Separated, PositionText, PointText, LineText, PolygonText, Writes, is_white, written_positions, position_limit, part_limit}
use Rattle.geometry_model.specs.TextReading.{Input, Reader, FoundNumber, and_then, pure, after, too_long, ◌>>◌, ◌>>=◌, expect, padded, enclosed, numeral, coordinate, space, position, point, separated, line, parts, polygon, polygons, positions, typed, whole, outcome, read_text}
use Rattle.geometry_model.specs.TextRefusals.{begins_more, HasTooManyPositions, IsFirstNumber}
use Rattle.geometry_model.specs.declared.text_faults.TextFault.TheVariants.{TooLong}
use Rattle.text_laws.proofs.RoomLists.{positions_in, items, ring, alone, itself, rings_of, alone_of, positions_of_both, parts_are_items, polygons_are_items, FitsCounts}
use Rattle.text_laws.proofs.TextSteps.{Took, apart, byte_is, read_run}
use Rattle.text_laws.proofs.TextComplete.{Begins, Complete, Ends, closed_by_comma, expect_read, named, digit_not_white, differs, numeral_begins, position_not_white, position_read, point_not_white, point_read, padded_read, ReadsItem, HasRings, ring_read, one_ring, polygon_read, rings_of_polygon}
use Rattle.text_laws.proofs.FullTexts.{IsFull, full_then, then_full, full_is, FullItem, item_full, item_and_more, comma_behind, ring_full, polygon_full}
use Rattle.text_laws.proofs.OpenParts.{Parenthesized, parenthesized, padded_open, no_ring, at_front, Layout, layout, Named, whole_by_list, lines_named, rings_named, polygons_named}
use Rattle.text_laws.proofs.RefusedNumbers.{Read, first_number}
use Rattle.text_laws.proofs.LastNumbers.{pair, HasDigit, NoDigit, Within, within, any_left, none_of_both, blank_no_digit, position_digit, blank_before}

-- what is there is a number
record Applies (other : List ℕ) : Type 0 where
  read : (j : Input) → j.left ≡ other → (n : FoundNumber) × (k : Input) × (numeral j ≡ Ok (n, k))
  not_white : begins_with is_white other ≡ false
  not_open : begins_with (λ c. c == 40) other ≡ false

-- ---- a position where none may come
-- a number is read there, and as no position may come the answer is too long
position_stops : (other : List ℕ) → Applies other → (j : Input) → j.left ≡ other → IsFull (position zero j)
unfolding position
position_stops other s j is = let r = s.read j is in subst (λ q. IsFull {A = Position} (and_then q (λ n. (too_long >>= λ x. (space >> (numeral >>= λ m. (coordinate m >>= λ y. pure (record { x = x; y = y })))))))) (sym r.2) tt

-- white space is read to its end, and the number doesn't begin with any
behind_white : (i : Input) (white other : List ℕ) → list_all is_white white ≡ true → i.left ≡ white ++ other → begins_with is_white other ≡ false → drop (prefix_len is_white i.left) i.left ≡ other
behind_white i white other all is quiet = (read_run is_white i.left white other is all quiet).1

-- where an item begins at the pair, and none may come
abbrev Last : {A : Type 0} → (A → Rule) → Reader A → Type 0
Last {A} P step = (x : A) (i : Input) (front closing other from rest : List ℕ) → Took from (Padded (P x)) rest → from ≡ front ++ pair closing → NoDigit rest → NoDigit closing → Applies other
    → i.left ≡ front ++ other → IsFull (padded step i)

-- a position where none may come: white space is all that comes before the pair, so reading comes to the number
position_last : Last PositionText (position zero)
position_last x i front closing other from rest t split none quiet s is =
    let j = after (prefix_len is_white i.left) i in
    full_then (position zero j) _ (position_stops other s j (behind_white i front other (blank_before front closing from rest x t split none) is s.not_white))

-- the parts of a point in parentheses
abbrev Inside : Position → List ℕ → List ℕ → Type 0
Inside p from rest = (white V more : List ℕ) × (from ≡ white ++ (40 ∷ V)) × (list_all is_white white ≡ true) × Took V (Padded (PositionText p)) (41 ∷ more) × (NoDigit rest → NoDigit more)

-- a point of a MULTIPOINT is a position, or one in parentheses
point_cases : (p : Position) (from rest : List ℕ) → Took from (Padded (PointText p)) rest → Took from (Padded (PositionText p)) rest ⊎ Inside p from rest
point_cases p from rest t = go (apart from rest Blank (PointText p ⨾ Blank) t)
  where
    whole_of : (ys : List ℕ) → Took from Blank ys → (zs : List ℕ) → (u : List ℕ) → ys ≡ u ++ zs → PositionText p u → Took zs Blank rest → Took from (Padded (PositionText p)) rest
    whole_of ys a zs u e h b = (
      a.0 ++ (u ++ b.0),
      a.1 ∙ (ap (λ l. a.0 ++ l) (e ∙ (ap (λ l. u ++ l) b.1 ∙ sym (append_assoc u b.0 rest))) ∙ sym (append_assoc a.0 (u ++ b.0) rest)),
      (a.0, u ++ b.0, refl, a.2, (u, b.0, refl, h, b.2)),
    )

    inside_of : (ys : List ℕ) → Took from Blank ys → (zs : List ℕ) → Took ys (Enclosed (Padded (PositionText p))) zs → Took zs Blank rest → Inside p from rest
    inside_of ys a zs u b =
        let c = apart ys zs (Byte 40) (Padded (PositionText p) ⨾ Byte 41) u in
        let d = apart c.0 zs (Padded (PositionText p)) (Byte 41) c.2 in (
          a.0,
          c.0,
          zs,
          a.1 ∙ ap (λ l. a.0 ++ l) (byte_is 40 ys c.0 c.1),
          a.2,
          subst (λ l. Took c.0 (Padded (PositionText p)) l) (byte_is 41 d.0 zs d.2) d.1,
          λ none. ap (list_any is_ascii_digit) b.1 ∙ none_of_both is_ascii_digit b.0 rest (blank_no_digit b.0 b.2) none,
        )

    pick : (ys : List ℕ) → Took from Blank ys → (zs : List ℕ) → (u : List ℕ) → ys ≡ u ++ zs → PointText p u → Took zs Blank rest → Took from (Padded (PositionText p)) rest ⊎ Inside p from rest
    pick ys a zs u e (inl h) b = inl (whole_of ys a zs u e h b)
    pick ys a zs u e (inr h) b = inr (inside_of ys a zs (u, e, h) b)

    go : (ys : List ℕ) × Took from Blank ys × Took ys (PointText p ⨾ Blank) rest → Took from (Padded (PositionText p)) rest ⊎ Inside p from rest
    go a = next (apart a.0 rest (PointText p) Blank a.2)
      where
        next : (zs : List ℕ) × Took a.0 (PointText p) zs × Took zs Blank rest → Took from (Padded (PositionText p)) rest ⊎ Inside p from rest
        next b = pick a.0 a.1 b.0 b.1.0 b.1.1 b.1.2 b.2

-- a text with a digit has it with white space around it too
padded_digit : {A : Type 0} (P : A → Rule) (x : A) (from rest : List ℕ) → ((text : List ℕ) → P x text → HasDigit text) → Took from (Padded (P x)) rest → HasDigit from
padded_digit P x from rest digit t = go (apart from rest Blank (P x ⨾ Blank) t)
  where
    go : (ys : List ℕ) × Took from Blank ys × Took ys (P x ⨾ Blank) rest → HasDigit from
    go a = next (apart a.0 rest (P x) Blank a.2)
      where
        next : (zs : List ℕ) × Took a.0 (P x) zs × Took zs Blank rest → HasDigit from
        next b = ap (list_any is_ascii_digit) a.1.1 ∙ any_behind is_ascii_digit a.1.0 a.0 (ap (list_any is_ascii_digit) b.1.1 ∙ any_left is_ascii_digit b.1.0 b.0 (digit b.1.0 b.1.2))

-- a point: as a position, or behind its parenthesis, which comes before the pair
point_last : Last PointText (point zero)
unfolding point
point_last x i front closing other from rest t split none quiet s is = go (point_cases x from rest t)
  where
    go : Took from (Padded (PositionText x)) rest ⊎ Inside x from rest → IsFull (padded (point zero) i)
    go (inl p) =
        let j = after (prefix_len is_white i.left) i in
        let j_is : j.left ≡ other = behind_white i front other (blank_before front closing from rest x p split none) is s.not_white in
        full_then (point zero j) _ (rw (ap (begins_with (λ c. c == 40)) j_is ∙ s.not_open) (position_stops other s j j_is))
    go (inr p) = next (within front p.0 40 p.1 closing (inl refl) (sym split ∙ p.3) (padded_digit PositionText x p.1 (41 ∷ p.2) (position_digit x) p.5) quiet)
      where
        next : Within front p.0 40 p.1 closing → IsFull (padded (point zero) i)
        next b =
            let j = after (prefix_len is_white i.left) i in
            let j_is : j.left ≡ 40 ∷ (b.rest ++ other) = behind_white i p.0 (40 ∷ (b.rest ++ other)) p.4 (is ∙ (ap (λ f. f ++ other) b.front_is ∙ append_assoc p.0 (40 ∷ b.rest) other)) refl in
            full_then (point zero j) _ (rw (ap (begins_with (λ c. c == 40)) j_is)
            (then_full (λ _ k. k.left ≡ b.rest ++ other) (expect 40 j) _ (expect_read 40 j (b.rest ++ other) j_is)
            (λ _ k k_is. full_then (padded (position zero) k) _ (position_last x k b.rest closing other p.1 (41 ∷ p.2) p.5 b.left_is (p.6 none) quiet s k_is))))

-- ---- lists
-- a list has a digit where its items have one
separated_digit : {A : Type 0} (P : A → Rule) → ((x : A) (text : List ℕ) → P x text → HasDigit text) → (xs : List A) (from rest : List ℕ) → Took from (Separated P xs) rest → HasDigit from
separated_digit P digit [] from rest t = absurd t.2
separated_digit P digit (x ∷ []) from rest t = padded_digit P x from rest (digit x) t
separated_digit P digit (x ∷ y ∷ more) from rest t = go (apart from rest (Padded (P x)) (Byte 44 ⨾ Separated P (y ∷ more)) t)
  where
    go : (ys : List ℕ) × Took from (Padded (P x)) ys × Took ys (Byte 44 ⨾ Separated P (y ∷ more)) rest → HasDigit from
    go a = padded_digit P x from a.0 (digit x) a.1

-- the items before the last are read whole, and the pair is in the last, for which there is no room
separated_last : {A : Type 0} (P : A → Rule) (item : ℕ → Reader A) → Begins P is_white → ((room : ℕ) → 0 < room → Complete P Ends (item room)) → ((x : A) (text : List ℕ) → P x text → HasDigit text) → Last P (item zero)
    → (room : ℕ) (xs : List A) (i : Input) (front closing other from rest : List ℕ) → length xs ≡ room + 1 → Took from (Separated P xs) rest → from ≡ front ++ pair closing → NoDigit rest → NoDigit closing → Applies other
    → i.left ≡ front ++ other → IsFull (separated item room i)
unfolding separated
separated_last P item starts complete digit last room [] i front closing other from rest many t split none quiet s is = absurd t.2
separated_last P item starts complete digit last zero (x ∷ []) i front closing other from rest many t split none quiet s is = full_then (padded (item zero) i) _ (last x i front closing other from rest t split none quiet s is)
separated_last P item starts complete digit last zero (x ∷ y ∷ more) i front closing other from rest many t split none quiet s is = absurd (omega (arith, many))
separated_last P item starts complete digit last (suc room) (x ∷ []) i front closing other from rest many t split none quiet s is = absurd (omega (arith, many))
separated_last P item starts complete digit last (suc room) (x ∷ y ∷ more) i front closing other from rest many t split none quiet s is =
    go (apart from rest (Padded (P x)) (Byte 44 ⨾ Separated P (y ∷ more)) t)
    (λ j f g took split_too left_is. separated_last P item starts complete digit last room (y ∷ more) j f closing other g rest (one_less (length (y ∷ more)) room many) took split_too none quiet s left_is)
  where
    one_less : (m n : ℕ) → suc m ≡ suc n + 1 → m ≡ n + 1
    one_less m n e = omega (arith, e)

    go : (ys : List ℕ) × Took from (Padded (P x)) ys × Took ys (Byte 44 ⨾ Separated P (y ∷ more)) rest
        → ((j : Input) (f g : List ℕ) → Took g (Separated P (y ∷ more)) rest → g ≡ f ++ pair closing → j.left ≡ f ++ other → IsFull (separated item room j)) → IsFull (separated item (suc room) i)
    go a again = next (apart a.0 rest (Byte 44) (Separated P (y ∷ more)) a.2)
      where
        next : (ys : List ℕ) × Took a.0 (Byte 44) ys × Took ys (Separated P (y ∷ more)) rest → IsFull (separated item (suc room) i)
        next b = read (within front a.1.0 44 b.0 closing (inr refl) (sym split ∙ (a.1.1 ∙ ap (λ l. a.1.0 ++ l) (byte_is 44 a.0 b.0 b.1))) (separated_digit P digit (y ∷ more) b.0 rest b.2) quiet)
          where
            read : Within front a.1.0 44 b.0 closing → IsFull (separated item (suc room) i)
            read w =
                let behind = 44 ∷ (w.rest ++ other) in
                then_full (λ z j. (z ≡ x) × (j.left ≡ behind)) (padded (item (suc room)) i) _
                (padded_read P (item (suc room)) starts (complete (suc room) (omega arith)) i x behind
                (a.1.0, is ∙ (ap (λ f. f ++ other) w.front_is ∙ append_assoc a.1.0 (44 ∷ w.rest) other), a.1.2) (closed_by_comma (w.rest ++ other)))
                (λ z j known. rw (ap (begins_with (λ c. c == 44)) known.1) (full_then (separated item room (after 1 j)) _ (again (after 1 j) w.rest b.0 b.2 w.left_is (ap (drop 1) known.1))))

-- a point has a digit in either form
point_digit : (p : Position) (text : List ℕ) → PointText p text → HasDigit text
point_digit p text (inl h) = position_digit p text h
point_digit p text (inr h) = enclosed_digit (apart text [] (Byte 40) (Padded (PositionText p) ⨾ Byte 41) (text, sym (append-nil text), h))
  where
    enclosed_digit : (ys : List ℕ) × Took text (Byte 40) ys × Took ys (Padded (PositionText p) ⨾ Byte 41) [] → HasDigit text
    enclosed_digit a = next (apart a.0 [] (Padded (PositionText p)) (Byte 41) a.2)
      where
        next : (ys : List ℕ) × Took a.0 (Padded (PositionText p)) ys × Took ys (Byte 41) [] → HasDigit text
        next b = ap (list_any is_ascii_digit) (byte_is 40 text a.0 a.1) ∙ padded_digit PositionText p a.0 b.0 (position_digit p) b.1

-- lists in parentheses have digits where their items do
list_digit : {A : Type 0} (P : A → Rule) → ((x : A) (text : List ℕ) → P x text → HasDigit text) → (xs : List A) (text : List ℕ) → Enclosed (Separated P xs) text → HasDigit text
list_digit P digit xs text t = go (apart text [] (Byte 40) (Separated P xs ⨾ Byte 41) (text, sym (append-nil text), t))
  where
    go : (ys : List ℕ) × Took text (Byte 40) ys × Took ys (Separated P xs ⨾ Byte 41) [] → HasDigit text
    go a = next (apart a.0 [] (Separated P xs) (Byte 41) a.2)
      where
        next : (ys : List ℕ) × Took a.0 (Separated P xs) ys × Took ys (Byte 41) [] → HasDigit text
        next b = ap (list_any is_ascii_digit) (byte_is 40 text a.0 a.1) ∙ separated_digit P digit xs a.0 b.0 b.1

-- so a line or ring has a digit
line_digit : (ps : List Position) (text : List ℕ) → LineText ps text → HasDigit text
line_digit = list_digit PositionText position_digit

-- and a polygon
polygon_digit : (rs : List (List Position)) (text : List ℕ) → PolygonText rs text → HasDigit text
polygon_digit = list_digit LineText line_digit

-- a list in parentheses: the pair comes after its parenthesis
list_last : {A : Type 0} (P : A → Rule) (inner : Reader (List A)) (xs : List A) (closing other : List ℕ) → ((x : A) (text : List ℕ) → P x text → HasDigit text)
    → ((k : Input) (f g rest : List ℕ) → Took g (Separated P xs) rest → g ≡ f ++ pair closing → NoDigit rest → k.left ≡ f ++ other → IsFull (inner k))
    → (i : Input) (front from rest : List ℕ) → Took from (Padded (Enclosed (Separated P xs))) rest → from ≡ front ++ pair closing → NoDigit rest → NoDigit closing → i.left ≡ front ++ other → IsFull (padded (enclosed inner) i)
list_last P inner xs closing other digit full i front from rest t split none quiet is = go (parenthesized P xs from rest t)
  where
    go : Parenthesized P xs from rest → IsFull (padded (enclosed inner) i)
    go o = made (within front o.white 40 o.list closing (inl refl) (sym split ∙ o.from_is) (separated_digit P digit xs o.list (41 ∷ o.end) o.items_are) quiet)
      where
        end_quiet : NoDigit o.end
        end_quiet = ap (list_any is_ascii_digit) o.end_blank.1 ∙ none_of_both is_ascii_digit o.end_blank.0 rest (blank_no_digit o.end_blank.0 o.end_blank.2) none

        made : Within front o.white 40 o.list closing → IsFull (padded (enclosed inner) i)
        made w = padded_open inner i o.white (w.rest ++ other) o.all_white (at_front o.white w.rest other front i.left 40 w.front_is is)
            (λ k k_is. full k w.rest o.list (41 ∷ o.end) o.items_are w.left_is end_quiet k_is)

-- ---- items
-- an item whose last position is one too many
LastItem : {A : Type 0} → (A → Rule) → (ℕ → ℕ → Reader A) → (A → List (List Position)) → Type 0
LastItem {A} P item rings = (count room : ℕ) (x : A) (i : Input) (front closing other from rest : List ℕ) → positions_in (rings x) ≡ room + 1 → Took from (Padded (P x)) rest → from ≡ front ++ pair closing
    → NoDigit rest → NoDigit closing → Applies other → i.left ≡ front ++ other → IsFull (padded (item count room) i)

-- an item before the last fits and is read whole, or is too long itself; the pair is in the last
items_last : {A : Type 0} (P : A → Rule) (item : ℕ → ℕ → Reader A) (rings : A → List (List Position)) → HasRings P rings → ReadsItem P item rings → FullItem P item rings
    → ((x : A) (text : List ℕ) → P x text → HasDigit text) → LastItem P item rings
    → (turns count room : ℕ) (xs : List A) (i : Input) (front closing other from rest : List ℕ) → count ≤ turns → positions_in (rings_of rings xs) ≡ room + 1 → Took from (Separated P xs) rest → from ≡ front ++ pair closing
    → NoDigit rest → NoDigit closing → Applies other → i.left ≡ front ++ other → IsFull (items item rings turns count room i)
unfolding LastItem
items_last P item rings has complete full digit last turns count room [] i front closing other from rest enough many t split none quiet s is = absurd t.2
items_last P item rings has complete full digit last turns count room (x ∷ []) i front closing other from rest enough many t split none quiet s is = item_full item rings turns count room i
    (last count room x i front closing other from rest (subst (λ rs. positions_in rs ≡ room + 1) (append-nil (rings x)) many) t split none quiet s is)
items_last P item rings has complete full digit last turns count room (x ∷ y ∷ more) i front closing other from rest enough many t split none quiet s is = go (comma_behind P x y more from rest t)
    (λ n j f g left enough_left took split_too left_is. items_last P item rings has complete full digit last n (count - length (rings x)) (room - positions_in (rings x)) (y ∷ more) j f closing other g rest
    enough_left left took split_too none quiet s left_is)
  where
    left_of : FitsCounts count room (rings x) → positions_in (rings_of rings (y ∷ more)) ≡ (room - positions_in (rings x)) + 1
    left_of fits = omega (arith, positions_of_both (rings x) (rings_of rings (y ∷ more)), fits.1, many)

    go : (V : List ℕ) × Took from (Padded (P x)) (44 ∷ V) × Took V (Separated P (y ∷ more)) rest
        → ((n : ℕ) (j : Input) (f g : List ℕ) → positions_in (rings_of rings (y ∷ more)) ≡ (room - positions_in (rings x)) + 1 → count - length (rings x) ≤ n → Took g (Separated P (y ∷ more)) rest → g ≡ f ++ pair closing
        → j.left ≡ f ++ other → IsFull (items item rings n (count - length (rings x)) (room - positions_in (rings x)) j))
        → IsFull (items item rings turns count room i)
    go c again = made (within front c.1.0 44 c.0 closing (inr refl) (sym split ∙ c.1.1) (separated_digit P digit (y ∷ more) c.0 rest c.2) quiet)
      where
        made : Within front c.1.0 44 c.0 closing → IsFull (items item rings turns count room i)
        made w = item_and_more P item rings has complete full turns count room x i (w.rest ++ other) enough
            (c.1.0, at_front c.1.0 w.rest other front i.left 44 w.front_is is, c.1.2)
            (λ n j enough_left fits j_is. again n j w.rest c.0 (left_of fits) enough_left c.2 w.left_is j_is)

-- ---- rings and elements, polygons
-- an element or ring with one position too many: no part may come, or its list is too long
ring_last : LastItem LineText ring alone
unfolding LastItem ring line
ring_last zero room x i front closing other from rest many t split none quiet s is = go (parenthesized PositionText x from rest t)
  where
    go : Parenthesized PositionText x from rest → IsFull {A = List Position} (padded (expect 40 >> too_long) i)
    go o = made (within front o.white 40 o.list closing (inl refl) (sym split ∙ o.from_is) (separated_digit PositionText position_digit x o.list (41 ∷ o.end) o.items_are) quiet)
      where
        made : Within front o.white 40 o.list closing → IsFull {A = List Position} (padded (expect 40 >> too_long) i)
        made w = no_ring i o.white (w.rest ++ other) o.all_white (at_front o.white w.rest other front i.left 40 w.front_is is)
ring_last (suc count) room x i front closing other from rest many t split none quiet s is = list_last PositionText (separated position room) x closing other position_digit
    (λ k f g more took split_too none_too k_is. separated_last PositionText position position_not_white position_read position_digit position_last room x k f closing other g more (ap length (sym (append-nil x)) ∙ many)
    took split_too none_too quiet s k_is) i front from rest t split none quiet is

-- elements or rings with one position too many
parts_last : (count room : ℕ) (xs : List (List Position)) (i : Input) (front closing other from rest : List ℕ) → positions_in xs ≡ room + 1 → Took from (Separated LineText xs) rest → from ≡ front ++ pair closing
    → NoDigit rest → NoDigit closing → Applies other → i.left ≡ front ++ other → IsFull (parts count room i)
parts_last count room xs i front closing other from rest many t split none quiet s is = rw (parts_are_items count room i)
    (items_last LineText ring alone one_ring ring_read ring_full line_digit ring_last count count room xs i front closing other from rest (le_refl count) (ap positions_in (alone_of xs) ∙ many) t split none quiet s is)

-- a polygon with one, in parentheses
polygon_last : LastItem PolygonText polygon itself
unfolding LastItem polygon
polygon_last count room x i front closing other from rest many t split none quiet s is = list_last LineText (parts count room) x closing other line_digit
    (λ k f g more took split_too none_too k_is. parts_last count room x k f closing other g more many took split_too none_too quiet s k_is) i front from rest t split none quiet is

-- polygons with one among all their rings
polygons_last : (turns count room : ℕ) (xs : List (List (List Position))) (i : Input) (front closing other from rest : List ℕ) → count ≤ turns → positions_in (joined_rings xs) ≡ room + 1 → Took from (Separated PolygonText xs) rest
    → from ≡ front ++ pair closing → NoDigit rest → NoDigit closing → Applies other → i.left ≡ front ++ other → IsFull (polygons turns count room i)
polygons_last turns count room xs i front closing other from rest enough many t split none quiet s is = rw (polygons_are_items turns count room i)
    (items_last PolygonText polygon itself rings_of_polygon polygon_read polygon_full polygon_digit polygon_last turns count room xs i front closing other from rest enough many t split none quiet s is)

-- ---- whole texts
-- a list that is too long makes the text so behind its name: MULTIPOINT
points_named : Named (codes "MULTIPOINT") (separated point position_limit)
unfolding typed
points_named at n i w full = rw (named n (codes "MULTIPOINT") (codes "POINT") w, named n (codes "MULTIPOINT") (codes "MULTIPOINT") w) (full_then (positions point i) _ full)

-- the same behind LINESTRING
line_named : Named (codes "LINESTRING") (separated position position_limit)
unfolding typed
line_named at n i w full =
    rw (named n (codes "LINESTRING") (codes "POINT") w, named n (codes "LINESTRING") (codes "MULTIPOINT") w, named n (codes "LINESTRING") (codes "LINESTRING") w) (full_then (positions position i) _ full)

-- the list begins before the pair
whole_last : {A : Type 0} (own : List ℕ) (P : A → Rule) (x : A) (xs : List A) (text front closing other : List ℕ) (inner : Reader (List A)) → list_all is_ascii_alphabetic (map to_ascii_lowercase own) ≡ true → 0 < length own
    → Named own inner → ((y : A) (part : List ℕ) → P y part → HasDigit part) → Layout own P (x ∷ xs) text → text ≡ front ++ pair closing → NoDigit closing
    → ((i : Input) (f from rest : List ℕ) → Took from (Separated P (x ∷ xs)) rest → from ≡ f ++ pair closing → NoDigit rest → i.left ≡ f ++ other → IsFull (inner i))
    → IsFull (whole (record { left = front ++ other; at = 0 }))
whole_last own P x xs text front closing other inner letters_are long named_full digit y split none full = go
    (within front (y.before ++ (y.name ++ y.white)) 40 y.list closing (inl refl) (sym split ∙ y.text_is) (separated_digit P digit (x ∷ xs) y.list (41 ∷ y.end) y.items_are) none)
  where
    go : Within front (y.before ++ (y.name ++ y.white)) 40 y.list closing → IsFull (whole (record { left = front ++ other; at = 0 }))
    go w = whole_by_list own P (x ∷ xs) text inner letters_are long named_full y (record { left = front ++ other; at = 0 }) (w.rest ++ other)
        (ap (λ f. f ++ other) w.front_is ∙ append_assoc (y.before ++ (y.name ++ y.white)) (40 ∷ w.rest) other)
        (λ k k_is. full k w.rest y.list (41 ∷ y.end) y.items_are w.left_is (blank_no_digit y.end y.end_white) k_is)

-- an empty geometry hasn't that many positions
none_long : (n : ℕ) → 0 ≡ n + 1 → ⊥
none_long n e = omega (arith, e)

-- nor has a POINT
one_long : 1 ≡ position_limit + 1 → ⊥
one_long e = omega (arith, e)

-- type by type: with a number in the place of the pair, whatever comes after it, the text is too long
lasting : (w : Geometry) (text front closing other : List ℕ) → Writes w text → text ≡ front ++ pair closing → NoDigit closing → Applies other → length (written_positions w) ≡ position_limit + 1
    → IsFull (whole (record { left = front ++ other; at = 0 }))
lasting (Point None) text front closing other t split none s counted = absurd (none_long position_limit counted)
lasting (Point (Some p)) text front closing other t split none s counted = absurd (one_long counted)
lasting (MultiPoint []) text front closing other t split none s counted = absurd (none_long position_limit counted)
lasting (LineString []) text front closing other t split none s counted = absurd (none_long position_limit counted)
lasting (MultiLineString []) text front closing other t split none s counted = absurd (none_long position_limit counted)
lasting (Polygon []) text front closing other t split none s counted = absurd (none_long position_limit counted)
lasting (MultiPolygon []) text front closing other t split none s counted = absurd (none_long position_limit counted)
lasting (MultiPoint (p ∷ ps)) text front closing other t split none s counted = whole_last (codes "MULTIPOINT") PointText p ps text front closing other (separated point position_limit) refl (zero-lt-suc 9) points_named point_digit
    (layout (codes "MULTIPOINT") PointText p ps text t) split none
    (λ i f from rest took split_too quiet is. separated_last PointText point point_not_white point_read point_digit point_last position_limit (p ∷ ps) i f closing other from rest counted took split_too quiet none s is)
lasting (LineString (p ∷ ps)) text front closing other t split none s counted = whole_last (codes "LINESTRING") PositionText p ps text front closing other (separated position position_limit) refl (zero-lt-suc 9) line_named position_digit
    (layout (codes "LINESTRING") PositionText p ps text t) split none
    (λ i f from rest took split_too quiet is. separated_last PositionText position position_not_white position_read position_digit position_last position_limit (p ∷ ps) i f closing other from rest counted took split_too quiet none s is)
lasting (MultiLineString (l ∷ ls)) text front closing other t split none s counted = whole_last (codes "MULTILINESTRING") LineText l ls text front closing other (parts part_limit position_limit) refl (zero-lt-suc 14) lines_named line_digit
    (layout (codes "MULTILINESTRING") LineText l ls text t) split none
    (λ i f from rest took split_too quiet is. parts_last part_limit position_limit (l ∷ ls) i f closing other from rest counted took split_too quiet none s is)
lasting (Polygon (r ∷ rs)) text front closing other t split none s counted = whole_last (codes "POLYGON") LineText r rs text front closing other (parts part_limit position_limit) refl (zero-lt-suc 6) rings_named line_digit
    (layout (codes "POLYGON") LineText r rs text t) split none
    (λ i f from rest took split_too quiet is. parts_last part_limit position_limit (r ∷ rs) i f closing other from rest counted took split_too quiet none s is)
lasting (MultiPolygon (e ∷ es)) text front closing other t split none s counted = whole_last (codes "MULTIPOLYGON") PolygonText e es text front closing other (polygons part_limit part_limit position_limit) refl (zero-lt-suc 11)
    polygons_named polygon_digit (layout (codes "MULTIPOLYGON") PolygonText e es text t) split none
    (λ i f from rest took split_too quiet is. polygons_last part_limit part_limit position_limit (e ∷ es) i f closing other from rest (le_refl part_limit) counted took split_too quiet none s is)

-- what closes the text has no digit
no_digit : (xs : List ℕ) → list_any begins_more xs ≡ false → NoDigit xs
no_digit [] e = refl
no_digit (x ∷ xs) e = let parts = or_parts (begins_more x) (list_any begins_more xs) e in
    let here = or_parts (is_ascii_digit x) (x == 40) parts.0 in
    rw here.0 (no_digit xs parts.1)

-- a first number is read, and begins with neither white space nor a parenthesis
applies : (tail : List ℕ) (minus : Bool) (integer digits : List ℕ) → IsFirstNumber tail minus integer digits → Applies tail
applies tail minus integer digits f = record {
  read = λ j is. numbered j (first_number tail minus integer digits f j is);
  not_white = ap (begins_with is_white) f.split ∙ numeral_begins is_white refl refl refl digit_not_white minus integer digits f.number f.rest f.numeral;
  not_open = ap (begins_with (λ c. c == 40)) f.split ∙ numeral_begins (λ c. c == 40) refl refl refl (λ c is. differs c 40 is refl) minus integer digits f.number f.rest f.numeral;
}
  where
    numbered : (j : Input) → Read tail minus integer digits j → (n : FoundNumber) × (k : Input) × (numeral j ≡ Ok (n, k))
    numbered j r = (r.n, r.k, r.is)

-- a text with one position too many begins like this one; reading comes to the number, where none may come
pub too_many_positions_are_too_long : (text : List ℕ) → HasTooManyPositions text → read_text text ≡ Err TooLong
unfolding read_text
too_many_positions_are_too_long text h = ap outcome (full_is (whole (record { left = text; at = 0 })) (subst (λ u. IsFull (whole (record { left = u; at = 0 }))) (sym h.split)
    (lasting h.written (h.front ++ codes "+0 0" ++ h.closing) h.front h.closing h.tail h.spelled (append_assoc h.front (codes "+0 0") h.closing) (no_digit h.closing h.no_more)
    (applies h.tail h.minus h.whole h.fraction h.number) h.counted)))
