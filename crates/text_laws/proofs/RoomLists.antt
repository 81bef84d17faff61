-- Items that use up rooms for parts and positions: the rings of a polygon, the elements of a MULTILINESTRING, the polygons of a MULTIPOLYGON.
use Rattle.std.proofs.Common.{◌≡◌, refl, sym, ap, ap₂, ◌∙◌, ℕ, zero, suc, ◌+◌, ◌-◌, ◌<◌, ◌≤◌, ◌⊎◌, inl, inr, Bool, true, false, List, [], ◌∷◌, ◌++◌, length, Result, Ok, Err, if◌then◌else◌, length-append, append-nil, arith}
use Rattle.std.specs.List.{prefix_len, flat_map}
use Rattle.geometry_model.specs.Points.{Position}
use Rattle.geometry_model.specs.WellKnownText.{is_white}
use Rattle.geometry_model.specs.TextReading.{Input, Reader, and_then, pure, after, too_long, eat, ◌>>◌, ◌>>=◌, expect, padded, line, parts, polygon, polygons}
use Rattle.geometry_model.specs.declared.text_faults.TextFault.{TextFault}

-- ---- the reading
-- what may come behind an item: a comma and more
abbrev pub going_on : {A : Type 0} → A → Reader (List A) → Reader (List A)
going_on x more = eat 44 >>= λ met. (if met then (more >>= λ xs. pure (x ∷ xs)) else pure (x ∷ []))

-- the positions of some rings
abbrev pub positions_in : List (List Position) → ℕ
positions_in rs = length (flat_map (λ r. r) rs)

-- items, each of which leaves so much less room as it has rings and positions
unfoldable pub items : {A : Type 0} → (ℕ → ℕ → Reader A) → (A → List (List Position)) → ℕ → ℕ → ℕ → Reader (List A)
items item rings zero count room = padded (item count room) >>= λ x. pure (x ∷ [])
items item rings (suc turns) count room = padded (item count room) >>= λ x. going_on x (items item rings turns (count - length (rings x)) (room - positions_in (rings x)))

-- a ring or an element, where one may come
unfoldable pub ring : ℕ → ℕ → Reader (List Position)
ring zero room = expect 40 >> too_long
ring (suc count) room = line room

-- a ring is the only one of its own
abbrev pub alone : List Position → List (List Position)
alone x = x ∷ []

-- a polygon is its rings
abbrev pub itself : List (List Position) → List (List Position)
itself x = x

-- steps that agree on all that was found have one outcome
pub then_same : {A B : Type 0} (r : Result (A × Input) TextFault) (f g : A → Reader B) → ((x : A) (j : Input) → f x j ≡ g x j) → and_then r f ≡ and_then r g
then_same (Ok found) f g same = same found.0 found.1
then_same (Err fault) f g same = refl

-- the same behind an item, whether a comma goes on or not
same_going_on : {A : Type 0} (x : A) (s t : Reader (List A)) → ((j : Input) → s j ≡ t j) → (i : Input) → going_on x s i ≡ going_on x t i
same_going_on x s t same i = then_same (eat 44 i) _ _ (λ met j. by_comma met j)
  where
    by_comma : (met : Bool) (j : Input) → (if met then (s >>= λ xs. pure (x ∷ xs)) else pure (x ∷ [])) j ≡ (if met then (t >>= λ xs. pure (x ∷ xs)) else pure (x ∷ [])) j
    by_comma true j = ap (λ r. and_then r (λ xs. pure (x ∷ xs))) (same j)
    by_comma false j = refl

-- no ring is where none may come, whatever is made of it
none_made : {A B C : Type 0} (r : Result (Bool × Input) TextFault) (f : A → Reader C) (g : B → Reader B) (h : B → Reader C)
    → and_then (and_then r (λ _. too_long {A = A})) f ≡ and_then (and_then (and_then r (λ _. too_long {A = B})) g) h
none_made (Ok found) f g h = refl
none_made (Err fault) f g h = refl

-- elements and rings are items that use up one part each and their positions, so what is known of items holds of them
pub parts_are_items : (count room : ℕ) (i : Input) → parts count room i ≡ items ring alone count count room i
unfolding parts items ring
parts_are_items zero room i = none_made (expect 40 (after (prefix_len is_white i.left) i)) _ _ _
parts_are_items (suc count) room i = then_same (padded (line room) i) _ (λ x. going_on x (items ring alone count (suc count - 1) (room - positions_in (alone x))))
    (λ x j. same_going_on x (parts count (room - length x)) (items ring alone count (suc count - 1) (room - positions_in (alone x)))
    (λ k. parts_are_items count (room - length x) k ∙ ap₂ (λ m n. items ring alone count m n k) (one_less count) (ap (λ l. room - length l) (sym (append-nil x)))) j)
  where
    one_less : (n : ℕ) → n ≡ suc n - 1
    one_less n = omega arith

-- polygons are items that use up as many parts as they have rings, and the positions of these
pub polygons_are_items : (turns count room : ℕ) (i : Input) → polygons turns count room i ≡ items polygon itself turns count room i
unfolding polygons items
polygons_are_items zero count room i = refl
polygons_are_items (suc turns) count room i = then_same (padded (polygon count room) i) _ _ (λ x j. same_going_on x _ _ (polygons_are_items turns (count - length x) (room - positions_in x)) j)

-- ---- the rooms
-- the rings of some items
abbrev pub rings_of : {A : Type 0} → (A → List (List Position)) → List A → List (List Position)
rings_of rings xs = flat_map rings xs

-- rings that are each taken alone, one behind the other, are these rings
pub alone_of : (xs : List (List Position)) → rings_of alone xs ≡ xs
alone_of [] = refl
alone_of (x ∷ xs) = ap (λ l. x ∷ l) (alone_of xs)

-- the positions of two lists of rings add up
pub positions_of_both : (xs ys : List (List Position)) → positions_in (xs ++ ys) ≡ positions_in xs + positions_in ys
positions_of_both [] ys = omega arith
positions_of_both (x ∷ xs) ys = omega (arith, length-append x (flat_map (λ r. r) (xs ++ ys)), length-append x (flat_map (λ r. r) xs), positions_of_both xs ys)

-- no more rings and positions than may come
abbrev pub FitsCounts : ℕ → ℕ → List (List Position) → Type 0
FitsCounts count room rs = (length rs ≤ count) × (positions_in rs ≤ room)

-- more rings, or more positions
abbrev pub IsOver : ℕ → ℕ → List (List Position) → Type 0
IsOver count room rs = (count < length rs) ⊎ (room < positions_in rs)

-- a number is within a limit or past it
pub fits_or_not : (m n : ℕ) → (m ≤ n) ⊎ (n < m)
fits_or_not m n = grind arith

-- rings fit both counts, or are more than one of them allows
pub fits_or_over : (count room : ℕ) (rs : List (List Position)) → FitsCounts count room rs ⊎ IsOver count room rs
fits_or_over count room rs = go (fits_or_not (length rs) count) (fits_or_not (positions_in rs) room)
  where
    go : (length rs ≤ count) ⊎ (count < length rs) → (positions_in rs ≤ room) ⊎ (room < positions_in rs) → FitsCounts count room rs ⊎ IsOver count room rs
    go (inr many) e = inr (inl many)
    go (inl few) (inr many) = inr (inr many)
    go (inl few) (inl few_too) = inl (few, few_too)

pub one_fits : (count room : ℕ) (xs : List (List Position)) → FitsCounts count room xs → FitsCounts count room (xs ++ [])
one_fits count room xs fits = rw (append-nil xs) fits

-- rings that fit, and others that fit the room that these leave, fit together
pub both_fit : (count room : ℕ) (xs ys : List (List Position)) → FitsCounts count room xs → FitsCounts (count - length xs) (room - positions_in xs) ys → FitsCounts count room (xs ++ ys)
both_fit count room xs ys fits others = (omega (arith, length-append xs ys, fits.0, others.0), omega (arith, positions_of_both xs ys, fits.1, others.1))

-- where both fit together, the first do
pub first_fits : (count room : ℕ) (xs ys : List (List Position)) → FitsCounts count room (xs ++ ys) → FitsCounts count room xs
first_fits count room xs ys fits = (omega (arith, length-append xs ys, fits.0), omega (arith, positions_of_both xs ys, fits.1))

-- and the others fit the room that the first leave
pub others_fit : (count room : ℕ) (xs ys : List (List Position)) → FitsCounts count room (xs ++ ys) → FitsCounts (count - length xs) (room - positions_in xs) ys
others_fit count room xs ys fits = (omega (arith, length-append xs ys, fits.0), omega (arith, positions_of_both xs ys, fits.1))

-- where both together are too many but the first fit, the others are too many for the room that is left
pub rest_over : (count room : ℕ) (xs ys : List (List Position)) → IsOver count room (xs ++ ys) → FitsCounts count room xs → IsOver (count - length xs) (room - positions_in xs) ys
rest_over count room xs ys (inl many) fits = inl (omega (arith, length-append xs ys, many, fits.0))
rest_over count room xs ys (inr many) fits = inr (omega (arith, positions_of_both xs ys, many, fits.1))
