-- Rows of one width, kept one after another.
use Rattle.std.proofs.Common.{◌≡◌, ◌∙◌, ◌+◌, ◌*◌, ◌++◌, ◌<◌, ◌≤◌, ℕ, zero, suc, List, [], ◌∷◌, Some, ap, ap₂, arith, drop, flat_map, get_or, length, map, refl, slice_get, subst, sym, take, length-append, length-drop}
use Rattle.std.proofs.Math.Nat.{mul-le-mul_left}
use Rattle.std.proofs.Math.Seq.{drop-append-add, drop-append_seam}
use Rattle.std.proofs.lemmas.List.{drop-append-le, flat_map_more, length-take-le, take-append-le, take_all, take_more}
use Rattle.std.proofs.lemmas.List.Elements.{All-from_get_or, All-head, All-tail}
use Rattle.std.proofs.lemmas.List.FromFn.{get_or-map-range_with_len, get_or-range_with_len, length-map-range_with_len, length-range_with_len, map-range_with_len_more}
use Rattle.std.proofs.lemmas.Option.{slice_get-get_or}
use Rattle.std.specs.List.{All, range_with_len}
use Rattle.feature_table.specs.FlatRows.{IsWithin, first_rows, row_at, rows_at}

-- two functions that agree on the numbers from one on
same_from : {X : Type 0} (f g : ℕ → X) (a n : ℕ) → ((p : ℕ) → a ≤ p → p < a + n → f p ≡ g p) → map f (range_with_len a n) ≡ map g (range_with_len a n)
same_from f g a zero h = refl
same_from {X = X} f g a (suc n) h =
    ap₂ (λ (x : X) (xs : List X). x ∷ xs) (h a (omega arith) (omega arith)) (same_from f g (a + 1) n (λ p low high. h p (omega arith) (omega arith)))

-- each of the first numbers is below their count
pub range_below : (n : ℕ) → All (λ p. p < n) (range_with_len 0 n)
range_below n =
    All-from_get_or (λ p. p < n) (range_with_len 0 n) 0 (λ i h.
    let size = length-range_with_len 0 n in
    let within : i < n = omega (arith, h, size) in
    let is = get_or-range_with_len 0 n i 0 within in
    omega (arith, within, is))

-- the first of a list, each read at its place
read_front : {X : Type 0} (d : X) (xs : List X) (n : ℕ) → n ≤ length xs → map (λ p. get_or xs p d) (range_with_len 0 n) ≡ take n xs
read_front d xs zero h = refl
read_front {X = X} d xs (suc n) h =
    let within : n < length xs = omega (arith, h) in
    let before = read_front d xs n (omega (arith, h)) in
    let grown = map-range_with_len_more (λ p. get_or xs p d) 0 n n (omega arith) in
    let longer = take_more xs n d within in
    let one : n + 1 ≡ suc n = omega arith in
    subst (λ m. map (λ p. get_or xs p d) (range_with_len 0 m) ≡ take m xs) one
    (grown ∙ ap (λ (l : List X). l ++ get_or xs n d ∷ []) before ∙ sym longer)

-- a list, each read at its place
pub read_all : {X : Type 0} (d : X) (xs : List X) → map (λ p. get_or xs p d) (range_with_len 0 (length xs)) ≡ xs
read_all d xs = read_front d xs (length xs) (omega arith) ∙ take_all (length xs) xs (omega arith)

-- the rows before a count are within the values of so many
pub within_first : (width count place : ℕ) → place < count → place * width + width ≤ count * width
within_first width count place h =
    let more : place + 1 ≤ count = omega (arith, h) in
    let product = mul-le-mul_left width more in
    omega (arith, product)

-- the row at a place is as long as a row
pub row_width : {A : Type 0} (width : ℕ) (values : List A) (place : ℕ) → IsWithin width values place → width ≤ length (drop (place * width) values)
row_width width values place h = let rest = length-drop (place * width) values in omega (arith, h, rest)

-- more values at the end leave a row as it was
row_kept : {A : Type 0} (width : ℕ) (values row : List A) (place : ℕ) → IsWithin width values place → row_at width (values ++ row) place ≡ row_at width values place
row_kept width values row place h =
    let there : place * width ≤ length values = omega (arith, h) in
    ap (take width) (drop-append-le (place * width) values row there) ∙ take-append-le width (drop (place * width) values) row (row_width width values place h)

-- as many values as a row has, after so many rows, are one row more
pub one_row_more : {A : Type 0} (width : ℕ) (values row : List A) (count : ℕ) → length values ≡ count * width → length row ≡ width
    → first_rows width (values ++ row) (count + 1) ≡ first_rows width values count ++ row ∷ []
one_row_more {A = A} width values row count size whole =
    let grown = map-range_with_len_more (row_at width (values ++ row)) 0 count count (omega arith) in
    let kept = same_from (row_at width (values ++ row)) (row_at width values) 0 count (λ p low high.
    let inside = within_first width count p (omega (arith, high)) in
    row_kept width values row p (omega (arith, inside, size))) in
    let seam : drop (count * width) (values ++ row) ≡ row = ap (λ n. drop n (values ++ row)) (sym size) ∙ drop-append_seam values row in
    let last : row_at width (values ++ row) count ≡ row = ap (take width) seam ∙ take_all width row (omega (arith, whole)) in
    grown ∙ ap₂ (λ (l : List (List A)) (e : List A). l ++ e ∷ []) kept last

-- there are as many rows as are counted
pub rows_counted : {A : Type 0} (width : ℕ) (values : List A) (count : ℕ) → length (first_rows width values count) ≡ count
rows_counted width values count = length-map-range_with_len (row_at width values) 0 count

-- the row at a place
pub row_there : {A : Type 0} (width : ℕ) (values : List A) (count i : ℕ) → i < count
    → slice_get (first_rows width values count) i ≡ Some (row_at width values i)
row_there width values count i within =
    let size = rows_counted width values count in
    slice_get-get_or (first_rows width values count) i (row_at width values i) (omega (arith, within, size))
    ∙ ap Some (get_or-map-range_with_len (row_at width values) 0 count i i (row_at width values i) within (omega arith))

row_whole : {A : Type 0} (width : ℕ) (values : List A) (place : ℕ) → IsWithin width values place
    → length (row_at width values place) ≡ width
row_whole width values place h = length-take-le width (drop (place * width) values) (row_width width values place h)

-- rows that are joined have as many values as there are places, times their width
pub joined_size : {A : Type 0} (width : ℕ) (values : List A) (order : List ℕ) → All (IsWithin width values) order
    → length (flat_map (row_at width values) order) ≡ length order * width
joined_size width values [] h = omega arith
joined_size width values (p ∷ ps) h =
    let row = row_at width values p in
    let whole = row_whole width values p (All-head (IsWithin width values) p ps h) in
    let rest = joined_size width values ps (All-tail (IsWithin width values) p ps h) in
    let sum = length-append row (flat_map (row_at width values) ps) in
    omega (arith, whole, rest, sum)

-- behind one row the places of the others are one more
row_behind : {A : Type 0} (width : ℕ) (row rest : List A) (p : ℕ) → length row ≡ width
    → row_at width (row ++ rest) (p + 1) ≡ row_at width rest p
row_behind width row rest p whole =
    let place : (p + 1) * width ≡ length row + p * width = omega (arith, whole) in
    ap (λ n. take width (drop n (row ++ rest))) place ∙ ap (take width) (drop-append-add row rest (p * width))

rows_behind : {A : Type 0} (width : ℕ) (row rest : List A) (a n : ℕ) → length row ≡ width
    → map (row_at width (row ++ rest)) (range_with_len (a + 1) n) ≡ map (row_at width rest) (range_with_len a n)
rows_behind width row rest a zero whole = refl
rows_behind {A = A} width row rest a (suc n) whole =
    ap₂ (λ (r : List A) (rs : List (List A)). r ∷ rs) (row_behind width row rest a whole)
    (rows_behind width row rest (a + 1) n whole)

-- the rows of those that are joined are the rows at the places
pub rows_joined : {A : Type 0} (width : ℕ) (values : List A) (order : List ℕ) → All (IsWithin width values) order
    → first_rows width (flat_map (row_at width values) order) (length order) ≡ rows_at width values order
rows_joined width values [] h = refl
rows_joined {A = A} width values (p ∷ ps) h =
    let row = row_at width values p in
    let rest = flat_map (row_at width values) ps in
    let whole = row_whole width values p (All-head (IsWithin width values) p ps h) in
    let none : 0 * width ≡ 0 = omega arith in
    let first : row_at width (row ++ rest) 0 ≡ row =
    ap (λ n. take width (drop n (row ++ rest))) none ∙ take-append-le width row rest (omega (arith, whole))
    ∙ take_all width row (omega (arith, whole)) in
    ap₂ (λ (r : List A) (rs : List (List A)). r ∷ rs) first
    (rows_behind width row rest 0 (length ps) whole ∙ rows_joined width values ps (All-tail (IsWithin width values) p ps h))

-- one row more is joined to the others
pub joined_more : {A : Type 0} (width : ℕ) (values : List A) (order : List ℕ) (i : ℕ) → i < length order
    → flat_map (row_at width values) (take i order) ++ row_at width values (get_or order i 0)
    ≡ flat_map (row_at width values) (take (i + 1) order)
joined_more width values order i within =
    flat_map_more (row_at width values) [] (take i order) (get_or order i 0)
    ∙ ap (flat_map (row_at width values)) (sym (take_more order i 0 within))

-- a row that was appended to so many rows is one row more
pub row_appended : {A : Type 0} (width : ℕ) (old new row : List A) (count : ℕ) → length old ≡ count * width → length new ≡ length old + width → new ≡ old ++ row
    → first_rows width new (count + 1) ≡ first_rows width old count ++ row ∷ []
row_appended width old new row count size longer put =
    let both = ap length put in
    let sum = length-append old row in
    let whole : length row ≡ width = omega (arith, both, sum, longer) in
    ap (λ values. first_rows width values (count + 1)) put ∙ one_row_more width old row count size whole

-- the values of one row more
pub one_more_wide : (width old new count : ℕ) → old ≡ count * width → new ≡ old + width → new ≡ (count + 1) * width
one_more_wide width old new count size longer = omega (arith, size, longer)
