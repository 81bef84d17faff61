-- What stretches get of one record more.
use Rattle.std.proofs.Common.{◌≡◌, ◌∙◌, ◌+◌, ◌-◌, ◌*◌, ◌/◌, ◌++◌, ◌<◌, ◌≤◌, ◌==◌, ◌⊎◌, inl, inr, ℕ, zero, suc, Bool, true, false, cond, List, [], ◌∷◌, Option, Some, None, ap, ap₂, append-nil, arith, get_or, length, map, option_map, replicate, take, drop, unwrap_or, slice_get, refl, sym, subst, le-ltb, lt-ltb}
use Rattle.std.specs.List.{flat_map, range_with_len}
use Rattle.std.proofs.lemmas.Bool.{cases_lt, cases_order}
use Rattle.std.proofs.lemmas.Bool.Decides.{nat_tests}
use Rattle.std.proofs.lemmas.List.{append_assoc, drop-append-le, drop_all, ext_get_or, get_or-map, get_or_append_left, get_or_push, get_or-replicate, length-drop, length-map, length-take, length-take-le, length_push, map_push, replicate_more, take_all, take-append-le}
use Rattle.std.proofs.lemmas.List.FromFn.{get_or-range_with_len, length-range_with_len, map-range_with_len_more}
use Rattle.std.proofs.lemmas.Nat.{div-mul-add}
use Rattle.std.proofs.lemmas.Option.{get_or_from_slice_get, slice_get-get_or, slice_get-map, slice_get_past}
use Rattle.std.proofs.Math.Nat.{lt-div-mul-add, mul-le-mul_right}
use Rattle.std.proofs.Math.Seq.{take-add}
use Rattle.std.proofs.lemmas.Grind.{flat_map-append}
use Rattle.std.proofs.lemmas.List.Elements.{All-map}
use Rattle.basics.proofs.Numbers.{to_end}
use Rattle.table_model.specs.Loading.{Record}
use Rattle.tiles.specs.Copies.{AreWritten, lines_of, stretch_count, stretch_of, stretches, table_at}
use Rattle.tiles.specs.RecordLines.{line_of}
use Rattle.tiles.specs.Stretches.{AreFilled, StretchesAreWhole, begun_at}
use Rattle.tiles.specs.Texts.{Texts, Grow, in_cell}
use Rattle.tiles.proofs.TextLemmas.{grow_same, grow_trans}

-- ---- numbers

-- a stretch before the last ends before the last begins
ends_before : (size k last : ℕ) → k < last → k * size + size ≤ last * size
ends_before size k last h = let more : (k + 1) * size ≤ last * size = mul-le-mul_right size (omega arith) in let same : (k + 1) * size ≡ k * size + size = omega arith in omega (arith, more, same)

-- how many stretches there are, where the last one has so many records
pub count_is : (size read last rows : ℕ) → 0 < size → read ≡ last * size + rows → rows ≤ size → (0 < last → 0 < rows) → (read - 1) / size + 1 ≡ last + 1
count_is size read zero rows pos sum few some = let e : read - 1 ≡ 0 * size + (rows - 1) = omega arith in let d = div-mul-add 0 size (rows - 1) (omega arith) in ap (λ n. n / size + 1) e ∙ ap (λ n. n + 1) d
count_is size read (suc last) rows pos sum few some =
    let h : 0 < rows = some (omega arith) in
    let e : read - 1 ≡ suc last * size + (rows - 1) = omega (arith, h) in
    let d = div-mul-add (suc last) size (rows - 1) (omega (arith, h)) in ap (λ n. n / size + 1) e ∙ ap (λ n. n + 1) d

-- ---- stretches

-- a full stretch stays as it is
pub full_stays : (size : ℕ) (read : List Record) (x : Record) (last rows k : ℕ) → length read ≡ last * size + rows → k < last
    → stretch_of size (read ++ x ∷ []) k ≡ stretch_of size read k
full_stays size read x last rows k sum before =
    let ends = ends_before size k last before in
    let left = length-drop (k * size) read in
    ap (take size) (drop-append-le (k * size) read (x ∷ []) (omega (arith, ends, sum))) ∙ take-append-le size (drop (k * size) read) (x ∷ []) (omega (arith, ends, sum, left))

-- the last stretch gets the record
pub last_grows : (size : ℕ) (read : List Record) (x : Record) (last rows : ℕ) → length read ≡ last * size + rows → rows < size
    → stretch_of size (read ++ x ∷ []) last ≡ stretch_of size read last ++ x ∷ []
last_grows size read x last rows sum few =
    let left = length-drop (last * size) read in
    let more = length_push (drop (last * size) read) x in
    ap (take size) (drop-append-le (last * size) read (x ∷ []) (omega (arith, sum)))
    ∙ take_all size (drop (last * size) read ++ x ∷ []) (omega (arith, sum, left, more))
    ∙ ap (λ l. l ++ x ∷ []) (sym (take_all size (drop (last * size) read) (omega (arith, sum, left))))

-- a stretch behind all records has none
pub none_behind : (size : ℕ) (read : List Record) (number : ℕ) → length read ≤ number * size → stretch_of size read number ≡ []
none_behind size read number h = ap (take size) (drop_all (number * size) read h) ∙ nothing size
  where
    nothing : (n : ℕ) → take {A = Record} n [] ≡ []
    nothing zero = refl
    nothing (suc n) = refl

-- how many records a full stretch has
pub full_size : (size : ℕ) (read : List Record) (last rows k : ℕ) → length read ≡ last * size + rows → k < last → length (stretch_of size read k) ≡ size
full_size size read last rows k sum before =
    let ends = ends_before size k last before in
    let left = length-drop (k * size) read in
    length-take-le size (drop (k * size) read) (omega (arith, ends, sum, left))

-- and how many the last
pub last_size : (size : ℕ) (read : List Record) (last rows : ℕ) → length read ≡ last * size + rows → rows ≤ size → length (stretch_of size read last) ≡ rows
last_size size read last rows sum few =
    let left = length-drop (last * size) read in
    ap length (take_all size (drop (last * size) read) (omega (arith, sum, left))) ∙ (omega (arith, sum, left))

-- ---- texts

-- the lines of one record more
lines_push : (rows : List Record) (x : Record) → lines_of (rows ++ x ∷ []) ≡ lines_of rows ++ line_of x
lines_push [] x = append-nil (line_of x)
lines_push (y ∷ ys) x = ap (λ l. line_of y ++ l) (lines_push ys x) ∙ sym (append_assoc (line_of y) (lines_of ys) (line_of x))

other : (a b : ℕ) → a < b → (b == a) ≡ false
other a b h = grind (arith, nat_tests)

other_below : (a b : ℕ) → a < b → (a == b) ≡ false
other_below a b h = grind (arith, nat_tests)

-- the text of a stretch that is begun
begun : (header : Record) (row : Record → Record) (size : ℕ) (read : List Record) (last k : ℕ) → k ≤ last
    → begun_at header row size read last k ≡ lines_of (header ∷ map row (stretch_of size read k))
begun header row size read last k h = ap (λ (b : Bool). cond b [] (lines_of (header ∷ map row (stretch_of size read k)))) (le-ltb last k h)

-- and of one that isn't
not_begun : (header : Record) (row : Record → Record) (size : ℕ) (read : List Record) (last k : ℕ) → last < k → begun_at header row size read last k ≡ []
not_begun header row size read last k h = ap (λ (b : Bool). cond b [] (lines_of (header ∷ map row (stretch_of size read k)))) (lt-ltb last k h)

-- another cell gets nothing
nothing_in : (number k : ℕ) (line : List ℕ) → (number == k) ≡ false → in_cell number line k ≡ []
nothing_in number k line h = ap (λ (b : Bool). cond b line []) h

-- the cell itself gets its line
all_in : (number : ℕ) (line : List ℕ) → in_cell number line number ≡ line
all_in number line = let h : (number == number) ≡ true = grind (arith, nat_tests) in ap (λ (b : Bool). cond b line []) h

-- what each text has of one record more
row_at : (header : Record) (row : Record → Record) (size : ℕ) (read : List Record) (x : Record) (last rows k : ℕ) → length read ≡ last * size + rows → rows < size
    → begun_at header row size read last k ++ in_cell last (line_of (row x)) k ≡ begun_at header row size (read ++ x ∷ []) last k
row_at header row size read x last rows k sum few = go (cases_order k last)
  where
    go : (k ≡ last) ⊎ ((k < last) ⊎ (last < k)) → begun_at header row size read last k ++ in_cell last (line_of (row x)) k ≡ begun_at header row size (read ++ x ∷ []) last k
    go (inr (inl before)) =
        ap₂ (λ (a b : List ℕ). a ++ b) (begun header row size read last k (omega arith)) (nothing_in last k (line_of (row x)) (other k last before))
        ∙ append-nil (lines_of (header ∷ map row (stretch_of size read k)))
        ∙ ap (λ (l : List Record). lines_of (header ∷ map row l)) (sym (full_stays size read x last rows k sum before))
        ∙ sym (begun header row size (read ++ x ∷ []) last k (omega arith))
    go (inl same) =
        subst (λ (j : ℕ). begun_at header row size read last j ++ in_cell last (line_of (row x)) j ≡ begun_at header row size (read ++ x ∷ []) last j) (sym same)
        (ap₂ (λ (a b : List ℕ). a ++ b) (begun header row size read last last (omega arith)) (all_in last (line_of (row x)))
        ∙ sym (lines_push (header ∷ map row (stretch_of size read last)) (row x))
        ∙ ap (λ (l : List Record). lines_of (header ∷ l)) (sym (map_push row (stretch_of size read last) x))
        ∙ ap (λ (l : List Record). lines_of (header ∷ map row l)) (sym (last_grows size read x last rows sum few))
        ∙ sym (begun header row size (read ++ x ∷ []) last last (omega arith)))
    go (inr (inr behind)) =
        ap₂ (λ (a b : List ℕ). a ++ b) (not_begun header row size read last k behind) (nothing_in last k (line_of (row x)) (other_below last k behind))
        ∙ sym (not_begun header row size (read ++ x ∷ []) last k behind)

-- what each text has where a stretch is begun
header_at : (header : Record) (row : Record → Record) (size : ℕ) (read : List Record) (last k : ℕ) → length read ≡ (last + 1) * size
    → begun_at header row size read last k ++ in_cell (last + 1) (line_of header) k ≡ begun_at header row size read (last + 1) k
header_at header row size read last k sum = go (cases_order k (last + 1))
  where
    go : (k ≡ last + 1) ⊎ ((k < last + 1) ⊎ (last + 1 < k)) → begun_at header row size read last k ++ in_cell (last + 1) (line_of header) k ≡ begun_at header row size read (last + 1) k
    go (inr (inl before)) =
        ap₂ (λ (a b : List ℕ). a ++ b) (begun header row size read last k (omega arith)) (nothing_in (last + 1) k (line_of header) (other k (last + 1) before))
        ∙ append-nil (lines_of (header ∷ map row (stretch_of size read k)))
        ∙ sym (begun header row size read (last + 1) k (omega arith))
    go (inl same) =
        subst (λ (j : ℕ). begun_at header row size read last j ++ in_cell (last + 1) (line_of header) j ≡ begun_at header row size read (last + 1) j) (sym same)
        (ap₂ (λ (a b : List ℕ). a ++ b) (not_begun header row size read last (last + 1) (omega arith)) (all_in (last + 1) (line_of header))
        ∙ sym (append-nil (line_of header))
        ∙ ap (λ (l : List Record). lines_of (header ∷ map row l)) (sym (none_behind size read (last + 1) (omega (arith, sum))))
        ∙ sym (begun header row size read (last + 1) (last + 1) (omega arith)))
    go (inr (inr behind)) =
        ap₂ (λ (a b : List ℕ). a ++ b) (not_begun header row size read last k (omega arith)) (nothing_in (last + 1) k (line_of header) (other_below (last + 1) k behind))
        ∙ sym (not_begun header row size read (last + 1) k behind)

-- ---- the loop

-- before the first record the first stretch is begun
pub filled_none : (old new : Texts) (header : Record) (row : Record → Record) (size : ℕ) → Grow old new (in_cell 0 (line_of header)) → AreFilled old new header row size [] [] 0
filled_none old new header row size grew = record {
  texts = grow_same old new (in_cell 0 (line_of header)) (begun_at header row size [] 0) first grew;
  full = refl;
  sum = omega arith;
}
  where
    first : (k : ℕ) → in_cell 0 (line_of header) k ≡ begun_at header row size [] 0 k
    first zero = sym (append-nil (line_of header)) ∙ ap (λ (l : List Record). lines_of (header ∷ map row l)) (sym (none_behind size [] 0 (omega arith))) ∙ sym (begun header row size [] 0 0 (omega arith))
    first (suc k) = nothing_in 0 (suc k) (line_of header) (other_below 0 (suc k) (omega arith)) ∙ sym (not_begun header row size [] 0 (suc k) (omega arith))

-- the same of the counts with which the loop begins
pub filled_start : (old new : Texts) (header : Record) (row : Record → Record) (size : ℕ) (counts : List ℕ) → counts ≡ [] → Grow old new (in_cell 0 (line_of header))
    → AreFilled old new header row size [] counts 0
filled_start old new header row size counts none grew = subst (λ (c : List ℕ). AreFilled old new header row size [] c 0) (sym none) (filled_none old new header row size grew)

-- nothing is counted before a record came
pub none_counted : (counts : List ℕ) (rows : ℕ) → counts ≡ [] → 0 < length counts → 0 < rows
none_counted counts rows none h = let e : length counts ≡ 0 = ap length none in absurd (omega (arith, e, h))

-- nothing was written
pub filled_same : (old mid new : Texts) (header : Record) (row : Record → Record) (size : ℕ) (read : List Record) (counts : List ℕ) (rows : ℕ)
    → AreFilled old mid header row size read counts rows → Grow mid new (λ _. []) → AreFilled old new header row size read counts rows
filled_same old mid new header row size read counts rows was none = record {
  texts = grow_same old new (λ k. begun_at header row size read (length counts) k ++ []) (begun_at header row size read (length counts))
      (λ k. append-nil (begun_at header row size read (length counts) k)) (grow_trans old mid new (begun_at header row size read (length counts)) (λ _. []) was.texts none);
  full = was.full;
  sum = was.sum;
}

-- a stretch more is begun
pub filled_begun : (old mid new : Texts) (header : Record) (row : Record → Record) (size : ℕ) (read : List Record) (counts more : List ℕ) (rows : ℕ)
    → AreFilled old mid header row size read counts rows → rows ≡ size → more ≡ counts ++ rows ∷ [] → Grow mid new (in_cell (length counts + 1) (line_of header)) → AreFilled old new header row size read more 0
filled_begun old mid new header row size read counts more rows was filled is grew = record {
  texts = grow_same old new (λ k. begun_at header row size read (length counts) k ++ in_cell (length counts + 1) (line_of header) k) (begun_at header row size read (length more))
      (λ k. header_at header row size read (length counts) k sum ∙ ap (λ (n : ℕ). begun_at header row size read n k) (sym count)) (grow_trans old mid new (begun_at header row size read (length counts)) (in_cell (length counts + 1) (line_of header)) was.texts grew);
  full = is ∙ ap₂ (λ (l : List ℕ) (n : ℕ). l ++ n ∷ []) was.full filled ∙ replicate_more (length counts) size ∙ ap (λ n. replicate n size) (sym count);
  sum = sum ∙ ap (λ n. n * size) (sym count) ∙ to_end (length more * size);
}
  where
    count : length more ≡ length counts + 1
    count = ap length is ∙ length_push counts rows

    sum : length read ≡ (length counts + 1) * size
    sum = let e : (length counts + 1) * size ≡ length counts * size + size = omega arith in omega (arith, was.sum, filled, e)

-- a record more is in the last stretch
pub filled_more : (old mid new : Texts) (header : Record) (row : Record → Record) (size : ℕ) (read : List Record) (x : Record) (counts : List ℕ) (rows : ℕ)
    → AreFilled old mid header row size read counts rows → rows < size → Grow mid new (in_cell (length counts) (line_of (row x))) → AreFilled old new header row size (read ++ x ∷ []) counts (rows + 1)
filled_more old mid new header row size read x counts rows was few grew = record {
  texts = grow_same old new (λ k. begun_at header row size read (length counts) k ++ in_cell (length counts) (line_of (row x)) k) (begun_at header row size (read ++ x ∷ []) (length counts))
      (λ k. row_at header row size read x (length counts) rows k was.sum few) (grow_trans old mid new (begun_at header row size read (length counts)) (in_cell (length counts) (line_of (row x))) was.texts grew);
  full = was.full;
  sum = length_push read x ∙ ap (λ n. n + 1) was.sum ∙ (omega arith);
}

-- ---- the end

-- the stretch at a place
stretch_at : (row : Record → Record) (size : ℕ) (read : List Record) (k : ℕ) → k < stretch_count size read → slice_get (map (map row) (stretches size read)) k ≡ Some (map row (stretch_of size read k))
stretch_at row size read k h =
    slice_get-map (map row) (stretches size read) k
    ∙ ap (option_map (map row)) (slice_get-map (stretch_of size read) (range_with_len 0 (stretch_count size read)) k
    ∙ ap (option_map (stretch_of size read)) (slice_get-get_or (range_with_len 0 (stretch_count size read)) k 0 within ∙ ap Some number))
  where
    within : k < length (range_with_len 0 (stretch_count size read))
    within = let l = length-range_with_len 0 (stretch_count size read) in omega (arith, l, h)

    number : get_or (range_with_len 0 (stretch_count size read)) k 0 ≡ k
    number = get_or-range_with_len 0 (stretch_count size read) k 0 h ∙ (omega arith)

-- how many stretches are listed
listed : (row : Record → Record) (size : ℕ) (read : List Record) → length (map (map row) (stretches size read)) ≡ stretch_count size read
listed row size read = length-map (stretches size read) (map row) ∙ length-map (range_with_len 0 (stretch_count size read)) (stretch_of size read) ∙ length-range_with_len 0 (stretch_count size read)

-- no stretch is behind the last
stretch_past : (row : Record → Record) (size : ℕ) (read : List Record) (k : ℕ) → stretch_count size read ≤ k → slice_get (map (map row) (stretches size read)) k ≡ None
stretch_past row size read k h = slice_get_past (map (map row) (stretches size read)) k (let l = listed row size read in omega (arith, l, h))

-- all records were read: the stretches are written
pub filled_all : (old new : Texts) (header : Record) (row : Record → Record) (size : ℕ) (read : List Record) (counts all : List ℕ) (rows : ℕ)
    → AreFilled old new header row size read counts rows → 0 < size → rows ≤ size → (0 < length counts → 0 < rows) → all ≡ counts ++ rows ∷ []
    → AreWritten old new header (map (map row) (stretches size read)) all
filled_all old new header row size read counts all rows was pos few some is = record {
  texts = grow_same old new (begun_at header row size read (length counts)) (table_at header (map (map row) (stretches size read))) text was.texts;
  counted = is ∙ ext_get_or 0 (counts ++ rows ∷ []) (map length (map (map row) (stretches size read))) size_is count;
}
  where
    number : stretch_count size read ≡ length counts + 1
    number = count_is size (length read) (length counts) rows pos was.sum few some

    text : (k : ℕ) → begun_at header row size read (length counts) k ≡ table_at header (map (map row) (stretches size read)) k
    text k = go (cases_lt k (length counts + 1))
      where
        go : (k < length counts + 1) ⊎ (length counts + 1 ≤ k) → begun_at header row size read (length counts) k ≡ table_at header (map (map row) (stretches size read)) k
        go (inl h) =
            begun header row size read (length counts) k (omega arith)
            ∙ sym (ap (λ (o : Option (List Record)). unwrap_or (option_map (λ (l : List Record). lines_of (header ∷ l)) o) []) (stretch_at row size read k (omega (arith, number))))
        go (inr h) =
            not_begun header row size read (length counts) k (omega arith)
            ∙ sym (ap (λ (o : Option (List Record)). unwrap_or (option_map (λ (l : List Record). lines_of (header ∷ l)) o) []) (stretch_past row size read k (omega (arith, number))))

    size_is : length (counts ++ rows ∷ []) ≡ length (map length (map (map row) (stretches size read)))
    size_is = length_push counts rows ∙ sym number ∙ sym (length-map (map (map row) (stretches size read)) length ∙ listed row size read)

    length_at : (k : ℕ) → k < stretch_count size read → get_or (map length (map (map row) (stretches size read))) k 0 ≡ length (stretch_of size read k)
    length_at k h =
        get_or-map length (map (map row) (stretches size read)) k [] 0 (let l = listed row size read in omega (arith, l, h))
        ∙ ap length (get_or_from_slice_get (map (map row) (stretches size read)) k (map row (stretch_of size read k)) [] (stretch_at row size read k h))
        ∙ length-map (stretch_of size read k) row

    count : (k : ℕ) → k < length (counts ++ rows ∷ []) → get_or (counts ++ rows ∷ []) k 0 ≡ get_or (map length (map (map row) (stretches size read))) k 0
    count k h = go (cases_lt k (length counts))
      where
        more : length (counts ++ rows ∷ []) ≡ length counts + 1
        more = length_push counts rows

        go : (k < length counts) ⊎ (length counts ≤ k) → get_or (counts ++ rows ∷ []) k 0 ≡ get_or (map length (map (map row) (stretches size read))) k 0
        go (inl before) =
            get_or_append_left counts (rows ∷ []) 0 k before
            ∙ ap (λ (l : List ℕ). get_or l k 0) was.full ∙ get_or-replicate (length counts) k size 0 before
            ∙ sym (length_at k (omega (arith, number)) ∙ full_size size read (length counts) rows k was.sum before)
        go (inr last) =
            let same : k ≡ length counts = omega (arith, more, h) in
            let here : length counts ≡ k = sym same in
            get_or_push counts rows 0 k here
            ∙ sym (length_at k (omega (arith, number)) ∙ ap (λ n. length (stretch_of size read n)) same ∙ last_size size read (length counts) rows was.sum few)

-- one record more: the last stretch gets it, or the next one if that is full
pub filled_step : (old mid next new : Texts) (header : Record) (row : Record → Record) (size : ℕ) (read : List Record) (x : Record) (counts more : List ℕ) (rows left : ℕ)
    → AreFilled old mid header row size read counts rows → 0 < size → rows ≤ size
    → (rows < size → (left ≡ rows) × (more ≡ counts) × Grow mid next (λ _. []))
    → (size ≤ rows → (left ≡ 0) × (more ≡ counts ++ rows ∷ []) × Grow mid next (in_cell (length counts + 1) (line_of header)))
    → Grow next new (in_cell (length more) (line_of (row x)))
    → AreFilled old new header row size (read ++ x ∷ []) more (left + 1) × (left + 1 ≤ size)
filled_step old mid next new header row size read x counts more rows left was pos few goes begins grew = go (cases_lt rows size)
  where
    go : (rows < size) ⊎ (size ≤ rows) → AreFilled old new header row size (read ++ x ∷ []) more (left + 1) × (left + 1 ≤ size)
    go (inl h) = let w = goes h in
        let same : AreFilled old next header row size read more left = rw (w.0, w.1) (filled_same old mid next header row size read counts rows was w.2) in
        let room : left < size = omega (arith, w.0) in
        (filled_more old next new header row size read x more left same room grew, omega (arith, w.0))
    go (inr h) = let w = begins h in
        let full : rows ≡ size = omega arith in
        let next_one : AreFilled old next header row size read more left = rw (w.0) (filled_begun old mid next header row size read counts more rows was full w.1 w.2) in
        let room : left < size = omega (arith, w.0) in
        (filled_more old next new header row size read x more left next_one room grew, omega (arith, w.0))

-- ---- the whole

-- the first stretches together
pub whole_so_far : {X : Type 0} (size : ℕ) (rows : List X) (n : ℕ)
    → flat_map (λ (s : List X). s) (map (stretch_of size rows) (range_with_len 0 n)) ≡ take (n * size) rows
whole_so_far size rows zero = let e : 0 ≡ 0 * size = omega arith in ap (λ k. take k rows) e
whole_so_far {X = X} size rows (suc n) =
    let one : suc n ≡ n + 1 = omega arith in
    let more : n * size + size ≡ suc n * size = omega arith in
    ap (λ k. flat_map (λ (s : List X). s) (map (stretch_of size rows) (range_with_len 0 k))) one
    ∙ ap (flat_map (λ (s : List X). s)) (map-range_with_len_more (stretch_of size rows) 0 n n (omega arith))
    ∙ flat_map-append (λ (s : List X). s) (map (stretch_of size rows) (range_with_len 0 n)) (stretch_of size rows n ∷ [])
    ∙ ap₂ (λ (a b : List X). a ++ b) (whole_so_far size rows n) (append-nil (stretch_of size rows n))
    ∙ sym (take-add (n * size) size rows)
    ∙ ap (λ k. take k rows) more

-- so many stretches are enough for all
pub stretches_enough : (size : ℕ) (rows : List Record) → 0 < size → length rows ≤ stretch_count size rows * size
stretches_enough size rows pos =
    let past : length rows - 1 < (length rows - 1) / size * size + size = lt-div-mul-add pos in
    let more : ((length rows - 1) / size + 1) * size ≡ (length rows - 1) / size * size + size = omega arith in
    omega (arith, past, more)

-- and all of them
pub stretches_are_whole : StretchesAreWhole
stretches_are_whole size rows pos = (
  whole_so_far size rows (stretch_count size rows)
      ∙ take_all (stretch_count size rows * size) rows (stretches_enough size rows pos),
  All-map (λ (s : List Record). length s ≤ size) (stretch_of size rows) (range_with_len 0 (stretch_count size rows))
      (λ k d h. few (get_or (range_with_len 0 (stretch_count size rows)) k d)),
)
  where
    few : (k : ℕ) → length (stretch_of size rows k) ≤ size
    few k = let l = length-take size (drop (k * size) rows) in omega (arith, l)
