-- Rows of one width, kept one after another in one list of values.
use Rattle.std.specs.Prelude.{◌≡◌, ◌≢◌, ◌*◌, ◌+◌, ◌++◌, ◌≤◌, ℕ, List, Result, Ok, Err, drop, length, map, take}
use Rattle.std.specs.List.{range_with_len}

-- the row at a place
abbrev pub row_at : {A : Type 0} → ℕ → List A → ℕ → List A
row_at width values place = take width (drop (place * width) values)

-- the whole row at a place is there
abbrev pub IsWithin : {A : Type 0} → ℕ → List A → ℕ → Type 0
IsWithin width values place = place * width + width ≤ length values

-- the rows at these places
abbrev pub rows_at : {A : Type 0} → ℕ → List A → List ℕ → List (List A)
rows_at width values places = map (row_at width values) places

-- the first rows, this many
abbrev pub first_rows : {A : Type 0} → ℕ → List A → ℕ → List (List A)
first_rows width values count = rows_at width values (range_with_len 0 count)

-- a call appends a row to the values, or returns the row's fault, or that memory ran out
abbrev pub AppendsRow : {A F X : Type 0} → F → List A → List A → Result X F → Result (List A) F → Type 0
AppendsRow {A = A} memory old new (Ok x) answer = (row : List A) × (answer ≡ Ok row) × (new ≡ old ++ row)
AppendsRow memory old new (Err f) answer = f ≢ memory → answer ≡ Err f
