-- What is written of records is read as these records.
use Rattle.std.proofs.Common.{◌≡◌, ◌≢◌, ◌∙◌, ◌+◌, ◌≤◌, ℕ, zero, suc, List, [], ◌∷◌, All, ap, ap₂, arith, length, map, option_map, Option, refl, unwrap_or}
use Rattle.std.proofs.lemmas.List.{length-append}
use Rattle.std.proofs.lemmas.List.Elements.{All-head, All-tail}
use Rattle.csv.proofs.RoundTrip.{read-write}
use Rattle.csv.specs.Machine.{next_record}
use Rattle.csv.specs.Reading.{default_config, records, records_from}
use Rattle.csv.specs.Writing.{read_back}
use Rattle.csv.specs.declared.parser.State.TheVariants as st
use Rattle.table_model.specs.Loading.{Record}
use Rattle.tiles.specs.Copies.{lines_of}
use Rattle.tiles.specs.RecordLines.{line_of}
use Rattle.tiles.specs.ReadBack.{WrittenTablesAreRead}

-- a line has a byte
some_byte : (row : Record) → 1 ≤ length (line_of row)
unfolding line_of
some_byte row = simp length-append (omega arith)

-- so there are no more records than bytes
few : (rows : List Record) → length rows ≤ length (lines_of rows)
few [] = omega arith
few (row ∷ rows) = let one = some_byte row in let more = few rows in simp length-append (omega (arith, one, more))

-- the records of lines, asked for often enough
asked : (n : ℕ) (rows : List Record) → length rows ≤ n → records_from default_config n st.StartRecord (lines_of rows) ≡ map read_back rows
unfolding records_from line_of next_record
asked zero [] h = refl
asked (suc n) [] h = refl
asked zero (row ∷ rows) h = absurd (omega (arith, h))
asked (suc n) (row ∷ rows) h = rw (read-write row (lines_of rows)) (ap (λ (t : List Record). read_back row ∷ t) (asked n rows (omega (arith, h))))

-- a record of some fields is read as it is
same : (rows : List Record) → All (λ row. row ≢ []) rows → map read_back rows ≡ rows
same [] some = refl
same (row ∷ rows) some = ap₂ (λ (r : Record) (rs : List Record). r ∷ rs) (here row (All-head (λ (r : Record). r ≢ []) row rows some)) (same rows (All-tail (λ (r : Record). r ≢ []) row rows some))
  where
    here : (r : Record) → r ≢ [] → read_back r ≡ r
    here [] not = absurd (not refl)
    here (x ∷ xs) not = refl

-- the records of the lines of records are these
pub lines_are_read : (rows : List Record) → All (λ row. row ≢ []) rows → records default_config (lines_of rows) ≡ rows
lines_are_read rows some = asked (length (lines_of rows) + 1) rows (let h = few rows in omega (arith, h)) ∙ same rows some

-- and so are those of a table
pub tables_are_read : WrittenTablesAreRead
tables_are_read header tables number rows is some unmarked =
    let here = ap (λ (o : Option (List Record)). unwrap_or (option_map (λ (l : List Record). lines_of (header ∷ l)) o) []) is in
    ap (records default_config) (unmarked ∙ here) ∙ lines_are_read (header ∷ rows) some
