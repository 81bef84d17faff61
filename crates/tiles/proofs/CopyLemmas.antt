-- How records are read, and what the tables that are written of them get of one more.
use Rattle.std.proofs.Common.{◌≡◌, ◌∙◌, ◌==◌, ◌+◌, ◌++◌, ◌<◌, ◌≤◌, ◌^◌, ◌⊎◌, inl, inr, ℕ, zero, suc, Bool, true, false, cond, if◌then◌else◌, List, [], ◌∷◌, Option, Some, None, Result, Ok, Err, ap, append-nil, arith, filter, get_or, length, map, option_map, replicate, take, unwrap_or, slice_get, refl, sym, subst}
use Rattle.std.specs.List.{count_by}
use Rattle.std.specs.Prelude.{IfOk, nat_lt}
use Rattle.std.proofs.lemmas.Bool.{cases_lt}
use Rattle.std.proofs.lemmas.Bool.Decides.{nat_tests}
use Rattle.std.proofs.lemmas.List.{append_assoc, ext_get_or, get_or_past, get_or_read, length-map, length-replicate}
use Rattle.std.proofs.lemmas.List.Elements.{All-cons, All-nil, All-push, All-weaker}
use Rattle.std.proofs.lemmas.List.Sums.{count_by-le-length, length-filter, sum_by_more_le}
use Rattle.std.proofs.lemmas.Option.{slice_get-get_or, slice_get_past}
use Rattle.tiles.specs.declared.plain_records.PlainRecords.{PlainRecords}
use Rattle.geometry_model.specs.Envelopes.{Envelope}
use Rattle.feature_table.specs.Layouts.{IsLayout}
use Rattle.feature_table.specs.declared.headers.Layout.{Layout}
use Rattle.tiles.specs.PlainRecords.{GivesRest, TakesNext}
use Rattle.feature_table.specs.Tables.{AreRecordsOf, records_in}
use Rattle.table_model.specs.Loading.{Record, header_fault}
use Rattle.table_model.specs.declared.definitions.ColumnDef.{ColumnDef}
use Rattle.table_model.specs.declared.faults.LoadFault.{LoadFault}
use Rattle.table_laws.specs.Cells.{Cell, cells_of, is_copied}
use Rattle.tiles.specs.Copies.{AreAdded, AreAll, AreRecordsOfTable, AreWritten, WereRead, geometry_in, copied_fields, is_copied_to, lines_of, marked_fields, rows_at, size_of, stretches, stretches_of, table_at, tile_of, tiles}
use Rattle.tiles.specs.RecordLines.{cell_row, line_of, places_in}
use Rattle.tiles.specs.Texts.{Texts, Grow}
use Rattle.tiles.proofs.TextLemmas.{grow_none, grow_same, grow_trans}

-- ---- reading

-- before the first record nothing was read
pub read_none : {R : Type 0} (remaining : R → Option (List ℕ)) (reader : PlainRecords R) (width : ℕ) → WereRead remaining reader reader width []
read_none remaining reader width = record { even = All-nil (λ (fields : Record). length fields ≡ width); gives = λ rest gives. (rest, gives, refl) }

-- one record more was read
pub read_more : {R : Type 0} (remaining : R → Option (List ℕ)) (old mid new : PlainRecords R) (width : ℕ) (read : List Record) (fields : Record) → WereRead remaining old mid width read
    → length fields ≡ width → ((rest : List Record) → GivesRest remaining mid rest → TakesNext remaining new rest true fields) → WereRead remaining old new width (read ++ fields ∷ [])
read_more remaining old mid new width read fields was wide takes = record {
  even = All-push (λ (f : Record). length f ≡ width) read fields was.even wide;
  gives = λ rest gives. let m = was.gives rest gives in let t = takes m.0 m.1 in
      (t.0, t.1, m.2 ∙ ap (λ l. read ++ l) t.2 ∙ sym (append_assoc read (fields ∷ []) t.0));
}

-- no record is left: those that were read are all
pub read_end : {R : Type 0} (remaining : R → Option (List ℕ)) (old mid : PlainRecords R) (width : ℕ) (read : List Record) → WereRead remaining old mid width read
    → ((rest : List Record) → GivesRest remaining mid rest → rest ≡ []) → AreAll remaining old width read
read_end remaining old mid width read was none = record {
  even = was.even;
  all = λ rest gives. let m = was.gives rest gives in m.2 ∙ ap (λ l. read ++ l) (none m.0 m.1) ∙ append-nil read;
}

-- the records of a reader, by those of its bytes where these are known
pub are_of : (known : Option (List ℕ)) (records : List Record) → ((text : List ℕ) → known ≡ Some text → records_in text ≡ records) → AreRecordsOf known records
are_of None records given = tt
are_of (Some text) records given = sym (given text refl)

-- ---- tiles

-- one record more, in the lines of those that pass a test
pub lines_more : (p : Record → Bool) (m : Record → Record) (xs : List Record) (x : Record)
    → lines_of (map m (filter p (xs ++ x ∷ []))) ≡ lines_of (map m (filter p xs)) ++ (if p x then line_of (m x) else [])
lines_more p m [] x = last (p x)
  where
    last : (b : Bool) → lines_of (map m (cond b (x ∷ []) [])) ≡ (if b then line_of (m x) else [])
    last true = append-nil (line_of (m x))
    last false = refl
lines_more p m (y ∷ ys) x = elim (p y) as (λ b. lines_of (map m (cond b (y ∷ filter p (ys ++ x ∷ [])) (filter p (ys ++ x ∷ [])))) ≡ lines_of (map m (cond b (y ∷ filter p ys) (filter p ys))) ++ (if p x then line_of (m x) else [])) [
  | true ↦ ap (λ l. line_of (m y) ++ l) (lines_more p m ys x) ∙ sym (append_assoc (line_of (m y)) (lines_of (map m (filter p ys))) (if p x then line_of (m x) else []))
  | false ↦ lines_more p m ys x
]

-- and in how many they are
pub count_more : (p : Record → Bool) (m : Record → Record) (xs : List Record) (x : Record)
    → length (map m (filter p (xs ++ x ∷ []))) ≡ length (map m (filter p xs)) + (if p x then 1 else 0)
count_more p m [] x = last (p x)
  where
    last : (b : Bool) → length (map m (cond b (x ∷ []) [])) ≡ 0 + (if b then 1 else 0)
    last true = refl
    last false = refl
count_more p m (y ∷ ys) x = elim (p y) as (λ b. length (map m (cond b (y ∷ filter p (ys ++ x ∷ [])) (filter p (ys ++ x ∷ [])))) ≡ length (map m (cond b (y ∷ filter p ys) (filter p ys))) + (if p x then 1 else 0)) [
  | true ↦ (let more = count_more p m ys x in omega (arith, more))
  | false ↦ count_more p m ys x
]

-- what is at a place of a list that is made of another
at_map : {A B : Type 0} (f : A → List B) (xs : List A) (k : ℕ) → get_or (map f xs) k [] ≡ unwrap_or (option_map f (slice_get xs k)) []
at_map f [] k = refl
at_map f (x ∷ xs) zero = refl
at_map f (x ∷ xs) (suc k) = at_map f xs k

-- what the text of a cell gets of one record more
pub rows_more : (boxes : List Envelope) (places : List ℕ) (column : ℕ) (copied : List ℕ) (read : List Record) (fields : Record) (k : ℕ)
    → rows_at (tiles boxes places column copied read) k ++ cell_row boxes (geometry_in places column fields) (copied_fields places copied fields) k
    ≡ rows_at (tiles boxes places column copied (read ++ fields ∷ [])) k
rows_more boxes places column copied read fields k =
    ap (λ l. lines_of l ++ cell_row boxes (geometry_in places column fields) (copied_fields places copied fields) k) (at_map (tile_of places column copied read) (cells_of boxes) k)
    ∙ here (slice_get (cells_of boxes) k)
    ∙ sym (ap lines_of (at_map (tile_of places column copied (read ++ fields ∷ [])) (cells_of boxes) k))
  where
    here : (o : Option Cell) → lines_of (unwrap_or (option_map (tile_of places column copied read) o) [])
        ++ unwrap_or (option_map (λ (cell : Cell). if is_copied cell (geometry_in places column fields) then line_of (marked_fields places column copied cell fields) else []) o) []
        ≡ lines_of (unwrap_or (option_map (tile_of places column copied (read ++ fields ∷ [])) o) [])
    here None = refl
    here (Some cell) = sym (lines_more (λ (f : Record). is_copied cell (geometry_in places column f)) (marked_fields places column copied cell) read fields)

-- how many records a cell has of one more
pub tile_more : (boxes : List Envelope) (places : List ℕ) (column : ℕ) (copied : List ℕ) (read : List Record) (fields : Record) (k : ℕ)
    → length (get_or (tiles boxes places column copied (read ++ fields ∷ [])) k [])
    ≡ length (get_or (tiles boxes places column copied read) k []) + (if is_copied_to boxes (geometry_in places column fields) k then 1 else 0)
tile_more boxes places column copied read fields k =
    ap length (at_map (tile_of places column copied (read ++ fields ∷ [])) (cells_of boxes) k)
    ∙ here (slice_get (cells_of boxes) k)
    ∙ ap (λ (l : List Record). length l + (if is_copied_to boxes (geometry_in places column fields) k then 1 else 0)) (sym (at_map (tile_of places column copied read) (cells_of boxes) k))
  where
    here : (o : Option Cell) → length (unwrap_or (option_map (tile_of places column copied (read ++ fields ∷ [])) o) [])
        ≡ length (unwrap_or (option_map (tile_of places column copied read) o) [])
        + (if unwrap_or (option_map (λ (cell : Cell). is_copied cell (geometry_in places column fields)) o) false then 1 else 0)
    here None = refl
    here (Some cell) = count_more (λ (f : Record). is_copied cell (geometry_in places column f)) (marked_fields places column copied cell) read fields

-- ---- counts

-- a count at a place is the length of the table there
pub count_at : (counts : List ℕ) (tables : List (List Record)) (k : ℕ) → counts ≡ map length tables → get_or counts k 0 ≡ length (get_or tables k [])
count_at counts tables k is = ap (λ (l : List ℕ). get_or l k 0) is ∙ at tables k
  where
    at : (ts : List (List Record)) (j : ℕ) → get_or (map length ts) j 0 ≡ length (get_or ts j [])
    at [] j = refl
    at (t ∷ ts) zero = refl
    at (t ∷ ts) (suc j) = at ts j

-- counts at all places are the lengths of the tables
pub counts_are : (counts : List ℕ) (tables : List (List Record)) → length counts ≡ length tables → ((k : ℕ) → get_or counts k 0 ≡ length (get_or tables k [])) → counts ≡ map length tables
counts_are counts tables size at =
    ext_get_or 0 counts (map length tables) (size ∙ sym (length-map tables length)) (λ k h. at k ∙ sym (count_at (map length tables) tables k refl))

-- as many tiles as cells
pub tiles_size : (boxes : List Envelope) (places : List ℕ) (column : ℕ) (copied : List ℕ) (rows : List Record) → length (tiles boxes places column copied rows) ≡ length boxes + 1
tiles_size boxes places column copied rows =
    length-map (cells_of boxes) (tile_of places column copied rows) ∙ (let l = length-map boxes (λ (box : Envelope). Some box) in omega (arith, l))

-- a tile has no more records than there are
tile_few : (boxes : List Envelope) (places : List ℕ) (column : ℕ) (copied : List ℕ) (read : List Record) (k : ℕ) → length (get_or (tiles boxes places column copied read) k []) ≤ length read
tile_few boxes places column copied read k = subst (λ (l : List Record). length l ≤ length read) (sym (at_map (tile_of places column copied read) (cells_of boxes) k)) (here (slice_get (cells_of boxes) k))
  where
    here : (o : Option Cell) → length (unwrap_or (option_map (tile_of places column copied read) o) []) ≤ length read
    here None = omega arith
    here (Some cell) =
        let kept = length-filter (λ (f : Record). is_copied cell (geometry_in places column f)) read in
        let most = count_by-le-length (λ (f : Record). is_copied cell (geometry_in places column f)) read in
        let made = length-map (filter (λ (f : Record). is_copied cell (geometry_in places column f)) read) (marked_fields places column copied cell) in
        omega (arith, kept, most, made)

-- one record more can be counted
pub room : (old new : Texts) (boxes : List Envelope) (places : List ℕ) (column : ℕ) (copied : List ℕ) (read : List Record) (counts : List ℕ)
    → AreAdded old new (tiles boxes places column copied read) counts → length read + 1 < 2 ^ 64 → (k : ℕ) → get_or counts k 0 + 1 < 2 ^ 64
room old new boxes places column copied read counts added few k =
    let at = count_at counts (tiles boxes places column copied read) k added.counted in
    let most = tile_few boxes places column copied read k in
    omega (arith, at, most, few)

-- of no record nothing is added
pub added_none : (t : Texts) (boxes : List Envelope) (places : List ℕ) (column : ℕ) (copied : List ℕ) (counts : List ℕ) → counts ≡ replicate (length boxes + 1) 0
    → AreAdded t t (tiles boxes places column copied []) counts
added_none t boxes places column copied counts is = record {
  texts = grow_same t t (λ _. []) (rows_at (tiles boxes places column copied [])) (λ k. sym (ap lines_of (empty k))) (grow_none t);
  counted = counts_are counts (tiles boxes places column copied []) (ap length is ∙ length-replicate (length boxes + 1) 0 ∙ sym (tiles_size boxes places column copied [])) zeros;
}
  where
    empty : (k : ℕ) → get_or (tiles boxes places column copied []) k [] ≡ []
    empty k = at_map (tile_of places column copied []) (cells_of boxes) k ∙ none (slice_get (cells_of boxes) k)
      where
        none : (o : Option Cell) → unwrap_or (option_map (tile_of places column copied []) o) [] ≡ []
        none None = refl
        none (Some cell) = refl

    zeros : (k : ℕ) → get_or counts k 0 ≡ length (get_or (tiles boxes places column copied []) k [])
    zeros k = ap (λ (l : List ℕ). get_or l k 0) is ∙ zero_at (length boxes + 1) k ∙ sym (ap length (empty k))
      where
        zero_at : (n j : ℕ) → ◌≡◌ {A = ℕ} (get_or (replicate n 0) j 0) 0
        zero_at zero j = refl
        zero_at (suc n) zero = refl
        zero_at (suc n) (suc j) = zero_at n j

-- one record more is added
pub added_more : (old mid new : Texts) (boxes : List Envelope) (places : List ℕ) (column : ℕ) (copied : List ℕ) (read : List Record) (fields : Record) (counts more : List ℕ)
    → AreAdded old mid (tiles boxes places column copied read) counts → Grow mid new (cell_row boxes (geometry_in places column fields) (copied_fields places copied fields))
    → length more ≡ length counts → ((k : ℕ) → get_or more k 0 ≡ get_or counts k 0 + (if is_copied_to boxes (geometry_in places column fields) k then 1 else 0))
    → AreAdded old new (tiles boxes places column copied (read ++ fields ∷ [])) more
added_more old mid new boxes places column copied read fields counts more was grew size counted = record {
  texts = grow_same old new
      (λ k. rows_at (tiles boxes places column copied read) k ++ cell_row boxes (geometry_in places column fields) (copied_fields places copied fields) k)
      (rows_at (tiles boxes places column copied (read ++ fields ∷ []))) (rows_more boxes places column copied read fields)
      (grow_trans old mid new (rows_at (tiles boxes places column copied read)) (cell_row boxes (geometry_in places column fields) (copied_fields places copied fields)) was.texts grew);
  counted = counts_are more (tiles boxes places column copied (read ++ fields ∷ [])) sizes
      (λ k. counted k ∙ ap (λ n. n + (if is_copied_to boxes (geometry_in places column fields) k then 1 else 0)) (count_at counts (tiles boxes places column copied read) k was.counted)
      ∙ sym (tile_more boxes places column copied read fields k));
}
  where
    sizes : length more ≡ length (tiles boxes places column copied (read ++ fields ∷ []))
    sizes = size ∙ ap length was.counted ∙ length-map (tiles boxes places column copied read) length ∙ tiles_size boxes places column copied read
        ∙ sym (tiles_size boxes places column copied (read ++ fields ∷ []))

-- ---- tables

-- a header before each table, then its rows
header_first : (header : Record) (tables : List (List Record)) (n k : ℕ) → length tables ≡ n → (if nat_lt k n then line_of header else []) ++ rows_at tables k ≡ table_at header tables k
header_first header tables n k size = go (cases_lt k n)
  where
    go : (k < n) ⊎ (n ≤ k) → (if nat_lt k n then line_of header else []) ++ rows_at tables k ≡ table_at header tables k
    go (inl h) =
        let yes : nat_lt k n ≡ true = grind (arith, nat_tests) in
        ap (λ (b : Bool). cond b (line_of header) [] ++ rows_at tables k) yes
        ∙ sym (ap (λ (o : Option (List Record)). unwrap_or (option_map (λ (l : List Record). lines_of (header ∷ l)) o) []) (slice_get-get_or tables k [] (omega (arith, size))))
    go (inr h) =
        let no : nat_lt k n ≡ false = grind (arith, nat_tests) in
        ap (λ (b : Bool). cond b (line_of header) [] ++ rows_at tables k) no
        ∙ ap lines_of (get_or_past tables k [] (omega (arith, size)))
        ∙ sym (ap (λ (o : Option (List Record)). unwrap_or (option_map (λ (l : List Record). lines_of (header ∷ l)) o) []) (slice_get_past tables k (omega (arith, size))))

-- tables with their headers
pub tables_written : (old mid new : Texts) (header : Record) (tables : List (List Record)) (counts : List ℕ) (n : ℕ) → length tables ≡ n
    → Grow old mid (λ k. if nat_lt k n then line_of header else []) → AreAdded mid new tables counts → AreWritten old new header tables counts
tables_written old mid new header tables counts n size headers rows = record {
  texts = grow_same old new (λ k. (if nat_lt k n then line_of header else []) ++ rows_at tables k) (table_at header tables) (λ k. header_first header tables n k size)
      (grow_trans old mid new (λ k. if nat_lt k n then line_of header else []) (rows_at tables) headers rows.texts);
  counted = rows.counted;
}

-- the header and the records that were read are those of the table
pub of_table : {R T : Type 0} (remaining : R → Option (List ℕ)) (known : Option (List ℕ)) (first second : PlainRecords R) (columns : List (ColumnDef T)) (header : Record) (width : ℕ) (read : List Record)
    → ((text : List ℕ) → known ≡ Some text → GivesRest remaining first (records_in text))
    → ((rest : List Record) → GivesRest remaining first rest → TakesNext remaining second rest true header)
    → header_fault columns header ≡ None → width ≡ length header → AreAll remaining second width read → AreRecordsOfTable known columns (header ∷ read)
of_table remaining known first second columns header width read gives takes lawful wide all = record {
  are_of = are_of known (header ∷ read) (λ text is. let t = takes (records_in text) (gives text is) in t.2 ∙ ap (λ l. header ∷ l) (all.all t.0 t.1));
  header = lawful;
  even = All-cons (λ (f : Record). length f ≡ length header) header read refl (All-weaker (λ (f : Record). length f ≡ width) (λ (f : Record). length f ≡ length header) (λ f e. e ∙ wide) read all.even);
}

-- what is known of the layout of a header that was read
pub header_read : {R T : Type 0} (remaining : R → Option (List ℕ)) (old new : PlainRecords R) (columns : List (ColumnDef T)) (header : Record) (r : Result Layout LoadFault)
    → IfOk r (λ layout. (header_fault columns header ≡ None) × IsLayout columns header layout) → ((rest : List Record) → GivesRest remaining old rest → TakesNext remaining new rest true header)
    → IfOk r (λ layout. (first : Record) × IsLayout columns first layout × (header_fault columns first ≡ None) × ((rest : List Record) → GivesRest remaining old rest → TakesNext remaining new rest true first))
header_read remaining old new columns header (Ok layout) ok takes = (header, ok.1, ok.0, takes)
header_read remaining old new columns header (Err f) ok takes = tt

-- stretches of the records after the header that was read
pub stretches_of_table : {R T X F : Type 0} (remaining : R → Option (List ℕ)) (known : Option (List ℕ)) (first second : PlainRecords R) (columns : List (ColumnDef T)) (header : Record) (width : ℕ)
    (places copied : List ℕ) (size most : ℕ) (line names : Record) (old new : Texts) (items : X → List ℕ) (r : Result X F)
    → ((text : List ℕ) → known ≡ Some text → GivesRest remaining first (records_in text))
    → ((rest : List Record) → GivesRest remaining first rest → TakesNext remaining second rest true header)
    → header_fault columns header ≡ None → width ≡ length header → places ≡ places_in header columns → size ≡ size_of most → line ≡ names
    → IfOk r (λ counts. (read : List Record) × AreAll remaining second width read × AreWritten old new line (map (map (copied_fields places copied)) (stretches size read)) (items counts))
    → IfOk r (λ counts. (records : List Record) × AreRecordsOfTable known columns records × AreWritten old new names (stretches_of (size_of most) columns copied records) (items counts))
stretches_of_table remaining known first second columns header width places copied size most line names old new items (Ok x) gives takes lawful wide at sized named w = (
  header ∷ w.0,
  of_table remaining known first second columns header width w.0 gives takes lawful wide w.1,
  subst (λ (p : List ℕ). AreWritten old new names (map (map (copied_fields p copied)) (stretches (size_of most) w.0)) (items x)) at
      (subst (λ (n : ℕ). AreWritten old new names (map (map (copied_fields places copied)) (stretches n w.0)) (items x)) sized
      (subst (λ (l : Record). AreWritten old new l (map (map (copied_fields places copied)) (stretches size w.0)) (items x)) named w.2)),
)
stretches_of_table remaining known first second columns header width places copied size most line names old new items (Err f) gives takes lawful wide at sized named w = tt

-- a count that is below what there is in the end can be raised
pub can_count : (counts old numbers : List ℕ) (i m x : ℕ) → i < length numbers → m ≡ get_or numbers i 0 → m < length counts → x ≡ get_or counts m x
    → ((k : ℕ) → get_or counts k 0 ≡ get_or old k 0 + count_by (λ n. n == k) (take i numbers)) → ((k : ℕ) → get_or old k 0 + count_by (λ n. n == k) numbers < 2 ^ 64) → x + 1 < 2 ^ 64
can_count counts old numbers i m x within is there value counted room =
    let same : (m == m) ≡ true = grind (arith, nat_tests) in
    let here : (get_or numbers i 0 == m) ≡ true = ap (λ n. n == m) (sym is) ∙ same in
    let one : ◌≡◌ {A = ℕ} (cond (get_or numbers i 0 == m) 1 0) 1 = ap (λ (b : Bool). cond b 1 0) here in
    let most = sum_by_more_le (λ n. cond (n == m) 1 0) numbers i 0 within in
    let now = counted m in
    let top = room m in
    let at = get_or_read counts m x there value 0 in
    omega (arith, one, most, now, top, at)
