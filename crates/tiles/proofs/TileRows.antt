-- The records of a tile are read as the typed rows of its records, narrowed and marked.
use Rattle.std.proofs.Common.{◌≡◌, ◌∙◌, ◌+◌, ◌-◌, ◌<◌, ◌≤◌, ◌==◌, ◌||◌, ap, ap₂, arith, cond, eq-eqb, eqb-true, if◌then◌else◌}
use Rattle.std.proofs.Common.{not, refl, subst, sym}
use Rattle.std.proofs.Common.{Bool, true, false, ℕ, zero, suc, ℤ, pos, List, [], ◌∷◌, ◌++◌, length, length-append, map, get_or}
use Rattle.std.proofs.Common.{Option, None, Some, Result, Ok, Err}
use Rattle.std.specs.Prelude.{drop, filter, int_lt, nat_lt, ok_or, option_and_then, option_map, slice_get, unwrap_or}
use Rattle.std.specs.Char.{to_ascii_lowercase}
use Rattle.std.specs.List.{AllZip, enumerate_from, list_any, position_or_len}
use Rattle.std.specs.Result.{result_ok}
use Rattle.std.specs.Str.{is_utf8}
use Rattle.std.proofs.lemmas.Bool.{and_parts, false≢true, lt-ltb, le-ltb}
use Rattle.std.proofs.lemmas.List.{length-map}
use Rattle.std.proofs.lemmas.List.Folds.{list_any_at}
use Rattle.std.proofs.lemmas.List.Sums.{position_or_len_is}
use Rattle.std.proofs.lemmas.Option.{get_or_from_slice_get, same_Some, slice_get-map, slice_get_within}
use Rattle.std.proofs.lemmas.Slice.Eq.{bytes_eq-Decides}
use Rattle.basics.proofs.Lists.{behind, found_in_front}
use Rattle.basics.proofs.Options.{nothing_there}
use Rattle.geometry_model.specs.CheckedTexts.{geometry_in_text, tested, valid_or}
use Rattle.geometry_model.specs.Envelopes.{Envelope, envelope}
use Rattle.geometry_model.specs.FirstFaults.{validity_fault}
use Rattle.geometry_model.specs.Geometries.{Geometry, type_of}
use Rattle.geometry_model.specs.TextReading.{read_text}
use Rattle.geometry_model.specs.declared.geometry_faults.GeometryFault.{GeometryFault}
use Rattle.geometry_model.specs.declared.text_faults.TextFault.{TextFault}
use Rattle.geometry_model.specs.declared.validity_faults.ValidityFault.{ValidityFault}
use Rattle.feature_table.specs.GeometryFields.{reading}
use Rattle.table_laws.specs.Cells.{Cell, is_copied, mark, south_mark, west_mark}
use Rattle.table_laws.specs.ColumnLaws.{fields_in}
use Rattle.table_laws.specs.Tiles.{geometry_at, marks}
use Rattle.table_model.specs.Arguments as arguments
use Rattle.table_model.specs.Definitions.{column_names, names_differ}
use Rattle.table_model.specs.GeometryColumns.{ColumnShape, of_shape, takes_type}
use Rattle.table_model.specs.Loading.{Record, and_then, checked_row, each, field_under, filled_value, integer_of, is_required}
use Rattle.table_model.specs.Loading.{place_in, row_limit, row_of, rows_of, value_of}
use Rattle.table_model.specs.Meanings.{Row}
use Rattle.table_model.specs.Texts.{same_name}
use Rattle.table_model.specs.declared.definitions.ColumnDef.{ColumnDef}
use Rattle.table_model.specs.declared.definitions.ColumnType.{ColumnType}
use Rattle.table_model.specs.declared.definitions.ColumnType.TheVariants as column
use Rattle.table_model.specs.declared.definitions.TableDef.{TableDef}
use Rattle.table_model.specs.declared.faults.LoadFault.{LoadFault}
use Rattle.table_model.specs.declared.faults.LoadFault.TheVariants as fault
use Rattle.table_model.specs.declared.values.Value.{Value}
use Rattle.table_model.specs.declared.values.Value.TheVariants as values
use Rattle.tiles.specs.Copies.{copied_fields, geometry_in, marked_fields, tile_of}
use Rattle.tiles.specs.RecordLines.{field_in, geometry_in_field, mark_fields, mark_text, places_in}
use Rattle.tiles.specs.TileRows.{AreTypedRows, IsOfGeometries, IsWide, TilesAreRead, tile_row}

-- ---- results

-- where all values are Ok, so is their list
pub ok_all : (ys : Row Geometry) → each {F = LoadFault} (map Ok ys) ≡ Ok ys
ok_all [] = refl
ok_all (y ∷ ys) = ap (λ r. and_then r (λ zs. Ok (y ∷ zs))) (ok_all ys)

-- ---- names

-- a name is the same as one whenever that is the same as it
pub turned : (a b : List ℕ) → same_name a b ≡ true → same_name b a ≡ true
unfolding same_name
turned a b h =
    let lower : List ℕ → List ℕ = map to_ascii_lowercase in
    (bytes_eq-Decides (lower b) (lower a)).1 (sym ((bytes_eq-Decides (lower a) (lower b)).0 h))

pub itself : (a : List ℕ) → same_name a a ≡ true
unfolding same_name
itself a = (bytes_eq-Decides (map to_ascii_lowercase a) (map to_ascii_lowercase a)).1 refl

-- of names that differ none is the same as an earlier one
pub apart : (names : List (List ℕ)) → names_differ names ≡ true → (k t : ℕ) (d : List ℕ) → k < t → t < length names
    → same_name (get_or names t d) (get_or names k d) ≡ false
apart [] h k t d before within = absurd (omega (arith, within))
apart (n ∷ names) h k zero d before within = absurd (omega (arith, before))
apart (n ∷ names) h zero (suc t) d before within = go (same_name (get_or names t d) n) refl
  where
    go : (b : Bool) → same_name (get_or names t d) n ≡ b → b ≡ false
    go false is = refl
    go true is =
        let found = list_any_at (same_name n) names t d (omega (arith, within)) (turned (get_or names t d) n is) in
        absurd (false≢true (ap not (sym found) ∙ (and_parts _ _ h).0))
apart (n ∷ names) h (suc k) (suc t) d before within =
    apart names (and_parts _ _ h).1 k t d (omega (arith, before)) (omega (arith, within))

-- so each is found at its place
pub place_is : (names : List (List ℕ)) (t : ℕ) (name : List ℕ) → names_differ names ≡ true → slice_get names t ≡ Some name
    → place_in names name ≡ t
place_is names t name differ there =
    let within = slice_get_within names t name there in
    let here : (d : List ℕ) → get_or names t d ≡ name = λ d. get_or_from_slice_get names t name d there in
    let at : position_or_len (same_name name) names ≡ t =
    position_or_len_is (same_name name) names t [] (omega (arith, within))
    (λ k before. subst (λ n. same_name n (get_or names k []) ≡ false) (here []) (apart names differ k t [] before within))
    (λ _. ap (same_name name) (here []) ∙ itself name) in
    ap (λ p. unwrap_or (cond (nat_lt p (length names)) (Some p) None) 0) at
    ∙ ap (λ b. unwrap_or (cond b (Some t) None) 0) (lt-ltb t (length names) within)

-- ---- values

-- the value of a geometry that is read
abbrev shaped : Result Geometry LoadFault → Result (Value Geometry) LoadFault
shaped r = and_then r (λ g. Ok (values.Geometry g))

-- a field that isn't empty is read alike under each number
pub filled_alike : (n m : ℕ) (kind : ColumnType ColumnShape) (bytes : List ℕ) (v : Value Geometry)
    → filled_value reading n kind bytes ≡ Ok v
    → filled_value reading m kind bytes ≡ Ok v
filled_alike n m column.Integer bytes v e = go (integer_of bytes) e
  where
    go : (o : Option ℤ) → ok_or (option_map values.Integer o) (fault.BadInteger n) ≡ Ok v
        → ok_or (option_map values.Integer o) (fault.BadInteger m) ≡ Ok v
    go None e = cc e
    go (Some z) e = e
filled_alike n m column.Text bytes v e = go (is_utf8 bytes) e
  where
    go : (b : Bool) → ◌≡◌ {A = Result (Value Geometry) LoadFault} (if b then Ok (values.Text bytes) else Err (fault.NotUtf8 n))
        (Ok v)
        → ◌≡◌ {A = Result (Value Geometry) LoadFault} (if b then Ok (values.Text bytes) else Err (fault.NotUtf8 m)) (Ok v)
    go true e = e
    go false e = cc e
filled_alike n m (column.Geometry shape) bytes v e = go (geometry_in_text bytes) e
  where
    typed : (g : Geometry) (b : Bool) → shaped (if b then Ok g else Err (fault.WrongType n)) ≡ Ok v
        → shaped (if b then Ok g else Err (fault.WrongType m)) ≡ Ok v
    typed g true e = e
    typed g false e = cc e

    go : (r : Result Geometry GeometryFault) → shaped (of_shape n shape r) ≡ Ok v → shaped (of_shape m shape r) ≡ Ok v
    go (Err f) e = cc e
    go (Ok g) e = typed g (takes_type shape (type_of g)) e

-- and any field, where it is required no more than before
pub alike : (n m : ℕ) (was now : Bool) (kind : ColumnType ColumnShape) (field : List ℕ) (v : Value Geometry)
    → (now ≡ true → was ≡ true)
    → value_of reading n was kind field ≡ Ok v → value_of reading m now kind field ≡ Ok v
unfolding value_of
alike n m true now kind [] v less e = cc e
alike n m false true kind [] v less e = absurd (false≢true (less refl))
alike n m false false kind [] v less e = e
alike n m was now kind (byte ∷ bytes) v less e = filled_alike n m kind (byte ∷ bytes) v e

-- the geometry of a field is that of its value
geometry_alike : (n : ℕ) (required : Bool) (shape : ColumnShape) (field : List ℕ) (v : Value Geometry)
    → value_of reading n required (column.Geometry shape) field ≡ Ok v
    → geometry_in_field field ≡ arguments.geometry_in v
unfolding value_of geometry_in_field geometry_in_text
geometry_alike n true shape [] v e = cc e
geometry_alike n false shape [] v e = let same : values.Null ≡ v = cc e in ap arguments.geometry_in same
geometry_alike n required shape (byte ∷ bytes) v e = go (read_text (byte ∷ bytes)) e
  where
    typed : (g : Geometry) (b : Bool) → shaped (if b then Ok g else Err (fault.WrongType n)) ≡ Ok v
        → Some g ≡ arguments.geometry_in v
    typed g true e = let same : values.Geometry g ≡ v = cc e in ap arguments.geometry_in same
    typed g false e = cc e

    valid : (g : Geometry) (o : Option ValidityFault) → shaped (of_shape n shape (valid_or g o)) ≡ Ok v
        → Some g ≡ arguments.geometry_in v
    valid g (Some f) e = cc e
    valid g None e = typed g (takes_type shape (type_of g)) e

    go : (r : Result Geometry TextFault) → shaped (of_shape n shape (tested r)) ≡ Ok v → result_ok r ≡ arguments.geometry_in v
    go (Err f) e = cc e
    go (Ok g) e = valid g (validity_fault g) e

-- a mark is read as its number
mark_read : (n : ℕ) (required : Bool) (test : Bool) → value_of reading n required column.Integer (mark_text (mark test))
    ≡ Ok (values.Integer (mark test))
unfolding value_of integer_of
mark_read n required true = refl
mark_read n required false = refl

west_read : (n : ℕ) (required : Bool) (cell : Cell) (e : Option Envelope)
    → value_of reading n required column.Integer (mark_text (west_mark cell e)) ≡ Ok (values.Integer (west_mark cell e))
west_read n required (Some box) (Some e) = mark_read n required (int_lt e.least_x box.least_x)
west_read n required (Some box) None = mark_read n required false
west_read n required None e = mark_read n required false

south_read : (n : ℕ) (required : Bool) (cell : Cell) (e : Option Envelope)
    → value_of reading n required column.Integer (mark_text (south_mark cell e)) ≡ Ok (values.Integer (south_mark cell e))
south_read n required (Some box) (Some e) = mark_read n required (int_lt e.least_y box.least_y)
south_read n required (Some box) None = mark_read n required false
south_read n required None e = mark_read n required false

-- ---- columns

-- what each column gives of those with their places, where all give something
given_at : {X : Type 0} (g : ℕ × X → Result (Value Geometry) LoadFault) (xs : List X) (i : ℕ) (row : Row Geometry)
    → each (map g (enumerate_from i xs)) ≡ Ok row
    → (k : ℕ) (x : X) → slice_get xs k ≡ Some x → g (i + k, x) ≡ Ok (unwrap_or (slice_get row k) values.Null)
given_at g [] i row e k x there = nothing_there x there
given_at {X} g (y ∷ xs) i row e k x there =
    go (λ vs more k there. given_at g xs (i + 1) vs more k x there) (g (i, y))
    (each (map g (enumerate_from (i + 1) xs))) refl refl e k there
  where
    go : ((vs : Row Geometry) → each (map g (enumerate_from (i + 1) xs)) ≡ Ok vs → (k : ℕ) → slice_get xs k ≡ Some x
        → g ((i + 1) + k, x) ≡ Ok (unwrap_or (slice_get vs k) values.Null))
        → (first : Result (Value Geometry) LoadFault) (rest : Result (Row Geometry) LoadFault) → g (i, y) ≡ first
        → each (map g (enumerate_from (i + 1) xs)) ≡ rest → and_then first (λ v. and_then rest (λ vs. Ok (v ∷ vs))) ≡ Ok row
        → (k : ℕ) → slice_get (y ∷ xs) k ≡ Some x → g (i + k, x) ≡ Ok (unwrap_or (slice_get row k) values.Null)
    go later (Err f) rest is more e k there = cc e
    go later (Ok v) (Err f) is more e k there = cc e
    go later (Ok v) (Ok vs) is more e zero there =
        let same : v ∷ vs ≡ row = cc e in
        let none : i ≡ i + 0 = omega arith in
        subst (λ n. g (n, x) ≡ Ok (unwrap_or (slice_get row 0) values.Null)) none
        (ap (λ z. g (i, z)) (sym (same_Some y x there)) ∙ is ∙ ap (λ l. Ok (unwrap_or (slice_get l 0) values.Null)) same)
    go later (Ok v) (Ok vs) is more e (suc k) there =
        let same : v ∷ vs ≡ row = cc e in
        let next : (i + 1) + k ≡ i + suc k = omega arith in
        subst (λ n. g (n, x) ≡ Ok (unwrap_or (slice_get row (suc k)) values.Null)) next
        (later vs more k there ∙ ap (λ l. Ok (unwrap_or (slice_get l (suc k)) values.Null)) same)

-- what copied columns give, one by one
pub copies : (g : ℕ × ColumnDef ColumnShape → Result (Value Geometry) LoadFault) (h : ℕ → Result (Value Geometry) LoadFault)
    (of : ℕ → Option (ColumnDef ColumnShape)) (copied : List ℕ) (own : List (ColumnDef ColumnShape)) (i : ℕ)
    → map Some own ≡ map of copied
    → ((t k : ℕ) (x : ColumnDef ColumnShape) → slice_get copied t ≡ Some k → slice_get own t ≡ Some x → of k ≡ Some x
    → g (i + t, x) ≡ h k)
    → map g (enumerate_from i own) ≡ map h copied
copies g h of [] [] i there give = refl
copies g h of [] (x ∷ own) i there give = cc there
copies g h of (k ∷ copied) [] i there give = cc there
copies g h of (k ∷ copied) (x ∷ own) i there give =
    let first : Some x ≡ of k = ap (λ l. get_or l 0 (Some x)) there in
    let none : i + 0 ≡ i = omega arith in
    ap₂ (λ y (l : List (Result (Value Geometry) LoadFault)). y ∷ l)
    (subst (λ n. g (n, x) ≡ h k) none (give 0 k x refl refl (sym first)))
    (copies g h of copied own (i + 1) (ap (drop 1) there)
    (λ t j z at is from.
    let next : i + suc t ≡ (i + 1) + t = omega arith in subst (λ n. g (n, z) ≡ h j) next (give (suc t) j z at is from)))

-- two columns more
two_more : (g : ℕ × ColumnDef ColumnShape → Result (Value Geometry) LoadFault) (own : List (ColumnDef ColumnShape))
    (x y : ColumnDef ColumnShape) (i : ℕ)
    → map g (enumerate_from i (own ++ x ∷ y ∷ []))
    ≡ map g (enumerate_from i own) ++ g (i + length own, x) ∷ g (i + length own + 1, y) ∷ []
two_more g [] x y i =
    let none : i ≡ i + length {A = ColumnDef ColumnShape} [] = omega arith in λ j. g (none j, x) ∷ g (none j + 1, y) ∷ []
two_more g (z ∷ own) x y i =
    let next : (i + 1) + length own ≡ i + length (z ∷ own) = omega arith in
    ap (λ (l : List (Result (Value Geometry) LoadFault)). g (i, z) ∷ l)
    (two_more g own x y (i + 1) ∙ (λ j. map g (enumerate_from (i + 1) own) ++ g (next j, x) ∷ g (next j + 1, y) ∷ []))

-- ---- a record of a tile

-- the field of a column in a row, as a result
abbrev pub given : Row Geometry → ℕ → Result (Value Geometry) LoadFault
given row k = Ok (unwrap_or (slice_get row k) values.Null)

-- the fields of columns, and more behind them
pub joined : (row : Row Geometry) (copied : List ℕ) (more : Row Geometry)
    → map (given row) copied ++ map Ok more ≡ map Ok (fields_in copied row ++ more)
joined row [] more = refl
joined row (k ∷ copied) more = ap (λ (l : List (Result (Value Geometry) LoadFault)). given row k ∷ l) (joined row copied more)

-- a field of a record is that under the name of its column
pub field_is : (table : TableDef ColumnShape) (header fields : Record) (k : ℕ) (c : ColumnDef ColumnShape)
    → slice_get table.columns k ≡ Some c
    → field_in (places_in header table.columns) fields k ≡ field_under header fields c.name
field_is table header fields k c there =
    let of : ColumnDef ColumnShape → ℕ = λ d. place_in header d.name in
    ap (λ o. unwrap_or (option_map (λ p. get_or fields p []) o) []) (slice_get-map of table.columns k ∙ ap (option_map of) there)

-- the value of a field of a record that is read as a row
pub typed_field : (table : TableDef ColumnShape) (header fields : Record) (number : ℕ) (row : Row Geometry)
    → row_of reading table header number fields ≡ Ok row → (k : ℕ) (c : ColumnDef ColumnShape)
    → slice_get table.columns k ≡ Some c
    → value_of reading number (is_required table (k, c)) c.column_type (field_under header fields c.name)
    ≡ Ok (unwrap_or (slice_get row k) values.Null)
unfolding row_of
typed_field table header fields number row is k c there =
    let P : ℕ → Type 0 = λ n. value_of reading number (is_required table (n, c)) c.column_type
    (field_under header fields c.name) ≡ Ok (unwrap_or (slice_get row k) values.Null) in
    let none : 0 + k ≡ k = omega arith in
    subst P none
    (given_at (λ d. value_of reading number (is_required table d) d.1.column_type
    (field_under header fields d.1.name)) table.columns 0 row is k c there)

module _ (table wide : TableDef ColumnShape) (copied : List ℕ) (w : IsWide table wide copied) (place : ℕ)
    (g : IsOfGeometries table place)
    (header : Record) (cell : Cell) where
  -- the header of the tile, and a record in it
  abbrev names : Record
  names = column_names wide.columns

  abbrev made : Record → Record
  made fields = marked_fields (places_in header table.columns) place copied cell fields

  abbrev envelope_in : Record → Option Envelope
  envelope_in fields = option_and_then envelope (geometry_in (places_in header table.columns) place fields)

  as_many : length w.own ≡ length copied
  as_many = sym (length-map w.own (λ (c : ColumnDef ColumnShape). Some c)) ∙ ap length w.there
      ∙ length-map copied (slice_get table.columns)

  -- the field of a made record at a place, under the name of the column there
  made_field : (fields : Record) (t : ℕ) (c : ColumnDef ColumnShape) (field : List ℕ) → slice_get wide.columns t ≡ Some c
      → slice_get (made fields) t ≡ Some field
      → field_under names (made fields) c.name ≡ field
  made_field fields t c field there has =
      let name : ColumnDef ColumnShape → List ℕ = λ d. d.name in
      ap (λ p. get_or (made fields) p []) (place_is names t c.name w.differ
      (slice_get-map name wide.columns t ∙ ap (option_map name) there))
      ∙ get_or_from_slice_get (made fields) t field [] has

  required : (t k : ℕ) → slice_get copied t ≡ Some k → (b : Bool) → (b || (t == wide.key)) ≡ true → (b || (k == table.key)) ≡ true
  required t k at true h = refl
  required t k at false h =
      let same : t ≡ wide.key = eqb-true t wide.key h in
      eq-eqb k table.key (same_Some k table.key (sym at ∙ ap (slice_get copied) same ∙ w.key))

  module _ (fields : Record) (number : ℕ) (row : Row Geometry) (is : row_of reading table header number fields ≡ Ok row)
      (other : ℕ) where
    -- the value of a field of the table
    typed : (k : ℕ) (c : ColumnDef ColumnShape) → slice_get table.columns k ≡ Some c
        → value_of reading number (is_required table (k, c)) c.column_type (field_under header fields c.name)
        ≡ Ok (unwrap_or (slice_get row k) values.Null)
    typed k c there = typed_field table header fields number row is k c there

    -- the geometry of the record is that of the row
    same_geometry : geometry_in (places_in header table.columns) place fields ≡ geometry_at place row
    same_geometry =
        let value = typed place g.0 g.2 in
        ap geometry_in_field (field_is table header fields place g.0 g.2)
        ∙ geometry_alike number (is_required table (place, g.0)) g.1 (field_under header fields g.0.name)
        (unwrap_or (slice_get row place) values.Null)
        (subst (λ kind. value_of reading number (is_required table (place, g.0)) kind (field_under header fields g.0.name) ≡ Ok
        (unwrap_or (slice_get row place) values.Null)) g.3 value)

    -- the value of a column of the tile
    abbrev value : ℕ × ColumnDef ColumnShape → Result (Value Geometry) LoadFault
    value d = value_of reading other (is_required wide d) d.1.column_type (field_under names (made fields) d.1.name)

    -- of a copied column
    copied_value : (t k : ℕ) (c : ColumnDef ColumnShape) → slice_get copied t ≡ Some k → slice_get w.own t ≡ Some c
        → slice_get table.columns k ≡ Some c
        → value (0 + t, c) ≡ Ok (unwrap_or (slice_get row k) values.Null)
    copied_value t k c at own there =
        let none : t ≡ 0 + t = omega arith in
        let of : ℕ → List ℕ = field_in (places_in header table.columns) fields in
        let wide_at : slice_get wide.columns t ≡ Some c = ap (λ l. slice_get l t) w.columns
        ∙ found_in_front w.own (w.west ∷ w.south ∷ []) t c own in
        let made_at : slice_get (made fields) t ≡ Some (of k) =
        found_in_front (map of copied) (mark_fields cell (envelope_in fields)) t (of k)
        (slice_get-map of copied t ∙ ap (option_map of) at) in
        let field : field_under names (made fields) c.name ≡ field_under header fields c.name =
        made_field fields t c (of k) wide_at made_at ∙ field_is table header fields k c there in
        subst (λ n. value (n, c) ≡ Ok (unwrap_or (slice_get row k) values.Null)) none
        (alike number other (is_required table (k, c)) (is_required wide (t, c)) c.column_type
        (field_under names (made fields) c.name)
        (unwrap_or (slice_get row k) values.Null) (required t k at c.not_null)
        (ap (λ f. value_of reading number (is_required table (k, c)) c.column_type f) field ∙ typed k c there))

    -- of a mark
    mark_value : (t : ℕ) (c : ColumnDef ColumnShape) (n : ℤ) → slice_get (w.west ∷ w.south ∷ []) t ≡ Some c
        → c.column_type ≡ column.Integer
        → slice_get (mark_fields cell (envelope_in fields)) t ≡ Some (mark_text n)
        → ((required : Bool) → value_of reading other required column.Integer (mark_text n) ≡ Ok (values.Integer n))
        → (at : ℕ) → at ≡ length w.own + t → value (at, c) ≡ Ok (values.Integer n)
    mark_value t c n there kind has read at is_at =
        let of : ℕ → List ℕ = field_in (places_in header table.columns) fields in
        let wide_at : slice_get wide.columns at ≡ Some c =
        ap (slice_get wide.columns) is_at ∙ ap (λ l. slice_get l (length w.own + t)) w.columns
        ∙ behind w.own (w.west ∷ w.south ∷ []) t ∙ there in
        let size : at ≡ length (map of copied) + t = omega (arith, is_at, as_many, length-map copied of) in
        let made_at : slice_get (made fields) at ≡ Some (mark_text n) =
        ap (slice_get (made fields)) size ∙ behind (map of copied) (mark_fields cell (envelope_in fields)) t ∙ has in
        ap (λ f. value_of reading other (is_required wide (at, c)) c.column_type f)
        (made_field fields at c (mark_text n) wide_at made_at)
        ∙ ap (λ kind. value_of reading other (is_required wide (at, c)) kind (mark_text n)) kind
        ∙ read (is_required wide (at, c))

    -- so the record is read as the row, narrowed and marked
    pub record_read : row_of reading wide names other (made fields) ≡ Ok (tile_row copied place cell row)
    unfolding row_of
    record_read =
        let e = envelope_in fields in
        let n = length w.own in
        let west = mark_value 0 w.west (west_mark cell e) refl w.west_type refl (λ r. west_read other r cell e) (0 + n)
        (omega arith) in
        let south = mark_value 1 w.south (south_mark cell e) refl w.south_type refl (λ r. south_read other r cell e) (0 + n + 1)
        (omega arith) in
        let own = copies value (given row) (slice_get table.columns) copied w.own 0 w.there copied_value in
        ap (λ l. each (map value (enumerate_from 0 l))) w.columns
        ∙ ap each (two_more value w.own w.west w.south 0)
        ∙ (λ i. each (own i ++ west i ∷ south i ∷ []))
        ∙ ap each (joined row copied (marks cell e))
        ∙ ok_all (fields_in copied row ++ marks cell e)
        ∙ ap (λ x. Ok (fields_in copied row ++ marks cell (option_and_then envelope x))) same_geometry

  -- a record of the tile is as long as the header
  even : (fields : Record) → length (made fields) ≡ length names
  even fields =
      let of : ℕ → List ℕ = field_in (places_in header table.columns) fields in
      let name : ColumnDef ColumnShape → List ℕ = λ d. d.name in
      let here = length-append (map of copied) (mark_fields cell (envelope_in fields)) in
      let there = length-append w.own (w.west ∷ w.south ∷ []) in
      let all = ap length w.columns in
      omega (arith, here, there, all, as_many, length-map copied of, length-map wide.columns name)

  -- the rows and the records that are copied to the cell
  abbrev kept : List (Row Geometry) → List (Row Geometry)
  kept rows = filter (λ row. is_copied cell (geometry_at place row)) rows

  abbrev left : List Record → List Record
  left records = filter (λ fields. is_copied cell (geometry_in (places_in header table.columns) place fields)) records

  -- the records of a tile, from a number on
  tile_read : (records : List Record) (rows : List (Row Geometry)) → AreTypedRows table header records rows → (n : ℕ)
      → n + length (tile_of (places_in header table.columns) place copied records cell) ≤ row_limit + 1
      → each (map (checked_row reading wide names) (enumerate_from n
      (tile_of (places_in header table.columns) place copied records cell)))
      ≡ Ok (map (tile_row copied place cell) (filter (λ row. is_copied cell (geometry_at place row)) rows))
  unfolding checked_row
  tile_read [] [] are n few = refl
  tile_read [] (row ∷ rows) are n few = absurd are
  tile_read (fields ∷ records) [] are n few = absurd are
  tile_read (fields ∷ records) (row ∷ rows) are n few =
      subst (λ b. each (map (checked_row reading wide names) (enumerate_from n
      (tile_of (places_in header table.columns) place copied (fields ∷ records) cell)))
      ≡ Ok (map (tile_row copied place cell) (cond b (row ∷ kept rows) (kept rows))))
      (ap (is_copied cell) (same_geometry fields are.0.0 row are.0.1 0))
      (step (λ n few. tile_read records rows are.1 n few) (is_copied cell
      (geometry_in (places_in header table.columns) place fields)) few)
    where
      one : n ≤ row_limit → checked_row reading wide names (n, made fields) ≡ Ok (tile_row copied place cell row)
      one within =
          let fits : (length (made fields) == length names) ≡ true = eq-eqb (length (made fields)) (length names) (even fields) in
          let few : nat_lt row_limit n ≡ false = le-ltb row_limit n within in
          (λ i. cond (not (fits i)) (Err (fault.UnequalRecord n))
          (cond (few i) (Err fault.TooManyRows) (row_of reading wide names n (made fields))))
          ∙ record_read fields are.0.0 row are.0.1 n

      step : ((n : ℕ) → n + length (map made (left records)) ≤ row_limit + 1
          → each (map (checked_row reading wide names) (enumerate_from n (map made (left records))))
          ≡ Ok (map (tile_row copied place cell) (kept rows)))
          → (b : Bool) → n + length (map made (cond b (fields ∷ left records) (left records))) ≤ row_limit + 1
          → each (map (checked_row reading wide names) (enumerate_from n
          (map made (cond b (fields ∷ left records) (left records)))))
          ≡ Ok (map (tile_row copied place cell) (cond b (row ∷ kept rows) (kept rows)))
      step rest false bound = rest n bound
      step rest true bound =
          ap₂ (λ (a : Result (Row Geometry) LoadFault) (b : Result (List (Row Geometry)) LoadFault). and_then a
          (λ x. and_then b (λ xs. Ok (x ∷ xs))))
          (one (omega (arith, bound))) (rest (n + 1) (omega (arith, bound)))

pub tiles_are_read : TilesAreRead
unfolding rows_of
tiles_are_read table wide copied place header records typed cell w g are few =
    tile_read table wide copied w place g header cell records typed are 1 (omega (arith, few))
