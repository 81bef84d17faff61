-- What the records of stretches and tiles load as.
use Rattle.std.proofs.Common.{◌≡◌, ◌≢◌, ◌∙◌, ◌⊎◌, ◌+◌, ◌-◌, ◌*◌, ◌/◌, ◌<◌, ◌≤◌, ◌<ℤ◌, ◌==◌, ◌||◌, ap, ap₂, arith, cond, eq-eqb}
use Rattle.std.proofs.Common.{eqb-true, refl, sym, subst}
use Rattle.std.proofs.Common.{inl, inr, not, Bool, true, false, ℕ, zero, suc, ℤ, List, [], ◌∷◌, ◌++◌, get_or, length}
use Rattle.std.proofs.Common.{map, filter}
use Rattle.std.proofs.Common.{Option, None, Some, Result, Ok, Err, if◌then◌else◌}
use Rattle.std.specs.Prelude.{All, Contains, IsPermutation, count_by, drop, nat_lt, option_and_then, option_map, slice_get, take}
use Rattle.std.specs.Prelude.{unwrap_or}
use Rattle.std.specs.List.{AllPairs, AllZip, enumerate_from, flat_map, list_any, range_with_len}
use Rattle.std.proofs.lemmas.Bool.{and_parts, eqb-false, le-ltb}
use Rattle.std.proofs.lemmas.List.{length-map, length-take, map-append, take_all}
use Rattle.std.proofs.lemmas.List.Sorted.{IsPermutation-append, IsPermutation-map, IsPermutation-refl, IsPermutation-sym}
use Rattle.std.proofs.lemmas.List.Sorted.{IsPermutation-trans}
use Rattle.std.proofs.lemmas.List.Sums.{sum_by-cons}
use Rattle.std.proofs.lemmas.Simd.{map-map}
use Rattle.std.proofs.lemmas.Option.{get_or_from_slice_get, same_Some, slice_get-map, slice_get_within, unwrap_or-slice_get}
use Rattle.basics.proofs.Options.{nothing_there}
use Rattle.feature_table.specs.GeometryFields.{reading}
use Rattle.geometry_model.specs.Envelopes.{envelope}
use Rattle.geometry_model.specs.Geometries.{Geometry}
use Rattle.table_laws.proofs.Doubles.{none_is_double}
use Rattle.table_laws.proofs.Keys.{permuted, rises}
use Rattle.table_laws.proofs.KeyOrder.{sorted_tile_is_tile}
use Rattle.table_laws.proofs.NarrowTables.{narrow_is_keyed}
use Rattle.table_laws.proofs.PlanLists.{member_cases, no_member}
use Rattle.table_laws.proofs.Shuffles.{filter_shuffled}
use Rattle.table_laws.proofs.TableLists.{Each, Pairs, all-pairs, each-all, pairs-all, pairs-map}
use Rattle.table_laws.specs.Cells.{Cell, is_copied}
use Rattle.table_laws.specs.ColumnLaws.{IsNarrow, fields_in, place_among}
use Rattle.table_laws.specs.Orders.{key_in}
use Rattle.table_laws.specs.TileLaws.{HasMarks}
use Rattle.table_laws.specs.Tiles as law
use Rattle.table_model.specs.Arguments as arguments
use Rattle.table_model.specs.Definitions.{column_names, names_differ}
use Rattle.table_model.specs.GeometryColumns.{ColumnShape}
use Rattle.table_model.specs.Loading.{Record, and_then, by_key, checked_row, double_key, each, field_under, first_fault}
use Rattle.table_model.specs.Loading.{header_fault, is_required}
use Rattle.table_model.specs.Loading.{key_of, keyed_rows, load, name_fault, place_in, row_limit, row_of, rows_of, unless}
use Rattle.table_model.specs.Loading.{value_of, whole_number}
use Rattle.table_model.specs.Meanings.{Row, Table}
use Rattle.table_model.specs.Texts.{same_name}
use Rattle.table_model.specs.declared.definitions.ColumnDef.{ColumnDef}
use Rattle.table_model.specs.declared.definitions.TableDef.{TableDef}
use Rattle.table_model.specs.declared.faults.LoadFault.{LoadFault}
use Rattle.table_model.specs.declared.faults.LoadFault.TheVariants as fault
use Rattle.table_model.specs.declared.values.Value.{Value}
use Rattle.table_model.specs.declared.values.Value.TheVariants as values
use Rattle.tiles.specs.Copies.{copied_fields, header_of, stretch_count, stretch_of, stretches, stretches_of, tile_of}
use Rattle.tiles.specs.LoadedParts.{StretchesAreLoaded, TilesAreLoaded}
use Rattle.tiles.specs.RecordLines.{field_in, places_in}
use Rattle.tiles.specs.TileRows.{AreTypedRows, IsWide, tile_row}
use Rattle.tiles.proofs.StretchLemmas.{stretches_enough, whole_so_far}
use Rattle.tiles.proofs.TileRows.{alike, apart, copies, field_is, given, itself, ok_all, place_is, tiles_are_read, typed_field}
use Rattle.tiles.proofs.WholeTables.{IsTyped, Whole, each_typed, whole_of, whole_tables_are_keyed}

-- ---- headers

-- where no name is the same as one, none is counted
none_counted : (test : List ℕ → Bool) (names : Record) → list_any test names ≡ false → count_by test names ≡ 0
none_counted test [] h = refl
none_counted test (n ∷ names) h =
    let p = or_false (test n) (list_any test names) h in
    sum_by-cons (λ x. cond (test x) 1 0) n names
    ∙ ap₂ (λ (a b : ℕ). a + b) (ap (λ b. cond b 1 0) p.0) (none_counted test names p.1)
  where
    or_false : (a b : Bool) → (a || b) ≡ false → (a ≡ false) × (b ≡ false)
    or_false true b h = cc h
    or_false false b h = (refl, h)

-- of names that differ each is there once
once : (names : List (List ℕ)) (t : ℕ) (name : List ℕ) → names_differ names ≡ true → slice_get names t ≡ Some name
    → count_by (same_name name) names ≡ 1
once [] t name differ there = nothing_there name there
once (n ∷ names) zero name differ there =
    let same : n ≡ name = same_Some n name there in
    let none = none_counted (same_name n) names (negated (list_any (same_name n) names) (and_parts _ _ differ).0) in
    subst (λ x. count_by (same_name x) (n ∷ names) ≡ 1) same
    (sum_by-cons (λ x. cond (same_name n x) 1 0) n names
    ∙ ap₂ (λ (a b : ℕ). a + b) (ap (λ b. cond b 1 0) (itself n)) none)
  where
    negated : (b : Bool) → not b ≡ true → b ≡ false
    negated false h = refl
    negated true h = cc h
once (n ∷ names) (suc t) name differ there =
    let within = slice_get_within names t name there in
    let other : same_name name n ≡ false =
    subst (λ x. same_name x n ≡ false) (get_or_from_slice_get names t name [] there)
    (apart (n ∷ names) differ 0 (suc t) [] (omega arith) (omega (arith, within))) in
    sum_by-cons (λ x. cond (same_name name x) 1 0) n names
    ∙ ap₂ (λ (a b : ℕ). a + b) (ap (λ b. cond b 1 0) other) (once names t name (and_parts _ _ differ).1 there)

-- so a header of the names of columns has no fault
pub own_header : (columns : List (ColumnDef ColumnShape)) → names_differ (column_names columns) ≡ true
    → header_fault columns (column_names columns) ≡ None
unfolding header_fault
own_header columns differ = go columns (λ t c there. (t, there))
  where
    name : ColumnDef ColumnShape → List ℕ
    name c = c.name

    go : (some : List (ColumnDef ColumnShape)) → ((t : ℕ) (c : ColumnDef ColumnShape) → slice_get some t ≡ Some c
        → (k : ℕ) × (slice_get columns k ≡ Some c))
        → first_fault (map (λ (c : ColumnDef ColumnShape). name_fault (column_names columns) c.name) some) ≡ None
    go [] there = refl
    go (c ∷ some) there =
        let at = there 0 c refl in
        let one = once (column_names columns) at.0 c.name differ (slice_get-map name columns at.0 ∙ ap (option_map name) at.1) in
        ap (λ (n : ℕ). first_fault
        ((if n == 0 then Some fault.MissingColumn else if n == 1 then None else Some fault.DoubleHeader)
        ∷ map (λ (d : ColumnDef ColumnShape). name_fault (column_names columns) d.name) some)) one
        ∙ go some (λ t d h. there (suc t) d h)

-- ---- keys

-- the field of a column that is copied
pub at_its_place : {X : Type 0} (f : ℕ → X) (columns : List ℕ) (column : ℕ) → Contains columns column
    → slice_get (map f columns) (place_among columns column) ≡ Some (f column)
at_its_place f [] column m = absurd (no_member column m)
at_its_place {X = X} f (k ∷ columns) column m =
    go (k == column) refl (member_cases k columns column m) (at_its_place f columns column)
  where
    go : (b : Bool) → (k == column) ≡ b → (k ≡ column) ⊎ Contains columns column
        → (Contains columns column → slice_get (map f columns) (place_among columns column) ≡ Some (f column))
        → slice_get (f k ∷ map f columns) (if b then 0 else suc (place_among columns column)) ≡ Some (f column)
    go true e c rest = ap (λ j. Some (f j)) (eqb-true k column e)
    go false e (inl c) rest = absurd (eqb-false k column e c)
    go false e (inr c) rest = rest c

-- the place of the key, among what is copied
pub place_of_key : (columns : List ℕ) (column : ℕ) → Contains columns column
    → slice_get columns (place_among columns column) ≡ Some column
place_of_key columns column m = sym (ap (λ l. slice_get l (place_among columns column)) (same columns))
    ∙ at_its_place (λ k. k) columns column m
  where
    same : (ks : List ℕ) → map (λ k. k) ks ≡ ks
    same [] = refl
    same (j ∷ ks) = ap (λ l. j ∷ l) (same ks)

-- the key of a row is that of what is copied of it
narrow_key : (columns : List ℕ) (key : ℕ) → Contains columns key → (row : Row Geometry)
    → key_of (place_among columns key) (fields_in columns row) ≡ key_of key row
narrow_key columns key m row =
    ap whole_number (at_its_place (λ k. unwrap_or (slice_get row k) values.Null) columns key m) ∙ go (slice_get row key)
  where
    go : (o : Option (Value Geometry)) → whole_number (Some (unwrap_or o values.Null)) ≡ whole_number o
    go None = refl
    go (Some v) = refl

-- and so is that with marks behind it
marked_key : (row fields : Row Geometry) (key : ℕ) (v : Value Geometry) → slice_get row key ≡ Some v
    → key_of key (row ++ fields) ≡ key_of key row
marked_key row fields key v there = ap whole_number (go row key there)
  where
    go : (row : Row Geometry) (key : ℕ) → slice_get row key ≡ Some v → slice_get (row ++ fields) key ≡ slice_get row key
    go [] key there = nothing_there v there
    go (x ∷ row) zero there = refl
    go (x ∷ row) (suc key) there = go row key there

-- rows whose keys differ have no double key
no_double : {G : Type 0} (key : ℕ) (rows : List (Row G)) → Pairs (λ a b. key_of key a ≢ key_of key b) rows
    → double_key (map (key_of key) rows) ≡ None
no_double {G = G} key rows apart = (none_is_double (map (key_of key) rows)).1
    (pairs-all (λ a b. a ≢ b) (map (key_of key) rows) (go rows apart))
  where
    one : (k : ℤ) (rows : List (Row G)) → Each (λ b. k ≢ key_of key b) rows → Each (λ b. k ≢ b) (map (key_of key) rows)
    one k [] h = tt
    one k (x ∷ rows) h = (h.0, one k rows h.1)

    go : (rows : List (Row G)) → Pairs (λ a b. key_of key a ≢ key_of key b) rows → Pairs (λ a b. a ≢ b) (map (key_of key) rows)
    go [] h = tt
    go (x ∷ rows) h = (one (key_of key x) rows h.0, go rows h.1)

-- and the other way round
differing : {G : Type 0} (key : ℕ) (rows : List (Row G)) → double_key (map (key_of key) rows) ≡ None
    → Pairs (λ a b. key_of key a ≢ key_of key b) rows
differing key rows none = pairs-map (λ a b. a ≢ b) (key_of key) rows
    (all-pairs (λ a b. a ≢ b) (map (key_of key) rows) ((none_is_double (map (key_of key) rows)).0 none))

-- rows that are made of some, with their keys, differ as these do
made_differ : {G H : Type 0} (key own : ℕ) (make : Row G → Row H) → ((row : Row G) → key_of own (make row) ≡ key_of key row)
    → (rows : List (Row G)) → Pairs (λ a b. key_of key a ≢ key_of key b) rows
    → Pairs (λ a b. key_of own a ≢ key_of own b) (map make rows)
made_differ {G = G} key own make same [] h = tt
made_differ {G = G} {H = H} key own make same (x ∷ rows) h = (one rows h.0, made_differ key own make same rows h.1)
  where
    one : (rows : List (Row G)) → Each (λ b. key_of key x ≢ key_of key b) rows
        → Each (λ b. key_of own (make x) ≢ key_of own b) (map make rows)
    one [] h = tt
    one (y ∷ rows) h = ((λ e. h.0 (sym (same x) ∙ e ∙ same y)), one rows h.1)

-- what holds of all pairs holds of those in the first rows, and in what a test keeps
each_take : {X : Type 0} (P : X → Type 0) (n : ℕ) (xs : List X) → Each P xs → Each P (take n xs)
each_take P zero xs h = tt
each_take P (suc n) [] h = h
each_take P (suc n) (x ∷ xs) h = (h.0, each_take P n xs h.1)

each_filter : {X : Type 0} (P : X → Type 0) (test : X → Bool) (xs : List X) → Each P xs → Each P (filter test xs)
each_filter P test [] h = tt
each_filter {X = X} P test (x ∷ xs) h = go (test x) (each_filter P test xs h.1)
  where
    go : (b : Bool) → Each P (filter test xs) → Each P (cond b (x ∷ filter test xs) (filter test xs))
    go true rest = (h.0, rest)
    go false rest = rest

pairs_drop : {X : Type 0} (R : X → X → Type 0) (n : ℕ) (xs : List X) → Pairs R xs → Pairs R (drop n xs)
pairs_drop R zero xs h = h
pairs_drop R (suc n) [] h = h
pairs_drop R (suc n) (x ∷ xs) h = pairs_drop R n xs h.1

pairs_take : {X : Type 0} (R : X → X → Type 0) (n : ℕ) (xs : List X) → Pairs R xs → Pairs R (take n xs)
pairs_take R zero xs h = tt
pairs_take R (suc n) [] h = h
pairs_take R (suc n) (x ∷ xs) h = (each_take (R x) n xs h.0, pairs_take R n xs h.1)

pairs_filter : {X : Type 0} (R : X → X → Type 0) (test : X → Bool) (xs : List X) → Pairs R xs → Pairs R (filter test xs)
pairs_filter R test [] h = tt
pairs_filter {X = X} R test (x ∷ xs) h = go (test x) (pairs_filter R test xs h.1)
  where
    go : (b : Bool) → Pairs R (filter test xs) → Pairs R (cond b (x ∷ filter test xs) (filter test xs))
    go true rest = (each_filter (R x) test xs h.0, rest)
    go false rest = rest

-- ---- loading

-- records under a header without a fault load as their typed rows by key, where the keys differ
pub part_loads : (table : TableDef ColumnShape) (header : Record) (records : List Record) (typed : List (Row Geometry))
    → header_fault table.columns header ≡ None → rows_of reading table header records ≡ Ok typed
    → double_key (map (key_of table.key) typed) ≡ None → load reading table (header ∷ records) ≡ Ok (by_key table.key typed)
unfolding load
part_loads table header records typed none rows differ =
    ap (λ f. unless f (and_then (rows_of reading table header records) (keyed_rows table.key))) none
    ∙ ap (λ (r : Result (List (Row Geometry)) LoadFault). and_then r (keyed_rows table.key)) rows
    ∙ ap (λ d. unless (option_map fault.DoubleKey d) (Ok (by_key table.key typed))) differ

-- ---- stretches

module _ (table narrow : TableDef ColumnShape) (copied : List ℕ) (is : IsNarrow table narrow copied)
    (differ : names_differ (column_names narrow.columns) ≡ true) (header : Record) where
  -- a record of a stretch
  abbrev made : Record → Record
  made fields = copied_fields (places_in header table.columns) copied fields

  abbrev of : Record → ℕ → List ℕ
  of fields = field_in (places_in header table.columns) fields

  required : (t k : ℕ) → slice_get copied t ≡ Some k → (b : Bool) → (b || (t == narrow.key)) ≡ true
      → (b || (k == table.key)) ≡ true
  required t k at true h = refl
  required t k at false h =
      let same : t ≡ place_among copied table.key = eqb-true t narrow.key h ∙ is.key in
      eq-eqb k table.key (same_Some k table.key (sym at ∙ ap (slice_get copied) same
      ∙ place_of_key copied table.key is.key_copied))

  module _ (fields : Record) (number : ℕ) (row : Row Geometry) (typed : row_of reading table header number fields ≡ Ok row)
      (other : ℕ) where
    -- the value of a column of the stretch
    abbrev value : ℕ × ColumnDef ColumnShape → Result (Value Geometry) LoadFault
    value d = value_of reading other (is_required narrow d) d.1.column_type
        (field_under (column_names narrow.columns) (made fields) d.1.name)

    copied_value : (t k : ℕ) (c : ColumnDef ColumnShape) → slice_get copied t ≡ Some k → slice_get narrow.columns t ≡ Some c
        → slice_get table.columns k ≡ Some c → value (0 + t, c) ≡ given row k
    copied_value t k c at own there =
        let none : t ≡ 0 + t = omega arith in
        let name : ColumnDef ColumnShape → List ℕ = λ d. d.name in
        let made_at : slice_get (made fields) t ≡ Some (of fields k) = slice_get-map (of fields) copied t
        ∙ ap (option_map (of fields)) at in
        let place : place_in (column_names narrow.columns) c.name ≡ t =
        place_is (column_names narrow.columns) t c.name differ (slice_get-map name narrow.columns t ∙ ap (option_map name) own) in
        let field : field_under (column_names narrow.columns) (made fields) c.name ≡ field_under header fields c.name =
        ap (λ p. get_or (made fields) p []) place ∙ get_or_from_slice_get (made fields) t (of fields k) [] made_at
        ∙ field_is table header fields k c there in
        subst (λ n. value (n, c) ≡ given row k) none
        (alike number other (is_required table (k, c)) (is_required narrow (t, c)) c.column_type
        (field_under (column_names narrow.columns) (made fields) c.name)
        (unwrap_or (slice_get row k) values.Null) (required t k at c.not_null)
        (ap (λ f. value_of reading number (is_required table (k, c)) c.column_type f) field
        ∙ typed_field table header fields number row typed k c there))

    record_read : row_of reading narrow (column_names narrow.columns) other (made fields) ≡ Ok (fields_in copied row)
    unfolding row_of
    record_read =
        ap each (copies value (given row) (slice_get table.columns) copied narrow.columns 0 is.there copied_value)
        ∙ ap each (all_given copied) ∙ ok_all (fields_in copied row)
      where
        all_given : (columns : List ℕ) → map (given row) columns ≡ map Ok (fields_in columns row)
        all_given [] = refl
        all_given (k ∷ columns) = ap (λ (l : List (Result (Value Geometry) LoadFault)). given row k ∷ l) (all_given columns)

  -- a record of a stretch is as long as the header
  even : (fields : Record) → length (made fields) ≡ length (column_names narrow.columns)
  even fields =
      length-map copied (of fields) ∙ sym (length-map copied (slice_get table.columns)) ∙ sym (ap length is.there)
      ∙ length-map narrow.columns (λ (c : ColumnDef ColumnShape). Some c)
      ∙ sym (length-map narrow.columns (λ (c : ColumnDef ColumnShape). c.name))

  -- the records of a stretch, from a number on
  stretch_read : (records : List Record) (typed : List (Row Geometry)) → AllZip (IsTyped table header) records typed → (n : ℕ)
      → n + length records ≤ row_limit + 1
      → each (map (checked_row reading narrow (column_names narrow.columns)) (enumerate_from n (map made records)))
      ≡ Ok (map (fields_in copied) typed)
  unfolding checked_row
  stretch_read [] [] are n few = refl
  stretch_read [] (row ∷ typed) are n few = absurd are
  stretch_read (fields ∷ records) [] are n few = absurd are
  stretch_read (fields ∷ records) (row ∷ typed) are n few =
      let fits : (length (made fields) == length (column_names narrow.columns)) ≡ true =
      eq-eqb (length (made fields)) (length (column_names narrow.columns)) (even fields) in
      let within : nat_lt row_limit n ≡ false = le-ltb row_limit n (omega (arith, few)) in
      ap₂ (λ (a : Result (Row Geometry) LoadFault) (b : Result (List (Row Geometry)) LoadFault). and_then a
      (λ x. and_then b (λ xs. Ok (x ∷ xs))))
      ((λ i. cond (not (fits i)) (Err (fault.UnequalRecord n))
      (cond (within i) (Err fault.TooManyRows) (row_of reading narrow (column_names narrow.columns) n (made fields))))
      ∙ record_read fields are.0.number row are.0.is n)
      (stretch_read records typed are.1 (n + 1) (omega (arith, few)))

  -- so they load, as what is copied of their typed rows, by key
  pub stretch_loads : (records : List Record) (typed : List (Row Geometry)) → AllZip (IsTyped table header) records typed
      → length records ≤ row_limit → Pairs (λ a b. key_of table.key a ≢ key_of table.key b) typed
      → load reading narrow (column_names narrow.columns ∷ map made records) ≡ Ok
      (by_key narrow.key (map (fields_in copied) typed))
  unfolding rows_of
  stretch_loads records typed are few apart =
      part_loads narrow (column_names narrow.columns) (map made records) (map (fields_in copied) typed)
      (own_header narrow.columns differ) (stretch_read records typed are 1 (omega (arith, few)))
      (no_double narrow.key (map (fields_in copied) typed)
      (made_differ table.key narrow.key (fields_in copied)
      (λ row. ap (λ k. key_of k (fields_in copied row)) is.key ∙ narrow_key copied table.key is.key_copied row) typed apart))

-- what holds of the elements of two lists, place by place, holds of those in the first, and of the others
zip_drop : (R : Record → Row Geometry → Type 0) (n : ℕ) (xs : List Record) (ys : Table Geometry) → AllZip R xs ys
    → AllZip R (drop n xs) (drop n ys)
zip_drop R zero xs ys h = h
zip_drop R (suc n) [] [] h = h
zip_drop R (suc n) [] (y ∷ ys) h = absurd h
zip_drop R (suc n) (x ∷ xs) [] h = absurd h
zip_drop R (suc n) (x ∷ xs) (y ∷ ys) h = zip_drop R n xs ys h.1

zip_take : (R : Record → Row Geometry → Type 0) (n : ℕ) (xs : List Record) (ys : Table Geometry) → AllZip R xs ys
    → AllZip R (take n xs) (take n ys)
zip_take R zero xs ys h = tt
zip_take R (suc n) [] [] h = h
zip_take R (suc n) [] (y ∷ ys) h = absurd h
zip_take R (suc n) (x ∷ xs) [] h = absurd h
zip_take R (suc n) (x ∷ xs) (y ∷ ys) h = (h.0, zip_take R n xs ys h.1)

-- lists that are made of the same numbers
zip_made : (R : List Record → Table Geometry → Type 0) (f : ℕ → List Record) (g : ℕ → Table Geometry) (cs : List ℕ)
    → ((c : ℕ) → R (f c) (g c))
    → AllZip R (map f cs) (map g cs)
zip_made R f g [] h = tt
zip_made R f g (c ∷ cs) h = (h c, zip_made R f g cs h)

-- lists that are changed in their order alone, one behind the other
flat_permuted : (f g : ℕ → Table Geometry) (cs : List ℕ) → ((c : ℕ) → IsPermutation (f c) (g c))
    → IsPermutation (flat_map (λ l. l) (map f cs)) (flat_map (λ l. l) (map g cs))
flat_permuted f g [] h = IsPermutation-refl []
flat_permuted f g (c ∷ cs) h =
    IsPermutation-append (f c) (g c) (flat_map (λ l. l) (map f cs)) (flat_map (λ l. l) (map g cs)) (h c)
    (flat_permuted f g cs h)

-- what is made of lists, one behind the other, is made of the lists one behind the other
flat_made : (f : ℕ → Table Geometry) (make : Row Geometry → Row Geometry) (cs : List ℕ)
    → flat_map (λ l. l) (map (λ c. map make (f c)) cs) ≡ map make (flat_map (λ l. l) (map f cs))
flat_made f make [] = refl
flat_made f make (c ∷ cs) =
    ap (λ l. map make (f c) ++ l) (flat_made f make cs) ∙ sym (map-append make (f c) (flat_map (λ l. l) (map f cs)))

pub stretches_are_loaded : StretchesAreLoaded
stretches_are_loaded table narrow copied records rows size e is differ pos few =
    let w = whole_of table records rows e in
    let apart = differing table.key w.typed w.differ in
    let are : AllZip (IsTyped table header) after w.typed = each_typed table header after 1 w.typed w.are_typed in (
      map (part w.typed) numbers,
      subst (λ (l : List (List Record)). AllZip Loads l (map (part w.typed) numbers)) (sym split)
          (zip_made Loads (λ k. map own (stretch_of size after k)) (part w.typed) numbers
          (λ k. stretch_loads table narrow copied is differ header (stretch_of size after k) (piece w.typed k)
          (zip_take (IsTyped table header) size (drop (k * size) after) (drop (k * size) w.typed)
          (zip_drop (IsTyped table header) (k * size) after w.typed are))
          (let l = length-take size (drop (k * size) after) in omega (arith, l, few))
          (pairs_take (λ a b. key_of table.key a ≢ key_of table.key b) size (drop (k * size) w.typed)
          (pairs_drop (λ a b. key_of table.key a ≢ key_of table.key b) (k * size) w.typed apart)))),
      λ whole reference defined there. record {
        rows = subst (IsPermutation (flat_map (λ l. l) (map (part w.typed) numbers)))
            (sym (sym (unwrap_or-slice_get whole.tables reference.table [])
            ∙ ap (λ o. unwrap_or o []) there)) (together w);
        ascend = subst (λ o. All (λ stretch. AllPairs (λ a b. key_of (key_in o) a <ℤ key_of (key_in o) b) stretch)
            (map (part w.typed) numbers))
            (sym defined) (ascending w.typed apart);
      },
    )
  where
    header : Record
    header = unwrap_or (slice_get records 0) []

    after : List Record
    after = drop 1 records

    numbers : List ℕ
    numbers = range_with_len 0 (stretch_count size after)

    own : Record → Record
    own = copied_fields (places_in header table.columns) copied

    Loads : List Record → Table Geometry → Type 0
    Loads stretch part = load reading narrow (column_names narrow.columns ∷ stretch) ≡ Ok part

    piece : List (Row Geometry) → ℕ → List (Row Geometry)
    piece typed number = take size (drop (number * size) typed)

    part : List (Row Geometry) → ℕ → Table Geometry
    part typed number = by_key narrow.key (map (fields_in copied) (piece typed number))

    split : stretches_of size table.columns copied records ≡ map (λ k. map own (stretch_of size after k)) numbers
    split = ap (λ h. map (map (copied_fields (places_in h table.columns) copied)) (stretches size after))
        (sym (unwrap_or-slice_get records 0 []))
        ∙ map-map (map own) (stretch_of size after) numbers

    narrow_differ : (typed : List (Row Geometry)) → Pairs (λ a b. key_of table.key a ≢ key_of table.key b) typed → (k : ℕ)
        → double_key (map (key_of narrow.key) (map (fields_in copied) (piece typed k))) ≡ None
    narrow_differ typed apart k = no_double narrow.key (map (fields_in copied) (piece typed k))
        (made_differ table.key narrow.key (fields_in copied)
        (λ row. ap (λ key. key_of key (fields_in copied row)) is.key ∙ narrow_key copied table.key is.key_copied row)
        (piece typed k)
        (pairs_take (λ a b. key_of table.key a ≢ key_of table.key b) size (drop (k * size) typed)
        (pairs_drop (λ a b. key_of table.key a ≢ key_of table.key b) (k * size) typed apart)))

    ascending : (typed : List (Row Geometry)) → Pairs (λ a b. key_of table.key a ≢ key_of table.key b) typed
        → All (λ stretch. AllPairs (λ a b. key_of narrow.key a <ℤ key_of narrow.key b) stretch) (map (part typed) numbers)
    ascending typed apart = each-all (λ stretch. AllPairs (λ a b. key_of narrow.key a <ℤ key_of narrow.key b) stretch)
        (map (part typed) numbers) (go numbers)
      where
        go : (ks : List ℕ) → Each (λ stretch. AllPairs (λ a b. key_of narrow.key a <ℤ key_of narrow.key b) stretch)
            (map (part typed) ks)
        go [] = tt
        go (k ∷ ks) = (
          pairs-all (λ a b. key_of narrow.key a <ℤ key_of narrow.key b) (part typed k)
              (rises narrow.key (map (fields_in copied) (piece typed k)) (narrow_differ typed apart k)),
          go ks,
        )

    together : (w : Whole table records rows)
        → IsPermutation (flat_map (λ l. l) (map (part w.typed) numbers)) (map (fields_in copied) rows)
    together w =
        let ps = flat_map (λ l. l) (map (part w.typed) numbers) in
        let qs = flat_map (λ l. l) (map (λ k. map (fields_in copied) (piece w.typed k)) numbers) in
        let as_many : length after ≡ length w.typed =
        length_zip (IsTyped table header) after w.typed (each_typed table header after 1 w.typed w.are_typed) in
        let all : qs ≡ map (fields_in copied) w.typed =
        flat_made (piece w.typed) (fields_in copied) numbers
        ∙ ap (map (fields_in copied)) (whole_so_far size w.typed (stretch_count size after)
        ∙ take_all (stretch_count size after * size) w.typed
        (subst (λ n. n ≤ stretch_count size after * size) as_many (stretches_enough size after pos))) in
        IsPermutation-trans ps qs (map (fields_in copied) rows)
        (IsPermutation-sym qs ps (flat_permuted (λ k. map (fields_in copied) (piece w.typed k)) (part w.typed) numbers
        (λ k. permuted narrow.key (map (fields_in copied) (piece w.typed k)))))
        (subst (λ l. IsPermutation l (map (fields_in copied) rows)) (sym all)
        (IsPermutation-map (fields_in copied) w.typed rows (subst (IsPermutation w.typed) w.is (permuted table.key w.typed))))
      where
        length_zip : {A B : Type 0} (R : A → B → Type 0) (xs : List A) (ys : List B) → AllZip R xs ys → length xs ≡ length ys
        length_zip R [] [] h = refl
        length_zip R [] (y ∷ ys) h = absurd h
        length_zip R (x ∷ xs) [] h = absurd h
        length_zip R (x ∷ xs) (y ∷ ys) h = ap suc (length_zip R xs ys h.1)

-- ---- tiles

-- typed rows, without the lengths of their records
typed_rows_are : (table : TableDef ColumnShape) (header : Record) (records : List Record) (typed : List (Row Geometry))
    → AllZip (IsTyped table header) records typed → AreTypedRows table header records typed
typed_rows_are table header [] [] are = tt
typed_rows_are table header [] (row ∷ typed) are = absurd are
typed_rows_are table header (fields ∷ records) [] are = absurd are
typed_rows_are table header (fields ∷ records) (row ∷ typed) are =
    ((are.0.number, are.0.is), typed_rows_are table header records typed are.1)

module _ (table narrow wide : TableDef ColumnShape) (w s : ColumnDef ColumnShape) (copied : List ℕ) (place : ℕ)
    (is : IsNarrow table narrow copied) (has : HasMarks narrow wide w s) (has_place : Contains copied place) where
  -- the definition of a tile is that of what is copied and marked
  wide_is : names_differ (column_names wide.columns) ≡ true → IsWide table wide copied
  wide_is differ = record {
    own = narrow.columns;
    west = w;
    south = s;
    columns = has.columns;
    there = is.there;
    key = ap (slice_get copied) (has.key ∙ is.key) ∙ place_of_key copied table.key is.key_copied;
    west_type = has.west;
    south_type = has.south;
    differ = differ;
  }

  -- the key of a row of a tile
  tile_key : (cell : Cell) (row : Row Geometry) → key_of wide.key (tile_row copied place cell row) ≡ key_of table.key row
  tile_key cell row =
      ap (λ k. key_of k (tile_row copied place cell row)) (has.key ∙ is.key)
      ∙ marked_key (fields_in copied row) (law.marks cell (option_and_then envelope (law.geometry_at place row)))
      (place_among copied table.key) (unwrap_or (slice_get row table.key) values.Null)
      (at_its_place (λ k. unwrap_or (slice_get row k) values.Null) copied table.key is.key_copied)
      ∙ narrow_key copied table.key is.key_copied row

  -- the geometry of a row is that of what is copied of it
  same_geometry : (row : Row Geometry) → law.geometry_at (place_among copied place)
      (fields_in copied row) ≡ law.geometry_at place row
  same_geometry row =
      ap (λ (o : Option (Value Geometry)). arguments.geometry_in (unwrap_or o values.Null))
      (at_its_place (λ k. unwrap_or (slice_get row k) values.Null) copied place has_place)

  -- a tile of what is copied has what is copied of the rows of the tile, marked
  tile_is : (cell : Cell) (rows : Table Geometry) → law.tile_of cell (place_among copied place) (map (fields_in copied) rows)
      ≡ map (tile_row copied place cell) (filter (λ row. is_copied cell (law.geometry_at place row)) rows)
  tile_is cell [] = refl
  tile_is cell (row ∷ rows) =
      ap (λ g. map (law.marked cell (place_among copied place)) (cond (is_copied cell g) (fields_in copied row ∷ kept) kept))
      (same_geometry row)
      ∙ go (is_copied cell (law.geometry_at place row)) (tile_is cell rows)
    where
      kept : Table Geometry
      kept = filter (λ r. is_copied cell (law.geometry_at (place_among copied place) r)) (map (fields_in copied) rows)

      left : Table Geometry
      left = filter (λ r. is_copied cell (law.geometry_at place r)) rows

      go : (b : Bool) → map (law.marked cell (place_among copied place)) kept ≡ map (tile_row copied place cell) left
          → map (law.marked cell (place_among copied place)) (cond b (fields_in copied row ∷ kept) kept)
          ≡ map (tile_row copied place cell) (cond b (row ∷ left) left)
      go false rest = rest
      go true rest = ap₂ (λ (r : Row Geometry) (l : Table Geometry). r ∷ l)
          (ap (λ g. fields_in copied row ++ law.marks cell (option_and_then envelope g)) (same_geometry row)) rest

pub tiles_are_loaded : TilesAreLoaded
unfolding rows_of
tiles_are_loaded table narrow wide w s copied place records rows cell e is has differ g has_place few =
    let whole = whole_of table records rows e in
    let keyed = whole_tables_are_keyed table records rows e in
    let apart = differing table.key whole.typed whole.differ in
    let copy : Row Geometry → Bool = λ row. is_copied cell (law.geometry_at place row) in
    let make : Row Geometry → Row Geometry = tile_row copied place cell in
    let typed : Table Geometry = map make (filter copy whole.typed) in
    let same : unwrap_or (slice_get records 0) [] ≡ header_of records = unwrap_or-slice_get records 0 [] in
    let are : AreTypedRows table (header_of records) (drop 1 records) whole.typed =
    subst (λ h. AreTypedRows table h (drop 1 records) whole.typed) same
    (typed_rows_are table (unwrap_or (slice_get records 0) []) (drop 1 records) whole.typed
    (each_typed table (unwrap_or (slice_get records 0) []) (drop 1 records) 1 whole.typed whole.are_typed)) in
    let none : double_key (map (key_of wide.key) typed) ≡ None =
    no_double wide.key typed
    (made_differ table.key wide.key make (tile_key table narrow wide w s copied place is has has_place cell)
    (filter copy whole.typed)
    (pairs_filter (λ a b. key_of table.key a ≢ key_of table.key b) copy whole.typed apart)) in
    part_loads wide (column_names wide.columns)
    (tile_of (places_in (header_of records) table.columns) place copied (drop 1 records) cell) typed
    (own_header wide.columns differ)
    (tiles_are_read table wide copied place (header_of records) (drop 1 records) whole.typed cell
    (wide_is table narrow wide w s copied place is has has_place differ) g are few) none
    ∙ ap Ok (sorted_tile_is_tile narrow (map (fields_in copied) rows) (narrow_is_keyed table narrow copied is rows keyed.0)
    (within whole)
    cell (place_among copied place) (by_key wide.key typed)
    (subst (λ l. IsPermutation l (by_key wide.key typed))
    (sym (tile_is table narrow wide w s copied place is has has_place cell rows))
    (IsPermutation-trans (map make (filter copy rows)) typed (by_key wide.key typed)
    (IsPermutation-map make (filter copy rows) (filter copy whole.typed)
    (filter_shuffled copy rows whole.typed
    (IsPermutation-sym whole.typed rows (subst (IsPermutation whole.typed) whole.is (permuted table.key whole.typed)))))
    (permuted wide.key typed)))
    (subst (λ k. AllPairs (λ a b. key_of k a <ℤ key_of k b) (by_key wide.key typed)) has.key
    (pairs-all (λ a b. key_of wide.key a <ℤ key_of wide.key b) (by_key wide.key typed) (rises wide.key typed none))))
  where
    within : Whole table records rows → narrow.key < length narrow.columns
    within whole =
        let at = slice_get_within copied (place_among copied table.key) table.key (place_of_key copied table.key is.key_copied) in
        let size : length copied ≡ length narrow.columns = sym (length-map copied (slice_get table.columns))
        ∙ sym (ap length is.there)
        ∙ length-map narrow.columns (λ (c : ColumnDef ColumnShape). Some c) in
        omega (arith, at, size, is.key)
