-- The rows of a whole: what each has, and that what a query filters of them ascends by keys.
use Rattle.std.specs.Prelude.{◌≡◌, refl, ◌<◌, ◌⊎◌, ◌<ℤ◌, ◌≢◌, ◌+◌, ◌||◌, ◌==◌, ℕ, zero, suc, ℤ, int_lt, Bool, true, false, cond, Option, None, List, [], ◌∷◌, ◌++◌, map, length, filter, flat_map, slice_get, slice_index_or, All, Some, option_and_then}
use Rattle.std.specs.List.{AllPairs, AllZip}
use Rattle.std.proofs.Common.{arith, ap, ◌∙◌, sym, inl, inr, length-append}
use borrow.Author.Differences.{ints}
use Rattle.std.proofs.lemmas.List.Elements.{All-nil, All-cons, All-head, All-tail, All-append, All-map, All-weaker}
use Rattle.std.proofs.lemmas.List.Kept.{AllPairs-filter}
use Rattle.std.proofs.lemmas.Option.{slice_get-get_or, same_Some}
use Rattle.geometry_model.specs.Geometries.{Geometry}
use Rattle.table_laws.proofs.PlanLists.{indexed}
use Rattle.table_laws.proofs.Orders.{pairs_none, pairs_head, pairs_tail, pairs_map, same_in_order, pairs_append}
use Rattle.table_model.specs.Binding.{columns_of, table_columns}
use Rattle.table_model.specs.Databases.{Database}
use Rattle.table_model.specs.FeatureTables.{IsRow, IsValueFor, TakesValid}
use Rattle.table_model.specs.GeometryColumns.{ColumnShape}
use Rattle.table_model.specs.Loading.{key_of, whole_number, fits_64_bits, is_required}
use Rattle.table_model.specs.Meanings.{Row, Table, product, referenced}
use Rattle.table_model.specs.ValidGeometries.{IsValidField}
use Rattle.table_model.specs.declared.conditions.Reference.{Reference}
use Rattle.table_model.specs.declared.definitions.ColumnDef.{ColumnDef}
use Rattle.table_model.specs.declared.definitions.ColumnType.{ColumnType}
use Rattle.table_model.specs.declared.definitions.ColumnType.TheVariants as column
use Rattle.table_model.specs.declared.definitions.TableDef.{TableDef}
use Rattle.table_model.specs.declared.values.Value.{Value}
use Rattle.table_model.specs.declared.values.Value.TheVariants as values
use Rattle.table_laws.specs.Orders.{key_in, keys_of, ComesBefore}
use Rattle.table_laws.specs.TileLaws.{IsWhole, AreKeyedRows, FieldOnGrid, DatabaseIsWhole, SortedTileIsTile, HasMarks, TileIsKeyed}
use Rattle.table_laws.specs.Cells.{Cell, is_copied, mark, west_mark, south_mark}
use Rattle.table_laws.specs.Tiles.{geometry_at, marks, marked, tile_of}
use Rattle.geometry_model.specs.Envelopes.{Envelope, envelope}
use Rattle.std.proofs.lemmas.List.Sorted.{Contains-permutation, IsPermutation-sym}
use Rattle.basics.proofs.Options.{nothing_there}
use Rattle.basics.proofs.Lists.{element_at}

-- ---- what each row has

-- its fields fill the columns of its reference, its geometries are valid and on the grid
pub record RowFacts (definitions : List (TableDef ColumnShape)) (r : Reference) (row : Row Geometry) : Type 0 where
  pub width : length row ≡ length (columns_of definitions r)
  pub valid : All IsValidField row
  pub on_grid : All FieldOnGrid row

-- a geometry that a column takes is valid
valid_field : (kind : ColumnType ColumnShape) (v : Value Geometry) → IsValueFor TakesValid kind v → IsValidField v
valid_field kind values.Null h = tt
valid_field kind (values.Integer n) h = tt
valid_field kind (values.Text bytes) h = tt
valid_field column.Integer (values.Geometry g) h = absurd h
valid_field column.Text (values.Geometry g) h = absurd h
valid_field (column.Geometry t) (values.Geometry g) h = h.1

valid_row : (table : TableDef ColumnShape) (row : Row Geometry) → IsRow TakesValid table row → All IsValidField row
valid_row table row is k d l =
    let c = element_at table.columns k (omega (arith, l, is.width)) in
    valid_field c.0.column_type (slice_index_or row k d) (is.typed k c.0 (slice_index_or row k d) c.1 (slice_get-get_or row k d l)).0

-- the definition and the rows of a reference
record OfReference (whole : Database ColumnShape Geometry) (r : Reference) : Type 0 where
  pub table : TableDef ColumnShape
  pub found : slice_get whole.definitions r.table ≡ Some table
  pub rows : AreKeyedRows table (slice_index_or whole.tables r.table [])

of_reference : (whole : Database ColumnShape Geometry) → IsWhole whole → (r : Reference) → r.table < length whole.definitions → OfReference whole r
of_reference whole is r l =
    let table = element_at whole.definitions r.table l in
    record {
      table = table.0;
      found = table.1;
      rows = is.tables r.table table.0 (slice_index_or whole.tables r.table []) table.1 (slice_get-get_or whole.tables r.table [] (omega (arith, l, is.count)));
    }

pub row_facts : (whole : Database ColumnShape Geometry) → IsWhole whole → (r : Reference) → r.table < length whole.definitions → All (RowFacts whole.definitions r) (slice_index_or whole.tables r.table [])
row_facts whole is r l k d m =
    let of = of_reference whole is r l in
    let rows = slice_index_or whole.tables r.table [] in
    record {
      width = (of.rows.each k d m).width ∙ sym (ap (λ o. length (table_columns o)) of.found);
      valid = valid_row of.table (slice_index_or rows k d) (of.rows.each k d m);
      on_grid = indexed (λ table. All (λ row. All FieldOnGrid row) table) whole.tables r.table [] is.on_grid (All-nil (λ row. All FieldOnGrid row)) k d m;
    }

keys_ascend : (whole : Database ColumnShape Geometry) → IsWhole whole → (r : Reference) → r.table < length whole.definitions
    → AllPairs (λ a b. key_of (key_in (slice_get whole.definitions r.table)) a <ℤ key_of (key_in (slice_get whole.definitions r.table)) b) (slice_index_or whole.tables r.table [])
keys_ascend whole is r l = let of = of_reference whole is r l in rw of.found of.rows.ascend

pub database_is_whole : DatabaseIsWhole
database_is_whole database is grid = record {
  count = is.count;
  tables = λ place table rows d t. record { each = (is.tables place table rows d t).each; ascend = (is.tables place table rows d t).ascend };
  on_grid = grid;
}

-- ---- the order of the product

-- choices of rows come before one another in one way alone
pub comes_once : (keys : List ℕ) (a b : List (Row Geometry)) → ComesBefore keys a b → ComesBefore keys b a → ⊥
comes_once [] a b h k = h
comes_once (key ∷ keys) [] b h k = h
comes_once (key ∷ keys) (x ∷ xs) [] h k = h
comes_once (key ∷ keys) (x ∷ xs) (y ∷ ys) h k = go h k (comes_once keys xs ys)
  where
    go : (key_of key x <ℤ key_of key y) ⊎ ((key_of key x ≡ key_of key y) × ComesBefore keys xs ys) → (key_of key y <ℤ key_of key x) ⊎ ((key_of key y ≡ key_of key x) × ComesBefore keys ys xs)
        → (ComesBefore keys xs ys → ComesBefore keys ys xs → ⊥) → ⊥
    go (inl l) (inl m) rest = omega (arith, ints, l, m)
    go (inl l) (inr e) rest = omega (arith, ints, l, e.0)
    go (inr e) (inl m) rest = omega (arith, ints, m, e.0)
    go (inr e) (inr f) rest = rest e.1 f.1

-- a row before all of some rows comes, with any choice behind it, before each of these with any choice
before_all : (key : ℕ) (keys : List ℕ) (row : Row Geometry) (choice : List (Row Geometry)) (more : List (List (Row Geometry))) (rows : Table Geometry) → All (λ other. key_of key row <ℤ key_of key other) rows
    → All (ComesBefore (key ∷ keys) (row ∷ choice)) (flat_map (λ other. map (λ c. other ∷ c) more) rows)
before_all key keys row choice more [] h = All-nil (ComesBefore (key ∷ keys) (row ∷ choice))
before_all key keys row choice more (other ∷ rows) h =
    All-append (ComesBefore (key ∷ keys) (row ∷ choice)) (map (λ c. other ∷ c) more) (flat_map (λ o. map (λ c. o ∷ c) more) rows)
    (All-map (ComesBefore (key ∷ keys) (row ∷ choice)) (λ c. other ∷ c) more (λ k d l. inl (All-head (λ o. key_of key row <ℤ key_of key o) other rows h)))
    (before_all key keys row choice more rows (All-tail (λ o. key_of key row <ℤ key_of key o) other rows h))

-- the rows of an ascending table, each with each of some ascending choices, ascend
with_table : (key : ℕ) (keys : List ℕ) (more : List (List (Row Geometry))) → AllPairs (ComesBefore keys) more → (rows : Table Geometry) → AllPairs (λ a b. key_of key a <ℤ key_of key b) rows
    → AllPairs (ComesBefore (key ∷ keys)) (flat_map (λ row. map (λ c. row ∷ c) more) rows)
with_table key keys more h [] k = pairs_none (ComesBefore (key ∷ keys))
with_table key keys more h (row ∷ rows) k =
    pairs_append (ComesBefore (key ∷ keys)) (map (λ c. row ∷ c) more) (flat_map (λ o. map (λ c. o ∷ c) more) rows)
    (pairs_map (ComesBefore keys) (ComesBefore (key ∷ keys)) (λ c. row ∷ c) more (λ a b before. inr (refl, before)) h)
    (with_table key keys more h rows (pairs_tail (λ a b. key_of key a <ℤ key_of key b) row rows k))
    (All-map (λ x. All (ComesBefore (key ∷ keys) x) (flat_map (λ o. map (λ c. o ∷ c) more) rows)) (λ c. row ∷ c) more
    (λ i d l. before_all key keys row (slice_index_or more i d) more rows (pairs_head (λ a b. key_of key a <ℤ key_of key b) row rows k)))

-- the rows of a table ascend by the key in this column
abbrev pub AscendsBy : ℕ → Table Geometry → Type 0
AscendsBy key rows = AllPairs (λ a b. key_of key a <ℤ key_of key b) rows

-- the product of ascending tables ascends by their keys
pub tables_ascend : (keys : List ℕ) (tables : List (Table Geometry)) → AllZip AscendsBy keys tables → AllPairs (ComesBefore keys) (product tables)
tables_ascend [] [] h = λ i j d l m. absurd (omega (arith, l, m))
tables_ascend [] (table ∷ tables) h = absurd h
tables_ascend (key ∷ keys) [] h = absurd h
tables_ascend (key ∷ keys) (table ∷ tables) h = with_table key keys (product tables) (tables_ascend keys tables h.1) table h.0

-- and so do the tables of some references
all_ascend : (whole : Database ColumnShape Geometry) → IsWhole whole → (references : List Reference) → All (λ (r : Reference). r.table < length whole.definitions) references
    → AllZip AscendsBy (keys_of whole.definitions references) (referenced whole.tables references)
all_ascend whole is [] h = tt
all_ascend whole is (r ∷ references) h = (
  keys_ascend whole is r (All-head (λ (o : Reference). o.table < length whole.definitions) r references h),
  all_ascend whole is references (All-tail (λ (o : Reference). o.table < length whole.definitions) r references h),
)

pub product_ascends : (whole : Database ColumnShape Geometry) → IsWhole whole → (references : List Reference) → All (λ (r : Reference). r.table < length whole.definitions) references
    → AllPairs (ComesBefore (keys_of whole.definitions references)) (product (referenced whole.tables references))
product_ascends whole is references h = tables_ascend (keys_of whole.definitions references) (referenced whole.tables references) (all_ascend whole is references h)

-- ---- tiles by key

-- fields behind a row don't change its key
same_key : (row fields : Row Geometry) (key : ℕ) → key < length row → key_of key (row ++ fields) ≡ key_of key row
same_key row fields key l = ap whole_number (same row key l)
  where
    same : (row : Row Geometry) (key : ℕ) → key < length row → slice_get (row ++ fields) key ≡ slice_get row key
    same [] key l = absurd (omega (arith, l))
    same (v ∷ row) zero l = refl
    same (v ∷ row) (suc key) l = same row key (omega (arith, l))

-- two rows with a key, the first's below the second's
abbrev HaveKeys : ℕ → Row Geometry → Row Geometry → Type 0
HaveKeys key a b = (key < length a) × (key < length b) × (key_of key a <ℤ key_of key b)

-- a tile ascends as its table does
tile_ascends : (table : TableDef ColumnShape) (rows : Table Geometry) → AreKeyedRows table rows → table.key < length table.columns → (cell : Cell) (column : ℕ) → AscendsBy table.key (tile_of cell column rows)
tile_ascends table rows is l cell column =
    pairs_map (HaveKeys table.key) (λ a b. key_of table.key a <ℤ key_of table.key b) (marked cell column) (filter (λ row. is_copied cell (geometry_at column row)) rows)
    (λ a b h. rw (same_key a (marks cell (option_and_then envelope (geometry_at column a))) table.key h.0, same_key b (marks cell (option_and_then envelope (geometry_at column b))) table.key h.1) h.2)
    (AllPairs-filter (HaveKeys table.key) (λ row. is_copied cell (geometry_at column row)) rows
    (λ i j d less m. let w = (is.each i d (omega (arith, less, m))).width in let v = (is.each j d m).width in (omega (arith, l, w), omega (arith, l, v), is.ascend i j d less m)))

pub sorted_tile_is_tile : SortedTileIsTile
sorted_tile_is_tile table rows is l cell column sorted p ascends =
    same_in_order (λ a b. key_of table.key a <ℤ key_of table.key b) once sorted (tile_of cell column rows) ascends (tile_ascends table rows is l cell column)
    (λ z m. Contains-permutation sorted (tile_of cell column rows) z (IsPermutation-sym (tile_of cell column rows) sorted p) m)
    (λ z m. Contains-permutation (tile_of cell column rows) sorted z p m)
  where
    once : (a b : Row Geometry) → key_of table.key a <ℤ key_of table.key b → key_of table.key b <ℤ key_of table.key a → ⊥
    once a b h k = omega (arith, ints, h, k)

-- ---- the rows of a tile

-- a place in a row with two fields behind is one of the row, the first behind it or the second
which_place : {X Y : Type 0} (xs : List X) (ys : List Y) (w s c : X) (x y v : Y) → length ys ≡ length xs → (place : ℕ) → slice_get (xs ++ w ∷ s ∷ []) place ≡ Some c → slice_get (ys ++ x ∷ y ∷ []) place ≡ Some v
    → ((slice_get xs place ≡ Some c) × (slice_get ys place ≡ Some v)) ⊎ (((w ≡ c) × (x ≡ v)) ⊎ ((s ≡ c) × (y ≡ v)))
which_place [] [] w s c x y v e zero h k = inr (inl (same_Some w c h, same_Some x v k))
which_place [] [] w s c x y v e (suc zero) h k = inr (inr (same_Some s c h, same_Some y v k))
which_place [] [] w s c x y v e (suc (suc place)) h k = nothing_there c h
which_place [] (z ∷ ys) w s c x y v e place h k = absurd (omega (arith, e))
which_place (z ∷ xs) [] w s c x y v e place h k = absurd (omega (arith, e))
which_place (z ∷ xs) (u ∷ ys) w s c x y v e zero h k = inl (h, k)
which_place (z ∷ xs) (u ∷ ys) w s c x y v e (suc place) h k = which_place xs ys w s c x y v (omega (arith, e)) place h k

-- a mark is a whole number of 64 bits
mark_fits : (t : Bool) → fits_64_bits (mark t) ≡ true
mark_fits true = refl
mark_fits false = refl

west_fits : (cell : Cell) (e : Option Envelope) → fits_64_bits (west_mark cell e) ≡ true
west_fits (Some box) (Some e) = mark_fits (int_lt e.least_x box.least_x)
west_fits (Some box) None = refl
west_fits None e = refl

south_fits : (cell : Cell) (e : Option Envelope) → fits_64_bits (south_mark cell e) ≡ true
south_fits (Some box) (Some e) = mark_fits (int_lt e.least_y box.least_y)
south_fits (Some box) None = refl
south_fits None e = refl

-- a field of whole numbers takes one of 64 bits
number_fits : (kind : ColumnType ColumnShape) (n : ℤ) (v : Value Geometry) → kind ≡ column.Integer → values.Integer n ≡ v → fits_64_bits n ≡ true → IsValueFor TakesValid kind v × (v ≢ values.Null)
number_fits kind n v e f h = rw (e, sym f) (h, (λ g. cc))

marked_row : (table wide : TableDef ColumnShape) (w s : ColumnDef ColumnShape) → HasMarks table wide w s → (row : Row Geometry) → IsRow TakesValid table row → (cell : Cell) (e : Option Envelope)
    → IsRow TakesValid wide (row ++ marks cell e)
marked_row table wide w s has row is cell e = record {
  width = length-append row (marks cell e) ∙ ap (λ n. n + 2) is.width ∙ sym (length-append table.columns (w ∷ s ∷ [])) ∙ sym (ap length has.columns);
  typed = λ place c v h k. go place c v
      (which_place table.columns row w s c (values.Integer (west_mark cell e)) (values.Integer (south_mark cell e)) v is.width place (sym (ap (λ l. slice_get l place) has.columns) ∙ h) k);
}
  where
    go : (place : ℕ) (c : ColumnDef ColumnShape) (v : Value Geometry)
        → ((slice_get table.columns place ≡ Some c) × (slice_get row place ≡ Some v)) ⊎ (((w ≡ c) × (values.Integer (west_mark cell e) ≡ v)) ⊎ ((s ≡ c) × (values.Integer (south_mark cell e) ≡ v)))
        → IsValueFor TakesValid c.column_type v × (is_required wide (place, c) ≡ true → v ≢ values.Null)
    go place c v (inl m) = let t = is.typed place c v m.0 m.1 in (t.0, λ r. t.1 (sym (ap (λ n. c.not_null || (place == n)) has.key) ∙ r))
    go place c v (inr (inl m)) = let t = number_fits c.column_type (west_mark cell e) v (sym (ap (λ d. d.column_type) m.0) ∙ has.west) m.1 (west_fits cell e) in (t.0, λ r. t.1)
    go place c v (inr (inr m)) = let t = number_fits c.column_type (south_mark cell e) v (sym (ap (λ d. d.column_type) m.0) ∙ has.south) m.1 (south_fits cell e) in (t.0, λ r. t.1)

pub tile_is_keyed : TileIsKeyed
tile_is_keyed table wide w s has rows is l cell place = record {
  each = All-map (IsRow TakesValid wide) (marked cell place) (filter (λ row. is_copied cell (geometry_at place row)) rows)
      (All-weaker (IsRow TakesValid table) (λ row. IsRow TakesValid wide (marked cell place row)) (λ row r. marked_row table wide w s has row r cell (option_and_then envelope (geometry_at place row)))
      (filter (λ row. is_copied cell (geometry_at place row)) rows) (kept_have (λ row. is_copied cell (geometry_at place row)) rows is.each));
  ascend = rw has.key (tile_ascends table rows is l cell place);
}
  where
    kept_have : (test : Row Geometry → Bool) (list : Table Geometry) → All (IsRow TakesValid table) list → All (IsRow TakesValid table) (filter test list)
    kept_have test [] h = h
    kept_have test (row ∷ list) h = go (test row) (kept_have test list (All-tail (IsRow TakesValid table) row list h))
      where
        go : (b : Bool) → All (IsRow TakesValid table) (filter test list) → All (IsRow TakesValid table) (cond b (row ∷ filter test list) (filter test list))
        go true r = All-cons (IsRow TakesValid table) row (filter test list) (All-head (IsRow TakesValid table) row list h) r
        go false r = r
