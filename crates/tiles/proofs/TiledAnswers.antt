-- The answer to a query over the tiles that were written is that over the whole.
use Rattle.std.proofs.Common.{◌≡◌, ◌≢◌, ◌∙◌, ◌⊎◌, ◌+◌, ◌<◌, ◌≤◌, ◌++◌, ap, ap₂, arith, cond, inl, inr, refl, subst, sym}
use Rattle.std.proofs.Common.{Bool, true, false, ℕ, zero, suc, List, [], ◌∷◌, get_or, length, map}
use Rattle.std.proofs.Common.{Option, None, Some, Result, Ok, Err}
use Rattle.std.specs.Prelude.{All, Contains, IsPermutation, codes, drop, if◌then◌else◌, option_map, slice_get, sum_by, unwrap_or}
use Rattle.std.specs.List.{AllPairs, AllZip, enumerate_from, filter, flat_map, range_with_len, slice_index_or}
use Rattle.std.proofs.lemmas.List.{length-map, map-append, take-map}
use Rattle.std.proofs.lemmas.List.Concat.{length-flat_map}
use Rattle.std.proofs.lemmas.List.Elements.{All-cons, All-contains, All-head, All-map, All-nil, All-tail, All-weaker}
use Rattle.std.proofs.lemmas.List.FromFn.{length-enumerate_from}
use Rattle.std.proofs.lemmas.List.Kept.{AllPairs-filter}
use Rattle.std.proofs.lemmas.List.Sorted.{length_permutation}
use Rattle.std.proofs.lemmas.Simd.{map-map}
use Rattle.std.proofs.lemmas.Option.{get_or_from_slice_get, same_Some, slice_get-map, slice_get_within, unwrap_or-slice_get}
use mathlib.Core.Path.{fun_ext}
use Rattle.basics.proofs.Lists.{contains_later}
use Rattle.basics.proofs.Options.{nothing_there}
use Rattle.feature_table.specs.GeometryFields.{reading}
use Rattle.feature_table.specs.Tables.{table_in}
use Rattle.geometry_model.specs.Dimensions.{Matrix}
use Rattle.geometry_model.specs.Envelopes.{Envelope}
use Rattle.geometry_model.specs.Geometries.{Geometry}
use Rattle.geometry_model.specs.declared.relations.Predicate.{Predicate}
use Rattle.table_laws.proofs.Fits.{parts}
use Rattle.table_laws.proofs.KeyOrder.{product_ascends}
use Rattle.table_laws.proofs.Keys.{permuted}
use Rattle.table_laws.proofs.Loads.{loaded}
use Rattle.table_laws.proofs.Merging.{uncounted}
use Rattle.table_laws.proofs.NarrowTables.{narrow_is_keyed}
use Rattle.table_laws.proofs.Narrowing.{columns_can_be_left_out}
use Rattle.table_laws.proofs.PlanLists.{member_cases, no_member, unwrapped}
use Rattle.table_laws.proofs.ReadGeometries.{loaded_are_rows}
use Rattle.table_laws.proofs.TwoTables.{counts_add_up, merged_tiles_are_meant, tiles_give_rows}
use Rattle.table_laws.specs.Cells.{Cell, cells_of}
use Rattle.table_laws.specs.ColumnLaws.{HasColumn, IsNarrow, IsNarrowed, columns_by_parts, condition_columns, fields_in}
use Rattle.table_laws.specs.ColumnLaws.{moved_by_parts}
use Rattle.table_laws.specs.ColumnLaws.{moved_condition, narrow_tables, narrowed, place_among}
use Rattle.table_laws.specs.Orders.{ComesBefore, key_in, keys_of}
use Rattle.table_laws.specs.TileLaws.{AreKeyedRows, FieldOnGrid, Forces, GeometryStatement, IsOverTiles, IsTiled, IsWhole}
use Rattle.table_laws.specs.TileLaws.{rows_of_tiles, tiles_in}
use Rattle.table_laws.specs.Tiles.{owner_conjunct}
use Rattle.table_laws.specs.Tiles as law
use Rattle.table_model.specs.AnswerTexts.{answer_records, count_records}
use Rattle.table_model.specs.Arguments.{denoted}
use Rattle.table_model.specs.Binding.{columns_of, table_columns}
use Rattle.table_model.specs.Databases.{Database}
use Rattle.table_model.specs.Definitions.{column_names}
use Rattle.table_model.specs.GeometryColumns.{ColumnShape}
use Rattle.table_model.specs.Loading.{Record, by_key, checked_row, each, load, row_limit, rows_of}
use Rattle.table_model.specs.Meanings.{Row, Table, filtered, is_true, meaning, product, referenced, search_condition, up_to}
use Rattle.table_model.specs.BoundQueries.{IsBound, geometry_fits}
use Rattle.table_model.specs.Statements.{by_conjuncts, conjuncts_of}
use Rattle.table_model.specs.TruthLaws.{Argument}
use Rattle.table_model.specs.Truths.{truth}
use Rattle.table_model.specs.declared.conditions.ColumnPlace.{ColumnPlace}
use Rattle.table_model.specs.declared.conditions.Cond.{Cond}
use Rattle.table_model.specs.declared.conditions.Cond.TheVariants as conds
use Rattle.table_model.proofs.CondFolds.{fold-Relates}
use Rattle.table_model.specs.declared.conditions.GeometryArgument.TheVariants as arguments
use Rattle.table_model.specs.declared.conditions.Reference.{Reference}
use Rattle.table_model.specs.declared.definitions.ColumnDef.{ColumnDef}
use Rattle.table_model.specs.declared.definitions.TableDef.{TableDef}
use Rattle.table_model.specs.declared.faults.LoadFault.{LoadFault}
use Rattle.table_model.specs.declared.values.Value.TheVariants as values
use Rattle.tiles.specs.Copies.{header_of, marked_fields, table_at, tile_of, tiles_of}
use Rattle.tiles.specs.KeyMerges.{by_keys}
use Rattle.tiles.specs.LoadedTexts.{BeginsWord}
use Rattle.tiles.specs.RecordLines.{name_at, names_of, places_in}
use Rattle.tiles.specs.TiledAnswers.{AreTileRows, IsPartOf, IsSplitQuery, TiledAnswersAreMeant, TiledCountsAreMeant, TiledPart}
use Rattle.tiles.specs.TiledAnswers.{tile_text}
use Rattle.tiles.proofs.KeyMerges.{merged_ascend, same_rows}
use Rattle.tiles.proofs.LoadedParts.{tiles_are_loaded}
use Rattle.tiles.proofs.LoadedTexts.{texts_are_loaded}
use Rattle.tiles.proofs.NarrowQueries.{is_narrowed, narrow_is_bound, narrow_query, narrow_references}
use Rattle.tiles.proofs.WholeTables.{whole_tables_are_keyed}

-- ---- texts

module _ (whole : Database ColumnShape Geometry) (reference : Reference) (part : TiledPart)
    (is : IsPartOf whole reference part) where
  -- the header that is written is that of the tiles' definition
  same_header : names_of part.table.columns part.copied ++ part.west.name ∷ part.south.name ∷ [] ≡ column_names part.wide.columns
  same_header =
      ap (λ l. l ++ part.west.name ∷ part.south.name ∷ [])
      (sym (map-map of (slice_get part.table.columns) part.copied) ∙ ap (map of) (sym is.narrow.there)
      ∙ map-map of (λ (c : ColumnDef ColumnShape). Some c) part.narrow.columns)
      ∙ sym (map-append name part.narrow.columns (part.west ∷ part.south ∷ []))
      ∙ ap (map name) (sym is.marks.columns)
    where
      name : ColumnDef ColumnShape → List ℕ
      name c = c.name

      of : Option (ColumnDef ColumnShape) → List ℕ
      of o = unwrap_or (option_map name o) []

  -- the records of the tile of a cell
  abbrev tile_records : Cell → List Record
  tile_records cell =
      tile_of (places_in (header_of part.records) part.table.columns) part.place part.copied (drop 1 part.records) cell

  -- each has its marks
  some_field : (cell : Cell) → All (λ fields. fields ≢ []) (tile_records cell)
  some_field cell =
      All-map (λ (fields : Record). fields ≢ [])
      (marked_fields (places_in (header_of part.records) part.table.columns) part.place part.copied cell) _
      (λ k d within. marked _ _ _)
    where
      marked : (xs : Record) (y : List ℕ) (ys : Record) → xs ++ y ∷ ys ≢ []
      marked [] y ys e = cc e
      marked (x ∷ xs) y ys e = cc e

  -- so the text loads as they do
  text_loads : (boxes : List Envelope) (number : ℕ) (cell : Cell) → slice_get (cells_of boxes) number ≡ Some cell
      → table_in reading part.wide (tile_text boxes part number)
      ≡ load reading part.wide (column_names part.wide.columns ∷ tile_records cell)
  text_loads boxes number cell at =
      let tiles = tiles_of boxes part.table.columns part.place part.copied part.records in
      ap (λ header. table_in reading part.wide (table_at header tiles number)) same_header
      ∙ texts_are_loaded part.wide (column_names part.wide.columns) tiles number (tile_records cell)
      (slice_get-map (tile_of (places_in (header_of part.records) part.table.columns) part.place part.copied
      (drop 1 part.records))
      (cells_of boxes) number ∙ ap (option_map _) at)
      is.begins (some_field cell)

-- ---- lengths

-- there are as many values as answers
as_many : {A F : Type 0} (answers : List (Result A F)) (all : List A) → each answers ≡ Ok all → length all ≡ length answers
as_many {A = A} {F = F} [] all e = sym (ap length (none e))
  where
    none : ◌≡◌ {A = Result (List A) F} (Ok []) (Ok all) → [] ≡ all
    none e = cc e
as_many (answer ∷ answers) all e =
    let p = parts answer answers all e in ap length (sym p.all_is) ∙ ap suc (as_many answers p.tail p.tail_is)

-- records that load are within the limit
within_limit : (table : TableDef ColumnShape) (header : Record) (records : List Record) (rows : Table Geometry)
    → load reading table (header ∷ records) ≡ Ok rows → length records ≤ row_limit
unfolding rows_of
within_limit table header records rows e =
    let l = loaded reading table (header ∷ records) rows e in
    let few = (loaded_are_rows table (header ∷ records) rows e).few in
    let same : length rows ≡ length l.typed =
    ap length (sym l.is) ∙ length_permutation l.typed (by_key table.key l.typed) (permuted table.key l.typed) in
    let each : length l.typed ≡ length records =
    as_many (map (checked_row reading table header) (enumerate_from 1 records)) l.typed l.are_typed
    ∙ length-map (enumerate_from 1 records) (checked_row reading table header) ∙ length-enumerate_from 1 records in
    omega (arith, few, same, each)

-- ---- parts

module _ (whole : Database ColumnShape Geometry) (reference : Reference) (part : TiledPart)
    (is : IsPartOf whole reference part) where
  -- the rows of the part: those of its table, with the columns that are copied
  abbrev part_rows : Table Geometry
  part_rows = map (fields_in part.copied) is.rows

  -- what the text of a cell loads as is the tile of these
  tile_loads : Contains part.copied part.place → (boxes : List Envelope) (number : ℕ) (cell : Cell)
      → slice_get (cells_of boxes) number ≡ Some cell → (rows : Table Geometry)
      → table_in reading part.wide (tile_text boxes part number) ≡ Ok rows
      → rows ≡ law.tile_of cell (place_among part.copied part.place) part_rows
  tile_loads has_place boxes number cell at rows loads =
      let here = sym (text_loads whole reference part is boxes number cell at) ∙ loads in
      let few = within_limit part.wide (column_names part.wide.columns) (tile_records whole reference part is cell) rows here in
      same rows (law.tile_of cell (place_among part.copied part.place) part_rows)
      (sym here
      ∙ tiles_are_loaded part.table part.narrow part.wide part.west part.south part.copied part.place part.records is.rows cell
      is.given
      is.narrow is.marks is.differ is.geometries has_place few)
    where
      same : (a b : Table Geometry) → ◌≡◌ {A = Result (Table Geometry) LoadFault} (Ok a) (Ok b) → a ≡ b
      same a b e = cc e

  -- they are keyed
  part_keyed : AreKeyedRows part.narrow part_rows
  part_keyed = narrow_is_keyed part.table part.narrow part.copied is.narrow is.rows
      (whole_tables_are_keyed part.table part.records is.rows is.given).0

  -- and on the grid
  part_on_grid : All (λ row. All FieldOnGrid row) part_rows
  part_on_grid =
      All-map (λ row. All FieldOnGrid row) (fields_in part.copied) is.rows
      (All-weaker (λ row. All FieldOnGrid row) (λ row. All FieldOnGrid (fields_in part.copied row)) narrow_on_grid is.rows
      (whole_tables_are_keyed part.table part.records is.rows is.given).1)
    where
      narrow_on_grid : (row : Row Geometry) → All FieldOnGrid row → All FieldOnGrid (fields_in part.copied row)
      narrow_on_grid row h = All-map FieldOnGrid (λ k. unwrap_or (slice_get row k) values.Null) part.copied
          (λ i d within. unwrapped FieldOnGrid row (get_or part.copied i d) values.Null h tt)

-- ---- the database of what is copied

-- of two references to the first and the second table
record TwoReferences (references : List Reference) : Type 0 where
  first : Reference
  second : Reference
  are : references ≡ first ∷ second ∷ []
  first_table : first.table ≡ 0
  second_table : second.table ≡ 1

two_references : (references : List Reference) → map (λ (r : Reference). r.table) references ≡ 0 ∷ 1 ∷ []
    → TwoReferences references
two_references [] e = cc e
two_references (a ∷ []) e = cc e
two_references (a ∷ b ∷ []) e = record {
  first = a;
  second = b;
  are = refl;
  first_table = ap (λ l. get_or l 0 0) e;
  second_table = ap (λ l. get_or l 1 0) e;
}
two_references (a ∷ b ∷ c ∷ more) e = cc e

-- what is made of a member is among what is made
made_member : (f : Cond Argument → Cond Argument) (xs : List (Cond Argument)) (x : Cond Argument) → Contains xs x
    → Contains (map f xs) (f x)
made_member f [] x m = absurd (no_member x m)
made_member f (y ∷ ys) x m = go (made_member f ys x) (member_cases y ys x m)
  where
    go : (Contains ys x → Contains (map f ys) (f x)) → (y ≡ x) ⊎ Contains ys x → Contains (f y ∷ map f ys) (f x)
    go rest (inl e) = (0, omega arith, ap f e)
    go rest (inr c) = contains_later (f y) (map f ys) (f x) (rest c)

-- what is copied has as many columns
same_width : (table narrow : TableDef ColumnShape) (columns : List ℕ) → IsNarrow table narrow columns
    → length narrow.columns ≡ length columns
same_width table narrow columns is =
    sym (length-map narrow.columns (λ (c : ColumnDef ColumnShape). Some c))
    ∙ ap (λ (l : List (Option (ColumnDef ColumnShape))). length l) is.there
    ∙ length-map columns (slice_get table.columns)

module _ (matrix : Geometry → Geometry → Matrix) (boxes : List Envelope) (whole : Database ColumnShape Geometry)
    (query tile_query : GeometryStatement) (one other : Reference) (predicate : Predicate) (first second : TiledPart)
    (is : IsSplitQuery matrix boxes whole query tile_query one other predicate first second) where
  abbrev first_rows : Table Geometry
  first_rows = part_rows whole one first is.first_is

  abbrev second_rows : Table Geometry
  second_rows = part_rows whole other second is.second_is

  abbrev copied : List (List ℕ)
  copied = first.copied ∷ second.copied ∷ []

  abbrev narrow_whole : Database ColumnShape Geometry
  narrow_whole = record { definitions = first.narrow ∷ second.narrow ∷ []; tables = first_rows ∷ second_rows ∷ [] }

  -- it is a whole
  narrow_is_whole : IsWhole narrow_whole
  narrow_is_whole = record {
    count = refl;
    tables = tables;
    on_grid = All-cons (λ table. All (λ row. All FieldOnGrid row) table) first_rows (second_rows ∷ [])
        (part_on_grid whole one first is.first_is)
        (All-cons (λ table. All (λ row. All FieldOnGrid row) table) second_rows [] (part_on_grid whole other second is.second_is)
        (All-nil (λ table. All (λ row. All FieldOnGrid row) table)));
  }
    where
      tables : (place : ℕ) (table : TableDef ColumnShape) (rows : Table Geometry)
          → slice_get (first.narrow ∷ second.narrow ∷ []) place ≡ Some table
          → slice_get (first_rows ∷ second_rows ∷ []) place ≡ Some rows → AreKeyedRows table rows
      tables zero table rows h k =
          subst (λ t. AreKeyedRows t rows) (same_Some first.narrow table h)
          (subst (AreKeyedRows first.narrow) (same_Some first_rows rows k) (part_keyed whole one first is.first_is))
      tables (suc zero) table rows h k =
          subst (λ t. AreKeyedRows t rows) (same_Some second.narrow table h)
          (subst (AreKeyedRows second.narrow) (same_Some second_rows rows k) (part_keyed whole other second is.second_is))
      tables (suc (suc place)) table rows h k = nothing_there table h

  -- the query over the tiles, of the two tables of a cell
  abbrev tiled : GeometryStatement
  tiled = record {
    explain = tile_query.explain;
    references = narrow_references one other;
    items = tile_query.items;
    on = tile_query.on;
    condition = tile_query.condition;
    counts = tile_query.counts;
    limit = tile_query.limit;
  }

  -- the query over what is copied
  abbrev narrow : GeometryStatement
  narrow = narrow_query query one other copied

  narrowed_is : IsNarrowed query narrow copied
  narrowed_is =
      is_narrowed whole.definitions query one other first.table first.narrow second.table second.narrow first.copied second.copied
      is.asked.bound is.asked.references is.first_is.narrow is.first_is.defined is.second_is.narrow is.second_is.defined
      is.asked.conditions is.asked.named_items

  bound_is : IsBound geometry_fits narrow_whole.definitions (by_conjuncts narrow)
  bound_is =
      narrow_is_bound whole.definitions query one other first.table first.narrow second.table second.narrow first.copied
      second.copied is.asked.bound is.asked.references is.first_is.narrow is.first_is.defined is.second_is.narrow
      is.second_is.defined is.asked.conditions is.asked.named_items

  refs : TwoReferences narrow.references
  refs = two_references narrow.references refl

  -- the columns of the tiles are copied, for the conjunct that forces a meeting names them
  places_copied : Contains first.copied first.place × Contains second.copied second.place
  places_copied = go is.asked.forced
    where
      names : (c : Cond Argument) → Contains (by_conjuncts query).conjuncts c → All (HasColumn copied) (condition_columns c)
      names c m =
          All-contains (λ d. All (HasColumn copied) (condition_columns d)) (by_conjuncts query).conjuncts c is.asked.conditions m

      both : (a b : ColumnPlace)
          → Contains (by_conjuncts query).conjuncts (conds.Relates predicate (arguments.Column a) (arguments.Column b))
          → HasColumn copied a × HasColumn copied b
      both a b m =
          let all : All (HasColumn copied) (a ∷ b ∷ []) =
          subst (All (HasColumn copied))
          (fold-Relates Argument (List ColumnPlace) columns_by_parts predicate (arguments.Column a) (arguments.Column b))
          (names (conds.Relates predicate (arguments.Column a) (arguments.Column b)) m) in (
            All-head (HasColumn copied) a (b ∷ []) all,
            All-head (HasColumn copied) b [] (All-tail (HasColumn copied) a (b ∷ [])
                all),
          )

      go : Forces (by_conjuncts query).conjuncts predicate (record { reference = 0; column = first.place })
          (record { reference = 1; column = second.place }) → Contains first.copied first.place × Contains second.copied
          second.place
      go (inl m) = both (record { reference = 0; column = first.place }) (record { reference = 1; column = second.place }) m
      go (inr m) =
          let h = both (record { reference = 1; column = second.place }) (record { reference = 0; column = first.place }) m in
          (h.1, h.0)

  -- the query over the tiles is that over the tiles of what is copied
  narrow_over : IsOverTiles narrow tiled (length first.narrow.columns) (length second.narrow.columns)
  narrow_over = record {
    references = refl;
    conjuncts = subst (λ cs. IsPermutation (by_conjuncts tile_query).conjuncts
        (cs ++ conjuncts_of (owner_conjunct (length first.narrow.columns) (length second.narrow.columns))))
        (sym narrowed_is.conjuncts)
        (subst (λ n. IsPermutation (by_conjuncts tile_query).conjuncts (map (moved_condition copied) (by_conjuncts
        query).conjuncts
        ++ conjuncts_of (owner_conjunct n (length second.narrow.columns))))
        (sym (same_width first.table first.narrow first.copied is.first_is.narrow))
        (subst (λ n. IsPermutation (by_conjuncts tile_query).conjuncts (map (moved_condition copied) (by_conjuncts
        query).conjuncts
        ++ conjuncts_of (owner_conjunct (length first.copied) n)))
        (sym (same_width second.table second.narrow second.copied is.second_is.narrow)) is.asked.over.conjuncts));
    counts = is.asked.over.counts;
    limit = is.asked.over.limit;
  }

  -- the conjunct that forces a meeting does so over what is copied
  narrow_forced : Forces (by_conjuncts narrow).conjuncts predicate
      (record { reference = 0; column = place_among first.copied first.place })
      (record { reference = 1; column = place_among second.copied second.place })
  narrow_forced = subst (λ cs. Forces cs predicate (record { reference = 0; column = place_among first.copied first.place })
      (record { reference = 1; column = place_among second.copied second.place })) (sym narrowed_is.conjuncts) (go
      is.asked.forced)
    where
      go : Forces (by_conjuncts query).conjuncts predicate (record { reference = 0; column = first.place })
          (record { reference = 1; column = second.place })
          → Forces (map (moved_condition copied) (by_conjuncts query).conjuncts) predicate
          (record { reference = 0; column = place_among first.copied first.place })
          (record { reference = 1; column = place_among second.copied second.place })
      go (inl m) = inl (subst (Contains (map (moved_condition copied) (by_conjuncts query).conjuncts))
          (fold-Relates Argument (Cond Argument) (moved_by_parts copied) predicate
          (arguments.Column (record { reference = 0; column = first.place }))
          (arguments.Column (record { reference = 1; column = second.place })))
          (made_member (moved_condition copied) (by_conjuncts query).conjuncts _ m))
      go (inr m) = inr (subst (Contains (map (moved_condition copied) (by_conjuncts query).conjuncts))
          (fold-Relates Argument (Cond Argument) (moved_by_parts copied) predicate
          (arguments.Column (record { reference = 1; column = second.place }))
          (arguments.Column (record { reference = 0; column = first.place })))
          (made_member (moved_condition copied) (by_conjuncts query).conjuncts _ m))

  -- so the laws of tiles speak of the query over what is copied
  narrow_is_tiled : IsTiled matrix boxes narrow_whole narrow tiled refs.first refs.second predicate
      (place_among first.copied first.place) (place_among second.copied second.place)
  narrow_is_tiled = record {
    gives = is.gives;
    cut = is.cut;
    rows = narrow_is_whole;
    bound = bound_is;
    references = refs.are;
    meeting = is.asked.meeting;
    forced = narrow_forced;
    over = subst (λ n. IsOverTiles narrow tiled n (length (columns_of narrow_whole.definitions refs.second)))
        (ap (λ k. length (table_columns (slice_get narrow_whole.definitions k))) (sym refs.first_table))
        (subst (IsOverTiles narrow tiled (length first.narrow.columns))
        (ap (λ k. length (table_columns (slice_get narrow_whole.definitions k))) (sym refs.second_table)) narrow_over);
  }

  -- ---- the answer

  abbrev tables_of : Cell → List (Table Geometry)
  tables_of cell = tiles_in narrow_whole refs.first refs.second (place_among first.copied first.place)
      (place_among second.copied second.place) cell

  -- what the query over tiles gives in a cell
  abbrev answer : Cell → List (List (Row Geometry))
  answer cell = rows_of_tiles (meaning (truth matrix denoted) (tables_of cell) tiled)

  abbrev kept : Cell → List (List (Row Geometry))
  kept cell = rows_of_tiles (filtered (truth matrix denoted) (tables_of cell) tiled)

  abbrev keys : List ℕ
  keys = keys_of narrow_whole.definitions narrow.references

  same_keys : keys ≡ first.narrow.key ∷ second.narrow.key ∷ []
  same_keys =
      ap (keys_of narrow_whole.definitions) refs.are
      ∙ ap₂ (λ a b. key_in (slice_get narrow_whole.definitions a) ∷ key_in
      (slice_get narrow_whole.definitions b) ∷ []) refs.first_table
      refs.second_table

  -- the tables of a cell
  same_tables : (cell : Cell) → tables_of cell ≡ law.tile_of cell (place_among first.copied first.place) first_rows
      ∷ law.tile_of cell (place_among second.copied second.place) second_rows ∷ []
  same_tables cell =
      ap₂ (λ a b. law.tile_of cell (place_among first.copied first.place) (slice_index_or narrow_whole.tables a [])
      ∷ law.tile_of cell (place_among second.copied second.place) (slice_index_or narrow_whole.tables b []) ∷ []) refs.first_table
      refs.second_table

  -- a query sees of its tables what its references read
  same_meaning : (tables : List (Table Geometry)) (a b : Table Geometry) → referenced tables tile_query.references ≡ a ∷ b ∷ []
      → meaning (truth matrix denoted) tables tile_query ≡ meaning (truth matrix denoted) (a ∷ b ∷ []) tiled
  same_meaning tables a b read =
      ap (λ ts. if tile_query.counts
      then filter (λ rows. is_true (truth matrix denoted rows (search_condition tile_query))) (product ts)
      else up_to tile_query.limit (filter (λ rows. is_true (truth matrix denoted rows (search_condition tile_query))) (product ts))) read

  -- the rows of a number are those of its cell
  rows_are : (number : ℕ) (cell : Cell) (rows : List (List (Row Geometry))) → slice_get (cells_of boxes) number ≡ Some cell
      → AreTileRows matrix boxes first second tile_query number rows → rows ≡ answer cell
  rows_are number cell rows at are =
      are.are
      ∙ ap rows_of_tiles (same_meaning are.tables are.one are.other are.read)
      ∙ ap (λ tables. rows_of_tiles (meaning (truth matrix denoted) tables tiled))
      (ap₂ (λ (a b : Table Geometry). a ∷ b ∷ [])
      (tile_loads whole one first is.first_is places_copied.0 boxes number cell at are.one are.loads_one)
      (tile_loads whole other second is.second_is places_copied.1 boxes number cell at are.other are.loads_other)
      ∙ sym (same_tables cell))

  -- and so are those of all
  answers_are : (cells : List Cell) (number : ℕ) →
      ((k : ℕ) (cell : Cell) → slice_get cells k ≡ Some cell → slice_get (cells_of boxes) (number + k) ≡ Some cell)
      → (answers : List (List (List (Row Geometry))))
      → AllZip (AreTileRows matrix boxes first second tile_query) (range_with_len number (length cells)) answers
      → flat_map (λ rows. rows) answers ≡ flat_map answer cells
  answers_are [] number there [] are = refl
  answers_are [] number there (rows ∷ answers) are = absurd are
  answers_are (cell ∷ cells) number there [] are = absurd are
  answers_are (cell ∷ cells) number there (rows ∷ answers) are =
      let none : number + 0 ≡ number = omega arith in
      ap₂ (λ (a b : List (List (Row Geometry))). a ++ b)
      (rows_are number cell rows (subst (λ n. slice_get (cells_of boxes) n ≡ Some cell) none (there 0 cell refl)) are.0)
      (answers_are cells (number + 1)
      (λ k c h. let next : number + suc k ≡ number + 1 + k = omega arith in
      subst (λ n. slice_get (cells_of boxes) n ≡ Some c) next (there (suc k) c h))
      answers are.1)

  -- the limit doesn't see marks
  limited : query.counts ≡ false → (cell : Cell) → answer cell ≡ up_to narrow.limit (kept cell)
  limited counts cell =
      let rows = filtered (truth matrix denoted) (tables_of cell) tiled in
      ap rows_of_tiles (uncounted rows tile_query.limit tile_query.counts (is.asked.over.counts ∙ counts))
      ∙ ap (λ limit. rows_of_tiles (up_to limit rows)) is.asked.over.limit
      ∙ cut narrow.limit rows
    where
      cut : (limit : Option ℕ) (rows : List (List (Row Geometry)))
          → rows_of_tiles (up_to limit rows) ≡ up_to limit (rows_of_tiles rows)
      cut None rows = refl
      cut (Some n) rows = sym (take-map (map law.without_marks) n rows)

  -- all answers are those of all cells
  all_answers : (answers : List (List (List (Row Geometry))))
      → AllZip (AreTileRows matrix boxes first second tile_query) (range_with_len 0 (length boxes + 1)) answers
      → flat_map (λ rows. rows) answers ≡ flat_map answer (cells_of boxes)
  all_answers answers are =
      let size : length boxes + 1 ≡ length (cells_of boxes) =
      (let l = length-map boxes (λ (box : Envelope). Some box) in omega (arith, l)) in
      answers_are (cells_of boxes) 0 (λ k cell h. let none : k ≡ 0 + k = omega arith in
      subst (λ n. slice_get (cells_of boxes) n ≡ Some cell) none h) answers
      (subst (λ n. AllZip (AreTileRows matrix boxes first second tile_query) (range_with_len 0 n) answers) size are)

  -- what the query over what is copied means
  narrow_meaning : meaning (truth matrix denoted) narrow_whole.tables narrow
      ≡ map (narrowed copied) (meaning (truth matrix denoted) whole.tables query)
  narrow_meaning =
      ap (λ tables. meaning (truth matrix denoted) tables narrow) (sym narrow_tables_are)
      ∙ columns_can_be_left_out matrix whole.tables query narrow copied narrowed_is
    where
      found : (r : Reference) (rows : Table Geometry) → slice_get whole.tables r.table ≡ Some rows
          → slice_index_or whole.tables r.table [] ≡ rows
      found r rows there = get_or_from_slice_get whole.tables r.table rows [] there

      narrow_tables_are : narrow_tables copied (referenced whole.tables query.references) ≡ narrow_whole.tables
      narrow_tables_are =
          ap (λ references. narrow_tables copied (referenced whole.tables references)) is.asked.references
          ∙ ap₂ (λ (a b : Table Geometry). map (fields_in first.copied) a ∷ map (fields_in second.copied) b ∷ [])
          (found one is.first_is.rows is.first_is.there) (found other is.second_is.rows is.second_is.there)

  pub answers_are_meant : query.counts ≡ false → (answers : List (List (List (Row Geometry))))
      → AllZip (AreTileRows matrix boxes first second tile_query) (range_with_len 0 (length boxes + 1)) answers
      → up_to query.limit (by_keys (first.narrow.key ∷ second.narrow.key ∷ []) (flat_map (λ rows. rows) answers))
      ≡ map (narrowed copied) (meaning (truth matrix denoted) whole.tables query)
  answers_are_meant counts answers are =
      let parted : flat_map answer (cells_of boxes) ≡ flat_map (λ cell. up_to narrow.limit (kept cell)) (cells_of boxes) =
      flat_same answer (λ cell. up_to narrow.limit (kept cell)) (limited counts) (cells_of boxes) in
      let whole_rows = filtered (truth matrix denoted) narrow_whole.tables narrow in
      let ascends : AllPairs (ComesBefore keys) whole_rows =
      AllPairs-filter (ComesBefore keys) (λ rows. is_true (truth matrix denoted rows (search_condition narrow)))
      (product (referenced narrow_whole.tables narrow.references))
      (product_ascends narrow_whole narrow_is_whole narrow.references bound_is.references.there) in
      let merged = by_keys keys (flat_map answer (cells_of boxes)) in
      let order : AllPairs (ComesBefore keys) merged =
      subst (λ l. AllPairs (ComesBefore keys) (by_keys keys l)) (sym parted)
      (merged_ascend keys narrow.limit kept (cells_of boxes) whole_rows ascends
      (tiles_give_rows matrix boxes narrow_whole narrow tiled refs.first refs.second predicate
      (place_among first.copied first.place) (place_among second.copied second.place) narrow_is_tiled)) in
      ap (λ l. up_to query.limit (by_keys (first.narrow.key ∷ second.narrow.key ∷ []) l)) (all_answers answers are)
      ∙ ap (λ ks. up_to query.limit (by_keys ks (flat_map answer (cells_of boxes)))) (sym same_keys)
      ∙ merged_tiles_are_meant matrix boxes narrow_whole narrow tiled refs.first refs.second predicate
      (place_among first.copied first.place) (place_among second.copied second.place) narrow_is_tiled
      counts merged
      (same_rows keys (flat_map answer (cells_of boxes))) order
      ∙ narrow_meaning
    where
      flat_same : {C X : Type 0} (f g : C → List X) → ((c : C) → f c ≡ g c) → (cs : List C) → flat_map f cs ≡ flat_map g cs
      flat_same f g same [] = refl
      flat_same {X = X} f g same (c ∷ cs) = ap₂ (λ (a b : List X). a ++ b) (same c) (flat_same f g same cs)

  -- the numbers of rows add up
  pub counts_are_meant : query.counts ≡ true → (answers : List (List (List (Row Geometry))))
      → AllZip (AreTileRows matrix boxes first second tile_query) (range_with_len 0 (length boxes + 1)) answers
      → length (meaning (truth matrix denoted) whole.tables query) ≡ sum_by (λ rows. length rows) answers
  counts_are_meant counts answers are =
      sym (length-map (meaning (truth matrix denoted) whole.tables query) (narrowed copied))
      ∙ ap (λ (l : List (List (Row Geometry))). length l) (sym narrow_meaning)
      ∙ counts_add_up matrix boxes narrow_whole narrow tiled refs.first refs.second predicate
      (place_among first.copied first.place) (place_among second.copied second.place) narrow_is_tiled counts
      ∙ ap (λ g. sum_by g (cells_of boxes))
      (fun_ext (λ cell. sym (length-map (meaning (truth matrix denoted) (tables_of cell) tiled) (map law.without_marks))))
      ∙ sym (length-flat_map answer (cells_of boxes))
      ∙ ap (λ (l : List (List (Row Geometry))). length l) (sym (all_answers answers are))
      ∙ length-flat_map (λ rows. rows) answers

pub tiled_answers_are_meant : TiledAnswersAreMeant
tiled_answers_are_meant matrix boxes whole query tile_query one other predicate first second is counts answers are =
    answers_are_meant matrix boxes whole query tile_query one other predicate first second is counts answers are

pub tiled_counts_are_meant : TiledCountsAreMeant
tiled_counts_are_meant matrix boxes whole query tile_query one other predicate first second is counts answers are writing =
    let rows = meaning (truth matrix denoted) whole.tables query in
    ap (λ c. if c then (codes "COUNT(*)" ∷ []) ∷ count_records query.limit (length rows)
    else answer_records writing whole.definitions (by_conjuncts query) rows) counts
    ∙ ap (λ n. (codes "COUNT(*)" ∷ []) ∷ count_records query.limit n)
    (counts_are_meant matrix boxes whole query tile_query one other predicate first second is counts answers are)
