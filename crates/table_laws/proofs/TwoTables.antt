-- The rows of a query over two tables are those of their tiles.
use Rattle.std.specs.Prelude.{◌≡◌, refl, ◌<◌, ℕ, suc, ◌+◌, ◌-◌, Bool, true, false, cond, if◌then◌else◌, ◌&&◌, List, [], ◌∷◌, ◌++◌, map, length, take, filter, flat_map, sum_by, count_by, slice_get, slice_index_or, unwrap_or, codes, All, Contains, IsPermutation, Option, Some, None, option_and_then, int_le}
use Rattle.std.specs.List.{AllPairs, AllZip, list_all}
use Rattle.std.specs.Option.{option_map_or}
use Rattle.std.specs.Cmp.{both_ways}
use Rattle.std.proofs.Common.{arith, ap, ap₂, ◌∙◌, sym, inl, inr, length-append}
use Rattle.std.proofs.Math.Seq.{take-append_seam}
use Rattle.std.proofs.lemmas.Bool.{and_from}
use Rattle.std.proofs.lemmas.List.Elements.{All-nil, All-cons, All-head, All-tail, All-contains, All-weaker}
use Rattle.std.proofs.lemmas.List.Kept.{AllPairs-filter}
use Rattle.std.proofs.lemmas.List.Concat.{length-flat_map}
use Rattle.std.proofs.lemmas.List.{length-map, take-map}
use Rattle.std.proofs.lemmas.List.Sorted.{All-permutation, IsPermutation-sym, length_permutation}
use Rattle.std.proofs.lemmas.List.Sums.{AllPass-from_list_all, list_all-from_AllPass, sum_by-cons}
use Rattle.std.proofs.lemmas.Option.{slice_get-get_or}
use Rattle.std.proofs.lemmas.List.Folds.{list_all-append}
use mathlib.Core.List.{map-map}
use mathlib.Core.Path.{fun_ext}
use Rattle.geometry_model.specs.Dimensions.{Matrix}
use Rattle.geometry_model.specs.Envelopes.{Envelope, envelope, meets}
use Rattle.geometry_model.specs.Geometries.{Geometry}
use Rattle.geometry_model.specs.GivenMatrix.{GivesMatrix}
use Rattle.geometry_model.specs.Predicates.{forces_meeting}
use Rattle.geometry_model.specs.declared.relations.Predicate.{Predicate}
use Rattle.grammar_laws.proofs.Filtering.{conjuncts_are_true, conjuncts_are_filtered}
use Rattle.table_laws.proofs.Bound.{bound_has_valid}
use Rattle.table_laws.proofs.PlanLists.{unwrapped}
use Rattle.table_laws.proofs.Probes.{ValidRows, method_gives}
use Rattle.table_model.specs.AnswerTexts.{answer_records, count_records}
use Rattle.table_model.specs.Arguments.{geometry_in, denoted}
use Rattle.table_model.specs.Binding.{columns_of}
use Rattle.table_model.specs.BoundQueries.{cond_fits, geometry_fits}
use Rattle.table_model.specs.Candidates.{envelopes_meet}
use Rattle.table_model.specs.Databases.{Database}
use Rattle.table_model.specs.GeometryColumns.{ColumnShape}
use Rattle.table_model.specs.Meanings.{Row, Table, is_true, all_true, product, referenced, filtered, meaning, up_to, search_condition}
use Rattle.table_model.specs.Plans.{can_drive}
use Rattle.table_model.specs.Statements.{by_conjuncts, conjuncts_of}
use Rattle.table_model.specs.TruthLaws.{Argument}
use Rattle.table_model.specs.Truths.{Rows, truth, truth_of, truth_by_parts, related}
use Rattle.table_model.specs.ValidGeometries.{IsValidField, HasValidLiterals}
use Rattle.table_model.specs.declared.conditions.ColumnPlace.{ColumnPlace}
use Rattle.table_model.specs.declared.conditions.Cond.{Cond}
use Rattle.table_model.specs.declared.conditions.Cond.TheVariants as conds
use Rattle.table_model.specs.declared.conditions.GeometryArgument.TheVariants as arguments
use Rattle.table_model.specs.declared.conditions.Reference.{Reference}
use Rattle.table_model.specs.declared.plans.AccessMethod.TheVariants as methods
use Rattle.table_model.specs.declared.values.Truth.{Truth}
use Rattle.table_model.specs.declared.values.Value.{Value}
use Rattle.table_model.specs.declared.values.Value.TheVariants as values
use Rattle.table_model.proofs.CondFolds.{fold-Relates}
use Rattle.table_laws.specs.Cells.{Cell, cells_of, is_copied}
use Rattle.table_laws.specs.Orders.{keys_of, ComesBefore}
use Rattle.table_laws.specs.MarkLaws.{IsWide}
use Rattle.table_laws.specs.PairLaws.{LiesOnGrid, is_kept, is_found}
use Rattle.table_laws.specs.Tiles.{geometry_at, marks, marked, tile_of, without_marks, owner_conjunct}
use Rattle.table_laws.specs.TileLaws.{GeometryStatement, FieldOnGrid, Forces, IsTiled, tiles_in, rows_of_tiles, TilesGiveRows, MergedTilesAreMeant, CountsOfTilesAddUp}
use Rattle.table_laws.proofs.KeyOrder.{RowFacts, row_facts, comes_once, product_ascends}
use Rattle.table_laws.proofs.MarkFacts.{fields_behind_are_unseen, owner_conjunct_keeps}
use Rattle.table_laws.proofs.Merging.{merged, uncounted, counted}
use Rattle.table_laws.proofs.OwnerFacts.{pairs_are_once}
use Rattle.table_laws.proofs.TileLists.{pairs, product_of_two, all_pairs, tested, pairs_of_tiles, kept_once}

-- ---- conjuncts

-- conjuncts in another order are all true at the same rows
same_tests : {X : Type 0} (test : X → Bool) (xs ys : List X) → IsPermutation xs ys → list_all test xs ≡ list_all test ys
same_tests test xs ys p =
    both_ways (list_all test xs) (list_all test ys)
    (λ h. list_all-from_AllPass test ys (All-permutation (λ x. test x ≡ true) xs ys p (AllPass-from_list_all test xs h)))
    (λ h. list_all-from_AllPass test xs (All-permutation (λ x. test x ≡ true) ys xs (IsPermutation-sym xs ys p) (AllPass-from_list_all test ys h)))

-- conjuncts that fit are all true at rows with more fields behind where they are at the rows
same_conjuncts : (matrix : Geometry → Geometry → Matrix) (rows others : Rows Geometry) (cs : List (Cond Argument)) → All (λ c. truth matrix denoted others c ≡ truth matrix denoted rows c) cs
    → all_true (truth matrix denoted) cs others ≡ all_true (truth matrix denoted) cs rows
same_conjuncts matrix rows others [] h = refl
same_conjuncts matrix rows others (c ∷ cs) h =
    ap₂ (λ t b. is_true t && b) (h 0 c (omega arith)) (same_conjuncts matrix rows others cs (λ k d l. h (suc k) d (omega (arith, l))))

-- ---- marks

unmark : (row fields : Row Geometry) → length fields ≡ 2 → without_marks (row ++ fields) ≡ row
unmark row fields e = ap (λ n. take n (row ++ fields)) (less (length (row ++ fields)) (length row) (length fields) (length-append row fields) e) ∙ take-append_seam row fields
  where
    less : (n m k : ℕ) → n ≡ m + k → k ≡ 2 → n - 2 ≡ m
    less n m k e f = omega (arith, e, f)

-- ---- pairs of rows

-- what a conjunct that forces a meeting says where it is true: both geometries are there
both_there : (matrix : Geometry → Geometry → Matrix) (p : Predicate) (a b : Option Geometry) → is_true (related matrix p a b) ≡ true → (g : Geometry) × (h : Geometry) × (a ≡ Some g) × (b ≡ Some h)
both_there matrix p None None e = cc
both_there matrix p None (Some h) e = cc
both_there matrix p (Some g) None e = cc
both_there matrix p (Some g) (Some h) e = (g, h, refl, refl)

-- a geometry in a column of a row on the grid is on the grid
on_grid_in : (v : Value Geometry) → FieldOnGrid v → (g : Geometry) → geometry_in v ≡ Some g → LiesOnGrid g
on_grid_in values.Null h g e = cc
on_grid_in (values.Integer n) h g e = cc
on_grid_in (values.Text bytes) h g e = cc
on_grid_in (values.Geometry f) h g e = go (ap (λ o. unwrap_or o f) e) h
  where
    go : f ≡ g → LiesOnGrid f → LiesOnGrid g
    go is l = rw (sym is) l

-- envelopes meet whichever comes first
meets_back : (e f : Option Envelope) → meets e f ≡ true → meets f e ≡ true
meets_back None None h = h
meets_back None (Some f) h = h
meets_back (Some e) None h = h
meets_back (Some e) (Some f) h = crosswise (int_le e.least_x f.greatest_x) (int_le f.least_x e.greatest_x) (int_le e.least_y f.greatest_y) (int_le f.least_y e.greatest_y) h
  where
    crosswise : (a b c d : Bool) → (((a && b) && c) && d) ≡ true → (((b && a) && d) && c) ≡ true
    crosswise true true true true h = refl
    crosswise true true true false h = h
    crosswise true true false d h = cc
    crosswise true false c d h = cc
    crosswise false b c d h = cc

-- two geometries in columns of two rows, whose envelopes meet
record Meeting (x y : Row Geometry) (first_column second_column : ℕ) : Type 0 where
  pub one : Geometry
  pub two : Geometry
  pub one_is : geometry_at first_column x ≡ Some one
  pub two_is : geometry_at second_column y ≡ Some two
  pub meet : meets (envelope one) (envelope two) ≡ true

-- a conjunct at its place is true where all are
true_one : (matrix : Geometry → Geometry → Matrix) (rows : Rows Geometry) (conjuncts : List (Cond Argument)) (c : Cond Argument) → Contains conjuncts c → all_true (truth matrix denoted) conjuncts rows ≡ true
    → is_true (truth matrix denoted rows c) ≡ true
true_one matrix rows conjuncts c m t = All-contains (λ d. is_true (truth matrix denoted rows d) ≡ true) conjuncts c (AllPass-from_list_all (λ d. is_true (truth matrix denoted rows d)) conjuncts t) m

-- the envelopes of a conjunct that drives a probe meet where all conjuncts are true
probe_meets : (matrix : Geometry → Geometry → Matrix) → GivesMatrix matrix → (rows : Rows Geometry) → ValidRows rows → (conjuncts : List (Cond Argument)) → HasValidLiterals conjuncts
    → (c : Cond Argument) → Contains conjuncts c → can_drive (Some 0) 1 c ≡ true → all_true (truth matrix denoted) conjuncts rows ≡ true → envelopes_meet denoted rows c ≡ true
probe_meets matrix gives_it rows valid conjuncts literals c m d t =
    let at : slice_get conjuncts m.0 ≡ Some c = slice_get-get_or conjuncts m.0 c m.1 ∙ ap (λ e. Some e) m.2 in
    sym (ap (λ o. option_map_or (envelopes_meet denoted rows) o true) at) ∙ method_gives matrix gives_it conjuncts literals (Some 0) 1 (methods.Probe m.0) (c, at, d) rows valid t

module _ (matrix : Geometry → Geometry → Matrix) (gives_it : GivesMatrix matrix) (conjuncts : List (Cond Argument)) (literals : HasValidLiterals conjuncts)
    (p : Predicate) (forces : forces_meeting p ≡ true) (first_column second_column : ℕ) where
  -- where all conjuncts are true, the geometries in both columns are there and their envelopes meet
  pair_meets : Forces conjuncts p (record { reference = 0; column = first_column }) (record { reference = 1; column = second_column }) → (x y : Row Geometry) → All IsValidField x → All IsValidField y
      → all_true (truth matrix denoted) conjuncts (x ∷ y ∷ []) ≡ true → Meeting x y first_column second_column
  pair_meets (inl m) x y v w t =
      let rows : Rows Geometry = x ∷ y ∷ [] in
      let a : Argument = arguments.Column (record { reference = 0; column = first_column }) in
      let b : Argument = arguments.Column (record { reference = 1; column = second_column }) in
      let there = both_there matrix p (geometry_at first_column x) (geometry_at second_column y)
      (sym (ap is_true (fold-Relates Argument Truth (truth_by_parts matrix denoted rows) p a b)) ∙ true_one matrix rows conjuncts (conds.Relates p a b) m t) in
      let both = probe_meets matrix gives_it rows (All-cons (λ row. All IsValidField row) x (y ∷ []) v (All-cons (λ row. All IsValidField row) y [] w (All-nil (λ row. All IsValidField row)))) conjuncts literals
      (conds.Relates p a b) m (and_from (forces_meeting p) true forces refl) t in
      record {
        one = there.0;
        two = there.1;
        one_is = there.2;
        two_is = there.3;
        meet = sym (ap₂ (λ o q. meets (option_and_then envelope o) (option_and_then envelope q)) there.2 there.3) ∙ both;
      }
  pair_meets (inr m) x y v w t =
      let rows : Rows Geometry = x ∷ y ∷ [] in
      let a : Argument = arguments.Column (record { reference = 0; column = first_column }) in
      let b : Argument = arguments.Column (record { reference = 1; column = second_column }) in
      let there = both_there matrix p (geometry_at second_column y) (geometry_at first_column x)
      (sym (ap is_true (fold-Relates Argument Truth (truth_by_parts matrix denoted rows) p b a)) ∙ true_one matrix rows conjuncts (conds.Relates p b a) m t) in
      let both = probe_meets matrix gives_it rows (All-cons (λ row. All IsValidField row) x (y ∷ []) v (All-cons (λ row. All IsValidField row) y [] w (All-nil (λ row. All IsValidField row)))) conjuncts literals
      (conds.Relates p b a) m (and_from (forces_meeting p) true forces refl) t in
      record {
        one = there.1;
        two = there.0;
        one_is = there.3;
        two_is = there.2;
        meet = meets_back (envelope there.0) (envelope there.1) (sym (ap₂ (λ o q. meets (option_and_then envelope o) (option_and_then envelope q)) there.2 there.3) ∙ both);
      }

-- ---- a pair of rows in the cells

never_both : (b c : Bool) → (b && (false && c)) ≡ false
never_both true c = refl
never_both false c = refl

is_true_of : (b : Bool) → is_true (truth_of b) ≡ b
is_true_of true = refl
is_true_of false = refl

module _ (matrix : Geometry → Geometry → Matrix) (boxes : List Envelope) (whole : Database ColumnShape Geometry) (query tile_query : GeometryStatement)
    (first second : Reference) (predicate : Predicate) (first_column second_column : ℕ) (is : IsTiled matrix boxes whole query tile_query first second predicate first_column second_column) where
  -- the conjuncts are all true at rows
  abbrev passes : Rows Geometry → Bool
  passes rows = all_true (truth matrix denoted) (by_conjuncts query).conjuncts rows

  -- those of the query over tiles are
  abbrev passes_tiles : Rows Geometry → Bool
  passes_tiles rows = all_true (truth matrix denoted) (by_conjuncts tile_query).conjuncts rows

  -- a pair of the whole is among the rows of a cell
  abbrev kept : Cell → Rows Geometry → Bool
  kept cell = tested [] (λ row. is_copied cell (geometry_at first_column row)) (λ row. is_copied cell (geometry_at second_column row)) (marked cell first_column) (marked cell second_column) passes_tiles

  -- at marked rows the conjuncts of both queries are true where those of the query are, and the cell keeps the pair
  tile_passes : (cell : Cell) (x y : Row Geometry) → RowFacts whole.definitions first x → RowFacts whole.definitions second y
      → passes_tiles (marked cell first_column x ∷ marked cell second_column y ∷ [])
      ≡ (passes (x ∷ y ∷ []) && is_kept cell (option_and_then envelope (geometry_at first_column x)) (option_and_then envelope (geometry_at second_column y)))
  tile_passes cell x y v w =
      let e = option_and_then envelope (geometry_at first_column x) in
      let f = option_and_then envelope (geometry_at second_column y) in
      let others : Rows Geometry = marked cell first_column x ∷ marked cell second_column y ∷ [] in
      let owner = owner_conjunct (length (columns_of whole.definitions first)) (length (columns_of whole.definitions second)) in
      let wide : AllZip (IsWide whole.definitions) query.references (x ∷ y ∷ []) = rw is.references (v.width, (w.width, tt)) in
      same_tests (λ c. is_true (truth matrix denoted others c)) (by_conjuncts tile_query).conjuncts ((by_conjuncts query).conjuncts ++ conjuncts_of owner) is.over.conjuncts
      ∙ list_all-append (λ c. is_true (truth matrix denoted others c)) (by_conjuncts query).conjuncts (conjuncts_of owner)
      ∙ ap₂ (λ s t. s && t)
      (same_conjuncts matrix (x ∷ y ∷ []) others (by_conjuncts query).conjuncts
      (All-weaker (λ c. cond_fits geometry_fits whole.definitions query.references c ≡ true) (λ c. truth matrix denoted others c ≡ truth matrix denoted (x ∷ y ∷ []) c)
      (λ c h. fields_behind_are_unseen matrix whole.definitions query.references (x ∷ y ∷ []) (marks cell e ∷ marks cell f ∷ []) wide c h)
      (by_conjuncts query).conjuncts (AllPass-from_list_all (cond_fits geometry_fits whole.definitions query.references) (by_conjuncts query).conjuncts is.bound.conjuncts)))
      (conjuncts_are_true Geometry Argument matrix denoted others owner
      ∙ ap₂ (λ m n. is_true (truth matrix denoted others (owner_conjunct m n))) (sym v.width) (sym w.width)
      ∙ ap is_true (owner_conjunct_keeps matrix cell x y e f)
      ∙ is_true_of (is_kept cell e f))

  -- exactly one cell has a pair at which the conjuncts are true, and no cell has another
  kept_in_one : (x y : Row Geometry) → RowFacts whole.definitions first x → RowFacts whole.definitions second y → count_by (λ cell. kept cell (x ∷ y ∷ [])) (cells_of boxes) ≡ cond (passes (x ∷ y ∷ [])) 1 0
  kept_in_one x y v w =
      ap (λ test. count_by test (cells_of boxes))
      (fun_ext (λ cell. ap (λ b. (is_copied cell (geometry_at first_column x) && is_copied cell (geometry_at second_column y)) && b) (tile_passes cell x y v w)))
      ∙ go (passes (x ∷ y ∷ [])) refl
    where
      copied : (cell : Cell) → Bool
      copied cell = is_copied cell (geometry_at first_column x) && is_copied cell (geometry_at second_column y)

      marks_keep : (cell : Cell) → Bool
      marks_keep cell = is_kept cell (option_and_then envelope (geometry_at first_column x)) (option_and_then envelope (geometry_at second_column y))

      grouped : (a b c : Bool) → ((a && b) && c) ≡ (a && (b && c))
      grouped true b c = refl
      grouped false b c = refl

      found : (m : Meeting x y first_column second_column) (cell : Cell) → (copied cell && (true && marks_keep cell)) ≡ is_found cell (envelope m.one) (envelope m.two)
      found m cell =
          ap₂ (λ o q. (is_copied cell o && is_copied cell q) && is_kept cell (option_and_then envelope o) (option_and_then envelope q)) m.one_is m.two_is
          ∙ grouped (meets cell (envelope m.one)) (meets cell (envelope m.two)) (is_kept cell (envelope m.one) (envelope m.two))

      none : (cells : List Cell) → count_by (λ cell. false) cells ≡ 0
      none [] = refl
      none (cell ∷ cells) = sum_by-cons (λ c. cond false 1 0) cell cells ∙ ap (λ n. 0 + n) (none cells)

      met : (t : passes (x ∷ y ∷ []) ≡ true) → Meeting x y first_column second_column
      met t = pair_meets matrix is.gives (by_conjuncts query).conjuncts (bound_has_valid whole.definitions (by_conjuncts query) is.bound) predicate is.meeting first_column second_column is.forced x y v.valid w.valid t

      go : (b : Bool) → passes (x ∷ y ∷ []) ≡ b → count_by (λ cell. copied cell && (b && marks_keep cell)) (cells_of boxes) ≡ cond b 1 0
      go false t = ap (λ test. count_by test (cells_of boxes)) (fun_ext (λ cell. never_both (copied cell) (marks_keep cell))) ∙ none (cells_of boxes)
      go true t =
          let m = met t in
          ap (λ test. count_by test (cells_of boxes)) (fun_ext (found m))
          ∙ pairs_are_once boxes m.one m.two is.cut
          (on_grid_in (unwrap_or (slice_get x first_column) values.Null) (unwrapped FieldOnGrid x first_column values.Null v.on_grid tt) m.one m.one_is)
          (on_grid_in (unwrap_or (slice_get y second_column) values.Null) (unwrapped FieldOnGrid y second_column values.Null w.on_grid tt) m.two m.two_is) m.meet

  -- ---- the rows of the cells

  abbrev one : Table Geometry
  one = slice_index_or whole.tables first.table []

  abbrev two : Table Geometry
  two = slice_index_or whole.tables second.table []

  there : All (λ (r : Reference). r.table < length whole.definitions) (first ∷ second ∷ [])
  there = rw is.references at is.bound.references.there

  -- the rows of a whole at which ON and WHERE are true are the pairs that pass
  whole_rows : filtered (truth matrix denoted) whole.tables query ≡ filter passes (pairs one two)
  whole_rows =
      ap (λ test. filter test (product (referenced whole.tables query.references))) (fun_ext (λ rows. sym (conjuncts_are_filtered Geometry Argument ColumnPlace matrix denoted rows query)))
      ∙ ap (λ references. filter passes (product (referenced whole.tables references))) is.references
      ∙ ap (filter passes) (product_of_two one two)

  -- those of the tiles in a cell, without marks, are the pairs that the cell keeps, in their order
  pub cell_rows : (cell : Cell) → rows_of_tiles (filtered (truth matrix denoted) (tiles_in whole first second first_column second_column cell) tile_query) ≡ filter (kept cell) (pairs one two)
  cell_rows cell =
      let tiles = tiles_in whole first second first_column second_column cell in
      ap (λ test. rows_of_tiles (filter test (product (referenced tiles tile_query.references)))) (fun_ext (λ rows. sym (conjuncts_are_filtered Geometry Argument ColumnPlace matrix denoted rows tile_query)))
      ∙ ap (λ list. rows_of_tiles (filter passes_tiles (product list)))
      (sym (map-map (λ k. slice_index_or tiles k []) (λ (r : Reference). r.table) tile_query.references) ∙ ap (map (λ k. slice_index_or tiles k [])) is.over.references)
      ∙ ap (λ list. rows_of_tiles (filter passes_tiles list)) (product_of_two (tile_of cell first_column one) (tile_of cell second_column two))
      ∙ pairs_of_tiles [] (λ row. is_copied cell (geometry_at first_column row)) (λ row. is_copied cell (geometry_at second_column row)) (marked cell first_column) (marked cell second_column) without_marks passes_tiles
      (λ row. unmark row (marks cell (option_and_then envelope (geometry_at first_column row))) refl)
      (λ row. unmark row (marks cell (option_and_then envelope (geometry_at second_column row))) refl)
      one two

  -- together they are those of the whole
  pub give_rows : IsPermutation (flat_map (λ cell. rows_of_tiles (filtered (truth matrix denoted) (tiles_in whole first second first_column second_column cell) tile_query)) (cells_of boxes))
      (filtered (truth matrix denoted) whole.tables query)
  give_rows =
      rw (whole_rows, ap (λ f. flat_map f (cells_of boxes)) (fun_ext cell_rows))
      (kept_once kept passes (cells_of boxes) (pairs one two)
      (all_pairs (RowFacts whole.definitions first) (RowFacts whole.definitions second) (λ z. count_by (λ cell. kept cell z) (cells_of boxes) ≡ cond (passes z) 1 0) one two kept_in_one
      (row_facts whole is.rows first (All-head (λ (r : Reference). r.table < length whole.definitions) first (second ∷ []) there))
      (row_facts whole is.rows second (All-head (λ (r : Reference). r.table < length whole.definitions) second [] (All-tail (λ (r : Reference). r.table < length whole.definitions) first (second ∷ []) there)))))

  -- ---- the order, the limit and the count

  -- what is filtered ascends by keys
  whole_ascends : AllPairs (ComesBefore (keys_of whole.definitions query.references)) (filtered (truth matrix denoted) whole.tables query)
  whole_ascends =
      AllPairs-filter (ComesBefore (keys_of whole.definitions query.references)) (λ rows. is_true (truth matrix denoted rows (search_condition query))) (product (referenced whole.tables query.references))
      (product_ascends whole is.rows query.references is.bound.references.there)

  pairs_ascend : AllPairs (ComesBefore (keys_of whole.definitions query.references)) (pairs one two)
  pairs_ascend =
      let e : product (referenced whole.tables query.references) ≡ pairs one two = ap (λ references. product (referenced whole.tables references)) is.references ∙ product_of_two one two in
      rw (sym e) (product_ascends whole is.rows query.references is.bound.references.there)

  cells_ascend : (cell : Cell) → AllPairs (ComesBefore (keys_of whole.definitions query.references)) (rows_of_tiles (filtered (truth matrix denoted) (tiles_in whole first second first_column second_column cell) tile_query))
  cells_ascend cell = rw (cell_rows cell) (AllPairs-filter (ComesBefore (keys_of whole.definitions query.references)) (kept cell) (pairs one two) pairs_ascend)

  -- the limit doesn't see marks
  limited_rows : (limit : Option ℕ) (rows : List (Rows Geometry)) → rows_of_tiles (up_to limit rows) ≡ up_to limit (rows_of_tiles rows)
  limited_rows None rows = refl
  limited_rows (Some n) rows = sym (take-map (map without_marks) n rows)

  cell_meaning : query.counts ≡ false → (cell : Cell)
      → rows_of_tiles (meaning (truth matrix denoted) (tiles_in whole first second first_column second_column cell) tile_query)
      ≡ up_to query.limit (rows_of_tiles (filtered (truth matrix denoted) (tiles_in whole first second first_column second_column cell) tile_query))
  cell_meaning e cell =
      let rows = filtered (truth matrix denoted) (tiles_in whole first second first_column second_column cell) tile_query in
      ap rows_of_tiles (uncounted rows tile_query.limit tile_query.counts (is.over.counts ∙ e))
      ∙ ap (λ limit. rows_of_tiles (up_to limit rows)) is.over.limit
      ∙ limited_rows query.limit rows

  pub merged_are_meant : query.counts ≡ false → (list : List (Rows Geometry))
      → IsPermutation (flat_map (λ cell. rows_of_tiles (meaning (truth matrix denoted) (tiles_in whole first second first_column second_column cell) tile_query)) (cells_of boxes)) list
      → AllPairs (ComesBefore (keys_of whole.definitions query.references)) list
      → up_to query.limit list ≡ meaning (truth matrix denoted) whole.tables query
  merged_are_meant e list p ascends =
      let keys = keys_of whole.definitions query.references in
      let f = λ (cell : Cell). rows_of_tiles (filtered (truth matrix denoted) (tiles_in whole first second first_column second_column cell) tile_query) in
      let parts : flat_map (λ cell. rows_of_tiles (meaning (truth matrix denoted) (tiles_in whole first second first_column second_column cell) tile_query)) (cells_of boxes) ≡ flat_map (λ cell. up_to query.limit (f cell)) (cells_of boxes) =
      ap (λ g. flat_map g (cells_of boxes)) (fun_ext (cell_meaning e)) in
      merged (ComesBefore keys) (comes_once keys) query.limit f (cells_of boxes) (filtered (truth matrix denoted) whole.tables query) whole_ascends
      (λ k d l. cells_ascend (slice_index_or (cells_of boxes) k d)) give_rows list (rw (sym parts) p) ascends
      ∙ sym (uncounted (filtered (truth matrix denoted) whole.tables query) query.limit query.counts e)

  pub counts_add_up : query.counts ≡ true
      → length (meaning (truth matrix denoted) whole.tables query) ≡ sum_by (λ cell. length (meaning (truth matrix denoted) (tiles_in whole first second first_column second_column cell) tile_query)) (cells_of boxes)
  counts_add_up e =
      let f = λ (cell : Cell). filtered (truth matrix denoted) (tiles_in whole first second first_column second_column cell) tile_query in
      ap length (counted (filtered (truth matrix denoted) whole.tables query) query.limit query.counts e)
      ∙ length_permutation (flat_map (λ cell. rows_of_tiles (f cell)) (cells_of boxes)) (filtered (truth matrix denoted) whole.tables query) give_rows
      ∙ length-flat_map (λ cell. rows_of_tiles (f cell)) (cells_of boxes)
      ∙ ap (λ g. sum_by g (cells_of boxes))
      (fun_ext (λ cell. length-map (f cell) (map without_marks) ∙ sym (ap length (counted (f cell) tile_query.limit tile_query.counts (is.over.counts ∙ e)))))

-- ---- the laws

pub tiles_give_rows : TilesGiveRows
tiles_give_rows matrix boxes whole query tile_query first second predicate first_column second_column is = give_rows matrix boxes whole query tile_query first second predicate first_column second_column is

pub merged_tiles_are_meant : MergedTilesAreMeant
merged_tiles_are_meant matrix boxes whole query tile_query first second predicate first_column second_column is e list p ascends =
    merged_are_meant matrix boxes whole query tile_query first second predicate first_column second_column is e list p ascends

pub counts_of_tiles_add_up : CountsOfTilesAddUp
counts_of_tiles_add_up matrix boxes whole query tile_query first second predicate first_column second_column is e writing =
    ap (λ c. if c then (codes "COUNT(*)" ∷ []) ∷ count_records query.limit (length (meaning (truth matrix denoted) whole.tables query)) else answer_records writing whole.definitions (by_conjuncts query) (meaning (truth matrix denoted) whole.tables query)) e
    ∙ ap (λ n. (codes "COUNT(*)" ∷ []) ∷ count_records query.limit n) (counts_add_up matrix boxes whole query tile_query first second predicate first_column second_column is e)
