-- The rows of a query are those of its blocks.
use Rattle.std.specs.Prelude.{◌≡◌, refl, ℕ, suc, Bool, true, false, if◌then◌else◌, List, [], ◌∷◌, ◌++◌, map, length, filter, flat_map, sum_by, slice_get, slice_index_or, codes, All, IsPermutation}
use Rattle.std.specs.List.{AllPairs, AllZip, range_with_len}
use Rattle.std.proofs.Common.{ap, ap₂, ◌∙◌, sym}
use Rattle.std.proofs.lemmas.List.{length-map}
use Rattle.std.proofs.lemmas.List.Concat.{length-flat_map}
use Rattle.std.proofs.lemmas.List.Elements.{All-nil, All-cons, All-head, All-tail, All-map, All-weaker}
use Rattle.std.proofs.lemmas.List.FromFn.{fill_by_all}
use Rattle.std.proofs.lemmas.List.Kept.{AllPairs-filter}
use Rattle.std.proofs.lemmas.List.Sorted.{length_permutation}
use mathlib.Core.List.{map-map}
use mathlib.Core.Path.{fun_ext}
use Rattle.geometry_model.specs.Dimensions.{Matrix}
use Rattle.geometry_model.specs.Geometries.{Geometry}
use Rattle.grammar_laws.proofs.Filtering.{conjuncts_are_filtered}
use Rattle.table_laws.proofs.PlanLists.{all_flat, filter_flat}
use Rattle.table_model.specs.AnswerTexts.{answer_records, count_records}
use Rattle.table_model.specs.Arguments.{denoted}
use Rattle.table_model.specs.Databases.{Database}
use Rattle.table_model.specs.GeometryColumns.{ColumnShape}
use Rattle.table_model.specs.Meanings.{Table, all_true, product, referenced, filtered, meaning, up_to}
use Rattle.table_model.specs.Statements.{by_conjuncts}
use Rattle.table_model.specs.TruthLaws.{Argument}
use Rattle.table_model.specs.Truths.{Rows, truth}
use Rattle.table_model.specs.declared.conditions.ColumnPlace.{ColumnPlace}
use Rattle.table_model.specs.declared.conditions.Reference.{Reference}
use Rattle.table_laws.specs.Orders.{key_in, keys_of, ComesBefore}
use Rattle.table_laws.specs.StretchLaws.{AreStretches, IsStretched, BlocksGiveRows, MergedBlocksAreMeant, CountsOfBlocksAddUp}
use Rattle.table_laws.specs.TileLaws.{GeometryStatement}
use Rattle.table_laws.proofs.KeyOrder.{AscendsBy, tables_ascend, product_ascends, comes_once}
use Rattle.table_laws.proofs.Merging.{merged, uncounted, counted}
use Rattle.table_laws.proofs.Shuffles.{filter_shuffled, parts_give_product}

-- what is the same for each element of a list is the same for the list
same_flat : {X Y : Type 0} (f g : X → List Y) (xs : List X) → All (λ x. f x ≡ g x) xs → flat_map f xs ≡ flat_map g xs
same_flat f g [] h = refl
same_flat f g (x ∷ xs) h = ap₂ (λ a b. a ++ b) (All-head (λ y. f y ≡ g y) x xs h) (same_flat f g xs (All-tail (λ y. f y ≡ g y) x xs h))

-- lists that go with each other are as long
as_long : {X Y : Type 0} (R : X → Y → Type 0) (xs : List X) (ys : List Y) → AllZip R xs ys → length xs ≡ length ys
as_long R [] [] h = refl
as_long R [] (y ∷ ys) h = absurd h
as_long R (x ∷ xs) [] h = absurd h
as_long R (x ∷ xs) (y ∷ ys) h = ap suc (as_long R xs ys h.1)

-- the tables of each block ascend by the keys of the references
blocks_ascend : (whole : Database ColumnShape Geometry) (references : List Reference) (stretches : List (List (Table Geometry))) → AllZip (AreStretches whole) references stretches
    → All (AllZip AscendsBy (keys_of whole.definitions references)) (product stretches)
blocks_ascend whole [] [] h = All-cons (AllZip AscendsBy []) [] [] tt (All-nil (AllZip AscendsBy []))
blocks_ascend whole [] (own ∷ stretches) h = absurd h
blocks_ascend whole (r ∷ references) [] h = absurd h
blocks_ascend whole (r ∷ references) (own ∷ stretches) h =
    let rest = blocks_ascend whole references stretches h.1 in
    all_flat (AllZip AscendsBy (keys_of whole.definitions (r ∷ references))) (λ s. map (λ c. s ∷ c) (product stretches)) own
    (All-weaker (AscendsBy (key_in (slice_get whole.definitions r.table))) (λ s. All (AllZip AscendsBy (keys_of whole.definitions (r ∷ references))) (map (λ c. s ∷ c) (product stretches)))
    (λ s ascends. All-map (AllZip AscendsBy (keys_of whole.definitions (r ∷ references))) (λ c. s ∷ c) (product stretches) (λ k d l. (ascends, rest k d l)))
    own h.0.ascend)

-- the stretches of each reference have the rows of its table
have_rows : (whole : Database ColumnShape Geometry) (references : List Reference) (stretches : List (List (Table Geometry))) → AllZip (AreStretches whole) references stretches
    → AllZip (λ table own. IsPermutation (flat_map (λ part. part) own) table) (referenced whole.tables references) stretches
have_rows whole [] [] h = tt
have_rows whole [] (own ∷ stretches) h = absurd h
have_rows whole (r ∷ references) [] h = absurd h
have_rows whole (r ∷ references) (own ∷ stretches) h = (h.0.rows, have_rows whole references stretches h.1)

module _ (matrix : Geometry → Geometry → Matrix) (whole : Database ColumnShape Geometry) (query block_query : GeometryStatement) (stretches : List (List (Table Geometry))) (is : IsStretched whole query block_query stretches) where
  abbrev passes : Rows Geometry → Bool
  passes rows = all_true (truth matrix denoted) (by_conjuncts query).conjuncts rows

  abbrev keys : List ℕ
  keys = keys_of whole.definitions query.references

  ascend : All (AllZip AscendsBy keys) (product stretches)
  ascend = blocks_ascend whole query.references stretches is.stretched

  -- the tables of a block are those of its query's references
  block_tables : (block : List (Table Geometry)) → AllZip AscendsBy keys block → referenced block block_query.references ≡ block
  block_tables block h =
      let n : length query.references ≡ length block = sym (length-map query.references (λ (r : Reference). key_in (slice_get whole.definitions r.table))) ∙ as_long AscendsBy keys block h in
      sym (map-map (λ k. slice_index_or block k []) (λ (r : Reference). r.table) block_query.references)
      ∙ ap (map (λ k. slice_index_or block k [])) is.over.references
      ∙ ap (λ m. map (λ k. slice_index_or block k []) (range_with_len 0 m)) n
      ∙ sym (fill_by_all (λ k. slice_index_or block k []) block (length block) [] refl (λ k l. refl))

  block_rows : (block : List (Table Geometry)) → AllZip AscendsBy keys block → filtered (truth matrix denoted) block block_query ≡ filter passes (product block)
  block_rows block h =
      ap (λ test. filter test (product (referenced block block_query.references))) (fun_ext (λ rows. sym (conjuncts_are_filtered Geometry Argument ColumnPlace matrix denoted rows block_query)))
      ∙ ap (λ conjuncts. filter (λ rows. all_true (truth matrix denoted) conjuncts rows) (product (referenced block block_query.references))) is.over.conjuncts
      ∙ ap (λ tables. filter passes (product tables)) (block_tables block h)

  whole_rows : filtered (truth matrix denoted) whole.tables query ≡ filter passes (product (referenced whole.tables query.references))
  whole_rows = ap (λ test. filter test (product (referenced whole.tables query.references))) (fun_ext (λ rows. sym (conjuncts_are_filtered Geometry Argument ColumnPlace matrix denoted rows query)))

  pub give_rows : IsPermutation (flat_map (λ block. filtered (truth matrix denoted) block block_query) (product stretches)) (filtered (truth matrix denoted) whole.tables query)
  give_rows =
      rw (
        whole_rows,
        same_flat (λ block. filtered (truth matrix denoted) block block_query) (λ block. filter passes (product block)) (product stretches)
            (All-weaker (AllZip AscendsBy keys) (λ block. filtered (truth matrix denoted) block block_query ≡ filter passes (product block)) block_rows (product stretches) ascend),
        sym (filter_flat passes product (product stretches)),
      )
      (filter_shuffled passes (flat_map product (product stretches)) (product (referenced whole.tables query.references))
      (parts_give_product (referenced whole.tables query.references) stretches (have_rows whole query.references stretches is.stretched)))

  -- ---- the order, the limit and the count

  whole_ascends : AllPairs (ComesBefore keys) (filtered (truth matrix denoted) whole.tables query)
  whole_ascends = rw whole_rows (AllPairs-filter (ComesBefore keys) passes (product (referenced whole.tables query.references)) (product_ascends whole is.rows query.references is.bound.references.there))

  rows_ascend : All (λ block. AllPairs (ComesBefore keys) (filtered (truth matrix denoted) block block_query)) (product stretches)
  rows_ascend =
      All-weaker (AllZip AscendsBy keys) (λ block. AllPairs (ComesBefore keys) (filtered (truth matrix denoted) block block_query))
      (λ block h. rw (block_rows block h) (AllPairs-filter (ComesBefore keys) passes (product block) (tables_ascend keys block h))) (product stretches) ascend

  pub merged_are_meant : query.counts ≡ false → (list : List (Rows Geometry)) → IsPermutation (flat_map (λ block. meaning (truth matrix denoted) block block_query) (product stretches)) list
      → AllPairs (ComesBefore keys) list → up_to query.limit list ≡ meaning (truth matrix denoted) whole.tables query
  merged_are_meant e list p ascends =
      let f = λ (block : List (Table Geometry)). filtered (truth matrix denoted) block block_query in
      let parts : flat_map (λ block. meaning (truth matrix denoted) block block_query) (product stretches) ≡ flat_map (λ block. up_to query.limit (f block)) (product stretches) =
      ap (λ g. flat_map g (product stretches)) (fun_ext (λ block. uncounted (f block) block_query.limit block_query.counts (is.over.counts ∙ e) ∙ ap (λ limit. up_to limit (f block)) is.over.limit)) in
      merged (ComesBefore keys) (comes_once keys) query.limit f (product stretches) (filtered (truth matrix denoted) whole.tables query) whole_ascends rows_ascend give_rows list (rw (sym parts) p) ascends
      ∙ sym (uncounted (filtered (truth matrix denoted) whole.tables query) query.limit query.counts e)

  pub counts_add_up : query.counts ≡ true → length (meaning (truth matrix denoted) whole.tables query) ≡ sum_by (λ block. length (meaning (truth matrix denoted) block block_query)) (product stretches)
  counts_add_up e =
      let f = λ (block : List (Table Geometry)). filtered (truth matrix denoted) block block_query in
      ap length (counted (filtered (truth matrix denoted) whole.tables query) query.limit query.counts e)
      ∙ length_permutation (flat_map f (product stretches)) (filtered (truth matrix denoted) whole.tables query) give_rows
      ∙ length-flat_map f (product stretches)
      ∙ ap (λ g. sum_by g (product stretches)) (fun_ext (λ block. sym (ap length (counted (f block) block_query.limit block_query.counts (is.over.counts ∙ e)))))

-- ---- the laws

pub blocks_give_rows : BlocksGiveRows
blocks_give_rows matrix whole query block_query stretches is = give_rows matrix whole query block_query stretches is

pub merged_blocks_are_meant : MergedBlocksAreMeant
merged_blocks_are_meant matrix whole query block_query stretches is e list p ascends = merged_are_meant matrix whole query block_query stretches is e list p ascends

pub counts_of_blocks_add_up : CountsOfBlocksAddUp
counts_of_blocks_add_up matrix whole query block_query stretches is e writing =
    ap (λ c. if c then (codes "COUNT(*)" ∷ []) ∷ count_records query.limit (length (meaning (truth matrix denoted) whole.tables query)) else answer_records writing whole.definitions (by_conjuncts query) (meaning (truth matrix denoted) whole.tables query)) e
    ∙ ap (λ n. (codes "COUNT(*)" ∷ []) ∷ count_records query.limit n) (counts_add_up matrix whole query block_query stretches is e)
