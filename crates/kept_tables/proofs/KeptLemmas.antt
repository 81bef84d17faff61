-- A kept database stays one: when it is opened, and when a table is loaded.
use Rattle.std.proofs.Common.{◌≡◌, ◌∙◌, ◌<◌, ◌≤◌, ◌⊎◌, ap, ap₂, arith, inl, inr, subst, sym, ℕ, Bool, true, false, List, [], get_or, length, replicate, set, Some}
use Rattle.std.specs.Prelude.{◌<ℤ◌, slice_get}
use Rattle.std.proofs.lemmas.Bool.{cases_eq, cases_lt, false≢true}
use Rattle.std.proofs.lemmas.List.{get_or-replicate, get_or-set_other, get_or-set_same, get_or_past, length-replicate, length-set}
use Rattle.std.proofs.lemmas.List.Elements.{All-nil}
use Rattle.std.proofs.lemmas.Option.{get_or_from_slice_get, same_Some, slice_get-get_or, slice_get_within}
use Rattle.kept_tables.specs.KeptTables.{IsKept, KeptTables, is_loaded, opened, table_at, with_table}
use Rattle.table_laws.proofs.Orders.{pairs_none}
use Rattle.table_model.specs.Definitions.{lawful}
use Rattle.table_model.specs.FeatureTables.{AreRows, IsRow, TakesValid}
use Rattle.table_model.specs.GeometryColumns.{ColumnShape}
use Rattle.table_model.specs.Loading.{key_of}
use Rattle.table_model.specs.SpatialTables.{SpatialSchema, SpatialTable}
use Rattle.table_model.specs.declared.definitions.TableDef.{TableDef}

-- no rows are rows of each table
no_rows : (table : TableDef ColumnShape) → AreRows TakesValid table []
no_rows table = record {
  few = omega arith;
  each = All-nil (IsRow TakesValid table);
  ascend = pairs_none (λ a b. key_of table.key a <ℤ key_of table.key b);
}

-- each table of a database that was opened has none
opened_empty : (definitions : SpatialSchema) (place : ℕ) → table_at (opened definitions) place ≡ []
opened_empty definitions place = go (cases_lt place (length definitions))
  where
    go : (place < length definitions) ⊎ (length definitions ≤ place) → table_at (opened definitions) place ≡ []
    go (inl there) = get_or-replicate (length definitions) place [] [] there
    go (inr past) =
        let size = length-replicate {A = SpatialTable} (length definitions) [] in
        get_or_past (replicate (length definitions) []) place [] (omega (arith, size, past))

-- so it is a kept one
pub opened_kept : (definitions : SpatialSchema) → lawful definitions ≡ true → IsKept (opened definitions)
opened_kept definitions are = record {
  database = record {
    lawful = are;
    count = length-replicate {A = SpatialTable} (length definitions) [];
    tables = λ place table rows at here.
        let found = get_or_from_slice_get (replicate (length definitions) []) place rows [] here in
        subst (AreRows TakesValid table) (sym (opened_empty definitions place) ∙ found) (no_rows table);
  };
  count = length-replicate (length definitions) false;
  empty = λ place unloaded. opened_empty definitions place;
}

-- what is made of such parts is the database that was opened
pub opened_of : (definitions : SpatialSchema) (tables : List SpatialTable) (loaded : List Bool)
    → tables ≡ replicate (length definitions) [] → loaded ≡ replicate (length definitions) false
    → record { definitions = definitions; tables = tables; loaded = loaded } ≡ opened definitions
opened_of definitions tables loaded none unloaded =
    ap₂ (λ (t : List SpatialTable) (l : List Bool). record { definitions = definitions; tables = t; loaded = l }) none unloaded

-- the table that is put is at its place
pub put_at : (kept : KeptTables) (place : ℕ) (rows : SpatialTable) → IsKept kept → place < length kept.definitions
    → table_at (with_table place rows kept) place ≡ rows
put_at kept place rows is there = get_or-set_same kept.tables place rows [] (omega (arith, there, is.database.count))

-- the same with a table of its definition put in place
module _ (kept : KeptTables) (is : IsKept kept) (place : ℕ) (table : TableDef ColumnShape) (rows : SpatialTable)
    (at : slice_get kept.definitions place ≡ Some table) (are : AreRows TakesValid table rows) where
  there : place < length kept.definitions
  there = slice_get_within kept.definitions place table at

  abbrev after : List SpatialTable
  after = set kept.tables place rows

  -- the table of each place is one of its definition
  put_rows : (p : ℕ) (t : TableDef ColumnShape) (found : SpatialTable) → slice_get kept.definitions p ≡ Some t
      → slice_get after p ≡ Some found → AreRows TakesValid t found
  put_rows p t found defined here = go (cases_eq p place)
    where
      go : (p ≡ place) ⊎ (p ≡ place → ⊥) → AreRows TakesValid t found
      go (inl same) =
          let put = get_or-set_same kept.tables place rows found (omega (arith, there, is.database.count)) in
          let here_too = subst (λ k. slice_get after k ≡ Some found) same here in
          let read = get_or_from_slice_get after place found found here_too in
          let definition = same_Some table t (sym at ∙ subst (λ k. slice_get kept.definitions k ≡ Some t) same defined) in
          let are_of = subst (λ (d : TableDef ColumnShape). AreRows TakesValid d rows) definition are in
          subst (AreRows TakesValid t) (sym put ∙ read) are_of
      go (inr other) =
          let within = slice_get_within after p found here in
          let read = get_or_from_slice_get after p found found here in
          let same = sym (get_or-set_other kept.tables place p rows found other) ∙ read in
          let before = slice_get-get_or kept.tables p found (omega (arith, within, length-set kept.tables place rows)) in
          is.database.tables p t found defined (before ∙ ap Some same)

  -- what isn't loaded is another place
  put_empty : (p : ℕ) → is_loaded (with_table place rows kept) p ≡ false → table_at (with_table place rows kept) p ≡ []
  put_empty p unloaded = go (cases_eq p place)
    where
      go : (p ≡ place) ⊎ (p ≡ place → ⊥) → table_at (with_table place rows kept) p ≡ []
      go (inl same) =
          let put = get_or-set_same kept.loaded place true false (omega (arith, there, is.count)) in
          absurd (false≢true (sym (subst (λ k. get_or (set kept.loaded place true) k false ≡ false) same unloaded) ∙ put))
      go (inr other) =
          let before = sym (get_or-set_other kept.loaded place p true false other) ∙ unloaded in
          get_or-set_other kept.tables place p rows [] other ∙ is.empty p before

  pub put_kept : IsKept (with_table place rows kept)
  put_kept = record {
    database = record {
      lawful = is.database.lawful;
      count = length-set kept.tables place rows ∙ is.database.count;
      tables = put_rows;
    };
    count = length-set kept.loaded place true ∙ is.count;
    empty = put_empty;
  }
