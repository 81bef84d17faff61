-- The tables that are loaded are those of the whole.
use Rattle.std.proofs.Common.{◌≡◌, ◌∙◌, ◌+◌, ◌<◌, ◌≤◌, ◌⊎◌, ap, arith, cond, inl, inr, refl, subst, sym, ℕ, zero, suc, Bool, true, false}
use Rattle.std.proofs.Common.{List, [], ◌∷◌, get_or, length, map, set, None, Some, Result, Ok, Err}
use Rattle.std.specs.Prelude.{All, IsOk, not}
use Rattle.std.specs.List.{enumerate_from, position, position_from, zip}
use Rattle.std.proofs.lemmas.Bool.{cases_eq, cases_lt, false≢true}
use Rattle.std.proofs.lemmas.Iterator.Adapters.{position_from-zero}
use Rattle.std.proofs.lemmas.List.Elements.{All-cons, All-nil, All-weaker}
use Rattle.std.proofs.lemmas.Option.{none-some}
use Rattle.std.proofs.lemmas.List.{get_or-set_other, get_or-set_same, get_or_default, get_or_past}
use Rattle.feature_table.specs.GeometryFields.{reading}
use Rattle.feature_table.specs.Tables.{records_in, table_in, tables_in}
use Rattle.kept_tables.specs.KeptLaws.{IsLoadedFrom, IsPartOf, KeptAnswersAreRuns, KeptAnswersAreTheWholes, LoadedTextsAreKept, SameAtName, database_of}
use Rattle.kept_tables.specs.KeptTables.{IsKept, KeptTables, is_loaded, names_unloaded, table_at}
use Rattle.kept_tables.proofs.NamedTables.{outcomes_are_of_named}
use Rattle.table_laws.proofs.Fits.{parts}
use Rattle.table_model.specs.Databases.{at_table, load_tables}
use Rattle.table_model.specs.GeometryColumns.{ColumnShape}
use Rattle.table_model.specs.Loading.{each, load}
use Rattle.table_model.specs.RunOutcomes.{OfQuery, OfTable, Refusal, after, loaded_outcome, outcome, query_outcome}
use Rattle.table_model.specs.SpatialTables.{SpatialSchema, SpatialTable}
use Rattle.table_model.specs.declared.definitions.TableDef.{TableDef}
use Rattle.table_model.specs.declared.faults.LoadFault.{LoadFault}
use Rattle.table_model.specs.declared.faults.TableFault.{TableFault}
use Rattle.table_model.specs.declared.queries.WrittenReference.{WrittenReference}

-- ---- the tables that a query names

-- where no reference is found that names an unloaded table, none does
none_unloaded : (kept : KeptTables) (k : ℕ) (ws : List WrittenReference) → position_from (names_unloaded kept) k ws ≡ None
    → All (λ w. names_unloaded kept w ≡ false) ws
none_unloaded kept k [] none = All-nil (λ w. names_unloaded kept w ≡ false)
none_unloaded kept k (w ∷ ws) none = at (names_unloaded kept w) refl none (none_unloaded kept (k + 1) ws)
  where
    IsNamed : List WrittenReference → Type 0
    IsNamed written = All (λ w. names_unloaded kept w ≡ false) written

    at : (b : Bool) → names_unloaded kept w ≡ b → cond b (Some k) (position_from (names_unloaded kept) (k + 1) ws) ≡ None
        → (position_from (names_unloaded kept) (k + 1) ws ≡ None → IsNamed ws) → IsNamed (w ∷ ws)
    at true is none more = absurd (none-some k (sym none))
    at false is none more = All-cons (λ w. names_unloaded kept w ≡ false) w ws is (more none)

-- the table at the place of a name that isn't unloaded is that of the whole
same_table : (kept : KeptTables) (whole : List SpatialTable) → IsPartOf kept whole → (w : WrittenReference)
    → names_unloaded kept w ≡ false → SameAtName kept.definitions kept.tables whole w
same_table kept whole part w loaded place is = part place (go (is_loaded kept place) (rw is at loaded))
  where
    go : (b : Bool) → not b ≡ false → b ≡ true
    go true h = refl
    go false h = sym h

-- so a query is asked of the same tables
pub kept_answers_are_the_wholes : KeptAnswersAreTheWholes
kept_answers_are_the_wholes record_text matrix written kept whole part named =
    let unloaded = names_unloaded kept in
    let all = none_unloaded kept 0 written.references (sym (position_from-zero unloaded written.references) ∙ named) in
    outcomes_are_of_named record_text matrix written kept.definitions kept.tables whole
    (All-weaker (λ w. unloaded w ≡ false) (SameAtName kept.definitions kept.tables whole) (same_table kept whole part)
    written.references all)

-- ---- the texts that are loaded

-- a place that is loaded is one of the schema
within : (kept : KeptTables) → IsKept kept → (place : ℕ) → is_loaded kept place ≡ true → place < length kept.definitions
within kept is place loaded = go (cases_lt place (length kept.loaded))
  where
    go : (place < length kept.loaded) ⊎ (length kept.loaded ≤ place) → place < length kept.definitions
    go (inl there) = omega (arith, there, is.count)
    go (inr past) = absurd (false≢true (sym (get_or_past kept.loaded place false past) ∙ loaded))

-- the table of a place is that of its text, where another was loaded and where this one was
pub loaded_texts_are_kept : LoadedTextsAreKept
loaded_texts_are_kept kept texts place text rows d is many there before loads k e loaded = go (cases_eq k place)
  where
    many_tables : length kept.tables ≡ length kept.definitions
    many_tables = is.database.count

    loads_now : Result SpatialTable LoadFault
    loads_now = table_in reading (get_or kept.definitions k e) (get_or (set texts place text) k [])

    go : (k ≡ place) ⊎ (k ≡ place → ⊥) → loads_now ≡ Ok (get_or (set kept.tables place rows) k [])
    go (inl same) =
        let here = get_or-set_same texts place text [] (omega (arith, many, there)) in
        let put = get_or-set_same kept.tables place rows [] (omega (arith, many_tables, there)) in
        rw (same, here, put, get_or_default kept.definitions place e d there) loads
    go (inr other) =
        let as_before = get_or-set_other kept.loaded place k true false other in
        rw (get_or-set_other texts place k text [] other, get_or-set_other kept.tables place k rows [] other)
        (before k e (rw as_before at loaded))

-- a table among others loads where it loads by itself
by_itself : {X : Type 0} (place : ℕ) (r : Result X LoadFault) (x : X) → at_table place r ≡ Ok x → r ≡ Ok x
by_itself place (Ok y) x e = let same : y ≡ x = cc e in ap Ok same
by_itself place (Err f) x e = cc e

-- what the texts of tables give, of which the first has this place
abbrev loads_from : ℕ → SpatialSchema → List (List ℕ) → List (Result SpatialTable TableFault)
loads_from first definitions texts =
    map (λ t. at_table t.0 (load reading t.1.0 t.1.1)) (enumerate_from first (zip definitions (map records_in texts)))

-- each table of a schema that loads is that of its text
each_loads : (first : ℕ) (definitions : SpatialSchema) (texts : List (List ℕ)) (tables : List SpatialTable)
    → length texts ≡ length definitions → each (loads_from first definitions texts) ≡ Ok tables
    → (place : ℕ) (d : TableDef ColumnShape) → place < length definitions
    → table_in reading (get_or definitions place d) (get_or texts place []) ≡ Ok (get_or tables place [])
each_loads first [] texts tables many e place d there = absurd (omega (arith, there))
each_loads first (t ∷ definitions) [] tables many e place d there = absurd (omega (arith, many))
each_loads first (t ∷ definitions) (text ∷ texts) tables many e place d there =
    let p = parts (at_table first (table_in reading t text)) (loads_from (first + 1) definitions texts) tables e in
    let more = each_loads (first + 1) definitions texts p.tail fewer p.tail_is in
    let here = at place there p.head p.tail p.head_is more in
    subst (λ (all : List SpatialTable). own place ≡ Ok (get_or all place [])) p.all_is here
  where
    fewer : length texts ≡ length definitions
    fewer = omega (arith, many)

    own : ℕ → Result SpatialTable LoadFault
    own place = table_in reading (get_or (t ∷ definitions) place d) (get_or (text ∷ texts) place [])

    at : (place : ℕ) → place < length (t ∷ definitions) → (rows : SpatialTable) (rest : List SpatialTable)
        → at_table first (table_in reading t text) ≡ Ok rows
        → ((k : ℕ) (e : TableDef ColumnShape) → k < length definitions
        → table_in reading (get_or definitions k e) (get_or texts k []) ≡ Ok (get_or rest k []))
        → own place ≡ Ok (get_or (rows ∷ rest) place [])
    at zero there rows rest head more = by_itself first (table_in reading t text) rows head
    at (suc place) there rows rest head more = more place d (omega (arith, there))

-- so a kept database has of all tables those that it has loaded
is_part : (kept : KeptTables) (texts : List (List ℕ)) (whole : List SpatialTable) → IsKept kept
    → length texts ≡ length kept.definitions → IsLoadedFrom kept texts → tables_in reading kept.definitions texts ≡ Ok whole
    → IsPartOf kept whole
unfolding load_tables
is_part kept texts whole is many from loads place loaded =
    let d : TableDef ColumnShape = record { name = []; columns = []; key = 0 } in
    let there = within kept is place loaded in
    let of_whole = each_loads 0 kept.definitions texts whole many loads place d there in
    same_rows (table_at kept place) (get_or whole place []) (sym (from place d loaded) ∙ of_whole)
  where
    same_rows : (a b : SpatialTable) → ◌≡◌ {A = Result SpatialTable LoadFault} (Ok a) (Ok b) → a ≡ b
    same_rows a b e = cc e

-- and a run over all texts loads them first, and then answers over the whole
pub kept_answers_are_runs : KeptAnswersAreRuns
kept_answers_are_runs record_text matrix text written kept texts is many from loads reads named =
    go (tables_in reading kept.definitions texts) refl loads
  where
    over : List SpatialTable → Result (List ℕ) Refusal
    over tables = query_outcome record_text matrix written (database_of kept.definitions tables)

    go : (all : Result (List SpatialTable) TableFault) → tables_in reading kept.definitions texts ≡ all → IsOk all
        → outcome record_text matrix kept.definitions (map records_in texts) text ≡ over kept.tables
    go (Err fault) all ok = absurd (false≢true ok)
    go (Ok whole) all ok =
        let part = is_part kept texts whole is many from all in
        ap (λ query. after OfQuery query (loaded_outcome record_text matrix kept.definitions (map records_in texts))) reads
        ∙ ap (λ tables. after OfTable tables over) all
        ∙ sym (kept_answers_are_the_wholes record_text matrix written kept whole part named)
