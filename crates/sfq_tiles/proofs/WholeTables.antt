-- Tables that are checked are whole tables, where the bytes of their files are known.
use Rattle.std.proofs.Common.{◌≡◌, ◌∙◌, ap, refl, subst, sym, ℕ, zero, suc, List, [], ◌∷◌, length}
use Rattle.std.proofs.Common.{Some, Result, Ok, Err}
use Rattle.std.specs.Prelude.{slice_get}
use Rattle.std.proofs.lemmas.Option.{same_Some, slice_get_within}
use Rattle.basics.proofs.Options.{nothing_there}
use Rattle.feature_table.specs.GeometryFields.{ShapeValue, reading}
use Rattle.feature_table.specs.Tables.{AreRecordsOf, records_in}
use Rattle.geometry_model.specs.Geometries.{Geometry}
use Rattle.sfq_tiles.specs.Checks.{AreChecked, Files, IsChecked, table_path}
use Rattle.sfq_tiles.specs.TileAnswers.{AreFilesKnown, IsWholeOf}
use Rattle.table_model.specs.Databases.{Database}
use Rattle.table_model.specs.Loading.{Record, and_then}
use Rattle.table_model.specs.Meanings.{Table}
use Rattle.table_model.specs.SpatialTables.{SpatialSchema}
use Rattle.table_model.specs.declared.definitions.TableDef.{TableDef}
use Rattle.table_model.specs.declared.faults.LoadFault.{LoadFault}
use Rattle.tiles.proofs.WholeTables.{checked_is_whole}
use Rattle.tiles.specs.Checks.{checked}
use Rattle.tiles.specs.WholeTables.{whole_table}

-- the rows of a table whose file has these bytes
abbrev HasRows : Files → List ℕ → TableDef ShapeValue → Table Geometry → Type 0
HasRows files directory table rows =
    (bytes : List ℕ) × (files (table_path directory table.name) ≡ Some bytes)
    × (whole_table reading table (records_in bytes) ≡ Ok rows)

-- what is checked has rows
counted_rows : (table : TableDef ShapeValue) (records : List Record) (count : ℕ) → checked reading table records ≡ Ok count
    → (rows : Table Geometry) × (whole_table reading table records ≡ Ok rows)
counted_rows table records count is =
    go (whole_table reading table records) refl (sym (checked_is_whole table records) ∙ is)
  where
    go : (r : Result (Table Geometry) LoadFault) → whole_table reading table records ≡ r
        → and_then r (λ rows. Ok (length rows)) ≡ Ok count
        → (rows : Table Geometry) × (whole_table reading table records ≡ Ok rows)
    go (Ok rows) found e = (rows, found)
    go (Err fault) found e = cc e

has_rows : (files : Files) (directory : List ℕ) (table : TableDef ShapeValue) (bytes : List ℕ)
    → files (table_path directory table.name) ≡ Some bytes → IsChecked files directory table
    → (rows : Table Geometry) × HasRows files directory table rows
has_rows files directory table bytes known is =
    let same : is.0 ≡ records_in bytes = subst (λ k. AreRecordsOf k is.0) known is.1 in
    let found = counted_rows table is.0 is.2 is.3 in
    (found.0, (bytes, known, ap (whole_table reading table) (sym same) ∙ found.1))

module _ (files : Files) (directory : List ℕ) where
  -- each table of some definitions has rows
  abbrev EachHasRows : SpatialSchema → Type 0
  EachHasRows definitions = (place : ℕ) (table : TableDef ShapeValue) → slice_get definitions place ≡ Some table
      → (rows : Table Geometry) × HasRows files directory table rows

  -- these are their rows
  abbrev AreRows : SpatialSchema → List (Table Geometry) → Type 0
  AreRows definitions tables = (place : ℕ) (table : TableDef ShapeValue) → slice_get definitions place ≡ Some table
      → (rows : Table Geometry) × (slice_get tables place ≡ Some rows) × HasRows files directory table rows

  one_more : (first : TableDef ShapeValue) (definitions : SpatialSchema) (rows : Table Geometry) (tables : List (Table Geometry))
      → HasRows files directory first rows → AreRows definitions tables → AreRows (first ∷ definitions) (rows ∷ tables)
  one_more first definitions rows tables own rest zero table at =
      (rows, refl, subst (λ t. HasRows files directory t rows) (same_Some first table at) own)
  one_more first definitions rows tables own rest (suc place) table at = rest place table at

  all_rows : (definitions : SpatialSchema) → EachHasRows definitions
      → (tables : List (Table Geometry)) × AreRows definitions tables
  all_rows [] each = ([], λ place table at. nothing_there table at)
  all_rows (first ∷ definitions) each =
      let own = each 0 first refl in
      let rest = all_rows definitions (λ place table at. each (suc place) table at) in
      (own.0 ∷ rest.0, one_more first definitions own.0 rest.0 own.1 rest.1)

  pub whole_is_there : (definitions : SpatialSchema) → AreChecked files directory definitions
      → AreFilesKnown files directory definitions
      → (whole : Database ShapeValue Geometry) × IsWholeOf files directory definitions whole
  whole_is_there definitions are_checked known =
      let each : EachHasRows definitions =
      (λ place table at.
      let is = are_checked place (slice_get_within definitions place table at) in
      let file = known place table at in
      has_rows files directory table file.0 file.1
      (subst (IsChecked files directory) (same_Some is.0 table (sym is.1 ∙ at)) is.2)) in
      let all = all_rows definitions each in (
        record { definitions = definitions; tables = all.0 },
        record {
          same = refl;
          given = λ place table at. let h = all.1 place table at in (h.2.0, h.0, h.2.1, h.1, h.2.2);
        },
      )
