-- The texts of stretches load as the stretches of the table.
use Rattle.std.proofs.Common.{◌≡◌, ◌≢◌, ◌∙◌, ◌+◌, ap, arith, refl, subst, sym, ℕ, zero, suc, List, [], ◌∷◌, length, map}
use Rattle.std.proofs.Common.{Option, None, Some, Result, Ok, unwrap_or}
use Rattle.std.specs.Prelude.{All, Contains, drop, option_map, slice_get}
use Rattle.std.specs.List.{AllZip, range_with_len}
use Rattle.std.proofs.lemmas.List.Elements.{All-map}
use Rattle.std.proofs.lemmas.Option.{slice_get-map}
use Rattle.std.proofs.lemmas.Simd.{map-map}
use Rattle.basics.proofs.Options.{nothing_there}
use Rattle.feature_table.specs.GeometryFields.{reading}
use Rattle.feature_table.specs.Tables.{table_in}
use Rattle.geometry_model.specs.Geometries.{Geometry}
use Rattle.table_laws.proofs.PlanLists.{no_member}
use Rattle.table_laws.specs.ColumnLaws.{IsNarrow}
use Rattle.table_model.specs.Definitions.{column_names}
use Rattle.table_model.specs.GeometryColumns.{ColumnShape}
use Rattle.table_model.specs.Loading.{Record, load}
use Rattle.table_model.specs.Meanings.{Table}
use Rattle.table_model.specs.declared.definitions.ColumnDef.{ColumnDef}
use Rattle.table_model.specs.declared.definitions.TableDef.{TableDef}
use Rattle.tiles.specs.Copies.{copied_fields, header_of, stretches, stretches_of, table_at}
use Rattle.tiles.specs.LoadedTexts.{BeginsWord}
use Rattle.tiles.specs.RecordLines.{names_of, places_in}
use Rattle.tiles.specs.StretchTexts.{StretchTextsAreLoaded, stretch_text}
use Rattle.tiles.proofs.LoadedParts.{stretches_are_loaded}
use Rattle.tiles.proofs.LoadedTexts.{texts_are_loaded}

-- the names of the columns that are copied are those of the narrow definition
pub same_names : (table narrow : TableDef ColumnShape) (copied : List ℕ) → IsNarrow table narrow copied
    → names_of table.columns copied ≡ column_names narrow.columns
same_names table narrow copied is =
    sym (map-map of (slice_get table.columns) copied) ∙ ap (map of) (sym is.there)
    ∙ map-map of (λ (c : ColumnDef ColumnShape). Some c) narrow.columns
  where
    name : ColumnDef ColumnShape → List ℕ
    name c = c.name

    of : Option (ColumnDef ColumnShape) → List ℕ
    of o = unwrap_or (option_map name o) []

module _ (table narrow : TableDef ColumnShape) (copied : List ℕ) (records : List Record) (size : ℕ)
    (is : IsNarrow table narrow copied)
    (begins : BeginsWord (column_names narrow.columns)) where
  abbrev all : List (List Record)
  all = stretches_of size table.columns copied records

  -- each record has a field
  some_field : (stretch : List Record)
      → All (λ fields. fields ≢ []) (map (copied_fields (places_in (header_of records) table.columns) copied) stretch)
  some_field stretch =
      All-map (λ (fields : Record). fields ≢ []) (copied_fields (places_in (header_of records) table.columns) copied) stretch
      (λ k d within. some copied is.key_copied _)
    where
      some : (copied : List ℕ) → Contains copied table.key → (fields : Record)
          → copied_fields (places_in (header_of records) table.columns) copied fields ≢ []
      some [] m fields e = no_member table.key m
      some (k ∷ copied) m fields e = cc e

  -- so a text loads as the records of its stretch
  text_is : (number : ℕ) (stretch : List Record) → slice_get (stretches size (drop 1 records)) number ≡ Some stretch
      → table_in reading narrow (stretch_text table copied records size number)
      ≡ load reading narrow (column_names narrow.columns ∷ map
      (copied_fields (places_in (header_of records) table.columns) copied) stretch)
  text_is number stretch at =
      ap (λ header. table_in reading narrow (table_at header all number)) (same_names table narrow copied is)
      ∙ texts_are_loaded narrow (column_names narrow.columns) all number
      (map (copied_fields (places_in (header_of records) table.columns) copied) stretch)
      (slice_get-map (map (copied_fields (places_in (header_of records) table.columns) copied))
      (stretches size (drop 1 records)) number
      ∙ ap (option_map (map (copied_fields (places_in (header_of records) table.columns) copied))) at)
      begins (some_field stretch)

  -- and so do all, from a number on
  texts_are : (some : List (List Record)) (number : ℕ)
      → ((k : ℕ) (stretch : List Record) → slice_get some k ≡ Some stretch
      → slice_get (stretches size (drop 1 records)) (number + k) ≡ Some stretch)
      → (parts : List (Table Geometry))
      → AllZip (λ stretch part. load reading narrow (column_names narrow.columns ∷ stretch) ≡ Ok part)
      (map (map (copied_fields (places_in (header_of records) table.columns) copied)) some) parts
      → AllZip (λ n part. table_in reading narrow (stretch_text table copied records size n) ≡ Ok part)
      (range_with_len number (length (map (map (copied_fields (places_in (header_of records) table.columns) copied)) some))) parts
  texts_are [] number there [] are = tt
  texts_are [] number there (part ∷ parts) are = absurd are
  texts_are (stretch ∷ some) number there [] are = absurd are
  texts_are (stretch ∷ some) number there (part ∷ parts) are =
      let none : number + 0 ≡ number = omega arith in (
        text_is number stretch (subst (λ n. slice_get (stretches size (drop 1 records)) n ≡ Some stretch) none
            (there 0 stretch refl))
            ∙ are.0,
        texts_are some (number + 1)
            (λ k s h. let next : number + suc k ≡ number + 1 + k = omega arith in
            subst (λ n. slice_get (stretches size (drop 1 records)) n ≡ Some s) next (there (suc k) s h))
            parts are.1,
      )

pub stretch_texts_are_loaded : StretchTextsAreLoaded
stretch_texts_are_loaded table narrow copied records rows size e is differ begins pos few =
    let found = stretches_are_loaded table narrow copied records rows size e is differ pos few in (
      found.0,
      texts_are table narrow copied records size is begins (stretches size (drop 1 records)) 0
          (λ k stretch h. let none : k ≡ 0 + k = omega arith in
          subst (λ n. slice_get (stretches size (drop 1 records)) n ≡ Some stretch) none h) found.0 found.1,
      found.2,
    )
