-- What a query gives over the tiles that were written is what it means over the whole.
use Rattle.std.proofs.Common.{◌≡◌, ◌∙◌, ◌+◌, ap, ap₂, refl, subst, sym, ℕ, zero, suc, true, false, List, [], ◌∷◌}
use Rattle.std.proofs.Common.{Option, None, Some, length, map}
use Rattle.std.specs.Prelude.{Bool, codes, slice_get, string_bytes, sum_by}
use Rattle.std.specs.Io.KnownBytes.{Appends}
use Rattle.std.specs.List.{AllZip, flat_map, list_all, range_with_len}
use Rattle.std.proofs.lemmas.Bool.{and_parts}
use Rattle.std.proofs.lemmas.Option.{same_Some}
use Rattle.basics.proofs.Options.{nothing_there}
use Rattle.feature_table.specs.GeometryFields.{ShapeValue, reading}
use Rattle.feature_table.specs.Tables.{AreRecordsOf, records_in, table_in}
use Rattle.geometry_model.specs.Dimensions.{Matrix}
use Rattle.geometry_model.specs.Envelopes.{Envelope}
use Rattle.geometry_model.specs.Geometries.{Geometry}
use Rattle.geometry_model.specs.GivenMatrix.{GivesMatrix}
use Rattle.geometry_model.specs.declared.relations.Predicate.{Predicate}
use Rattle.sfq_tiles.proofs.PartLaws.{IsTileTable, made_parts_are_tiles}
use Rattle.sfq_tiles.proofs.StatusLemmas.{is_done}
use Rattle.sfq_tiles.proofs.SplitParts.{split_words}
use Rattle.sfq_tiles.proofs.WholeTables.{whole_is_there}
use Rattle.sfq_tiles.specs.Checks.{Files, table_path}
use Rattle.sfq_tiles.specs.MadeTables.{mark_column}
use Rattle.sfq_tiles.specs.SchemaTexts.{text_of}
use Rattle.sfq_tiles.specs.Splits.{Begins, IsWritten, Returns, SplitsWords, header_by, tables_by}
use Rattle.sfq_tiles.specs.TileAnswers.{AnswersAreMeant, ArePartRows, BeginEmpty, GivesAnswers, IsPartThere, IsWholeOf}
use Rattle.sfq_tiles.specs.Words.{ByColumn, IsNamed, IsOfGeometries as IsColumnOfGeometries}
use Rattle.sfq_tiles.specs.declared.parts.NamedPart.{NamedPart}
use Rattle.sfq_tiles.specs.declared.words.Words.{Words}
use Rattle.table_laws.specs.Cells.{CutsGrid}
use Rattle.table_laws.specs.ColumnLaws.{narrowed}
use Rattle.table_laws.specs.TileLaws.{GeometryStatement}
use Rattle.table_model.specs.AnswerTexts.{Writing, answer, count_records}
use Rattle.table_model.specs.Arguments.{denoted}
use Rattle.table_model.specs.Databases.{Database}
use Rattle.table_model.specs.Definitions.{column_names, lawful, lawful_table, names_differ}
use Rattle.table_model.specs.GeometryColumns.{shape_named}
use Rattle.table_model.specs.Meanings.{Row, meaning, up_to}
use Rattle.table_model.specs.SchemaGrammar.{IsSchema}
use Rattle.table_model.specs.SpatialTables.{SpatialSchema}
use Rattle.table_model.specs.Statements.{by_conjuncts}
use Rattle.table_model.specs.Truths.{truth}
use Rattle.table_model.specs.declared.conditions.ColumnPlace.{ColumnPlace}
use Rattle.table_model.specs.declared.conditions.Reference.{Reference}
use Rattle.table_model.specs.declared.definitions.ColumnDef.{ColumnDef}
use Rattle.table_model.specs.declared.definitions.TableDef.{TableDef}
use Rattle.tiles.proofs.SchemaNames.{schema_names_begin_words}
use Rattle.tiles.proofs.TiledAnswers.{tiled_answers_are_meant, tiled_counts_are_meant}
use Rattle.tiles.specs.Copies.{AreWritten, table_at}
use Rattle.tiles.specs.KeyMerges.{by_keys}
use Rattle.tiles.specs.LoadedTexts.{BeginsWord}
use Rattle.tiles.specs.Texts.{Texts}
use Rattle.tiles.specs.TileRows.{IsOfGeometries}
use Rattle.tiles.specs.TiledAnswers.{AreTileRows, HasTileQuery, IsPartOf, IsSplitQuery, TiledPart, tile_text}
use Rattle.tiles.specs.WholeTables.{whole_table}

-- ---- the schema

-- a lawful table's names differ
differ_at : (tables : SpatialSchema) → list_all lawful_table tables ≡ true → (place : ℕ) (table : TableDef ShapeValue)
    → slice_get tables place ≡ Some table → names_differ (column_names table.columns) ≡ true
differ_at [] all place table at = nothing_there table at
differ_at (first ∷ tables) all zero table at =
    subst (λ (t : TableDef ShapeValue). names_differ (column_names t.columns) ≡ true) (same_Some first table at)
    (and_parts _ _ (and_parts _ _ (and_parts (lawful_table first) (list_all lawful_table tables) all).0).1).0
differ_at (first ∷ tables) all (suc place) table at =
    differ_at tables (and_parts (lawful_table first) (list_all lawful_table tables) all).1 place table at

-- what a schema's text says of a table of it
record IsSchemaTable (made : TableDef ShapeValue) : Type 0 where
  differ : names_differ (column_names made.columns) ≡ true
  begins : BeginsWord (column_names made.columns)

schema_table : (text : List ℕ) (tables : SpatialSchema) (place : ℕ) (made : TableDef ShapeValue)
    → IsSchema shape_named text tables
    → slice_get tables place ≡ Some made → IsSchemaTable made
unfolding IsSchema lawful
schema_table text tables place made is at = record {
  differ = differ_at tables (and_parts _ _ (and_parts _ _ is.1).1).1 place made at;
  begins = schema_names_begin_words shape_named text tables place made is at;
}

-- ---- a part

-- the column of a part's tiles is one of geometries
tile_column : (table : TableDef ShapeValue) (name : Option (List ℕ)) (place : ℕ) → ByColumn table name (Some place)
    → IsOfGeometries table place
tile_column table None place is = absurd is
tile_column table (Some name) place is = go (slice_get table.columns place) refl is.1
  where
    go : (o : Option (ColumnDef ShapeValue)) → slice_get table.columns place ≡ o → IsColumnOfGeometries o
        → IsOfGeometries table place
    go None at h = absurd h
    go (Some c) at h = (c, h.0, at, h.1)

module _ {O T : Type 0} (begins_tiles begins_stretches : O → List ℕ → T → Type 0) (takes : O → T → O → Type 0) (texts : T → Texts)
    (files : Files) (directory : List ℕ) (boxes : List Envelope) (rows : ℕ) (part : NamedPart) (counts : List ℕ) (old new : O)
    (written : IsWritten begins_tiles begins_stretches takes texts files directory boxes rows part counts old new)
    (place : ℕ) (tiled : part.column ≡ Some place) (made : TableDef ShapeValue)
    (is : IsTileTable part made) (empty : (target : O) (name : List ℕ) (begun : T) → begins_tiles target name begun
    → (number : ℕ) → texts begun number ≡ Some []) where
  -- the law's part
  abbrev tiled_part : TiledPart
  tiled_part = record {
    table = part.table.now;
    records = written.records;
    copied = part.columns.items;
    place = place;
    narrow = is.narrow;
    wide = made;
    west = mark_column (string_bytes part.west);
    south = mark_column (string_bytes part.south);
  }

  -- the text of a number is that of the law
  pub text_is : (number : ℕ) (text : List ℕ) → texts written.filled number ≡ Some text → text ≡ tile_text boxes tiled_part number
  text_is number text has =
      appended (texts written.begun number) (texts written.filled number)
      (table_at (header_by part (Some place)) (tables_by boxes rows part written.records (Some place)) number) text
      (empty old part.name.now written.begun
      (subst (λ c. Begins begins_tiles begins_stretches takes texts old part.name.now c written.begun) tiled written.begins)
      number)
      has (gets.texts number)
    where
      gets : AreWritten (texts written.begun) (texts written.filled) (header_by part (Some place))
          (tables_by boxes rows part written.records (Some place)) counts
      gets = subst (λ c. AreWritten (texts written.begun) (texts written.filled) (header_by part c)
          (tables_by boxes rows part written.records c) counts) tiled written.gets

      appended : (before after : Option (List ℕ)) (added text : List ℕ) → before ≡ Some [] → after ≡ Some text
          → Appends before after added → text ≡ added
      appended before after added text none some h =
          subst (λ a. Appends (Some []) a added) some (subst (λ b. Appends b after added) none h)

  -- the law's part is that of a reference to the part's table
  pub part_is : (definitions : SpatialSchema) (word : List ℕ) → IsNamed definitions word part
      → (whole : Database ShapeValue Geometry) → IsWholeOf files directory definitions whole
      → (reference : Reference) → reference.table ≡ part.place
      → names_differ (column_names made.columns) ≡ true → BeginsWord (column_names made.columns)
      → IsPartOf whole reference tiled_part
  part_is definitions word named whole wholes reference at differ begins =
      let given = wholes.given part.place part.table.now named.there in record {
        defined =
            ap₂ (λ (l : SpatialSchema) (k : ℕ). slice_get l k) wholes.same at ∙ named.there;
        rows = given.1;
        there = ap (slice_get whole.tables) at ∙ given.3;
        given = ap (whole_table reading part.table.now) (records_are (files (table_path directory part.table.now.name)) given.0
            given.2 written.are_of.are_of)
            ∙ given.4;
        narrow = is.is_narrow;
        marks = is.has_marks;
        differ = differ;
        begins = begins;
        geometries = tile_column part.table.now named.column place
            (subst (ByColumn part.table.now named.column) tiled named.by_column);
      }
    where
      records_are : (known : Option (List ℕ)) (bytes : List ℕ) → known ≡ Some bytes → AreRecordsOf known written.records
          → written.records ≡ records_in bytes
      records_are known bytes is_known are = subst (λ k. AreRecordsOf k written.records) is_known are

-- ---- two parts

module _ {O T : Type 0} (begins_tiles begins_stretches : O → List ℕ → T → Type 0) (takes : O → T → O → Type 0)
    (texts : T → Texts) (makes : O → List ℕ → O → Type 0) (old new : O) (files : Files) (directory : List ℕ)
    (definitions : SpatialSchema) (boxes : List Envelope) (rows : ℕ) (parts : List NamedPart) (tables : SpatialSchema)
    (cut : CutsGrid boxes) (schema : IsSchema shape_named (text_of parts) tables)
    (empty : BeginEmpty begins_tiles begins_stretches takes texts makes old new files) where
  abbrev There : ℕ → Type 0
  There = IsPartThere begins_tiles begins_stretches takes texts makes old new files directory definitions boxes rows parts tables

  module _ (place : ℕ) (there : There place) (column : ℕ) (tiled : there.part.column ≡ Some column) where
    in_schema : IsSchemaTable there.made
    in_schema = schema_table (text_of parts) tables place there.made schema there.in_schema

    table : IsTileTable there.part there.made
    table = made_parts_are_tiles there.part there.made column there.is tiled in_schema.differ

    -- the law's part
    abbrev law_part : TiledPart
    law_part = tiled_part begins_tiles begins_stretches takes texts files directory boxes rows there.part there.counts
        there.before there.after there.written column tiled there.made table empty

    law_part_is : (whole : Database ShapeValue Geometry) → IsWholeOf files directory definitions whole → (reference : Reference)
        → reference.table ≡ there.part.place → IsPartOf whole reference law_part
    law_part_is whole wholes reference at =
        part_is begins_tiles begins_stretches takes texts files directory boxes rows there.part there.counts there.before
        there.after there.written column tiled there.made table empty definitions there.word there.named whole wholes
        reference at in_schema.differ in_schema.begins

    law_text_is : (number : ℕ) (text : List ℕ) → texts there.written.filled number ≡ Some text
        → text ≡ tile_text boxes law_part number
    law_text_is = text_is begins_tiles begins_stretches takes texts files directory boxes rows there.part there.counts
        there.before there.after there.written column tiled there.made table empty

    same_key : there.made.key ≡ law_part.narrow.key
    same_key = table.has_marks.key

  module _ (first_at second_at : ℕ) (one_part : There first_at) (other_part : There second_at)
      (whole : Database ShapeValue Geometry) (wholes : IsWholeOf files directory definitions whole)
      (matrix : Geometry → Geometry → Matrix) (gives : GivesMatrix matrix) (query tile_query : GeometryStatement)
      (one other : Reference) (predicate : Predicate) (first_place second_place : ℕ)
      (one_is : one.table ≡ one_part.part.place) (other_is : other.table ≡ other_part.part.place)
      (first_column : one_part.part.column ≡ Some first_place) (second_column : other_part.part.column ≡ Some second_place)
      (asked : HasTileQuery whole.definitions query tile_query one other predicate one_part.part.columns.items
      other_part.part.columns.items first_place second_place) where
    abbrev first : TiledPart
    first = law_part first_at one_part first_place first_column

    abbrev second : TiledPart
    second = law_part second_at other_part second_place second_column

    -- the query is one of the law
    split : IsSplitQuery matrix boxes whole query tile_query one other predicate first second
    split = record {
      gives = gives;
      cut = cut;
      first_is = law_part_is first_at one_part first_place first_column whole wholes one one_is;
      second_is = law_part_is second_at other_part second_place second_column whole wholes other other_is;
      asked = asked;
    }

    abbrev Rows : ℕ → List (List (Row Geometry)) → Type 0
    Rows = ArePartRows matrix one_part.made other_part.made (texts one_part.written.filled) (texts other_part.written.filled)
        tile_query

    -- the rows over what was written are those of the law
    rows_are : (number : ℕ) (answered : List (List (Row Geometry))) → Rows number answered
        → AreTileRows matrix boxes first second tile_query number answered
    rows_are number answered own = record {
      one = own.one;
      other = own.other;
      loads_one = ap (table_in reading one_part.made)
          (sym (law_text_is first_at one_part first_place first_column number own.one_text own.has_one)) ∙ own.loads_one;
      loads_other = ap (table_in reading other_part.made)
          (sym (law_text_is second_at other_part second_place second_column number own.other_text own.has_other))
          ∙ own.loads_other;
      tables = own.tables;
      read = own.read;
      are = own.are;
    }

    all_rows : (numbers : List ℕ) (answers : List (List (List (Row Geometry)))) → AllZip Rows numbers answers
        → AllZip (AreTileRows matrix boxes first second tile_query) numbers answers
    all_rows [] [] are = tt
    all_rows [] (answered ∷ answers) are = absurd are
    all_rows (number ∷ numbers) [] are = absurd are
    all_rows (number ∷ numbers) (answered ∷ answers) are =
        (rows_are number answered are.0, all_rows numbers answers are.1)

    -- the keys of the tables that were made are those of what is copied
    same_keys : one_part.made.key ∷ other_part.made.key ∷ [] ≡ first.narrow.key ∷ second.narrow.key ∷ []
    same_keys = ap₂ (λ (a b : ℕ). a ∷ b ∷ []) (same_key first_at one_part first_place first_column)
        (same_key second_at other_part second_place second_column)

    rows_are_meant : query.counts ≡ false → (answers : List (List (List (Row Geometry))))
        → AllZip Rows (range_with_len 0 (length boxes + 1)) answers
        → up_to query.limit (by_keys (one_part.made.key ∷ other_part.made.key ∷ []) (flat_map (λ rows. rows) answers))
        ≡ map (narrowed (one_part.part.columns.items ∷ other_part.part.columns.items ∷ []))
        (meaning (truth matrix denoted) whole.tables query)
    rows_are_meant counts answers are =
        ap (λ keys. up_to query.limit (by_keys keys (flat_map (λ rows. rows) answers))) same_keys
        ∙ tiled_answers_are_meant matrix boxes whole query tile_query one other predicate first second split counts answers
        (all_rows (range_with_len 0 (length boxes + 1)) answers are)

    numbers_are_meant : query.counts ≡ true → (answers : List (List (List (Row Geometry))))
        → AllZip Rows (range_with_len 0 (length boxes + 1)) answers → (writing : Writing Geometry ColumnPlace)
        → answer writing whole.definitions (by_conjuncts query) (meaning (truth matrix denoted) whole.tables query)
        ≡ (codes "COUNT(*)" ∷ []) ∷ count_records query.limit (sum_by (λ rows. length rows) answers)
    numbers_are_meant counts answers are =
        tiled_counts_are_meant matrix boxes whole query tile_query one other predicate first second split counts answers
        (all_rows (range_with_len 0 (length boxes + 1)) answers are)

  pub answers_are_meant : (first_at second_at : ℕ) (one_part : There first_at) (other_part : There second_at)
      → AnswersAreMeant begins_tiles begins_stretches takes texts makes old new files directory definitions boxes rows parts
      tables
      first_at second_at one_part other_part
  answers_are_meant first_at second_at one_part other_part whole wholes matrix gives query tile_query one other predicate
      first_place second_place one_is other_is first_column second_column asked answers are = (
        λ counts. rows_are_meant first_at second_at one_part other_part whole wholes matrix gives query tile_query one other
            predicate first_place second_place one_is other_is first_column second_column asked counts answers are,
        λ counts. numbers_are_meant first_at second_at one_part other_part whole wholes matrix gives query tile_query one other
            predicate first_place second_place one_is other_is first_column second_column asked counts answers are,
      )

-- what splitting promises gives answers, where it ends with the status 0
pub gives_answers : {O T S E : Type 0} (there : O → Option Bool) (begins_tiles begins_stretches : O → List ℕ → T → Type 0)
    (takes : O → T → O → Type 0) (texts : T → Texts) (makes : O → List ℕ → O → Type 0) (taken : S
    → Option (List ℕ)) (failures : S → ℕ)
    (old new : O) (out_old out_new : S) (files : Files) (words : Words) (err_taken : E → Option (List ℕ)) (err_failures : E → ℕ)
    (status : ℕ) (err_old err_new : E)
    → Returns err_taken err_failures
    (SplitsWords there begins_tiles begins_stretches takes texts makes taken failures old new out_old out_new files words)
    status err_old err_new
    → status ≡ 0 → GivesAnswers begins_tiles begins_stretches takes texts makes old new files words
gives_answers there begins_tiles begins_stretches takes texts makes taken failures old new out_old out_new files words err_taken
    err_failures status err_old err_new h at_zero =
    let done = is_done
    (SplitsWords there begins_tiles begins_stretches takes texts makes taken failures old new out_old out_new files words) h.end
    (sym h.returned ∙ at_zero) h.ends in
    let is = split_words there begins_tiles begins_stretches takes texts makes taken failures old new out_old out_new files words
    done in (
      is,
      whole_is_there files words.directory.now is.definitions is.checked,
      λ empty first_at second_at first_within second_within.
          answers_are_meant begins_tiles begins_stretches takes texts makes old new files words.directory.now is.definitions
          is.boxes is.rows is.parts is.tables is.cut is.schema empty first_at second_at (is.each first_at first_within)
          (is.each second_at second_within),
    )
