-- What splitting, once it is done, has written.
use Rattle.std.proofs.Common.{◌≡◌, ◌<◌, ⊎_elim, ℕ, zero, suc, List, [], ◌∷◌, length, map, subst}
use Rattle.std.proofs.Common.{Option, Some, Result, Ok, Err}
use Rattle.std.specs.Prelude.{Bool, MatchResult, slice_get}
use Rattle.std.proofs.lemmas.Option.{same_Some}
use Rattle.basics.proofs.Options.{nothing_there}
use Rattle.failures.specs.declared.failure.Failure.{Failure}
use Rattle.geometry_model.specs.Envelopes.{Envelope}
use Rattle.sfq_tiles.specs.Checks.{AreChecked, Files, ReadsSchema}
use Rattle.sfq_tiles.specs.MadeTables.{AreMade, IsMadeAt}
use Rattle.sfq_tiles.specs.SchemaTexts.{text_of}
use Rattle.sfq_tiles.specs.Splits.{AreAllWritten, ArePut, EndsBefore, HasSchema, IsWritten, SplitsFiles, SplitsParts}
use Rattle.sfq_tiles.specs.Splits.{SplitsTables, SplitsWords}
use Rattle.sfq_tiles.specs.TileAnswers.{AreSplit, IsPartThere}
use Rattle.sfq_tiles.specs.Words.{AreNamed, IsNamed}
use Rattle.sfq_tiles.specs.declared.endings.Ending.TheVariants as e
use Rattle.sfq_tiles.specs.declared.listing.Written.{Written}
use Rattle.sfq_tiles.specs.declared.parts.NamedPart.{NamedPart}
use Rattle.sfq_tiles.specs.declared.words.Words.{Words}
use Rattle.table_laws.specs.Cells.{CutsGrid}
use Rattle.table_model.specs.SpatialTables.{SpatialSchema}
use Rattle.tiles.specs.Texts.{Texts}

-- ---- parts

-- the word of a part
named_at : (definitions : SpatialSchema) (words : List (List ℕ)) (parts : List NamedPart) → AreNamed definitions words parts
    → (place : ℕ) (part : NamedPart) → slice_get parts place ≡ Some part → (word : List ℕ) × IsNamed definitions word part
named_at definitions [] [] named place part at = nothing_there part at
named_at definitions [] (p ∷ parts) named place part at = absurd named
named_at definitions (word ∷ words) [] named place part at = absurd named
named_at definitions (word ∷ words) (p ∷ parts) named zero part at =
    (word, subst (IsNamed definitions word) (same_Some p part at) named.0)
named_at definitions (word ∷ words) (p ∷ parts) named (suc place) part at =
    named_at definitions words parts named.1 place part at

module _ {O T : Type 0} (begins_tiles begins_stretches : O → List ℕ → T → Type 0) (takes : O → T → O → Type 0)
    (texts : T → Texts) (files : Files) (directory : List ℕ) (boxes : List Envelope) (rows : ℕ) where
  -- what was written of a part
  record WasWritten (part : NamedPart) : Type 0 where
    counts : List ℕ
    before : O
    after : O
    is : IsWritten begins_tiles begins_stretches takes texts files directory boxes rows part counts before after

  written_at : (parts : List NamedPart) (written : List Written) (old new : O)
      → AreAllWritten begins_tiles begins_stretches takes texts files directory boxes rows parts written old new
      → (place : ℕ) (part : NamedPart) → slice_get parts place ≡ Some part → WasWritten part
  written_at [] [] old new all place part at = nothing_there part at
  written_at [] (w ∷ written) old new all place part at = absurd all
  written_at (p ∷ parts) [] old new all place part at = absurd all
  written_at (p ∷ parts) (w ∷ written) old new all zero part at =
      subst WasWritten (same_Some p part at) (record { counts = w.counts.items; before = old; after = all.0; is = all.2 })
  written_at (p ∷ parts) (w ∷ written) old new all (suc place) part at =
      written_at parts written all.0 new all.3 place part at

-- ---- ends

-- what follows where a schema is read, and where none is, follows
of_schema : {X : Type 0} (R : Result SpatialSchema Failure → Type 0) (P : SpatialSchema → Type 0) (Q : Failure → Type 0)
    → ((definitions : SpatialSchema) → R (Ok definitions) → P definitions → X) → ((failure : Failure) → Q failure → X)
    → (schema : Result SpatialSchema Failure) → R schema → MatchResult schema P Q → X
of_schema R P Q a b (Ok definitions) r h = a definitions r h
of_schema R P Q a b (Err failure) r h = b failure h

module _ {O T S : Type 0} (there : O → Option Bool) (begins_tiles begins_stretches : O → List ℕ → T → Type 0)
    (takes : O → T → O → Type 0) (texts : T → Texts) (makes : O → List ℕ → O → Type 0) (taken : S → Option (List ℕ))
    (failures : S → ℕ) (old new : O) (out_old out_new : S) (files : Files) (path directory : List ℕ) (words : List
    (List ℕ)) where
  abbrev Split : Type 0
  Split = AreSplit begins_tiles begins_stretches takes texts makes old new files path directory words

  module _ (rows : ℕ) (definitions : SpatialSchema) (read : ReadsSchema (files path) (Ok definitions)) where
    put_parts : (Lists : List ℕ → Type 0) (boxes : List Envelope) → CutsGrid boxes → AreChecked files directory definitions
        → (parts : List NamedPart) → AreNamed definitions words parts → HasSchema parts
        → ArePut begins_tiles begins_stretches takes texts makes files directory boxes rows (text_of parts) parts Lists old new
        → Split
    unfolding AreMade IsMadeAt
    put_parts Lists boxes cut checked parts named schema put = record {
      definitions = definitions;
      read = read;
      checked = checked;
      rows = rows;
      parts = parts;
      named = named;
      tables = schema.0;
      schema = schema.1;
      boxes = boxes;
      cut = cut;
      made = put.made;
      makes_schema = put.schema;
      listed = put.written;
      all = put.all;
      each = each;
    }
      where
        each : (place : ℕ) → place < length parts
            → IsPartThere begins_tiles begins_stretches takes texts makes old new files directory definitions boxes rows parts
            schema.0 place
        each place within =
            let made = schema.2.1 place within in
            let word = named_at definitions words parts named place made.0 made.2 in
            let was = written_at begins_tiles begins_stretches takes texts files directory boxes rows parts put.written put.made
            new
            put.all place made.0 made.2 in record {
              part = made.0;
              there = made.2;
              word = word.0;
              named = word.1;
              made = made.1;
              in_schema = made.3;
              is = made.4;
              counts = was.counts;
              before = was.before;
              after = was.after;
              written = was.is;
            }

    split_parts : (parts : List NamedPart) → AreNamed definitions words parts
        → SplitsParts there begins_tiles begins_stretches takes texts makes taken failures old new out_old out_new files directory
        rows definitions parts (Ok tt) → Split
    split_parts parts named =
        ⊎_elim (λ early. cc early.1.0)
        (⊎_elim (λ found. cc found.0.0)
        (λ is. ⊎_elim (λ put. put_parts _ is.3 is.4 is.1 parts named is.2 put.1)
        (⊎_elim (λ failed. cc failed.0) (λ late. cc late.1)) is.5))

    split_tables : SplitsTables there begins_tiles begins_stretches takes texts makes taken failures old new out_old out_new files
        directory words rows definitions (Ok tt) → Split
    split_tables = ⊎_elim (λ mistake. cc mistake.1.0) (λ parts. split_parts parts.0 parts.1 parts.2)

  split_files : (rows : ℕ) → SplitsFiles there begins_tiles begins_stretches takes texts makes taken failures old new out_old
      out_new files path directory words rows (Ok tt) → Split
  split_files rows is =
      of_schema (ReadsSchema (files path))
      (λ definitions. SplitsTables there begins_tiles begins_stretches takes texts makes taken failures old new out_old out_new
      files directory words rows definitions (Ok tt))
      (λ failure. EndsBefore there begins_tiles begins_stretches takes texts makes taken failures old new out_old out_new (Ok tt)
      (e.Failed failure))
      (λ definitions read. split_tables rows definitions read) (λ failure before. cc before.0) is.schema is.read is.rest

-- splitting by the words of the command line has written these
pub split_words : {O T S : Type 0} (there : O → Option Bool) (begins_tiles begins_stretches : O → List ℕ → T → Type 0)
    (takes : O → T → O → Type 0) (texts : T → Texts) (makes : O → List ℕ → O → Type 0) (taken : S → Option (List ℕ))
    (failures : S → ℕ) (old new : O) (out_old out_new : S) (files : Files) (words : Words)
    → SplitsWords there begins_tiles begins_stretches takes texts makes taken failures old new out_old out_new files words (Ok tt)
    → AreSplit begins_tiles begins_stretches takes texts makes old new files words.schema.now words.directory.now
    (map (λ word. word.now) words.parts.items)
split_words there begins_tiles begins_stretches takes texts makes taken failures old new out_old out_new files words =
    ⊎_elim (λ wrong. cc wrong.1.0)
    (λ is. split_files there begins_tiles begins_stretches takes texts makes taken failures old new out_old out_new files
    words.schema.now words.directory.now (map (λ word. word.now) words.parts.items) is.0 is.2)
