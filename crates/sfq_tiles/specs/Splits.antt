-- What splitting does: by the words of the command line, the schema and the tables, what is written, or how it ends.
use Rattle.std.specs.Prelude.{◌≡◌, ◌≤◌, ◌⊎◌, ◌++◌, ⊤, ℕ, Bool, true, false, List, [], ◌∷◌, Option, Some, None, Result, Ok, Err}
use Rattle.std.specs.Prelude.{IfSome, if◌then◌else◌, is_some, map, slice_get, string_bytes, MatchResult}
use denote.Ref.{Bor}
use Rattle.std.specs.List.{list_any}
use Rattle.std.specs.Io.KnownBytes.{Appends}
use Rattle.std.specs.Str.Parse.{IsNumeral, digits_value, without_leading_plus}
use Rattle.basics.specs.Counts.{one_more}
use Rattle.failures.specs.Ends.{Writes}
use Rattle.failures.specs.declared.failure.Failure.{Failure}
use Rattle.failures.specs.declared.failure.Failure.TheVariants as f
use Rattle.feature_table.specs.GeometryFields.{ShapeValue}
use Rattle.geometry_model.specs.Envelopes.{Envelope}
use Rattle.sfq_tiles.specs.Checks.{AreChecked, Files, IsCheckEnding, IsTableEnding, ReadsSchema, table_path}
use Rattle.sfq_tiles.specs.Endings.{ending_line, ending_of, ending_status}
use Rattle.sfq_tiles.specs.Lists.{stretches_list, tiles_text}
use Rattle.sfq_tiles.specs.MadeTables.{AreMade}
use Rattle.sfq_tiles.specs.SchemaTexts.{text_of}
use Rattle.sfq_tiles.specs.Words.{AreNamed}
use Rattle.sfq_tiles.specs.declared.endings.Ending.{Ending}
use Rattle.sfq_tiles.specs.declared.endings.Ending.TheVariants as e
use Rattle.sfq_tiles.specs.declared.listing.Written.{Written}
use Rattle.sfq_tiles.specs.declared.parts.Mistake.{Mistake}
use Rattle.sfq_tiles.specs.declared.parts.NamedPart.{NamedPart}
use Rattle.sfq_tiles.specs.declared.words.Words.{Words}
use Rattle.streams.specs.Sinks.{AppendsFront}
use Rattle.table_laws.specs.Cells.{CutsGrid}
use Rattle.table_model.specs.GeometryColumns.{shape_named}
use Rattle.table_model.specs.Loading.{Record}
use Rattle.table_model.specs.SchemaGrammar.{IsSchema}
use Rattle.table_model.specs.SpatialTables.{SpatialSchema}
use Rattle.table_model.specs.declared.definitions.TableDef.{TableDef}
use Rattle.tiles.specs.Copies.{AreRecordsOfTable, AreWritten, size_of, stretches_of, tiles_of}
use Rattle.tiles.specs.RecordLines.{names_of}
use Rattle.tiles.specs.Texts.{Texts}

-- ---- parts

-- the header of each text of a part: the columns that are copied, and in tiles the marks
abbrev pub header_by : NamedPart → Option ℕ → Record
header_by part None = names_of part.table.now.columns part.columns.items
header_by part (Some column) = names_of part.table.now.columns part.columns.items ++ string_bytes part.west ∷ string_bytes part.south ∷ []

abbrev pub header_of : NamedPart → Record
header_of part = header_by part part.column

-- the tables of a part: its tiles by its column, one for each cell; without one its stretches
abbrev pub tables_by : List Envelope → ℕ → NamedPart → List Record → Option ℕ → List (List Record)
tables_by boxes rows part records None = stretches_of (size_of rows) part.table.now.columns part.columns.items records
tables_by boxes rows part records (Some column) = tiles_of boxes part.table.now.columns column part.columns.items records

abbrev pub tables_of : List Envelope → ℕ → NamedPart → List Record → List (List Record)
tables_of boxes rows part records = tables_by boxes rows part records part.column

-- whether some part has tiles
abbrev pub has_tiles : List NamedPart → Bool
has_tiles parts = list_any (λ part. is_some part.column) parts

-- the schema of the parts is one, of exactly their tables
abbrev pub HasSchema : List NamedPart → Type 0
HasSchema parts = (tables : List (TableDef ShapeValue)) × IsSchema shape_named (text_of parts) tables × AreMade parts tables

-- a table is that of some part
abbrev pub IsOfPart : List NamedPart → TableDef ShapeValue → Type 0
IsOfPart parts table = (place : ℕ) × (part : NamedPart) × (slice_get parts place ≡ Some part) × (table ≡ part.table.now)

-- the list of the parts that were written
abbrev pub list_of : List NamedPart → List Envelope → List Written → List ℕ
list_of parts boxes written = if has_tiles parts then tiles_text written boxes else stretches_list written

-- ---- where parts are written: `makes`, `begins_tiles`, `begins_stretches` and `takes` of `Targets`, and `texts` of its texts

module _ {O T : Type 0} (begins_tiles begins_stretches : O → List ℕ → T → Type 0) (takes : O → T → O → Type 0) (texts : T → Texts) where
  -- the texts of a part were begun: of tiles where it has a column for them, else of stretches
  abbrev pub Begins : O → List ℕ → Option ℕ → T → Type 0
  Begins old name None begun = begins_stretches old name begun
  Begins old name (Some column) begun = begins_tiles old name begun

  -- a part was written: its texts were begun under its name, got exactly its tables, of the records of its table's file, and were taken
  pub record IsWritten (files : Files) (directory : List ℕ) (boxes : List Envelope) (rows : ℕ) (part : NamedPart) (counts : List ℕ) (old new : O) : Type 0 where
    pub records : List Record
    pub are_of : AreRecordsOfTable (files (table_path directory part.table.now.name)) part.table.now.columns records
    pub begun : T
    pub filled : T
    pub begins : Begins old part.name.now part.column begun
    pub gets : AreWritten (texts begun) (texts filled) (header_of part) (tables_of boxes rows part records) counts
    pub taken : takes old filled new

  -- parts were written, one after another, each under its name
  abbrev pub AreAllWritten : Files → List ℕ → List Envelope → ℕ → List NamedPart → List Written → O → O → Type 0
  AreAllWritten files directory boxes rows [] [] old new = new ≡ old
  AreAllWritten files directory boxes rows [] (w ∷ written) old new = ⊥
  AreAllWritten files directory boxes rows (part ∷ parts) [] old new = ⊥
  AreAllWritten files directory boxes rows (part ∷ parts) (w ∷ written) old new =
      (next : O) × (w.name.now ≡ part.name.now) × IsWritten files directory boxes rows part w.counts.items old next
      × AreAllWritten files directory boxes rows parts written next new

  -- the schema and the parts of one cut were written and listed, and nothing else
  pub record ArePut (makes : O → List ℕ → O → Type 0) (files : Files) (directory : List ℕ) (boxes : List Envelope) (rows : ℕ) (text : List ℕ)
      (parts : List NamedPart) (Lists : List ℕ → Type 0) (old new : O) : Type 0 where
    pub made : O
    pub schema : makes old text made
    pub written : List Written
    pub all : AreAllWritten files directory boxes rows parts written made new
    pub listed : Lists (list_of parts boxes written)

-- ---- ends

-- how splitting ends: done, or early
abbrev pub End : Type 0
End = Result (Unit {0}) Ending

-- why it ends before anything is made: no schema has the tables of the parts, memory ran out, or not all tables are checked
abbrev pub IsEarly : Files → List ℕ → SpatialSchema → List NamedPart → Ending → Type 0
IsEarly files directory definitions parts (e.Mistaken said) = HasSchema parts → ⊥
IsEarly files directory definitions parts ending = IsCheckEnding files directory definitions ending

-- why it ends after all tables were checked: a file can't be written, memory ran out, or one of these tables can't be read again as
-- it was
abbrev pub IsLate : Files → List ℕ → (TableDef ShapeValue → Type 0) → Ending → Type 0
IsLate files directory IsOne (e.Mistaken said) = ⊥
IsLate files directory IsOne e.Unwritable = ⊤
IsLate files directory IsOne (e.Failed f.OutOfMemory) = ⊤
IsLate files directory IsOne (e.Failed failure) =
    (table : TableDef ShapeValue) × IsOne table × IsTableEnding files directory table (e.Failed failure)

-- whether something is there already, as far as that is known
abbrev pub IsFound : Option Bool → Bool → Type 0
IsFound known found = IfSome known (λ is_there. found ≡ is_there)

-- the status of an end
abbrev pub end_status : End → ℕ
end_status (Ok done) = 0
end_status (Err ending) = ending_status ending

-- what is written to standard error: nothing where splitting is done, else the line of the ending, or a beginning of it
abbrev pub Reports : {E : Type 0} → (E → Option (List ℕ)) → (E → ℕ) → End → E → E → Type 0
Reports taken failures (Ok done) old new = new ≡ old
Reports taken failures (Err ending) old new = Writes (taken old) (taken new) (failures old) (failures new) (ending_line ending)

-- how many rows a word asks for (SQL, unsigned integer; the limit: this project's choice)
abbrev pub IsNumberOf : List ℕ → ℕ → Type 0
IsNumberOf word rows =
    IsNumeral 10 (without_leading_plus word) × (1 ≤ rows) × (rows ≤ 100000) × (rows ≡ digits_value 10 (without_leading_plus word))

-- where parts are written and listed, before and after; `there`: whether something is there already, where that is known
module _ {O T S : Type 0} (there : O → Option Bool) (begins_tiles begins_stretches : O → List ℕ → T → Type 0) (takes : O → T → O → Type 0) (texts : T → Texts)
    (makes : O → List ℕ → O → Type 0) (taken : S → Option (List ℕ)) (failures : S → ℕ) (old new : O) (out_old out_new : S) where
  -- parts are written and listed; or the list isn't written whole; or nothing is listed, as a file can't be written, a table can't be read
  -- again as it was, or memory ran out
  abbrev pub WritesParts : Files → List ℕ → List Envelope → ℕ → List ℕ → List NamedPart → End → Type 0
  WritesParts files directory boxes rows text parts end =
      ((end ≡ Ok tt) × ArePut begins_tiles begins_stretches takes texts makes files directory boxes rows text parts
      (λ list. Appends (taken out_old) (taken out_new) list × (failures out_new ≡ failures out_old)) old new)
      ⊎ ((end ≡ Err (e.Failed f.WriteFailed)) × ArePut begins_tiles begins_stretches takes texts makes files directory boxes rows text parts
      (λ list. AppendsFront (taken out_old) (taken out_new) list × (failures out_new ≡ one_more (failures out_old))) old new)
      ⊎ ((ending : Ending) × (end ≡ Err ending) × (out_new ≡ out_old) × IsLate files directory (IsOfPart parts) ending)

  -- it ends so, and nothing is made or listed
  abbrev pub EndsBefore : End → Ending → Type 0
  EndsBefore end ending = (end ≡ Err ending) × (new ≡ old) × (out_new ≡ out_old)

  -- splitting into some parts: all tables are checked, and then they are written by one cut, where nothing is yet, with a schema that is
  -- read as their tables; or it ends before anything is made
  abbrev pub SplitsParts : Files → List ℕ → ℕ → SpatialSchema → List NamedPart → End → Type 0
  SplitsParts files directory rows definitions parts end =
      ((ending : Ending) × EndsBefore end ending × IsEarly files directory definitions parts ending)
      ⊎ (EndsBefore end e.Unwritable × IsFound (there old) true)
      ⊎ (IsFound (there old) false × AreChecked files directory definitions × HasSchema parts
      × (boxes : List Envelope) × CutsGrid boxes × WritesParts files directory boxes rows (text_of parts) parts end)

  -- splitting the tables of a schema into the parts that words name; or a word is wrong, or memory ran out
  abbrev pub SplitsTables : Files → List ℕ → List (List ℕ) → ℕ → SpatialSchema → End → Type 0
  SplitsTables files directory words rows definitions end =
      ((mistake : Mistake) × EndsBefore end (ending_of mistake))
      ⊎ ((parts : List NamedPart) × AreNamed definitions words parts × SplitsParts files directory rows definitions parts end)

  -- splitting the tables of a schema's file; or the file isn't read, or its text is refused
  pub record SplitsFiles (files : Files) (path directory : List ℕ) (words : List (List ℕ)) (rows : ℕ) (end : End) : Type 0 where
    pub schema : Result SpatialSchema Failure
    pub read : ReadsSchema (files path) schema
    pub rest : MatchResult schema (λ definitions. SplitsTables files directory words rows definitions end) (λ failure. EndsBefore end (e.Failed failure))

  -- splitting by the words of the command line; or the number of rows is wrong
  abbrev pub SplitsWords : Files → Words → End → Type 0
  SplitsWords files words end =
      ((said : Bor (List ℕ)) × EndsBefore end (e.Mistaken said) × ((rows : ℕ) → IsNumberOf words.rows.now rows → ⊥))
      ⊎ ((rows : ℕ) × IsNumberOf words.rows.now rows
      × SplitsFiles files words.schema.now words.directory.now (map (λ word. word.now) words.parts.items) rows end)

-- what a call promises that may end in these ways: it returns the status of one of them, and standard error has its line
pub record Returns {E : Type 0} (taken : E → Option (List ℕ)) (failures : E → ℕ) (Ends : End → Type 0) (status : ℕ) (old new : E) : Type 0 where
  pub end : End
  pub ends : Ends end
  pub returned : status ≡ end_status end
  pub reported : Reports taken failures end old new
