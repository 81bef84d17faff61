-- What each command means: the texts of the outcomes, the files that are opened, and the ends that there may be.
use Rattle.std.specs.Prelude.{◌≡◌, ◌++◌, ◌<◌, ◌⊎◌, ⊤, ℕ, Bool, true, false, List, [], ◌∷◌, codes, decimal, length, map, take, slice_get, IfErr, IfSome, Option, Some, None, Result, Ok, Err}
use denote.Ref.{Bor}
use Rattle.command_line.specs.declared.known_commands.Order.{Order}
use Rattle.command_line.specs.declared.known_commands.Order.TheVariants as orders
use Rattle.failures.specs.declared.failure.Failure.{Failure}
use Rattle.failures.specs.declared.failure.Failure.TheVariants as f
use Rattle.failures.specs.declared.run_fault.Fault.{Fault}
use Rattle.failures.specs.declared.run_fault.Fault.TheVariants as faults
use Rattle.engine.specs.declared.commands.TheConstants.{SCHEMA_BYTES}
use Rattle.explanations.specs.Faults.{query_place, schema_place}
use Rattle.explanations.specs.Marks.{IsExplanation}
use Rattle.explanations.specs.Notes.{AreNotes}
use Rattle.explanations.specs.Tables.{IsTableExplanation, IsTableNote}
use Rattle.std.specs.Io.KnownBytes.{Consumes}
use Rattle.feature_table.specs.Tables.{EachRecordsOf, EarlierLoad}
use Rattle.query_runs.specs.Runs.{Runs, RunsOver, ShowsRun}
use Rattle.record_reasons.specs.LineEnds.{FindsLineEnd}
use Rattle.record_reasons.specs.NoteTexts.{note_line}
use Rattle.record_reasons.specs.ReasonTexts.{reason_line}
use Rattle.record_reasons.specs.Reasons.{IsReasonOf}
use Rattle.record_reasons.specs.declared.line_ends.LineEnd.{LineEnd}
use Rattle.record_reasons.specs.declared.reason.Reason.{Reason}
use Rattle.std.specs.String.{string_bytes}
use Rattle.table_model.specs.Databases.{load_tables}
use Rattle.table_model.specs.GeometryColumns.{ColumnShape, read_geometry, shape_named}
use Rattle.table_model.specs.Loading.{Record}
use Rattle.table_model.specs.RunOutcomes.{OfTable, Refusal, after}
use Rattle.table_model.specs.SchemaReading.{schema_of}
use Rattle.table_model.specs.SpatialTables.{SpatialSchema, SpatialTable}
use Rattle.table_model.specs.Texts.{same_name}
use Rattle.table_model.specs.declared.definitions.TableDef.{TableDef}
use Rattle.table_model.specs.declared.faults.LoadFault.{LoadFault}
use Rattle.table_model.specs.declared.faults.LoadFault.TheVariants as loading
use Rattle.table_model.specs.declared.faults.QueryFault.{QueryFault}
use Rattle.table_model.specs.declared.faults.SchemaFault.{SchemaFault}
use Rattle.table_model.specs.declared.faults.SchemaFault.TheVariants as s
use Rattle.text_commands.specs.Explanations.{MayExplainEncoding}
use Rattle.text_commands.specs.Files.{Opening}
use Rattle.text_commands.specs.declared.files.File.TheVariants as role
use Rattle.failures.specs.Ends.{End, Writes}
use Rattle.text_commands.specs.Ends.{Serves, Then, failed_writes}
use Rattle.text_commands.specs.Reasons.{ExplainsCells, ExplainsValidity}
use Rattle.text_commands.specs.TextCommands.{ExplainsFault, OverWord, RelatesFile, RelatesWords}
use Rattle.text_commands.specs.GivenTexts.{IsTextOf, ReadsQuery}

-- ---- check

-- the line of a table: its name, a blank and how many rows it has
abbrev pub count_line : TableDef ColumnShape → SpatialTable → List ℕ
count_line definition rows = definition.name ++ codes " " ++ decimal (length rows) ++ codes "\n"

-- the line of each table, in schema order
abbrev pub check_text : SpatialSchema → List SpatialTable → List ℕ
check_text [] tables = []
check_text (definition ∷ definitions) [] = []
check_text (definition ∷ definitions) (rows ∷ tables) = count_line definition rows ++ check_text definitions tables

-- the lines of the tables that the records load as, or the first fault among them
abbrev pub check_outcome : SpatialSchema → List (List Record) → Result (List ℕ) Refusal
check_outcome definitions records =
    after OfTable (load_tables read_geometry definitions records) (λ tables. Ok (check_text definitions tables))

-- reading this table may have failed: it is one of the schema, and each table before it has loaded
abbrev pub IsLoadedTo : SpatialSchema → List (List Record) → ℕ → Type 0
IsLoadedTo definitions records table = (table < length definitions) × EarlierLoad read_geometry definitions records table

-- ---- failures of runs

-- the names of the tables of a schema
abbrev pub table_names : SpatialSchema → List (List ℕ)
table_names definitions = map (λ t. t.name) definitions

-- the failure of a fault of a run; the failure of a table's fault has the table's name
abbrev pub IsFaultOf : SpatialSchema → Fault → Failure → Type 0
IsFaultOf definitions (faults.Query fault) failure = failure ≡ f.Query fault
IsFaultOf definitions (faults.Load table fault) failure =
    (name : Bor (List ℕ)) × (failure ≡ f.Load name fault) × (slice_get (table_names definitions) table ≡ Some name.now)
IsFaultOf definitions faults.Sink failure = failure ≡ f.WriteFailed
IsFaultOf definitions faults.Memory failure = failure ≡ f.OutOfMemory

-- how a run ended: it is done, or its fault is this failure
abbrev pub EndsAs : SpatialSchema → End → (Result (Unit {0}) Fault → Type 0) → Type 0
EndsAs definitions (Ok done) Run = Run (Ok done)
EndsAs definitions (Err failure) Run = (fault : Fault) × IsFaultOf definitions fault failure × Run (Err fault)

-- ---- files

-- a schema's file isn't read: reading failed, or memory ran out
abbrev pub IsUnread : Failure → Type 0
IsUnread failure = (failure ≡ f.SchemaUnreadable) ⊎ (failure ≡ f.OutOfMemory)

-- the failure of a schema's fault, which may be running out of memory
abbrev pub schema_failure : SchemaFault → Failure
schema_failure s.OutOfMemory = f.OutOfMemory
schema_failure fault = f.Schema fault

-- what a schema's file gives: the schema of its text, or the text's first fault; or else the file can't be opened, reading failed, or memory
-- ran out
abbrev pub ReadsSchema : {R : Type 0} → (R → Option (List ℕ)) → Option R → Result SpatialSchema Failure → Type 0
ReadsSchema remaining None result = result ≡ Err f.SchemaUnreadable
ReadsSchema remaining (Some reader) (Ok definitions) =
    (text : List ℕ) × IsTextOf (remaining reader) text × (schema_of shape_named text ≡ Ok definitions)
ReadsSchema remaining (Some reader) (Err (f.Schema fault)) =
    (text : List ℕ) × IsTextOf (remaining reader) text × (schema_of shape_named text ≡ Err fault)
ReadsSchema remaining (Some reader) (Err f.SchemaUnreadable) = ⊤
ReadsSchema remaining (Some reader) (Err f.OutOfMemory) = ⊤
ReadsSchema remaining (Some reader) (Err failure) = ⊥

-- the path of a table's file
abbrev pub table_path : List ℕ → List ℕ → List ℕ
table_path directory name = directory ++ codes "/" ++ name ++ codes ".csv"

-- the paths of the tables' files, in schema order
abbrev pub table_paths : List ℕ → SpatialSchema → List (List ℕ)
table_paths directory definitions = map (table_path directory) (table_names definitions)

-- the function that opens files was called with these paths, in order, and returned these readers
abbrev pub Opens : {F R : Type 0} → Opening F R → F → List (List ℕ) → List R → F → Type 0
Opens opens opener [] [] after = after ≡ opener
Opens opens opener [] (reader ∷ readers) after = ⊥
Opens opens opener (path ∷ paths) [] after = ⊥
Opens {F} opens opener (path ∷ paths) (reader ∷ readers) after = (next : F) × opens role.Table opener path (Some reader) next × Opens opens next paths readers after

-- the readers of the tables' files, or the first that can't be opened, and the state that this leaves; or memory ran out
abbrev pub OpensTables : {F R : Type 0} → Opening F R → F → List ℕ → SpatialSchema → Result (List R) Failure → F → Type 0
OpensTables opens opener directory definitions (Ok readers) after = Opens opens opener (table_paths directory definitions) readers after
OpensTables {F} {R} opens opener directory definitions (Err (f.Unreadable name)) after =
    (place : ℕ) × (readers : List R) × (next : F)
    × Opens opens opener (take place (table_paths directory definitions)) readers next
    × opens role.Table next (table_path directory name.now) None after
    × (slice_get (table_names definitions) place ≡ Some name.now)
OpensTables opens opener directory definitions (Err f.OutOfMemory) after = ⊤
OpensTables opens opener directory definitions (Err failure) after = ⊥

-- ---- commands over files

-- the command ends like this over some records of these readers
abbrev pub OverReaders : {R : Type 0} → (R → Option (List ℕ)) → (List (List Record) → End → Type 0) → End → List R → Type 0
OverReaders remaining Over end readers = (records : List (List Record)) × EachRecordsOf (map remaining readers) records × Over records end

-- how a command over the tables of a schema ends: all their files are opened, in schema order, and it ends over their records; else it ends
-- in the failure of opening them; either leaves the opener in the state `after`
pub record OverTables {F R : Type 0} (opens : Opening F R) (remaining : R → Option (List ℕ)) (opener after : F) (directory : List ℕ)
    (definitions : SpatialSchema) (Over : List (List Record) → End → Type 0) (end : End) (Nothing : Type 0) : Type 0 where
  pub readers : Result (List R) Failure
  pub opened : OpensTables opens opener directory definitions readers after
  pub rest : Then readers (OverReaders remaining Over end) end Nothing

-- the rest of a command after its schema's file is read: it goes on with the schema, or ends in the failure of reading it
abbrev pub AfterSchema : Result SpatialSchema Failure → (SpatialSchema → Type 0) → End → (Failure → Type 0) → Type 0
AfterSchema (Ok definitions) Over end Unread = Over definitions
AfterSchema (Err failure) Over end Unread = (end ≡ Err failure) × Unread failure

-- how a command over files ends: the schema's file is opened first, and the command ends over its schema; else it ends in the failure of reading it
pub record OverFiles {F R : Type 0} (opens : Opening F R) (remaining : R → Option (List ℕ)) (opener : F) (path : List ℕ)
    (Over : F → SpatialSchema → End → Type 0) (end : End) (Unread : Option R → Failure → Type 0) : Type 0 where
  pub file : Option R
  pub next : F
  pub opened : opens role.Schema opener path file next
  pub schema : Result SpatialSchema Failure
  pub read : ReadsSchema remaining file schema
  pub rest : AfterSchema schema (λ definitions. Over next definitions end) end (Unread file)

-- a run over the tables' records may end like this; where a table has a fault, these are its header and the record that shows it
pub record RunEnds (definitions : SpatialSchema) (query : List ℕ) (header last : Record) (old new : Option (List ℕ)) (before after : ℕ)
    (records : List (List Record)) (end : End) : Type 0 where
  pub runs : EndsAs definitions end (λ result. RunsOver result definitions records query old new × IfErr result (ShowsRun records header last))
  pub failures : after ≡ failed_writes before end

-- counting the rows of the tables may end like this, and so are these those of a fault
pub record CheckEnds (definitions : SpatialSchema) (header last : Record) (old new : Option (List ℕ)) (before after : ℕ)
    (records : List (List Record)) (end : End) : Type 0 where
  pub checks : EndsAs definitions end (λ result. Runs result (check_outcome definitions records) (IsLoadedTo definitions records) old new
      × IfErr result (ShowsRun records header last))
  pub failures : after ≡ failed_writes before end

-- the sink of the answer, before and after a command
module _ {F R S : Type 0} (opens : Opening F R) (remaining : R → Option (List ℕ)) (taken : S → Option (List ℕ)) (failures : S → ℕ) (old new : S) where
  -- a run over the files of the tables of a schema ends so, and leaves the opener in the state `after`, and the header and record of a fault
  abbrev pub RunsTables : F → F → List ℕ → List ℕ → SpatialSchema → Record → Record → End → Type 0
  RunsTables next after directory query definitions header last end =
      OverTables opens remaining next after directory definitions
      (RunEnds definitions query header last (taken old) (taken new) (failures old) (failures new)) end (new ≡ old)

  -- and counting their rows
  abbrev pub ChecksTables : F → F → List ℕ → SpatialSchema → Record → Record → End → Type 0
  ChecksTables next after directory definitions header last end =
      OverTables opens remaining next after directory definitions
      (CheckEnds definitions header last (taken old) (taken new) (failures old) (failures new)) end (new ≡ old)

-- ---- reasons

-- the sink of explanations, before and after
module _ {M : Type 0} (taken : M → Option (List ℕ)) (failures : M → ℕ) (old new : M) where
  -- what explains a fault at this place of a text was written, or a beginning of it
  abbrev pub ExplainsAt : List ℕ → Option ℕ → Type 0
  ExplainsAt text place =
      (explanation : List ℕ) × IsExplanation text place explanation × Writes (taken old) (taken new) (failures old) (failures new) explanation

  -- notes on a query were written, at most two, or a beginning of them
  abbrev pub NotesQuery : List ℕ → Type 0
  NotesQuery query = (notes : List ℕ) × AreNotes query notes × Writes (taken old) (taken new) (failures old) (failures new) notes

  -- what is written of a failure of reading the text of a schema: what explains a fault of the text, or a beginning of it
  abbrev pub SaysOfSchema : List ℕ → Failure → Type 0
  SaysOfSchema text (f.Schema fault) = ExplainsAt text (schema_place fault)
  SaysOfSchema text failure = new ≡ old

  -- what is written of a failure of reading the text of a schema, if that is asked for: what explains a fault of the text, unless memory ran out
  abbrev pub MayExplainSchema : List ℕ → Failure → Type 0
  MayExplainSchema text failure = (new ≡ old) ⊎ ((fault : SchemaFault) × (failure ≡ f.Schema fault) × ExplainsAt text (schema_place fault))

  -- what is written of a failure of reading a schema's file, if that is asked for: what explains a fault of its text, unless memory ran out; as much
  -- of the file is read as a schema may have, and a byte more
  abbrev pub MayExplainFile : {R : Type 0} → (R → Option (List ℕ)) → Option R → Failure → Type 0
  MayExplainFile {R} remaining file failure =
      (new ≡ old)
      ⊎ ((reader : R) × (text : List ℕ) × (fault : SchemaFault) × (file ≡ Some reader)
      × IfSome (remaining reader) (λ bytes. text ≡ take SCHEMA_BYTES bytes) × (failure ≡ f.Schema fault) × ExplainsAt text (schema_place fault))

  -- what is written of a failure of reading a schema's file: nothing, if that isn't asked for
  abbrev pub ExplainsFile : Bool → {R : Type 0} → (R → Option (List ℕ)) → Option R → Failure → Type 0
  ExplainsFile false remaining file failure = new ≡ old
  ExplainsFile true remaining file failure = MayExplainFile remaining file failure

-- the table at this place has this name, in any ASCII case, as no other table of its schema has
abbrev pub IsNamed : SpatialSchema → List ℕ → ℕ → Type 0
IsNamed definitions name place = (table : TableDef ColumnShape) × (slice_get definitions place ≡ Some table) × (same_name table.name name ≡ true)

-- the line that says what is wrong: that of the reason of a table's fault, in its text or in the header and the record that show it, or none
abbrev pub SaysReason : List ℕ → TableDef ColumnShape → Record → Record → LoadFault → List ℕ → Type 0
SaysReason text table header last fault line =
    (line ≡ []) ⊎ ((reason : Reason) × IsReasonOf (Some text) table header last fault reason × (line ≡ reason_line reason))

-- the file of the table of this name is opened again, in the state `before`, and read: this text is what was taken of it, and all of it, if it is whole
pub record ReadsAgain {F R : Type 0} (opens : Opening F R) (remaining : R → Option (List ℕ)) (directory name : List ℕ) (before after : F)
    (text : List ℕ) (whole : Bool) : Type 0 where
  pub reader : R
  pub opened : opens role.Table before (table_path directory name) (Some reader) after
  pub left : R
  pub front : Consumes (remaining reader) (remaining left) text
  pub all : whole ≡ true → IfSome (remaining reader) (λ bytes. text ≡ bytes)

-- what explains the fault of the table of this name: its reason, and the place in its file, which is opened again, in the state `before`; where
-- reading had failed, a front of the text has it
pub record ExplainsTable {F R : Type 0} (opens : Opening F R) (remaining : R → Option (List ℕ)) (before : F) (directory : List ℕ)
    (definitions : SpatialSchema) (header last : Record) (name : List ℕ) (fault : LoadFault) (explanation : List ℕ) : Type 0 where
  pub place : ℕ
  pub named : IsNamed definitions name place
  pub table : TableDef ColumnShape
  pub there : slice_get definitions place ≡ Some table
  pub after : F
  pub text : List ℕ
  pub whole : Bool
  pub read : ReadsAgain opens remaining directory name before after text whole
  pub all : (whole ≡ true) ⊎ (fault ≡ loading.ReadFailed)
  pub line : List ℕ
  pub says : SaysReason text table header last fault line
  pub explains : IsTableExplanation text fault line explanation

-- what explains a table's fault was written, or a beginning of it
pub record ExplainsLoad {F R E : Type 0} (opens : Opening F R) (remaining : R → Option (List ℕ)) (taken : E → Option (List ℕ))
    (failures : E → ℕ) (old new : E) (before : F) (directory : List ℕ) (definitions : SpatialSchema) (header last : Record) (name : List ℕ)
    (fault : LoadFault) : Type 0 where
  pub explanation : List ℕ
  pub explains : ExplainsTable opens remaining before directory definitions header last name fault explanation
  pub written : Writes (taken old) (taken new) (failures old) (failures new) explanation

-- either what explains a table's fault was written, or a beginning of it; or nothing was, where the reason isn't found, the file can't be opened or
-- read again, or memory ran out
abbrev pub MayExplainLoad : {F R E : Type 0} → Opening F R → (R → Option (List ℕ)) → (E → Option (List ℕ)) → (E → ℕ) → E → E
    → F → List ℕ → SpatialSchema → Record → Record → List ℕ → LoadFault → Type 0
MayExplainLoad opens remaining taken failures old new before directory definitions header last name fault =
    (new ≡ old) ⊎ ExplainsLoad opens remaining taken failures old new before directory definitions header last name fault

-- the file of the table of this name may have been opened
abbrev pub MayOpen : {F R : Type 0} → Opening F R → List ℕ → List ℕ → F → F → Type 0
MayOpen {R = R} opens directory name before after =
    (after ≡ before) ⊎ ((file : Option R) × opens role.Table before (table_path directory name) file after)

-- the sink of standard error
module _ {E : Type 0} (taken : E → Option (List ℕ)) (failures : E → ℕ) where
  -- either the place in a text where the quote of a record's field opens was written, or a beginning of it, or nothing
  abbrev pub SaysQuote : List ℕ → ℕ → E → E → Type 0
  SaysQuote text number old new =
      (new ≡ old) ⊎ ((note : List ℕ) × IsTableNote text number note × Writes (taken old) (taken new) (failures old) (failures new) note)

  -- the line of a field with a line end was written, or a beginning of it, and where its quote opens; without such a field nothing was
  abbrev pub Notes : List ℕ → List ℕ → Option LineEnd → E → E → Type 0
  Notes name text (Some at_field) old new =
      (shown : E) × Writes (taken old) (taken shown) (failures old) (failures shown) (note_line name at_field)
      × SaysQuote text at_field.number shown new
  Notes name text None old new = new ≡ old

  -- what is written of the text of the table of this name: of its first field with a line end, if it has one; nothing, where memory ran out
  abbrev pub MayNoteText : List ℕ → List ℕ → E → E → Type 0
  MayNoteText name text old new = (new ≡ old) ⊎ ((found : Option LineEnd) × FindsLineEnd (Some text) found × Notes name text found old new)

-- the sink of standard error, and the folder of the tables' files
module _ {F R E : Type 0} (opens : Opening F R) (remaining : R → Option (List ℕ)) (taken : E → Option (List ℕ)) (failures : E → ℕ) (directory : List ℕ) where
  -- what is written of the table of this name, which has loaded, and the states of the opener: nothing, where its file can't be read again
  abbrev pub NotesTable : List ℕ → F → F → E → E → Type 0
  NotesTable name before after old new =
      (MayOpen opens directory name before after × (new ≡ old))
      ⊎ ((text : List ℕ) × ReadsAgain opens remaining directory name before after text true × MayNoteText taken failures name text old new)

  -- and of the tables of these names, one after another
  abbrev pub NotesTables : List (List ℕ) → F → F → E → E → Type 0
  NotesTables [] before after old new = (after ≡ before) × (new ≡ old)
  NotesTables (name ∷ names) before after old new =
      (middle : F) × (next : E) × NotesTable name before middle old next × NotesTables names middle after next new

-- the sink of explanations, before and after a command that leaves the opener in this state, and this header and record of a fault
module _ {F R M : Type 0} (opens : Opening F R) (remaining : R → Option (List ℕ)) (taken : M → Option (List ℕ)) (failures : M → ℕ) (old new : M)
    (loaded : F) (directory : List ℕ) (header last : Record) where
  -- what explains the end of a run: notes on its query, if it is done; else the fault of its query or of a table
  abbrev pub SaysOfRun : List ℕ → SpatialSchema → End → Type 0
  SaysOfRun query definitions (Ok done) = NotesQuery taken failures old new query
  SaysOfRun query definitions (Err (f.Query fault)) = ExplainsAt taken failures old new query (query_place fault)
  SaysOfRun query definitions (Err (f.Load name fault)) =
      ExplainsLoad opens remaining taken failures old new loaded directory definitions header last name.now fault
  SaysOfRun query definitions (Err _) = ⊥

  -- what is written of a run that ends so: nothing, if that isn't asked for; else notes on its query, or what explains its failure, or nothing,
  -- where there is no failure that is explained, or as for a table's fault, or memory ran out
  abbrev pub ExplainsRun : Bool → List ℕ → SpatialSchema → End → Type 0
  ExplainsRun false query definitions end = new ≡ old
  ExplainsRun true query definitions end = (new ≡ old) ⊎ SaysOfRun query definitions end

  -- what explains a failure of a check: the fault of a table
  abbrev pub SaysOfTables : SpatialSchema → Failure → Type 0
  SaysOfTables definitions (f.Load name fault) =
      ExplainsLoad opens remaining taken failures old new loaded directory definitions header last name.now fault
  SaysOfTables definitions _ = ⊥

  -- what is written of a check that ends so, if that is asked for: all notes on its tables, if it is done; else what explains its failure, or nothing
  abbrev pub SaysOfCheck : SpatialSchema → End → Type 0
  SaysOfCheck definitions (Ok done) =
      (after : F) × NotesTables opens remaining taken failures directory (table_names definitions) loaded after old new
  SaysOfCheck definitions (Err failure) = (new ≡ old) ⊎ SaysOfTables definitions failure

  -- what is written of a check that ends so: nothing, if that isn't asked for
  abbrev pub ExplainsCheck : Bool → SpatialSchema → End → Type 0
  ExplainsCheck false definitions end = new ≡ old
  ExplainsCheck true definitions end = SaysOfCheck definitions end

-- ---- commands with their explanations

-- the sink of the answer and that of explanations, before and after a command, and whether explanations are asked for
module _ {F R S M : Type 0} (opens : Opening F R) (remaining : R → Option (List ℕ)) (taken : S → Option (List ℕ)) (failures : S → ℕ) (old new : S)
    (mtaken : M → Option (List ℕ)) (mfailures : M → ℕ) (mold mnew : M) (why : Bool) where
  -- the schema's file isn't read: no answer is written, but perhaps what explains the fault of its text
  abbrev pub EndsUnread : Option R → Failure → Type 0
  EndsUnread file failure = (new ≡ old) × ExplainsFile mtaken mfailures mold mnew why remaining file failure

  -- running a query over a schema's file and those of its tables ends so
  abbrev pub RunsFiles : F → List ℕ → List ℕ → List ℕ → End → Type 0
  RunsFiles opener schema directory query end =
      OverFiles opens remaining opener schema
      (λ next definitions ending. (after : F) × (header last : Record)
      × RunsTables opens remaining taken failures old new next after directory query definitions header last ending
      × ExplainsRun opens remaining mtaken mfailures mold mnew after directory header last why query definitions ending)
      end EndsUnread

  -- and running the query that a word gives, whose text is got first; where it isn't, perhaps its file is said not to be UTF-8
  abbrev pub RunsQuery : F → List ℕ → List ℕ → List ℕ → End → Type 0
  RunsQuery opener schema directory word end =
      OverWord (opens role.Query) (ReadsQuery remaining) opener word (λ next query. RunsFiles next schema directory query) end
      ((new ≡ old) × MayExplainEncoding mtaken mfailures mold mnew word)

  -- and counting the rows of its tables
  abbrev pub ChecksFiles : F → List ℕ → List ℕ → End → Type 0
  ChecksFiles opener schema directory end =
      OverFiles opens remaining opener schema
      (λ next definitions ending. (after : F) × (header last : Record)
      × ChecksTables opens remaining taken failures old new next after directory definitions header last ending
      × ExplainsCheck opens remaining mtaken mfailures mold mnew after directory header last why definitions ending)
      end EndsUnread

-- ---- orders

-- a command ends like this, and explains nothing
abbrev pub ServesUnexplained : {E M : Type 0} → (E → Option (List ℕ)) → (E → ℕ) → M → M → (End → Type 0) → ℕ → E → E → Type 0
ServesUnexplained taken failures mold mnew Ends status before after = Serves taken failures Ends status before after × (mnew ≡ mold)

module _ {F R E S M : Type 0} (opens : Opening F R) (remaining : R → Option (List ℕ)) (etaken : E → Option (List ℕ)) (efailures : E → ℕ)
    (taken : S → Option (List ℕ)) (failures : S → ℕ) (old new : S) (mtaken : M → Option (List ℕ)) (mfailures : M → ℕ) (mold mnew : M) (why : Bool) where
  -- doing what an order says, and explaining it, if that is asked for
  abbrev pub ServesOrder : F → Order → ℕ → E → E → Type 0
  ServesOrder opener (orders.Run schema directory query asks) status before after =
      Serves etaken efailures (RunsQuery opens remaining taken failures old new mtaken mfailures mold mnew why opener (string_bytes schema) (string_bytes directory) (string_bytes query)) status before after
  ServesOrder opener (orders.Check schema directory asks) status before after =
      Serves etaken efailures (ChecksFiles opens remaining taken failures old new mtaken mfailures mold mnew why opener (string_bytes schema) (string_bytes directory)) status before after
  ServesOrder opener (orders.Relate first second asks) status before after =
      Serves etaken efailures (RelatesWords opens remaining taken failures old new mtaken mfailures mold mnew opener (string_bytes first) (string_bytes second)) status before after
  ServesOrder opener (orders.Why first (Some second) asks) status before after =
      Serves etaken efailures (ExplainsCells opens remaining taken failures old new mtaken mfailures mold mnew opener (string_bytes first) (string_bytes second)) status before after
  ServesOrder opener (orders.Why first None asks) status before after =
      Serves etaken efailures (ExplainsValidity opens remaining taken failures old new mtaken mfailures mold mnew opener (string_bytes first)) status before after
  ServesOrder opener (orders.Pairs file asks) status before after =
      Serves etaken efailures (RelatesFile opens remaining taken failures old new mtaken mfailures mold mnew opener (string_bytes file)) status before after
  ServesOrder opener (orders.Fault words) status before after =
      ServesUnexplained etaken efailures mold mnew (ExplainsFault taken failures old new (map string_bytes words.items)) status before after

-- doing what an order says, with no explanation and no sink for one
abbrev pub ServesAlone : {F R E S : Type 0} → Opening F R → (R → Option (List ℕ)) → (E → Option (List ℕ)) → (E → ℕ)
    → (S → Option (List ℕ)) → (S → ℕ) → S → S → F → Order → ℕ → E → E → Type 0
ServesAlone opens remaining etaken efailures taken failures old new =
    ServesOrder opens remaining etaken efailures taken failures old new (λ none. None) (λ none. 0) (tt {0}) (tt {0}) false
