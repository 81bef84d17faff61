-- What a command does with an opener of files, it does with the opener of paths that this one calls: each state of the first has one of the
-- second under it, and each call a call.
use Rattle.std.proofs.Common.{true, false, ◌≡◌, inl, inr, ℕ, Bool, List, [], ◌∷◌, Option, None, Some, Result, Ok, Err, refl, ap}
use Rattle.std.specs.String.{string_bytes}
use denote.Ref.{Bor}
use Rattle.command_line.specs.declared.known_commands.Order.{Order}
use Rattle.command_line.specs.declared.known_commands.Order.TheVariants as orders
use Rattle.engine.specs.Commands.{AfterSchema, EndsUnread, ExplainsCheck, ExplainsFile, ExplainsLoad, ExplainsRun, NotesTable, NotesTables, Opens, OpensTables, OverFiles, OverTables, ReadsAgain, ServesAlone, ServesOrder, table_names, table_path, table_paths}
use Rattle.failures.specs.declared.failure.Failure.{Failure}
use Rattle.failures.specs.declared.failure.Failure.TheVariants as f
use Rattle.table_model.specs.Loading.{Record}
use Rattle.table_model.specs.SpatialTables.{SpatialSchema}
use Rattle.table_model.specs.declared.faults.LoadFault.{LoadFault}
use Rattle.failures.specs.Ends.{End}
use Rattle.text_commands.specs.Ends.{Serves, Then}
use Rattle.text_commands.specs.Explanations.{MayExplainEncoding, MayExplainText, MayExplainTexts}
use Rattle.text_commands.specs.Files.{Opening, Role, path_of}
use Rattle.text_commands.specs.GivenTexts.{GivesBy, file_named}
use Rattle.text_commands.specs.PairNotes.{MayNotePairs}
use Rattle.text_commands.specs.TextCommands.{OverTexts, OverWord, RelatesReader}
use Rattle.text_commands.specs.declared.files.File.TheVariants as role

-- ---- ends

then-more : {X : Type 0} {Rest Rest' : X → Type 0} {Nothing Nothing' : Type 0} (step : Result X Failure) (end : End)
    → (Nothing → Nothing') → ((x : X) → Rest x → Rest' x) → Then step Rest end Nothing → Then step Rest' end Nothing'
then-more (Ok x) end less more rest = more x rest
then-more (Err failure) end less more rest = (rest.0, less rest.1)

schema-more : {Rest Rest' : SpatialSchema → Type 0} {Unread Unread' : Failure → Type 0} (schema : Result SpatialSchema Failure)
    (end : End) → ((failure : Failure) → Unread failure → Unread' failure)
    → ((definitions : SpatialSchema) → Rest definitions → Rest' definitions)
    → AfterSchema schema Rest end Unread → AfterSchema schema Rest' end Unread'
schema-more (Ok definitions) end less more rest = more definitions rest
schema-more (Err failure) end less more rest = (rest.0, less failure rest.1)

serves-more : {E : Type 0} {taken : E → Option (List ℕ)} {failures : E → ℕ} {Ends Ends' : End → Type 0} {status : ℕ} {old new : E}
    → Serves taken failures Ends status old new → ((end : End) → Ends end → Ends' end)
    → Serves taken failures Ends' status old new
serves-more s more = record { end = s.end; ends = more s.end s.ends; returned = s.returned; reported = s.reported }

module _ {F G R : Type 0} (files : Opening G R) (paths : Opening F R) (remaining : R → Option (List ℕ)) (under : G → F)
    (called : (kind : Role) → ((lent : Bor (List ℕ)) → path_of (kind lent) ≡ lent.now)
    → (opener : G) (path : List ℕ) (reader : Option R) (after : G)
    → files kind opener path reader after → paths kind (under opener) path reader (under after)) where
  -- ---- words

  gives : (kind : Role) → ((lent : Bor (List ℕ)) → path_of (kind lent) ≡ lent.now)
      → (Reads : Option R → Result (List ℕ) Failure → Type 0) (opener : G) (word : List ℕ)
      (named : Option (List ℕ)) (text : Result (List ℕ) Failure) (after : G)
      → GivesBy (files kind) Reads opener word named text after
      → GivesBy (paths kind) Reads (under opener) word named text (under after)
  gives kind is Reads opener word None (Ok text) after given = (given.0, ap under given.1)
  gives kind is Reads opener word None (Err failure) after given = (given.0, ap under given.1)
  gives kind is Reads opener word (Some path) text after given =
      (given.0, called kind is opener path given.0 after given.1, given.2)

  over-word : (kind : Role) → ((lent : Bor (List ℕ)) → path_of (kind lent) ≡ lent.now)
      → {Reads : Option R → Result (List ℕ) Failure → Type 0} {opener : G} {word : List ℕ} {Over : G → List ℕ → End → Type 0}
      {Over' : F → List ℕ → End → Type 0} {end : End} {Nothing Nothing' : Type 0}
      → OverWord (files kind) Reads opener word Over end Nothing → (Nothing → Nothing')
      → ((next : G) (text : List ℕ) → Over next text end → Over' (under next) text end)
      → OverWord (paths kind) Reads (under opener) word Over' end Nothing'
  over-word kind is {Reads} {opener} {word} {end = end} w less more = record {
    text = w.text;
    next = under w.next;
    given = gives kind is Reads opener word (file_named word) w.text w.next w.given;
    rest = then-more w.text end less (more w.next) w.rest;
  }

  over-texts : {Over Over' : List ℕ → List ℕ → End → Type 0} {Nothing Nothing' : Type 0} {opener : G} {first second : List ℕ}
      {end : End} → OverTexts files remaining Over Nothing opener first second end → (Nothing → Nothing')
      → ((one other : List ℕ) → Over one other end → Over' one other end)
      → OverTexts paths remaining Over' Nothing' (under opener) first second end
  over-texts w less more =
      over-word role.Geometry (λ lent. refl) w less
      (λ next one v. over-word role.Geometry (λ lent. refl) v less (λ after. more one))

  -- ---- files of tables

  opens : (opener : G) (at : List (List ℕ)) (readers : List R) (after : G) → Opens files opener at readers after
      → Opens paths (under opener) at readers (under after)
  opens opener [] [] after opened = ap under opened
  opens opener (path ∷ at) (reader ∷ readers) after opened = (
    under opened.0,
    called role.Table (λ lent. refl) opener path (Some reader) opened.0 opened.1,
    opens opened.0 at readers after opened.2,
  )
  opens opener _ _ after opened = absurd opened

  opens-tables : (opener : G) (directory : List ℕ) (definitions : SpatialSchema) (readers : Result (List R) Failure) (after : G)
      → OpensTables files opener directory definitions readers after
      → OpensTables paths (under opener) directory definitions readers (under after)
  opens-tables opener directory definitions (Ok readers) after opened =
      opens opener (table_paths directory definitions) readers after opened
  opens-tables opener directory definitions (Err (f.Unreadable name)) after opened = (
    opened.0,
    opened.1,
    under opened.2,
    opens opener _ opened.1 opened.2 opened.3,
    called role.Table (λ lent. refl) opened.2 (table_path directory name.now) None after opened.4,
    opened.5,
  )
  opens-tables opener directory definitions (Err f.OutOfMemory) after opened = tt
  opens-tables opener directory definitions (Err _) after opened = absurd opened

  over-tables : {opener after : G} {directory : List ℕ} {definitions : SpatialSchema} {Over : List (List Record) → End → Type 0}
      {end : End} {Nothing : Type 0} → OverTables files remaining opener after directory definitions Over end Nothing
      → OverTables paths remaining (under opener) (under after) directory definitions Over end Nothing
  over-tables {opener} {after} {directory} {definitions} o =
      record { readers = o.readers; opened = opens-tables opener directory definitions o.readers after o.opened; rest = o.rest }

  over-files : {opener : G} {path : List ℕ} {Over : G → SpatialSchema → End → Type 0} {Over' : F → SpatialSchema → End → Type 0}
      {end : End} {Unread Unread' : Option R → Failure → Type 0} → OverFiles files remaining opener path Over end Unread
      → ((file : Option R) (failure : Failure) → Unread file failure → Unread' file failure)
      → ((next : G) (definitions : SpatialSchema) → Over next definitions end → Over' (under next) definitions end)
      → OverFiles paths remaining (under opener) path Over' end Unread'
  over-files {opener} {path} {end = end} o less more = record {
    file = o.file;
    next = under o.next;
    opened = called role.Schema (λ lent. refl) opener path o.file o.next o.opened;
    schema = o.schema;
    read = o.read;
    rest = schema-more o.schema end (less o.file) (more o.next) o.rest;
  }

  -- ---- explanations

  module _ {E : Type 0} (taken : E → Option (List ℕ)) (failures : E → ℕ) (directory : List ℕ) where
    reads-again : {name : List ℕ} {before after : G} {text : List ℕ} {whole : Bool}
        → ReadsAgain files remaining directory name before after text whole
        → ReadsAgain paths remaining directory name (under before) (under after) text whole
    reads-again {name} {before} {after} r = record {
      reader = r.reader;
      opened = called role.Table (λ lent. refl) before (table_path directory name) (Some r.reader) after r.opened;
      left = r.left;
      front = r.front;
      all = r.all;
    }

    explains-load : {old new : E} {before : G} {definitions : SpatialSchema} {header last : Record} {name : List ℕ}
        {fault : LoadFault}
        → ExplainsLoad files remaining taken failures old new before directory definitions header last name fault
        → ExplainsLoad paths remaining taken failures old new (under before) directory definitions header last name fault
    explains-load l = record {
      explanation = l.explanation;
      explains = let e = l.explains in record {
        place = e.place;
        named = e.named;
        table = e.table;
        there = e.there;
        after = under e.after;
        text = e.text;
        whole = e.whole;
        read = reads-again e.read;
        all = e.all;
        line = e.line;
        says = e.says;
        explains = e.explains;
      };
      written = l.written;
    }

    notes-tables : (names : List (List ℕ)) (before after : G) (old new : E)
        → NotesTables files remaining taken failures directory names before after old new
        → NotesTables paths remaining taken failures directory names (under before) (under after) old new
    notes-tables [] before after old new noted = (ap under noted.0, noted.1)
    notes-tables (name ∷ names) before after old new noted =
        (under noted.0, noted.1, note noted.2, notes-tables names noted.0 after noted.1 new noted.3)
      where
        note : NotesTable files remaining taken failures directory name before noted.0 old noted.1
            → NotesTable paths remaining taken failures directory name (under before) (under noted.0) old noted.1
        note (inl (inl same, none)) = inl (inl (ap under same), none)
        note (inl (inr by, none)) =
            inl (inr (by.0, called role.Table (λ lent. refl) before (table_path directory name) by.0 noted.0 by.1), none)
        note (inr n) = inr (n.0, reads-again n.1, n.2)

    module _ (old new : E) (loaded : G) (header last : Record) (definitions : SpatialSchema) where
      explains-run : (why : Bool) (query : List ℕ) (end : End)
          → ExplainsRun files remaining taken failures old new loaded directory header last why query definitions end
          → ExplainsRun paths remaining taken failures old new (under loaded) directory header last why query definitions end
      explains-run false query end nothing = nothing
      explains-run true query end (inl nothing) = inl nothing
      explains-run true query (Ok done) (inr said) = inr said
      explains-run true query (Err (f.Query fault)) (inr said) = inr said
      explains-run true query (Err (f.Load name fault)) (inr said) = inr (explains-load said)
      explains-run true query (Err _) (inr said) = absurd said

      explains-check : (why : Bool) (end : End)
          → ExplainsCheck files remaining taken failures old new loaded directory header last why definitions end
          → ExplainsCheck paths remaining taken failures old new (under loaded) directory header last why definitions end
      explains-check false end nothing = nothing
      explains-check true (Ok done) notes =
          (under notes.0, notes-tables (table_names definitions) loaded notes.0 old new notes.1)
      explains-check true (Err failure) (inl nothing) = inl nothing
      explains-check true (Err (f.Load name fault)) (inr said) = inr (explains-load said)
      explains-check true (Err _) (inr said) = absurd said

  -- ---- commands

  -- what one sink has of explanations after a command is had of another too
  record Carries {M N : Type 0} (mtaken : M → Option (List ℕ)) (mfailures : M → ℕ) (mold mnew : M)
      (ntaken : N → Option (List ℕ)) (nfailures : N → ℕ) (nold nnew : N) (why : Bool) : Type 0 where
    same : mnew ≡ mold → nnew ≡ nold
    unread : (file : Option R) (failure : Failure) → ExplainsFile mtaken mfailures mold mnew why remaining file failure
        → ExplainsFile ntaken nfailures nold nnew why remaining file failure
    encoding : (word : List ℕ) → MayExplainEncoding mtaken mfailures mold mnew word
        → MayExplainEncoding ntaken nfailures nold nnew word
    text : (text : List ℕ) (end : End) → MayExplainText mtaken mfailures mold mnew text end
        → MayExplainText ntaken nfailures nold nnew text end
    texts : (first second : List ℕ) (end : End) → MayExplainTexts mtaken mfailures mold mnew first second end
        → MayExplainTexts ntaken nfailures nold nnew first second end
    pairs : (known : Option (List ℕ)) (end : End) → MayNotePairs mtaken mfailures mold mnew known end
        → MayNotePairs ntaken nfailures nold nnew known end
    run : (after : G) (directory : List ℕ) (header last : Record) (definitions : SpatialSchema) (query : List ℕ) (end : End)
        → ExplainsRun files remaining mtaken mfailures mold mnew after directory header last why query definitions end
        → ExplainsRun paths remaining ntaken nfailures nold nnew (under after) directory header last why query definitions end
    check : (after : G) (directory : List ℕ) (header last : Record) (definitions : SpatialSchema) (end : End)
        → ExplainsCheck files remaining mtaken mfailures mold mnew after directory header last why definitions end
        → ExplainsCheck paths remaining ntaken nfailures nold nnew (under after) directory header last why definitions end

  module _ {S M N : Type 0} (taken : S → Option (List ℕ)) (failures : S → ℕ) (old new : S)
      (mtaken : M → Option (List ℕ)) (mfailures : M → ℕ) (mold mnew : M) (ntaken : N → Option (List ℕ)) (nfailures : N → ℕ)
      (nold nnew : N) (why : Bool) (carries : Carries mtaken mfailures mold mnew ntaken nfailures nold nnew why) where
    -- nothing is written
    unchanged : (new ≡ old) × (mnew ≡ mold) → (new ≡ old) × (nnew ≡ nold)
    unchanged nothing = (nothing.0, carries.same nothing.1)

    -- a schema's file that isn't read
    ends-unread : (file : Option R) (failure : Failure)
        → EndsUnread files remaining taken failures old new mtaken mfailures mold mnew why file failure
        → EndsUnread paths remaining taken failures old new ntaken nfailures nold nnew why file failure
    ends-unread file failure ends = (ends.0, carries.unread file failure ends.1)

    relates-reader : (file : Option R) (end : End)
        → RelatesReader remaining taken failures old new mtaken mfailures mold mnew file end
        → RelatesReader remaining taken failures old new ntaken nfailures nold nnew file end
    relates-reader None (Ok done) ends = absurd ends
    relates-reader None (Err failure) ends = (ends.0, ends.1, carries.same ends.2)
    relates-reader (Some reader) end ends = (ends.0, carries.pairs (remaining reader) end ends.1)

    -- ---- orders

    serves-order : {E : Type 0} (etaken : E → Option (List ℕ)) (efailures : E → ℕ) (opener : G) (order : Order) (status : ℕ)
        (before after : E)
        → ServesOrder files remaining etaken efailures taken failures old new mtaken mfailures mold mnew why opener order status
        before after
        → ServesOrder paths remaining etaken efailures taken failures old new ntaken nfailures nold nnew why (under opener) order
        status before after
    serves-order etaken efailures opener (orders.Run schema directory query asks) status before after served =
        serves-more served (λ end word.
        over-word role.Query (λ lent. refl) word
        (λ nothing. (nothing.0, carries.encoding (string_bytes query) nothing.1))
        (λ next text runs.
        over-files runs ends-unread
        (λ loaded definitions ran. (
          under ran.0,
          ran.1,
          ran.2,
          over-tables ran.3,
          carries.run ran.0 (string_bytes directory) ran.1 ran.2 definitions text end ran.4,
        ))))
    serves-order etaken efailures opener (orders.Check schema directory asks) status before after served =
        serves-more served (λ end checks.
        over-files checks ends-unread
        (λ loaded definitions checked. (
          under checked.0,
          checked.1,
          checked.2,
          over-tables checked.3,
          carries.check checked.0 (string_bytes directory) checked.1 checked.2 definitions end checked.4,
        )))
    serves-order etaken efailures opener (orders.Relate first second asks) status before after served =
        serves-more served (λ end texts.
        over-texts texts unchanged (λ one other ends. (ends.0, carries.texts one other end ends.1)))
    serves-order etaken efailures opener (orders.Why first (Some second) asks) status before after served =
        serves-more served (λ end texts.
        over-texts texts unchanged (λ one other shows. (shows.0, carries.texts one other end shows.1)))
    serves-order etaken efailures opener (orders.Why first None asks) status before after served =
        serves-more served (λ end word.
        over-word role.Geometry (λ lent. refl) word unchanged
        (λ next text shows. (shows.0, carries.text text end shows.1)))
    serves-order etaken efailures opener (orders.Pairs path asks) status before after served =
        serves-more served (λ end r.
        (r.0, under r.1, called role.Pairs (λ lent. refl) opener (string_bytes path) r.0 r.1 r.2, relates-reader r.0 end r.3))
    serves-order etaken efailures opener (orders.Fault code) status before after served =
        (served.0, carries.same served.1)

-- what an order does with the opener of files, whose members are found first
pub by-paths : {F G R E S M : Type 0} {files : Opening G R} (paths : Opening F R) (remaining : R → Option (List ℕ))
    (etaken : E → Option (List ℕ)) (efailures : E → ℕ)
    (taken : S → Option (List ℕ)) (failures : S → ℕ) (old new : S)
    (mtaken : M → Option (List ℕ)) (mfailures : M → ℕ) (mold mnew : M) (why : Bool) (opener : G) (order : Order) (status : ℕ)
    (before after : E)
    → ServesOrder files remaining etaken efailures taken failures old new mtaken mfailures mold mnew why opener order status
    before after → (under : G → F)
    → ((kind : Role) → ((lent : Bor (List ℕ)) → path_of (kind lent) ≡ lent.now)
    → (state : G) (path : List ℕ) (reader : Option R) (next : G)
    → files kind state path reader next → paths kind (under state) path reader (under next))
    → ServesOrder paths remaining etaken efailures taken failures old new mtaken mfailures mold mnew why (under opener) order
    status before after
by-paths {files = files} paths remaining etaken efailures taken failures old new mtaken mfailures mold mnew why opener order
    status before after served under called =
    serves-order files paths remaining under called taken failures old new mtaken mfailures mold mnew mtaken mfailures mold mnew
    why
    (record {
      same = λ same. same;
      unread = λ file failure said. said;
      encoding = λ word said. said;
      text = λ text end said. said;
      texts = λ first second end said. said;
      pairs = λ known end said. said;
      run = λ loaded directory header last definitions.
          explains-run files paths remaining under called mtaken mfailures directory mold mnew loaded header last definitions why;
      check = λ loaded directory header last definitions.
          explains-check files paths remaining under called mtaken mfailures directory mold mnew loaded header last
          definitions why;
    }) etaken efailures opener order status before after served

-- and where no explanation is asked for
pub by-paths-alone : {F G R E S M : Type 0} {files : Opening G R} (paths : Opening F R) (remaining : R → Option (List ℕ))
    (etaken : E → Option (List ℕ)) (efailures : E → ℕ)
    (taken : S → Option (List ℕ)) (failures : S → ℕ) (old new : S)
    (mtaken : M → Option (List ℕ)) (mfailures : M → ℕ) (mold mnew : M) (opener : G) (order : Order) (status : ℕ)
    (before after : E)
    → ServesOrder files remaining etaken efailures taken failures old new mtaken mfailures mold mnew false opener order status
    before after → (under : G → F)
    → ((kind : Role) → ((lent : Bor (List ℕ)) → path_of (kind lent) ≡ lent.now)
    → (state : G) (path : List ℕ) (reader : Option R) (next : G)
    → files kind state path reader next → paths kind (under state) path reader (under next))
    → ServesAlone paths remaining etaken efailures taken failures old new (under opener) order status before after
by-paths-alone {files = files} paths remaining etaken efailures taken failures old new mtaken mfailures mold mnew opener order
    status before after served under called =
    serves-order files paths remaining under called taken failures old new mtaken mfailures mold mnew (λ none. None) (λ none. 0)
    (tt {0}) (tt {0}) false
    (record {
      same = λ same. refl;
      unread = λ file failure said. refl;
      encoding = λ word said. inl refl;
      text = λ text end said. inl refl;
      texts = λ first second end said. inl (inl refl);
      pairs = λ known end said. inl refl;
      run = λ loaded directory header last definitions query end said. refl;
      check = λ loaded directory header last definitions end said. refl;
    }) etaken efailures opener order status before after served
