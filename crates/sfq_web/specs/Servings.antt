-- What words order over files that are handed in, and what came of it.
use Rattle.std.specs.Prelude.{◌≡◌, ◌≢◌, ◌⊎◌, ◌++◌, ℕ, Bool, false, if◌then◌else◌, length, List, [], Option, Some, None, IfSome, Any, IsUtf8}
use Rattle.std.specs.Option.{option_map}
use Rattle.std.specs.String.{string_bytes}
use denote.Ref.{Bor}
use Rattle.clap.specs.Words.{HasKind, fault_of, kind_of}
use Rattle.command_line.specs.CommandWords.{sfq}
use Rattle.command_line.specs.Misuses.{status_of}
use Rattle.command_line.specs.Orders.{Orders, asks_why, with_why}
use Rattle.command_line.specs.declared.known_commands.Order.{Order}
use Rattle.command_line.specs.declared.misuse.Misuse.{Misuse}
use Rattle.engine.specs.Commands.{ServesOrder}
use Rattle.failures.specs.Failures.{failure_status}
use Rattle.failures.specs.declared.failure.Failure.TheVariants as f
use Rattle.library_calls.specs.Explained.{HandsOut}
use Rattle.library_calls.specs.Refusals.{too_small}
use Rattle.streams.specs.MemorySinks.{memory_bytes, memory_failures}
use Rattle.streams.specs.declared.memory.MemorySink.{MemorySink}
use Rattle.sfq_web.specs.HandedFiles.{AreFiles, Handed, IsNotHandedAs, OpensHanded, bytes_in, found_of, is_there}
use Rattle.sfq_web.specs.Pieces.{pieces}
use Rattle.sfq_web.specs.declared.handed_files.Found.{Found}
use Rattle.sfq_web.specs.declared.handed_files.HandedFile.{HandedFile}
use Rattle.sfq_web.specs.declared.handed_files.HandedReader.{HandedReader}
use Rattle.sfq_web.specs.declared.handed_in.Given.{Given}
use Rattle.sfq_web.specs.declared.handed_in.HandedIn.{HandedIn}
use Rattle.sfq_web.specs.declared.handing.Handing.{Handing}
use Rattle.sfq_web.specs.declared.handing.Missed.{Missed}
use Rattle.sfq_web.specs.declared.serve_call.Said.{Said}
use Rattle.sfq_web.specs.declared.served.Served.{Served}
use Rattle.sfq_web.specs.declared.served.Served.TheVariants as served
use Rattle.sfq_web.specs.declared.served.Written.{Written}

-- these files, and standard input, if that is handed in
abbrev pub handed_of : List HandedFile → Option (Bor (List ℕ)) → Handed
handed_of files input = record { files = files; input = option_map (λ text. text.now) input }

-- the files of an opener
abbrev pub handed : Handing → Handed
handed handing = handed_of handing.files.now handing.input

-- the bytes that a reader of a file has yet to give are known
abbrev pub known_in : HandedReader → Option (List ℕ)
known_in reader = Some (bytes_in reader)

-- and those that a sink over memory took
abbrev pub known_bytes : MemorySink → Option (List ℕ)
known_bytes sink = Some (memory_bytes sink)

-- doing what an order says over the files that are handed in, and explaining it if the order asks why, by sinks over memory: of the answer, of
-- explanations, and of the line of a failure, each before and after
abbrev pub ServesHanded : MemorySink → MemorySink → MemorySink → MemorySink → Handed → Order → ℕ → MemorySink → MemorySink → Type 0
ServesHanded old new mold mnew files order =
    ServesOrder OpensHanded known_in known_bytes memory_failures known_bytes memory_failures old new known_bytes memory_failures mold mnew
    (asks_why order) files order

-- an order, which is made to ask why where a caller does
abbrev pub asking : Bool → Order → Order
asking asks order = if asks then with_why order else order

-- doing an order over the files gives this status; its sinks of the answer, of the line of a failure and of explanations had nothing before, and are
-- these then
pub record EndsOrder (order : Order) (files : Handed) (status : ℕ) (out err said : MemorySink) : Type 0 where
  pub old_out : MemorySink
  pub old_err : MemorySink
  pub old_said : MemorySink
  pub no_out : memory_bytes old_out ≡ []
  pub no_err : memory_bytes old_err ≡ []
  pub no_said : memory_bytes old_said ≡ []
  pub serves : ServesHanded old_out out old_said said files order status old_err err

-- the status of a command that can't open or read a file
abbrev pub unread_status : ℕ
unread_status = failure_status f.SchemaUnreadable

-- doing an order over the files has written these texts to standard output and standard error, whole, and gives this status; what explains its end
-- is what was written of that, unless that is nothing and a file can't be opened or read, and is nothing where the order doesn't ask why
pub record DoesOrder (order : Order) (files : Handed) (status : ℕ) (out err more : List ℕ) : Type 0 where
  pub new_out : MemorySink
  pub new_err : MemorySink
  pub new_said : MemorySink
  pub ends : EndsOrder order files status new_out new_err new_said
  pub out_is : out ≡ memory_bytes new_out
  pub err_is : err ≡ memory_bytes new_err
  pub whole_out : memory_failures new_out ≡ 0
  pub whole_err : memory_failures new_err ≡ 0
  pub explained : (more ≡ memory_bytes new_said) ⊎ ((memory_bytes new_said ≡ []) × (status ≡ unread_status))
  pub unasked : asks_why order ≡ false → more ≡ []

-- doing an order over the files ends with that status
abbrev pub FailsOrder : Order → Handed → Type 0
FailsOrder order files = (out err said : MemorySink) × EndsOrder order files unread_status out err said

-- the words are an order, which asks why where the caller does, and it was done
abbrev pub ServesWords : List (List ℕ) → Bool → Handed → ℕ → List ℕ → List ℕ → List ℕ → Type 0
ServesWords words asks files status out err more = (order : Order) × Orders words order × DoesOrder (asking asks order) files status out err more

-- the words are an order, which asks why where the caller does, and doing it over the files ends with the status of a file that can't be opened or
-- read
abbrev pub FailsWords : List (List ℕ) → Bool → Handed → Type 0
FailsWords words asks files = (order : Order) × Orders words order × FailsOrder (asking asks order) files

-- the file that an order misses, as what it is for the command, isn't handed in, if its path is known
abbrev pub IsMissed : Handed → Missed → Type 0
IsMissed files missed = IfSome missed.path (λ path. IsNotHandedAs files missed.role (string_bytes path))

-- the words are no order: `clap` names a kind of misuse, whose status this is, or memory ran out
abbrev pub IsMisuse : List (List ℕ) → ℕ → Type 0
IsMisuse words status = (misuse : Misuse) × HasKind (fault_of sfq words) misuse.error × (status ≡ status_of (kind_of misuse.error))

-- of what is written with a status in place of an order, help and the version are for standard output, all else is for standard error, and nothing
-- explains it (the streams: as clap prints)
abbrev pub IsOnItsStream : ℕ → List ℕ → List ℕ → List ℕ → Type 0
IsOnItsStream status out err more = (status ≡ 0 → err ≡ []) × (status ≢ 0 → out ≡ []) × (more ≡ [])

-- the words are no order, this is the status of why, and these texts are written in place of it
abbrev pub IsMisuseOf : List (List ℕ) → ℕ → List ℕ → List ℕ → List ℕ → Type 0
IsMisuseOf words status out err more = IsMisuse words status × IsOnItsStream status out err more

-- what came of words
abbrev pub IsServed : List (List ℕ) → Bool → Handed → Served → Type 0
IsServed words asks files (served.Done w) =
    ServesWords words asks files w.status (memory_bytes w.out) (memory_bytes w.err) (memory_bytes w.more)
IsServed words asks files (served.Misused w) = IsMisuseOf words w.status (memory_bytes w.out) (memory_bytes w.err) (memory_bytes w.more)
IsServed words asks files (served.Missing missed) = FailsWords words asks files × IsMissed files missed

-- standard input, if that is handed in
abbrev pub input_of : Found → List ℕ → Option (List ℕ)
input_of found input = if is_there found then Some input else None

-- texts that are handed in one after another
abbrev pub texts_in : Given → List (List ℕ)
texts_in given = pieces given.text.now given.lengths.now

-- the files that are handed in with a command line, with their paths, and standard input
abbrev pub AreHanded : HandedIn → Handed → Type 0
AreHanded it files =
    AreFiles files.files (texts_in it.paths) (texts_in it.texts) it.found.now × (files.input ≡ input_of (found_of it.input_found) it.input.now)

-- ---- what is handed out

-- doing what the words order, over the files that are handed in with them, has written these texts, and gives this status
abbrev pub ServesGiven : HandedIn → ℕ → List ℕ → List ℕ → List ℕ → Type 0
ServesGiven it status out err more =
    (files : Handed) × AreHanded it files × ServesWords (texts_in it.words) it.asks files status out err more

-- doing the order of the words ends so over the files, and what this number says for a command isn't handed in at this path
abbrev pub MissesFile : List (List ℕ) → Bool → Handed → ℕ → List ℕ → Type 0
MissesFile words asks files number path = FailsWords words asks files × IsNotHandedAs files number path

-- doing what the words order ends so over the files that are handed in with them
abbrev pub MissesGiven : HandedIn → ℕ → List ℕ → Type 0
MissesGiven it number path = (files : Handed) × AreHanded it files × MissesFile (texts_in it.words) it.asks files number path

-- one of these texts isn't UTF-8
abbrev pub HasNoString : List (List ℕ) → Type 0
HasNoString texts = Any (λ text. ¬ IsUtf8 text) texts

-- one of the words or paths isn't UTF-8, or there is another number of texts, or of numbers of what was found, than of paths
abbrev pub IsUnfit : HandedIn → Type 0
IsUnfit it =
    HasNoString (texts_in it.words) ⊎ HasNoString (texts_in it.paths) ⊎ (length (texts_in it.texts) ≢ length (texts_in it.paths))
    ⊎ (length it.found.now ≢ length (texts_in it.paths))

-- three texts of a command are handed out, one after another, with the lengths of the first two
pub record HandsOutTexts (Are : ℕ → List ℕ → List ℕ → List ℕ → Type 0) (old new : List ℕ) (said : Said) (status : ℕ) : Type 0 where
  pub out : List ℕ
  pub err : List ℕ
  pub more : List ℕ
  pub are : Are said.code out err more
  pub out_is : said.out ≡ length out
  pub err_is : said.err ≡ length err
  pub handed_out : HandsOut (λ text. text ≡ (out ++ err) ++ more) old new said.size status

-- the path of a file is handed out, as what the number says for a command, and there are no texts
pub record HandsOutPath (Is : ℕ → List ℕ → Type 0) (old new : List ℕ) (said : Said) (status : ℕ) : Type 0 where
  pub no_out : said.out ≡ 0
  pub no_err : said.err ≡ 0
  pub handed_out : HandsOut (Is said.code) old new said.size status

-- the room is too small for what is to be handed out, whose size is said: the texts of a command, or the path of a file that isn't handed in
abbrev pub LacksRoom : HandedIn → List ℕ → List ℕ → Said → Type 0
LacksRoom it old new said =
    HandsOutTexts (ServesGiven it) old new said too_small
    ⊎ HandsOutTexts (IsMisuseOf (texts_in it.words)) old new said too_small
    ⊎ HandsOutPath (MissesGiven it) old new said too_small

-- ---- steps by which it is found

-- what came of an order
abbrev pub IsDone : Order → Handed → Served → Type 0
IsDone order files (served.Done w) = DoesOrder order files w.status (memory_bytes w.out) (memory_bytes w.err) (memory_bytes w.more)
IsDone order files (served.Misused w) = ⊥
IsDone order files (served.Missing missed) = FailsOrder order files × IsMissed files missed

-- what came of words that are no order
abbrev pub IsMisusedAs : Misuse → Served → Type 0
IsMisusedAs misuse (served.Done w) = ⊥
IsMisusedAs misuse (served.Misused w) =
    (w.status ≡ status_of (kind_of misuse.error)) × IsOnItsStream w.status (memory_bytes w.out) (memory_bytes w.err) (memory_bytes w.more)
IsMisusedAs misuse (served.Missing missed) = ⊥

-- what came of the words over the files that are handed in with them
abbrev pub IsServedOver : HandedIn → Served → Type 0
IsServedOver it served = (files : Handed) × AreHanded it files × IsServed (texts_in it.words) it.asks files served

-- these texts were written, with this status
abbrev pub AreWritten : Written → ℕ → List ℕ → List ℕ → List ℕ → Type 0
AreWritten w status out err more =
    (status ≡ w.status) × (out ≡ memory_bytes w.out) × (err ≡ memory_bytes w.err) × (more ≡ memory_bytes w.more)

-- the number says what a file that an order misses is for the command, and the text is its path
abbrev pub IsPathOf : Missed → ℕ → List ℕ → Type 0
IsPathOf missed number text = (number ≡ missed.role) × (option_map string_bytes missed.path ≡ Some text)
