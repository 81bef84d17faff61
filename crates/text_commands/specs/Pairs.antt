-- What a run over pairs of geometries writes and returns.
use Rattle.std.specs.Prelude.{◌≡◌, ◌==◌, ◌<◌, ◌+◌, ◌++◌, ◌⊎◌, ℕ, Bool, true, false, List, [], Option, Some, Result, Ok, Err, codes, length, map, take}
use Rattle.std.specs.List.{concat, list_any, prefix_len, slice_index_or}
use Rattle.std.specs.Io.KnownBytes.{Appends}
use Rattle.std.specs.Result.{is_err}
use denote.Ref.{Bor}
use Rattle.csv.specs.declared.reader.Reader.{Reader}
use Rattle.basics.specs.Counts.{one_more}
use Rattle.failures.specs.Failures.{text_line}
use Rattle.failures.specs.declared.failure.Failure.{Failure}
use Rattle.failures.specs.declared.failure.Failure.TheVariants as f
use Rattle.geometry_model.specs.Dimensions.{Matrix}
use Rattle.geometry_model.specs.Patterns.{matrix_text}
use Rattle.text_commands.specs.declared.runs.Pairs.{Pairs}
use Rattle.text_commands.specs.declared.runs.Pairs.TheVariants as ends
use Rattle.streams.specs.Sinks.{AppendsFront}
use Rattle.table_model.specs.Loading.{Record}
use Rattle.table_model.specs.RunOutcomes.{ByEveryMatrix, MatrixOf}
use Rattle.table_model.specs.declared.faults.LoadFault.TheVariants as l
use Rattle.feature_table.specs.Reading.{StillGives}
use Rattle.feature_table.specs.Records.{records_in}
use Rattle.text_commands.specs.Relations.{relation}

-- ---- records

-- the records of a reader: if its bytes are known, those that csv reads from them
abbrev pub AreRead : Option (List ℕ) → List Record → Type 0
AreRead known records = (text : List ℕ) → known ≡ Some text → records ≡ records_in text

-- whether a record is a pair: it has two fields
abbrev pub is_pair : Record → Bool
is_pair fields = length fields == 2

-- the field of a record at a place; empty if there is none
abbrev pub field : Record → ℕ → List ℕ
field fields place = slice_index_or fields place []

-- how many records are pairs before the first that isn't one
abbrev pub pairs_before : List Record → ℕ
pairs_before records = prefix_len is_pair records

-- ---- lines

-- the matrix of the two geometries of a record, or why one of them is refused (06-103r4, 6.1.15.2)
abbrev pub pair_relation : MatrixOf → Record → Result Matrix Failure
pair_relation matrix fields = relation matrix (field fields 0) (field fields 1)

-- the line of a matrix or of a refusal (this project's choice)
abbrev pub relation_line : Result Matrix Failure → List ℕ
relation_line (Ok m) = matrix_text m ++ codes "\n"
relation_line (Err refusal) = text_line refusal

-- the line of a pair
abbrev pub pair_line : MatrixOf → Record → List ℕ
pair_line matrix fields = relation_line (pair_relation matrix fields)

-- the lines of some pairs, in order
abbrev pub pair_lines : MatrixOf → List Record → List ℕ
pair_lines matrix records = concat (map (pair_line matrix) records)

-- the text of some records: the lines of the pairs before the first record that isn't one
abbrev pub pairs_text : MatrixOf → List Record → List ℕ
pairs_text matrix records = pair_lines matrix (take (pairs_before records) records)

-- whether a geometry of a pair is refused
abbrev pub is_refused : MatrixOf → Record → Bool
is_refused matrix fields = is_err (pair_relation matrix fields)

-- ---- ends

-- how a run over pairs ends, some of which may be refused
abbrev pub pairs_end : Bool → Pairs
pairs_end true = ends.SomeRefused
pairs_end false = ends.AllRelated

-- the failure says that the record of this number hasn't two fields
abbrev pub IsUnequal : ℕ → Failure → Type 0
IsUnequal number failure = (name : Bor (List ℕ)) × (name.now ≡ codes "pairs") × (failure ≡ f.Load name (l.UnequalRecord number))

-- the failure says that reading failed, or that memory ran out
abbrev pub IsReadFailure : Failure → Type 0
IsReadFailure failure =
    (failure ≡ f.OutOfMemory) ⊎ ((name : Bor (List ℕ)) × (name.now ≡ codes "pairs") × (failure ≡ f.Load name l.ReadFailed))

-- what a run over records returns and has written: at the end the lines of them all; at the first record that isn't a pair the
-- lines of those before it, with the number of that record; at any other failure a beginning of these lines
abbrev pub RelatesPairs : MatrixOf → List Record → Result Pairs Failure → Option (List ℕ) → Option (List ℕ) → Type 0
RelatesPairs matrix records (Ok pairs) old new =
    (pairs_before records ≡ length records) × Appends old new (pairs_text matrix records) × (pairs ≡ pairs_end (list_any (is_refused matrix) records))
RelatesPairs matrix records (Err failure) old new =
    ((number : ℕ) × IsUnequal number failure × (pairs_before records < length records) × (number ≡ pairs_before records + 1)
    × Appends old new (pairs_text matrix records))
    ⊎ ((IsReadFailure failure ⊎ (failure ≡ f.WriteFailed)) × AppendsFront old new (pairs_text matrix records))

-- how often the sink failed: once more where a line couldn't be written
abbrev pub CountsWrites : {A : Type 0} → Result A Failure → ℕ → ℕ → Type 0
CountsWrites (Err f.WriteFailed) before after = after ≡ one_more before
CountsWrites _ before after = after ≡ before

-- ---- one pair

-- the line of a pair was written, and the Bool says whether it is refused
abbrev pub PutsLine : MatrixOf → Record → Bool → Option (List ℕ) → Option (List ℕ) → Type 0
PutsLine matrix fields refused old new = Appends old new (pair_line matrix fields) × (refused ≡ is_refused matrix fields)

-- a beginning of the line of a pair was written when writing failed, or nothing when memory ran out
abbrev pub StopsAtLine : MatrixOf → Record → Failure → Option (List ℕ) → Option (List ℕ) → Type 0
StopsAtLine matrix fields failure old new =
    ((failure ≡ f.WriteFailed) ⊎ (failure ≡ f.OutOfMemory)) × AppendsFront old new (pair_line matrix fields)

-- whether a failure is that memory ran out
abbrev pub is_memory : Failure → Bool
is_memory f.OutOfMemory = true
is_memory _ = false

-- what writing the line of a refusal returns and does: the whole line was written; or a beginning of it, once more the sink
-- failed; or memory ran out before, and nothing was written
abbrev pub PutsRefusal : Failure → Result Bool Failure → Option (List ℕ) → Option (List ℕ) → ℕ → ℕ → Type 0
PutsRefusal refusal (Ok refused) old new before after =
    (is_memory refusal ≡ false) × (refused ≡ true) × Appends old new (text_line refusal) × (after ≡ before)
PutsRefusal refusal (Err f.WriteFailed) old new before after =
    (is_memory refusal ≡ false) × AppendsFront old new (text_line refusal) × (after ≡ one_more before)
PutsRefusal refusal (Err f.OutOfMemory) old new before after = Appends old new [] × (after ≡ before)
PutsRefusal refusal (Err _) old new before after = ⊥

-- ---- a run on its way

-- the records of known bytes begin with these, and a reader still gives the rest
abbrev pub Begins : {R : Type 0} → (R → Option (List ℕ)) → Option (List ℕ) → Reader R → List Record → Type 0
Begins remaining known reader read =
    (text : List ℕ) → known ≡ Some text → (rest : List Record) × StillGives remaining reader rest × (records_in text ≡ read ++ rest)

-- what a run returns and has written, of some records of the reader
abbrev pub Ends : Option (List ℕ) → Result Pairs Failure → Option (List ℕ) → Option (List ℕ) → Type 0
Ends known result old new =
    (records : List Record) × AreRead known records × ByEveryMatrix (λ matrix. RelatesPairs matrix records result old new)
