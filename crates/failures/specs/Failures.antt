-- The line and the status of a failure of the program, and the parts of its line.
use Rattle.std.specs.Prelude.{ℕ, Bool, true, false, if◌then◌else◌, List, [], ◌++◌, Option, Some, None, decimal, codes}
use Rattle.table_model.specs.FaultLines.{schema_text, load_text, query_text, geometry_text, memory_text, schema_status, load_status, query_status, line_of}
use Rattle.failures.specs.declared.failure.Failure.{Failure}
use Rattle.failures.specs.declared.failure.Failure.TheVariants as f
use Rattle.failures.specs.declared.failure.GeometryWord.{GeometryWord}
use Rattle.failures.specs.declared.failure.GeometryWord.TheVariants.{First, Second}
use Rattle.failures.specs.declared.failure.FaultWords.{FaultWords}
use Rattle.failures.specs.declared.failure.Words.{Words}

-- what a line calls a geometry of `relate`
abbrev pub word_text : GeometryWord → List ℕ
word_text First = codes "first"
word_text Second = codes "second"

-- the text of a failure
abbrev pub failure_text : Failure → List ℕ
failure_text (f.Schema fault) = schema_text fault
failure_text f.SchemaUnreadable = codes "schema unreadable"
failure_text (f.Load table fault) = load_text table.now fault
failure_text (f.Unreadable name) = name.now ++ codes " unreadable"
failure_text (f.Query fault) = query_text fault
failure_text (f.Refused word fault) = word_text word ++ (codes " " ++ geometry_text fault)
failure_text f.PairsRefused = codes "pairs refused"
failure_text f.UnknownCode = codes "unknown code: there are S1 to S6, L1 to L11, Q1 to Q12, W1 to W4 and V1 to V8"
failure_text f.WriteFailed = codes "write failed"
failure_text f.OutOfMemory = memory_text

-- whether a failure has no line: that pairs are refused, as the answer has their lines
abbrev pub is_silent : Failure → Bool
is_silent f.PairsRefused = true
is_silent _ = false

-- the line of a failure; empty if it has none
abbrev pub failure_line : Failure → List ℕ
failure_line failure = if is_silent failure then [] else line_of (failure_text failure)

-- the line of a failure within an answer: its text, without the program's name
abbrev pub text_line : Failure → List ℕ
text_line failure = failure_text failure ++ codes "\n"

-- a name, a text and a line feed
abbrev pub line_after : List ℕ → List ℕ → List ℕ
line_after name text = name ++ (text ++ codes "\n")

-- the status of a failure: 6 where reading or writing failed, 7 when memory ran out
abbrev pub failure_status : Failure → ℕ
failure_status (f.Schema fault) = schema_status fault
failure_status f.SchemaUnreadable = 6
failure_status (f.Load table fault) = load_status fault
failure_status (f.Unreadable name) = 6
failure_status (f.Query fault) = query_status fault
failure_status (f.Refused word fault) = 5
failure_status f.PairsRefused = 5
failure_status f.UnknownCode = 2
failure_status f.WriteFailed = 6
failure_status f.OutOfMemory = 7

-- a number's digits, and none of no number
abbrev pub digits_of : Option ℕ → List ℕ
digits_of None = codes ""
digits_of (Some n) = decimal n

-- the text of a geometry's fault, where its numbers have these digits
abbrev pub fault_with : FaultWords → List ℕ → List ℕ → List ℕ
fault_with f first second = (f.words.now ++ first) ++ (f.between.now ++ second)

-- the text of a geometry's fault, and of none
abbrev pub fault_text : FaultWords → List ℕ
fault_text f = fault_with f (digits_of f.first) (digits_of f.second)

-- the parts joined, where the numbers have these digits
abbrev pub text_with : Words → List ℕ → List ℕ → List ℕ → List ℕ
text_with w number first second = ((w.table.now ++ w.words.now) ++ number) ++ fault_with w.fault first second

-- the parts joined
abbrev pub words_text : Words → List ℕ
words_text w = text_with w (digits_of w.number) (digits_of w.fault.first) (digits_of w.fault.second)
