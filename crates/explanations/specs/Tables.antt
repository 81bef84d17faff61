-- Explanations of faults of tables (this project's choice).
use Rattle.std.specs.Prelude.{◌≡◌, ◌⊎◌, ◌++◌, ◌+◌, ◌-◌, ◌==◌, ℕ, Bool, true, false, List, [], Option, Some, codes, if◌then◌else◌, length, min, nat_lt, slice_index, ◌&&◌}
use Rattle.explanations.specs.Fields.{IsFieldPlace, IsRecordEnd, without_mark}
use Rattle.explanations.specs.Marks.{IsExplanation, IsExplanationBy, IsShown, said}
use Rattle.geometry_model.specs.declared.geometry_faults.GeometryFault.{GeometryFault}
use Rattle.geometry_model.specs.declared.geometry_faults.GeometryFault.TheVariants as g
use Rattle.geometry_model.specs.declared.text_faults.TextFault.TheVariants as w
use Rattle.table_model.specs.declared.faults.LoadFault.{LoadFault}
use Rattle.table_model.specs.declared.faults.LoadFault.TheVariants as fault
use Rattle.table_model.specs.Loading.{row_limit}

-- how many bytes behind the place where its field begins the fault of a geometry is: that of its text, behind the quote before it
abbrev pub quote_at : List ℕ → ℕ → ℕ
quote_at body place = if nat_lt place (length body) && (slice_index body place == 34) then 1 else 0

abbrev pub behind : List ℕ → ℕ → GeometryFault → ℕ
behind body place (g.Text (w.Syntax byte)) = quote_at body place + byte
behind body place (g.Text (w.OffGrid byte)) = quote_at body place + byte
behind body place (g.Text (w.OutOfRange byte)) = quote_at body place + byte
behind body place (g.Text w.TooLong) = 0
behind body place (g.Invalid v) = 0

-- the place of a fault of a geometry, whose field begins at another
abbrev pub IsGeometryPlace : List ℕ → ℕ → GeometryFault → ℕ → Type 0
IsGeometryPlace body number why place =
    (field begin : ℕ) × IsFieldPlace body number field begin × (place ≡ min (begin + behind body begin why) (length body))

-- a place where a field of a record begins
abbrev pub IsInRecord : List ℕ → ℕ → ℕ → Type 0
IsInRecord body number place = (field : ℕ) × IsFieldPlace body number field place

-- the place of a fault in a text without its byte order mark: in the record that the fault names
abbrev pub IsFaultPlace : List ℕ → LoadFault → ℕ → Type 0
IsFaultPlace body fault.MissingColumn place = IsFieldPlace body 0 0 place
IsFaultPlace body fault.DoubleHeader place = IsInRecord body 0 place
IsFaultPlace body (fault.UnequalRecord number) place = IsInRecord body number place ⊎ IsRecordEnd body number place
IsFaultPlace body (fault.NotUtf8 number) place = IsInRecord body number place
IsFaultPlace body (fault.BadInteger number) place = IsInRecord body number place
IsFaultPlace body (fault.BadGeometry number why) place = IsGeometryPlace body number why place
IsFaultPlace body (fault.WrongType number) place = IsInRecord body number place
IsFaultPlace body (fault.NullNotAllowed number) place = IsInRecord body number place
IsFaultPlace body (fault.DoubleKey number) place = IsInRecord body number place
IsFaultPlace body fault.TooManyRows place = IsFieldPlace body (row_limit + 1) 0 place
IsFaultPlace body fault.ReadFailed place = (number : ℕ) × IsInRecord body number place
IsFaultPlace body fault.OutOfMemory place = ⊥

-- whether a caret is below the place of a fault
abbrev pub has_caret : LoadFault → Bool
has_caret fault.MissingColumn = false
has_caret fault.TooManyRows = false
has_caret f = true

-- a place of a text without its byte order mark, in the whole text
abbrev pub in_text : List ℕ → ℕ → ℕ
in_text text place = place + (length text - length (without_mark text))

-- the lines show the place of a fault, or there are none
abbrev pub ShowsFault : List ℕ → LoadFault → List ℕ → Type 0
ShowsFault text f lines =
    (lines ≡ []) ⊎ ((place : ℕ) × IsFaultPlace (without_mark text) f place × IsShown (has_caret f) text (in_text text place) lines)

-- the second text is the first with the line of a sentence behind it, or the same
abbrev pub SaysMore : List ℕ → List ℕ → Type 0
SaysMore before after = (after ≡ before) ⊎ ((sentence : List ℕ) × (after ≡ before ++ said sentence))

-- an explanation of a table's fault: lines that show its place, the line that says what is wrong, and that of a sentence
abbrev pub IsTableExplanation : List ℕ → LoadFault → List ℕ → List ℕ → Type 0
IsTableExplanation text f line explanation = (lines : List ℕ) × ShowsFault text f lines × SaysMore (lines ++ line) explanation

-- what is said of a quote in a record: nothing, or the place of a field and a sentence
abbrev pub IsTableNote : List ℕ → ℕ → List ℕ → Type 0
IsTableNote text number explanation =
    (explanation ≡ []) ⊎ ((place : ℕ) × IsInRecord (without_mark text) number place × IsExplanation text (Some (in_text text place)) explanation)

-- what is said of a quote that isn't closed, in a field of this number, from 1: nothing, or the place of that field and this sentence
abbrev pub open_quote_sentence : List ℕ
open_quote_sentence = codes "the quote that opens here isn't closed: the rest of the file is one field"

abbrev pub IsFieldNote : List ℕ → ℕ → ℕ → List ℕ → Type 0
IsFieldNote text number field explanation =
    (explanation ≡ []) ⊎ ((place : ℕ) × IsFieldPlace (without_mark text) number (field - 1) place
    × IsExplanationBy open_quote_sentence text (Some (in_text text place)) explanation)
