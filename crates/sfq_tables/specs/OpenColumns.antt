-- What is said of the statements that are open over a database: their columns, and the row that is there.
use Rattle.std.specs.Prelude.{◌≡◌, ◌≢◌, ◌⊎◌, ◌++◌, ℕ, ℤ, if◌then◌else◌, nat_lt, List, [], ◌∷◌, Option, Some, None, Result, Ok, Err, drop, length, slice_get}
use Rattle.std.specs.Option.{option_and_then, option_map}
use Rattle.kept_tables.specs.KeptTables.{lent}
use Rattle.library_calls.specs.Kept.{status_of_room}
use Rattle.library_calls.specs.Refusals.{none_there, ok, out_of_memory, unknown}
use Rattle.sfq_tables.specs.Connections.{Connected}
use Rattle.sfq_tables.specs.OpenStatements.{statement_at}
use Rattle.sfq_tables.specs.declared.missing.Missing.{Missing}
use Rattle.sfq_tables.specs.declared.missing.Missing.TheVariants as missing
use Rattle.statements.specs.Columns.{column_kind, number_of}
use Rattle.statements.specs.Statements.{row_record}
use Rattle.statements.specs.StatementTexts.{header_of, header_text, row_text}
use Rattle.statements.specs.declared.column_kinds.ColumnKind.{ColumnKind}
use Rattle.statements.specs.declared.column_kinds.ColumnKind.TheVariants as kinds
use Rattle.statements.specs.declared.prepared.Statement.{Statement}
use Rattle.table_model.specs.ExplainTexts.{explain_text}
use Rattle.table_model.specs.Loading.{Record}
use Rattle.table_model.specs.SpatialTables.{SpatialSchema}

-- ---- what isn't there

-- the status where no row is there
abbrev pub no_row : ℕ
no_row = 12

-- the status of what isn't there
abbrev pub status_of_missing : Missing → ℕ
status_of_missing missing.Unknown = unknown
status_of_missing missing.NoRow = no_row
status_of_missing missing.Null = none_there
status_of_missing missing.OutOfMemory = out_of_memory

-- the status of what was looked for
abbrev pub status_of_found : {X : Type 0} → Result X Missing → ℕ
status_of_found (Ok x) = ok
status_of_found (Err why) = status_of_missing why

-- what is there, or why it isn't
abbrev pub or_missing : {X : Type 0} → Missing → Option X → Result X Missing
or_missing why (Some x) = Ok x
or_missing why None = Err why

-- what is asked of a statement, if there is one
abbrev pub of_open : {X : Type 0} → Option Statement → (Statement → Result X Missing) → Result X Missing
of_open (Some statement) asked = asked statement
of_open None asked = Err missing.Unknown

-- ---- texts that are handed out

-- a text is handed out: its length is written, and it at the front of the room, if that is enough
abbrev pub FillsRoom : List ℕ → List ℕ → List ℕ → ℕ → ℕ → Type 0
FillsRoom text room now written status =
    (written ≡ length text) × (status ≡ status_of_room text room)
    × (status ≡ ok → now ≡ text ++ drop (length text) room) × (status ≢ ok → now ≡ room)

-- nothing is written: the room and the length are as they were
abbrev pub IsLeft : List ℕ → List ℕ → ℕ → ℕ → Type 0
IsLeft room now size written = (now ≡ room) × (written ≡ size)

-- a text that was looked for is handed out; where it isn't there, the status says why, and nothing is written
abbrev pub IsHandedOut : {V : Type 0} → (V → List ℕ) → Result V Missing → List ℕ → List ℕ → ℕ → ℕ → ℕ → Type 0
IsHandedOut bytes (Ok text) room now size written status = FillsRoom (bytes text) room now written status
IsHandedOut bytes (Err why) room now size written status = (status ≡ status_of_missing why) × IsLeft room now size written

-- the same, or memory ran out, and nothing is written
abbrev pub HandsOutText : Result (List ℕ) Missing → List ℕ → List ℕ → ℕ → ℕ → ℕ → Type 0
HandsOutText text room now size written status =
    ((status ≡ out_of_memory) × IsLeft room now size written) ⊎ IsHandedOut (λ (t : List ℕ). t) text room now size written status

-- ---- columns

-- how many columns the rows of an open statement have
abbrev pub column_count_of : Connected → ℕ → Option ℕ
column_count_of connected number =
    option_map (λ (s : Statement). length (header_of connected.database.definitions s.bound)) (statement_at connected number)

-- the name of a column, as the header has it (SQL, the select list)
abbrev pub column_name_of : Connected → ℕ → ℕ → Result (List ℕ) Missing
column_name_of connected number column =
    of_open (statement_at connected number)
    (λ s. or_missing missing.Unknown (slice_get (header_of connected.database.definitions s.bound) column))

-- the number of a kind: 0 of integers, 1 of texts, 2 of geometries
abbrev pub kind_number : ColumnKind → ℕ
kind_number kinds.Integer = 0
kind_number kinds.Text = 1
kind_number kinds.Geometry = 2

-- the kind of a column (SQL, the select list)
abbrev pub column_kind_of : Connected → ℕ → ℕ → Option ColumnKind
column_kind_of connected number column =
    option_and_then (λ (s : Statement). column_kind connected.database.definitions s.bound column) (statement_at connected number)

-- the text of the header, as `run` writes it
abbrev pub header_text_of : Connected → ℕ → Result (List ℕ) Missing
header_text_of connected number =
    of_open (statement_at connected number)
    (λ s. Ok (header_text s.bound.explain (header_of connected.database.definitions s.bound)))

-- the text of the plan, as EXPLAIN writes it (SQL, EXPLAIN)
abbrev pub plan_text_of : Connected → ℕ → Result (List ℕ) Missing
plan_text_of connected number = of_open (statement_at connected number) (λ s. Ok (explain_text s.bound s.plan))

-- ---- the row that is there

-- the text of the row that is there, as `run` writes it
abbrev pub row_text_of : Connected → ℕ → Result (List ℕ) Missing
row_text_of connected number =
    of_open (statement_at connected number)
    (λ s. or_missing missing.NoRow (option_map (row_text s.bound.explain) (row_record (lent connected.database) s)))

-- a statement, if its rows have this column
abbrev pub if_column : SpatialSchema → ℕ → Option Statement → Option Statement
if_column definitions column (Some s) = if nat_lt column (length (header_of definitions s.bound)) then Some s else None
if_column definitions column None = None

-- the open statement of a number, if its rows have this column
abbrev pub statement_with : Connected → ℕ → ℕ → Option Statement
statement_with connected number column = if_column connected.database.definitions column (statement_at connected number)

-- a field, if it is there and isn't NULL, which is the empty one (SQL, NULL)
abbrev pub not_null : Option (List ℕ) → Result (List ℕ) Missing
not_null (Some []) = Err missing.Null
not_null (Some (byte ∷ more)) = Ok (byte ∷ more)
not_null None = Err missing.Unknown

-- the field of a column of a row, if one is there
abbrev pub field_in : Option Record → ℕ → Result (List ℕ) Missing
field_in (Some fields) column = not_null (slice_get fields column)
field_in None column = Err missing.NoRow

-- the field of a column of the row that is there, as `run` writes it before quoting (SQL, the select list)
abbrev pub field_text_of : Connected → ℕ → ℕ → Result (List ℕ) Missing
field_text_of connected number column =
    of_open (statement_with connected number column) (λ s. field_in (row_record (lent connected.database) s) column)

-- a number of a row, if one is there
abbrev pub number_in : Option Record → Option ℤ → Result ℤ Missing
number_in (Some fields) number = or_missing missing.Null number
number_in None number = Err missing.NoRow

-- the number in a column of the row that is there; none where it is NULL, and where the column isn't of integers (SQL, the select list)
abbrev pub number_at : Connected → ℕ → ℕ → Result ℤ Missing
number_at connected number column =
    of_open (statement_with connected number column)
    (λ s. number_in (row_record (lent connected.database) s) (number_of (lent connected.database) s column))
