-- Faults of schemas, tables and queries in numbers, and the status of a call that is refused.
use Rattle.std.specs.Prelude.{◌≡◌, ◌⊎◌, ℕ, Bool, true, false, Result, Ok, Err}
use Rattle.geometry_model.specs.declared.geometry_faults.GeometryFault.{GeometryFault}
use Rattle.library_calls.specs.Refusals.{fault_in_numbers, first_refused, numbers, ok, out_of_memory}
use Rattle.table_model.specs.declared.faults.LoadFault.{LoadFault}
use Rattle.table_model.specs.declared.faults.LoadFault.TheVariants as load
use Rattle.table_model.specs.declared.faults.QueryFault.{QueryFault}
use Rattle.table_model.specs.declared.faults.QueryFault.TheVariants as query
use Rattle.table_model.specs.declared.faults.SchemaFault.{SchemaFault}
use Rattle.table_model.specs.declared.faults.SchemaFault.TheVariants as schema
use Rattle.sfq_tables.specs.declared.table_faults.TablesFault.{TablesFault}

-- ---- faults in numbers

-- a letter, a number and a place
abbrev pub plain : ℕ → ℕ → ℕ → TablesFault
plain letter number at = record { letter = letter; number = number; at = at; geometry = numbers 0 0 0 0 }

-- the same with the fault of a geometry's text
abbrev pub geometry_fault_at : ℕ → ℕ → ℕ → GeometryFault → TablesFault
geometry_fault_at letter number at why = record { letter = letter; number = number; at = at; geometry = fault_in_numbers why }

-- all 0, where memory ran out
abbrev pub no_fault : TablesFault
no_fault = plain 0 0 0

-- S1 to S6, with the byte where they have one
abbrev pub schema_fault_in_numbers : SchemaFault → TablesFault
schema_fault_in_numbers (schema.Syntax at) = plain 83 1 at
schema_fault_in_numbers (schema.DoubleName at) = plain 83 2 at
schema_fault_in_numbers (schema.NoKey at) = plain 83 3 at
schema_fault_in_numbers (schema.TwoKeys at) = plain 83 4 at
schema_fault_in_numbers (schema.TooMany at) = plain 83 5 at
schema_fault_in_numbers schema.TooLong = plain 83 6 0
schema_fault_in_numbers schema.OutOfMemory = no_fault

-- L1 to L11, with the record where they have one, and L6 with the geometry's fault
abbrev pub load_fault_in_numbers : LoadFault → TablesFault
load_fault_in_numbers load.MissingColumn = plain 76 1 0
load_fault_in_numbers load.DoubleHeader = plain 76 2 0
load_fault_in_numbers (load.UnequalRecord number) = plain 76 3 number
load_fault_in_numbers (load.NotUtf8 number) = plain 76 4 number
load_fault_in_numbers (load.BadInteger number) = plain 76 5 number
load_fault_in_numbers (load.BadGeometry number why) = geometry_fault_at 76 6 number why
load_fault_in_numbers (load.WrongType number) = plain 76 7 number
load_fault_in_numbers (load.NullNotAllowed number) = plain 76 8 number
load_fault_in_numbers (load.DoubleKey number) = plain 76 9 number
load_fault_in_numbers load.TooManyRows = plain 76 10 0
load_fault_in_numbers load.ReadFailed = plain 76 11 0
load_fault_in_numbers load.OutOfMemory = no_fault

-- Q1 to Q12, with the byte where they have one, and Q8 with the geometry's fault
abbrev pub query_fault_in_numbers : QueryFault → TablesFault
query_fault_in_numbers (query.Lex at) = plain 81 1 at
query_fault_in_numbers (query.Syntax at) = plain 81 2 at
query_fault_in_numbers (query.UnknownTable at) = plain 81 3 at
query_fault_in_numbers (query.SameName at) = plain 81 4 at
query_fault_in_numbers (query.UnknownColumn at) = plain 81 5 at
query_fault_in_numbers (query.AmbiguousColumn at) = plain 81 6 at
query_fault_in_numbers (query.TypeMismatch at) = plain 81 7 at
query_fault_in_numbers (query.BadGeometry at why) = geometry_fault_at 81 8 at why
query_fault_in_numbers (query.BadPattern at) = plain 81 9 at
query_fault_in_numbers (query.TooDeep at) = plain 81 10 at
query_fault_in_numbers query.TooLong = plain 81 11 0
query_fault_in_numbers (query.NumberTooBig at) = plain 81 12 at
query_fault_in_numbers query.OutOfMemory = no_fault

-- ---- which are of no text

-- memory ran out
abbrev pub has_failed_schema : SchemaFault → Bool
has_failed_schema (schema.Syntax at) = false
has_failed_schema (schema.DoubleName at) = false
has_failed_schema (schema.NoKey at) = false
has_failed_schema (schema.TwoKeys at) = false
has_failed_schema (schema.TooMany at) = false
has_failed_schema schema.TooLong = false
has_failed_schema schema.OutOfMemory = true

-- memory ran out, or reading failed
abbrev pub has_failed_load : LoadFault → Bool
has_failed_load load.MissingColumn = false
has_failed_load load.DoubleHeader = false
has_failed_load (load.UnequalRecord number) = false
has_failed_load (load.NotUtf8 number) = false
has_failed_load (load.BadInteger number) = false
has_failed_load (load.BadGeometry number why) = false
has_failed_load (load.WrongType number) = false
has_failed_load (load.NullNotAllowed number) = false
has_failed_load (load.DoubleKey number) = false
has_failed_load load.TooManyRows = false
has_failed_load load.ReadFailed = true
has_failed_load load.OutOfMemory = true

-- memory ran out
abbrev pub has_failed_query : QueryFault → Bool
has_failed_query (query.Lex at) = false
has_failed_query (query.Syntax at) = false
has_failed_query (query.UnknownTable at) = false
has_failed_query (query.SameName at) = false
has_failed_query (query.UnknownColumn at) = false
has_failed_query (query.AmbiguousColumn at) = false
has_failed_query (query.TypeMismatch at) = false
has_failed_query (query.BadGeometry at why) = false
has_failed_query (query.BadPattern at) = false
has_failed_query (query.TooDeep at) = false
has_failed_query query.TooLong = false
has_failed_query (query.NumberTooBig at) = false
has_failed_query query.OutOfMemory = true

-- ---- reports

-- the fault is written, or it is of no text and nothing is
abbrev pub IsReported : {F : Type 0} → (F → Bool) → (F → TablesFault) → F → TablesFault → TablesFault → ℕ → Type 0
IsReported has_failed in_numbers found old new status =
    ((has_failed found ≡ true) × (status ≡ out_of_memory) × (new ≡ old))
    ⊎ ((has_failed found ≡ false) × (status ≡ first_refused) × (new ≡ in_numbers found))

-- the status of reading a text where memory is enough
abbrev pub status_of_reading : {Y F : Type 0} → Result Y F → ℕ
status_of_reading (Ok value) = ok
status_of_reading (Err fault) = first_refused

-- the text is refused, and this is its first fault in numbers
abbrev pub IsRefusedWith : {Y F : Type 0} → (F → TablesFault) → Result Y F → TablesFault → Type 0
IsRefusedWith {Y} {F} in_numbers reading new = (fault : F) × (reading ≡ Err fault) × (new ≡ in_numbers fault)
