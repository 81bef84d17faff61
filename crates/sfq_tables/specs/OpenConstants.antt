-- The constants of the statements that are open over a database, and values in place of them.
use Rattle.std.specs.Prelude.{◌≡◌, ◌⊎◌, ◌-◌, ◌^◌, ℕ, if◌then◌else◌, List, Option, Some, None, Result, Ok, Err, length, min}
use Rattle.std.specs.Option.{option_and_then, option_map}
use Rattle.std.specs.Str.{IsUtf8}
use Rattle.geometry_model.specs.Geometries.{Geometry}
use Rattle.geometry_model.specs.declared.geometry_faults.GeometryFault.{GeometryFault}
use Rattle.library_calls.specs.Refusals.{first_refused, ok, out_of_memory, unknown}
use Rattle.sfq_tables.specs.Connections.{Connected}
use Rattle.sfq_tables.specs.OpenStatements.{statement_at}
use Rattle.sfq_tables.specs.TableFaults.{geometry_fault_at}
use Rattle.sfq_tables.specs.declared.table_faults.TablesFault.{TablesFault}
use Rattle.statements.specs.BoundConstants.{HasBegunWithPlan, IsEndedOf, StaysAtEnd}
use Rattle.statements.specs.Constants.{Constant, constant_type, constants_of, may_replace, with_constant}
use Rattle.statements.specs.Statements.{IsAtEnd, work_so_far}
use Rattle.statements.specs.declared.prepared.Statement.{Statement}
use Rattle.table_model.specs.RunOutcomes.{ByEveryMatrix}
use Rattle.table_model.specs.SpatialTables.{SpatialDatabase}
use Rattle.table_model.specs.declared.typing.OperandType.{OperandType}
use Rattle.table_model.specs.declared.typing.OperandType.TheVariants as types
use Rattle.table_model.specs.declared.values.Value.TheVariants as values

-- ---- what there is

-- how many constants the query of an open statement has, up to the greatest number of 64 bits (SQL, ON and WHERE)
abbrev pub constant_count_of : Connected → ℕ → Option ℕ
constant_count_of connected number =
    option_map (λ (s : Statement). min (length (constants_of s.bound)) (2 ^ 64 - 1)) (statement_at connected number)

-- the type of a constant, from the left (SQL, ON and WHERE)
abbrev pub constant_type_of : Connected → ℕ → ℕ → Option OperandType
constant_type_of connected number k = option_and_then (λ (s : Statement). constant_type k s.bound) (statement_at connected number)

-- the number of a type: 0 of integers, 1 of texts, 2 of geometries, 3 of NULL
abbrev pub constant_number : OperandType → ℕ
constant_number types.Integer = 0
constant_number types.Text = 1
constant_number types.Geometry = 2
constant_number types.Null = 3

-- ---- a value in place of one

-- the slot has the statement of the query with this value in place of its k-th constant, from the left, with its chosen plan and at its
-- beginning (SQL, ON and WHERE)
pub record HasBound (database : SpatialDatabase) (k : ℕ) (value : Constant) (before : Statement) (slot : Option Statement) : Type 0 where
  pub statement : Statement
  pub bound : statement.bound ≡ with_constant k value before.bound
  pub begun : HasBegunWithPlan database statement
  pub there : slot ≡ Some statement

-- a slot had a statement, and has one of which no row is there and none is to come, nor once it begins anew: its query has the references and
-- items of the one before, and no work is done
pub record HasNoMore (database : SpatialDatabase) (was slot : Option Statement) : Type 0 where
  pub before : Statement
  pub statement : Statement
  pub had : was ≡ Some before
  pub ended : ByEveryMatrix (λ matrix. IsAtEnd matrix database statement)
  pub none : StaysAtEnd database statement
  pub query : IsEndedOf before.bound statement.bound
  pub no_work : work_so_far statement ≡ 0
  pub there : slot ≡ Some statement

-- the status of binding a value where memory is enough: whether there is a statement with a k-th constant that takes the value
abbrev pub status_of_value : ℕ → Constant → Option Statement → ℕ
status_of_value k value (Some statement) = if may_replace (constant_type k statement.bound) value then ok else unknown
status_of_value k value None = unknown

-- ---- texts as values

-- the status of binding a text: its bytes aren't UTF-8; or memory ran out; or the status is that of the value
abbrev pub IsStatusOfText : ℕ → List ℕ → Option Statement → ℕ → Type 0
IsStatusOfText k bytes statement status =
    (¬ (IsUtf8 bytes) × (status ≡ unknown))
    ⊎ (IsUtf8 bytes × ((status ≡ out_of_memory) ⊎ (status ≡ status_of_value k (values.Text bytes) statement)))

-- the status of binding what was read of a geometry's text, where memory is enough: it is refused, or the status is that of the value
abbrev pub status_of_geometry : ℕ → Result Geometry GeometryFault → Option Statement → ℕ
status_of_geometry k (Ok geometry) statement = status_of_value k (values.Geometry geometry) statement
status_of_geometry k (Err fault) statement = first_refused

-- the fault of a geometry's text that is bound: Q8 with it
abbrev pub value_fault_in_numbers : GeometryFault → TablesFault
value_fault_in_numbers why = geometry_fault_at 81 8 0 why
