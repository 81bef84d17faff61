-- No ending has the status of what is done.
use Rattle.std.proofs.Common.{◌≡◌, Err, Ok, arith}
use Rattle.failures.specs.Failures.{failure_status}
use Rattle.failures.specs.declared.failure.Failure.{Failure}
use Rattle.failures.specs.declared.failure.Failure.TheVariants as f
use Rattle.sfq_tiles.specs.Endings.{ending_status}
use Rattle.sfq_tiles.specs.Splits.{End, end_status}
use Rattle.sfq_tiles.specs.declared.endings.Ending.{Ending}
use Rattle.sfq_tiles.specs.declared.endings.Ending.TheVariants as e
use Rattle.table_model.specs.FaultLines.{load_status, query_status, schema_status}
use Rattle.table_model.specs.declared.faults.LoadFault.{LoadFault}
use Rattle.table_model.specs.declared.faults.LoadFault.TheVariants as l
use Rattle.table_model.specs.declared.faults.QueryFault.{QueryFault}
use Rattle.table_model.specs.declared.faults.QueryFault.TheVariants as q
use Rattle.table_model.specs.declared.faults.SchemaFault.{SchemaFault}
use Rattle.table_model.specs.declared.faults.SchemaFault.TheVariants as s

some_schema_status : (x : SchemaFault) → schema_status x ≡ 0 → ⊥
some_schema_status (s.Syntax at) h = omega (arith, h)
some_schema_status (s.DoubleName at) h = omega (arith, h)
some_schema_status (s.NoKey at) h = omega (arith, h)
some_schema_status (s.TwoKeys at) h = omega (arith, h)
some_schema_status (s.TooMany at) h = omega (arith, h)
some_schema_status s.TooLong h = omega (arith, h)
some_schema_status s.OutOfMemory h = omega (arith, h)

some_load_status : (x : LoadFault) → load_status x ≡ 0 → ⊥
some_load_status l.MissingColumn h = omega (arith, h)
some_load_status l.DoubleHeader h = omega (arith, h)
some_load_status (l.UnequalRecord n) h = omega (arith, h)
some_load_status (l.NotUtf8 n) h = omega (arith, h)
some_load_status (l.BadInteger n) h = omega (arith, h)
some_load_status (l.BadGeometry n g) h = omega (arith, h)
some_load_status (l.WrongType n) h = omega (arith, h)
some_load_status (l.NullNotAllowed n) h = omega (arith, h)
some_load_status (l.DoubleKey n) h = omega (arith, h)
some_load_status l.TooManyRows h = omega (arith, h)
some_load_status l.ReadFailed h = omega (arith, h)
some_load_status l.OutOfMemory h = omega (arith, h)

some_query_status : (x : QueryFault) → query_status x ≡ 0 → ⊥
some_query_status (q.Lex at) h = omega (arith, h)
some_query_status (q.Syntax at) h = omega (arith, h)
some_query_status (q.UnknownTable at) h = omega (arith, h)
some_query_status (q.SameName at) h = omega (arith, h)
some_query_status (q.UnknownColumn at) h = omega (arith, h)
some_query_status (q.AmbiguousColumn at) h = omega (arith, h)
some_query_status (q.TypeMismatch at) h = omega (arith, h)
some_query_status (q.BadGeometry at g) h = omega (arith, h)
some_query_status (q.BadPattern at) h = omega (arith, h)
some_query_status (q.TooDeep at) h = omega (arith, h)
some_query_status q.TooLong h = omega (arith, h)
some_query_status (q.NumberTooBig at) h = omega (arith, h)
some_query_status q.OutOfMemory h = omega (arith, h)

some_failure_status : (x : Failure) → failure_status x ≡ 0 → ⊥
some_failure_status (f.Schema x) h = some_schema_status x h
some_failure_status f.SchemaUnreadable h = omega (arith, h)
some_failure_status (f.Load shown x) h = some_load_status x h
some_failure_status (f.Unreadable shown) h = omega (arith, h)
some_failure_status (f.Query x) h = some_query_status x h
some_failure_status (f.Refused word x) h = omega (arith, h)
some_failure_status f.PairsRefused h = omega (arith, h)
some_failure_status f.UnknownCode h = omega (arith, h)
some_failure_status f.WriteFailed h = omega (arith, h)
some_failure_status f.OutOfMemory h = omega (arith, h)

some_ending_status : (x : Ending) → ending_status x ≡ 0 → ⊥
some_ending_status (e.Failed x) h = some_failure_status x h
some_ending_status (e.Mistaken said) h = omega (arith, h)
some_ending_status e.Unwritable h = omega (arith, h)

-- so what ends with the status 0 is done
pub is_done : (P : End → Type 0) (end : End) → end_status end ≡ 0 → P end → P (Ok tt)
is_done P (Ok done) h p = p
is_done P (Err ending) h p = absurd (some_ending_status ending h)
