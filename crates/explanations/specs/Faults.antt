-- The places of faults in their texts.
use Rattle.std.specs.Prelude.{ℕ, Option, Some, None}
use Rattle.geometry_model.specs.declared.text_faults.TextFault.{TextFault}
use Rattle.geometry_model.specs.declared.text_faults.TextFault.TheVariants as w
use Rattle.table_model.specs.declared.faults.QueryFault.{QueryFault}
use Rattle.table_model.specs.declared.faults.QueryFault.TheVariants as q
use Rattle.table_model.specs.declared.faults.SchemaFault.{SchemaFault}
use Rattle.table_model.specs.declared.faults.SchemaFault.TheVariants as s

-- the byte of a geometry's text at which its fault is; none of a text that is too long
abbrev pub text_place : TextFault → Option ℕ
text_place (w.Syntax place) = Some place
text_place (w.OffGrid place) = Some place
text_place (w.OutOfRange place) = Some place
text_place w.TooLong = None

-- the byte of a query at which its fault is: that of the string, for a fault of a geometry in it; none of a query that is too long
abbrev pub query_place : QueryFault → Option ℕ
query_place (q.Lex at) = Some at
query_place (q.Syntax at) = Some at
query_place (q.UnknownTable at) = Some at
query_place (q.SameName at) = Some at
query_place (q.UnknownColumn at) = Some at
query_place (q.AmbiguousColumn at) = Some at
query_place (q.TypeMismatch at) = Some at
query_place (q.BadGeometry at why) = Some at
query_place (q.BadPattern at) = Some at
query_place (q.TooDeep at) = Some at
query_place (q.NumberTooBig at) = Some at
query_place q.TooLong = None
query_place q.OutOfMemory = None

-- the byte of a schema at which its fault is; none of a schema that is too long
abbrev pub schema_place : SchemaFault → Option ℕ
schema_place (s.Syntax at) = Some at
schema_place (s.DoubleName at) = Some at
schema_place (s.NoKey at) = Some at
schema_place (s.TwoKeys at) = Some at
schema_place (s.TooMany at) = Some at
schema_place s.TooLong = None
schema_place s.OutOfMemory = None
