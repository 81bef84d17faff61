-- The line that the program prints for each fault, and the status with which it ends.
use Rattle.std.specs.Prelude.{ℕ, List, ◌++◌, decimal, codes}
use Rattle.geometry_model.specs.declared.text_faults.TextFault.TheVariants as w
use Rattle.geometry_model.specs.declared.validity_faults.ValidityFault.TheVariants as v
use Rattle.geometry_model.specs.declared.geometry_faults.GeometryFault.{GeometryFault}
use Rattle.geometry_model.specs.declared.geometry_faults.GeometryFault.TheVariants as g
use Rattle.table_model.specs.declared.faults.SchemaFault.{SchemaFault}
use Rattle.table_model.specs.declared.faults.SchemaFault.TheVariants as s
use Rattle.table_model.specs.declared.faults.LoadFault.{LoadFault}
use Rattle.table_model.specs.declared.faults.LoadFault.TheVariants as l
use Rattle.table_model.specs.declared.faults.QueryFault.{QueryFault}
use Rattle.table_model.specs.declared.faults.QueryFault.TheVariants as q

-- what is printed when memory ran out
abbrev pub memory_text : List ℕ
memory_text = codes "out of memory"

-- a schema fault: its code and, except for S6, its byte
abbrev pub schema_text : SchemaFault → List ℕ
schema_text (s.Syntax at) = codes "S1 at " ++ decimal at
schema_text (s.DoubleName at) = codes "S2 at " ++ decimal at
schema_text (s.NoKey at) = codes "S3 at " ++ decimal at
schema_text (s.TwoKeys at) = codes "S4 at " ++ decimal at
schema_text (s.TooMany at) = codes "S5 at " ++ decimal at
schema_text s.TooLong = codes "S6"
schema_text s.OutOfMemory = memory_text

-- a fault of a geometry: its code and, except for W4, its byte, part or parts
abbrev pub geometry_text : GeometryFault → List ℕ
geometry_text (g.Text (w.Syntax at)) = codes "W1 at " ++ decimal at
geometry_text (g.Text (w.OffGrid at)) = codes "W2 at " ++ decimal at
geometry_text (g.Text (w.OutOfRange at)) = codes "W3 at " ++ decimal at
geometry_text (g.Text w.TooLong) = codes "W4"
geometry_text (g.Invalid (v.TooFewPoints part)) = codes "V1 " ++ decimal part
geometry_text (g.Invalid (v.RingNotClosed ring)) = codes "V2 " ++ decimal ring
geometry_text (g.Invalid (v.RingNotSimple ring)) = codes "V3 " ++ decimal ring
geometry_text (g.Invalid (v.RingsMeet i j)) = codes "V4 " ++ (decimal i ++ (codes " " ++ decimal j))
geometry_text (g.Invalid (v.HoleOutside ring)) = codes "V5 " ++ decimal ring
geometry_text (g.Invalid (v.HolesNested i j)) = codes "V6 " ++ (decimal i ++ (codes " " ++ decimal j))
geometry_text (g.Invalid (v.ElementsMeet i j)) = codes "V7 " ++ (decimal i ++ (codes " " ++ decimal j))
geometry_text (g.Invalid (v.ElementInside i j)) = codes "V8 " ++ (decimal i ++ (codes " " ++ decimal j))

-- a fault of loading: the table's name, the code, and the record of a fault that has one
abbrev pub load_text : List ℕ → LoadFault → List ℕ
load_text table l.MissingColumn = table ++ codes " L1"
load_text table l.DoubleHeader = table ++ codes " L2"
load_text table (l.UnequalRecord n) = table ++ codes " L3 record " ++ decimal n
load_text table (l.NotUtf8 n) = table ++ codes " L4 record " ++ decimal n
load_text table (l.BadInteger n) = table ++ codes " L5 record " ++ decimal n
load_text table (l.BadGeometry n f) = table ++ codes " L6 record " ++ decimal n ++ codes " " ++ geometry_text f
load_text table (l.WrongType n) = table ++ codes " L7 record " ++ decimal n
load_text table (l.NullNotAllowed n) = table ++ codes " L8 record " ++ decimal n
load_text table (l.DoubleKey n) = table ++ codes " L9 record " ++ decimal n
load_text table l.TooManyRows = table ++ codes " L10"
load_text table l.ReadFailed = table ++ codes " L11"
load_text table l.OutOfMemory = memory_text

-- a query fault: its code and, except for Q11, its byte
abbrev pub query_text : QueryFault → List ℕ
query_text (q.Lex at) = codes "Q1 at " ++ decimal at
query_text (q.Syntax at) = codes "Q2 at " ++ decimal at
query_text (q.UnknownTable at) = codes "Q3 at " ++ decimal at
query_text (q.SameName at) = codes "Q4 at " ++ decimal at
query_text (q.UnknownColumn at) = codes "Q5 at " ++ decimal at
query_text (q.AmbiguousColumn at) = codes "Q6 at " ++ decimal at
query_text (q.TypeMismatch at) = codes "Q7 at " ++ decimal at
query_text (q.BadGeometry at f) = codes "Q8 at " ++ decimal at ++ codes " " ++ geometry_text f
query_text (q.BadPattern at) = codes "Q9 at " ++ decimal at
query_text (q.TooDeep at) = codes "Q10 at " ++ decimal at
query_text q.TooLong = codes "Q11"
query_text (q.NumberTooBig at) = codes "Q12 at " ++ decimal at
query_text q.OutOfMemory = memory_text

-- the line of a text: the program's name before it, a line feed after it
abbrev pub line_of : List ℕ → List ℕ
line_of text = codes "sfq: " ++ text ++ codes "\n"

-- the status of a schema fault: 3, or 7 if memory ran out
abbrev pub schema_status : SchemaFault → ℕ
schema_status (s.Syntax at) = 3
schema_status (s.DoubleName at) = 3
schema_status (s.NoKey at) = 3
schema_status (s.TwoKeys at) = 3
schema_status (s.TooMany at) = 3
schema_status s.TooLong = 3
schema_status s.OutOfMemory = 7

-- the status of a fault of loading: 4, or 6 if reading failed, or 7 if memory ran out
abbrev pub load_status : LoadFault → ℕ
load_status l.MissingColumn = 4
load_status l.DoubleHeader = 4
load_status (l.UnequalRecord n) = 4
load_status (l.NotUtf8 n) = 4
load_status (l.BadInteger n) = 4
load_status (l.BadGeometry n f) = 4
load_status (l.WrongType n) = 4
load_status (l.NullNotAllowed n) = 4
load_status (l.DoubleKey n) = 4
load_status l.TooManyRows = 4
load_status l.ReadFailed = 6
load_status l.OutOfMemory = 7

-- the status of a query fault: 5, or 7 if memory ran out
abbrev pub query_status : QueryFault → ℕ
query_status (q.Lex at) = 5
query_status (q.Syntax at) = 5
query_status (q.UnknownTable at) = 5
query_status (q.SameName at) = 5
query_status (q.UnknownColumn at) = 5
query_status (q.AmbiguousColumn at) = 5
query_status (q.TypeMismatch at) = 5
query_status (q.BadGeometry at f) = 5
query_status (q.BadPattern at) = 5
query_status (q.TooDeep at) = 5
query_status q.TooLong = 5
query_status (q.NumberTooBig at) = 5
query_status q.OutOfMemory = 7
