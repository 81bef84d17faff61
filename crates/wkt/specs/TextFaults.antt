-- The fault of a text that a fault of reading stands for.
use Rattle.std.specs.Prelude.{Option, Some, None}
use Rattle.geometry_model.specs.declared.text_faults.TextFault.{TextFault}
use Rattle.geometry_model.specs.declared.text_faults.TextFault.TheVariants as text
use Rattle.wkt.specs.declared.wkt_fault.WktFault.{WktFault}
use Rattle.wkt.specs.declared.wkt_fault.WktFault.TheVariants as fault

-- the fault of the text; none where memory ran out
abbrev pub text_fault : WktFault → Option TextFault
text_fault (fault.Syntax at) = Some (text.Syntax at)
text_fault (fault.OffGrid at) = Some (text.OffGrid at)
text_fault (fault.OutOfRange at) = Some (text.OutOfRange at)
text_fault fault.TooLong = Some text.TooLong
text_fault fault.OutOfMemory = None
