-- No field of the header before this place has the name.
use Rattle.std.proofs.Common.{None}
use Rattle.csv.specs.Records.{fields_of}
use Rattle.feature_table.proofs.HeaderLemmas.{IsFound}
use Rattle.table_model.specs.Texts.{same_name}
use Rattle.record_reasons.proofs.named_fields.field_named.Given as goal

abbrev pub invariant-loop-place : goal.invariant-loop-place
invariant-loop-place l = IsFound (same_name l.name) (fields_of l.header) l.place None
