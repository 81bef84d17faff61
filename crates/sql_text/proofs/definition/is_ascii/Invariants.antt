use Rattle.std.proofs.Common.{◌≡◌, drop}
use Rattle.table_model.specs.SchemaReading as spec
use Rattle.sql_text.proofs.definition.is_ascii.Given as goal

abbrev pub invariant-loop-byte : goal.invariant-loop-byte
invariant-loop-byte l = spec.is_ascii (drop l.byte-index l.bytes) ≡ spec.is_ascii l.bytes
