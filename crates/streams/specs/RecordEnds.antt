-- Where a record ends in bytes without quotes, and how many bytes are sure to pass no limit.
use Rattle.std.specs.Prelude.{◌≡◌, ◌+◌, ◌-◌, ◌≤◌, ◌<◌, ℕ, List, true, false, get_or, length}
use Rattle.streams.specs.Bounds.{ends_line, field_limit, fields_limit, is_past, record_limit}
use Rattle.streams.specs.declared.tallies.Tally.{Tally}

-- a record ends before this place: a byte ends a line, and the one before it doesn't
pub record IsRecordEnd (bytes : List ℕ) (end : ℕ) : Type 0 where
  pub two : 2 ≤ end
  pub within : end ≤ length bytes
  pub last : ends_line (get_or bytes (end - 1) 0) ≡ true
  pub before : ends_line (get_or bytes (end - 2) 0) ≡ false

-- so many bytes more can't make a length pass its limit
pub record IsWithin (t : Tally) (more : ℕ) : Type 0 where
  pub fresh : is_past t ≡ false
  pub field : t.field_bytes + more ≤ field_limit
  pub fields : t.ended_fields + more < fields_limit
  pub length : t.record_bytes + more ≤ record_limit
