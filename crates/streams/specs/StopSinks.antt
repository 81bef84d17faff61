-- What contracts see of a sink that fails on purpose.
use Rattle.std.specs.Prelude.{ℕ, List}
use Rattle.streams.specs.declared.devices.StopSink.{StopSink}

-- the bytes that it took
abbrev pub stop_bytes : StopSink → List ℕ
stop_bytes s = s.bytes.items

-- how often a put failed
abbrev pub stop_failures : StopSink → ℕ
stop_failures s = s.failures

-- how many calls there are up to the failing one, itself among them; 0 where none fails
abbrev pub calls_to_failure : StopSink → ℕ
calls_to_failure s = s.failing_call

-- the most bytes that a call takes
abbrev pub piece_limit : StopSink → ℕ
piece_limit s = s.greatest_piece
