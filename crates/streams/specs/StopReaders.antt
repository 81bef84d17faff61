-- What contracts see of a reader that fails on purpose.
use Rattle.std.specs.Prelude.{ℕ, List}
use Rattle.streams.specs.declared.devices.StopReader.{StopReader}

-- the bytes that it has yet to give
abbrev pub bytes_left : StopReader → List ℕ
bytes_left r = r.rest.now

-- how many reads there are up to the failing one, itself among them; 0 where none fails
abbrev pub reads_to_failure : StopReader → ℕ
reads_to_failure r = r.failing_read
