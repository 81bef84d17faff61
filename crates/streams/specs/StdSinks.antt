-- What contracts see of a sink over a writer.
use Rattle.std.specs.Prelude.{ℕ}
use Rattle.streams.specs.declared.standard.StdSink.{StdSink}

-- the writer below it
abbrev pub writer_under : {W : Type 0} → StdSink W → W
writer_under s = s.writer

-- how often a put or a flush failed
abbrev pub std_failures : {W : Type 0} → StdSink W → ℕ
std_failures s = s.failures
