-- What contracts see of a sink over memory.
use Rattle.std.specs.Prelude.{ℕ, List}
use Rattle.streams.specs.declared.memory.MemorySink.{MemorySink}

-- the bytes that it took
abbrev pub memory_bytes : MemorySink → List ℕ
memory_bytes s = s.bytes.items

-- how often a put failed
abbrev pub memory_failures : MemorySink → ℕ
memory_failures s = s.failures
