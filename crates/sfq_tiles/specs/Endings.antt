-- Why the program ends early: what it prints then, and its status.
use Rattle.std.specs.Prelude.{◌++◌, ℕ, List, codes}
use denote.Ref.{Bor}
use Rattle.failures.specs.Failures.{failure_line, failure_status}
use Rattle.failures.specs.declared.failure.Failure.TheVariants as failed
use Rattle.sfq_tiles.specs.declared.endings.Ending.{Ending}
use Rattle.sfq_tiles.specs.declared.endings.Ending.TheVariants as e
use Rattle.sfq_tiles.specs.declared.parts.Mistake.{Mistake}
use Rattle.sfq_tiles.specs.declared.parts.Mistake.TheVariants as m
use Rattle.tiles.specs.declared.faults.CopyFault.{CopyFault}
use Rattle.tiles.specs.declared.faults.CopyFault.TheVariants as copy

-- the ending where memory ran out
abbrev pub memory_ending : Ending
memory_ending = e.Failed failed.OutOfMemory

-- the ending of a mistake
abbrev pub ending_of : Mistake → Ending
ending_of m.Memory = memory_ending
ending_of (m.Said text) = e.Mistaken text

-- the line of a word of the command line that is wrong
abbrev pub mistake_line : List ℕ → List ℕ
mistake_line text = codes "error: " ++ text ++ codes "\n"

-- the line of an ending: that of `sfq` where it ends for the same reason
abbrev pub ending_line : Ending → List ℕ
ending_line (e.Failed failure) = failure_line failure
ending_line (e.Mistaken text) = mistake_line text.now
ending_line e.Unwritable = codes "sfq: out unwritable\n"

-- the status of an ending: that of `sfq` where it ends for the same reason, 2 for the command line, 6 where a file can't be written
abbrev pub ending_status : Ending → ℕ
ending_status (e.Failed failure) = failure_status failure
ending_status (e.Mistaken text) = 2
ending_status e.Unwritable = 6

-- the ending of a fault of a second pass over the table of a name
abbrev pub copy_ending : Bor (List ℕ) → CopyFault → Ending
copy_ending name (copy.Load fault) = e.Failed (failed.Load name fault)
copy_ending name copy.Sink = e.Unwritable
