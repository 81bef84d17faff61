-- What a misuse of the command line ends with.
use Rattle.std.specs.Prelude.{ℕ}
use Rattle.clap.specs.declared.error.kind.ErrorKind.{ErrorKind}
use Rattle.clap.specs.declared.error.kind.ErrorKind.TheVariants as kind

-- 0 for help and for the version, 7 when memory ran out, else 2
abbrev pub status_of : ErrorKind → ℕ
status_of kind.DisplayHelp = 0
status_of kind.DisplayVersion = 0
status_of kind.OutOfMemory = 7
status_of _ = 2
