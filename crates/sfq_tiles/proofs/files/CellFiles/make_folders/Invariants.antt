use Rattle.std.proofs.Common.{◌≡◌}
use Rattle.sfq_tiles.proofs.files.CellFiles.make_folders.Given as goal

-- how often a put failed stays
abbrev pub invariant-loop-place : goal.invariant-loop-place
invariant-loop-place l = l.self.failures ≡ l.initial.self.failures
