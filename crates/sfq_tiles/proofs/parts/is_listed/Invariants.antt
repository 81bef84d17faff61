use Rattle.std.proofs.Common.{◌≡◌, false, take}
use Rattle.std.specs.Prelude.{slice_get}
use Rattle.std.specs.List.{list_any}
use Rattle.sfq_tiles.specs.Words.{is_called}
use Rattle.sfq_tiles.proofs.parts.is_listed.Given as goal

-- none of the names before this one is the column's
abbrev pub invariant-loop-name : goal.invariant-loop-name
invariant-loop-name l =
    list_any (λ name. is_called name.now (slice_get l.table.columns l.place)) (take l.name-index l.names) ≡ false
