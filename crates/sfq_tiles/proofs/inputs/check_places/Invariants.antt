use Rattle.std.proofs.Common.{ℕ, ◌<◌}
use Rattle.sfq_tiles.specs.Checks.{IsCheckedAt}
use Rattle.sfq_tiles.proofs.inputs.check_places.Given as goal

-- the tables before this one were checked
abbrev pub invariant-loop-place : goal.invariant-loop-place
invariant-loop-place g l =
    (earlier : ℕ) → earlier < l.place → IsCheckedAt (g.I.Sources.bytes l.sources) l.directory l.schema earlier
