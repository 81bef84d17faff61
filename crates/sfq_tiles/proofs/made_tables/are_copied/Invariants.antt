use Rattle.std.proofs.Common.{ℕ, ◌<◌}
use Rattle.std.specs.List.{slice_index_or}
use Rattle.sfq_tiles.specs.MadeTables.{IsCopied}
use Rattle.sfq_tiles.proofs.made_tables.are_copied.Given as goal

-- the columns before this one are copied
abbrev pub invariant-loop-turn : goal.invariant-loop-turn
invariant-loop-turn l = (turn : ℕ) → turn < l.turn → IsCopied l.source (slice_index_or l.places turn 0) l.made turn
