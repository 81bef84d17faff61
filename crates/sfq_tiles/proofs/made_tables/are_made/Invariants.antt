use Rattle.std.proofs.Common.{ℕ, ◌<◌}
use Rattle.sfq_tiles.specs.MadeTables.{IsMadeAt}
use Rattle.sfq_tiles.proofs.made_tables.are_made.Given as goal

-- the tables before this one are those of the parts
abbrev pub invariant-loop-place : goal.invariant-loop-place
invariant-loop-place l = (place : ℕ) → place < l.place → IsMadeAt l.parts l.tables place
