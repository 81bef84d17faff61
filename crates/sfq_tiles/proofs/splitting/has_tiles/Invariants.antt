use Rattle.std.proofs.Common.{◌≡◌, false, is_some, take}
use Rattle.std.specs.List.{list_any}
use Rattle.sfq_tiles.proofs.splitting.has_tiles.Given as goal

-- no part before this one has tiles
abbrev pub invariant-loop-part : goal.invariant-loop-part
invariant-loop-part l = list_any (λ part. is_some part.column) (take l.part-index l.parts) ≡ false
