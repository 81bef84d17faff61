use Rattle.std.proofs.Common.{◌≡◌}
use Rattle.wkb.specs.BinaryPieces.{repeated, member}
use Rattle.wkb.proofs.apart.counted_members.Given as goal

abbrev pub invariant-loop-left : goal.invariant-loop-left
invariant-loop-left l = repeated (member l.element) l.count l.fn.pieces l.fn.cursor ≡ repeated (member l.element) l.left l.pieces l.cursor

abbrev pub decreases-loop-left : goal.decreases-loop-left
decreases-loop-left l = l.left
