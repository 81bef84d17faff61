use Rattle.std.proofs.Common.{◌≡◌}
use Rattle.wkb.specs.BinaryPieces.{repeated, line_onto}
use Rattle.wkb.proofs.apart.lines_onto.Given as goal

abbrev pub invariant-loop-left : goal.invariant-loop-left
invariant-loop-left l = repeated (line_onto l.is_little) l.count l.fn.pieces l.fn.cursor ≡ repeated (line_onto l.is_little) l.left l.pieces l.cursor

abbrev pub decreases-loop-left : goal.decreases-loop-left
decreases-loop-left l = l.left
