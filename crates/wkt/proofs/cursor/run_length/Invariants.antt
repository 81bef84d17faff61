use Rattle.std.proofs.Common.{◌≡◌, ◌+◌, drop}
use Rattle.std.specs.List.{prefix_len}
use Rattle.wkt.specs.ReadingSteps.{of_class}
use Rattle.wkt.proofs.cursor.run_length.Given as goal

abbrev pub invariant-loop-at : goal.invariant-loop-at
invariant-loop-at l = l.at + prefix_len (of_class l.class) (drop l.at l.text) ≡ prefix_len (of_class l.class) l.text
