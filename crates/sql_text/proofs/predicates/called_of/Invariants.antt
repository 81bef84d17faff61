use Rattle.std.proofs.Common.{◌≡◌, map, length}
use Rattle.sql_text.specs.Predicates.{named_in}
use Rattle.sql_text.proofs.predicates.called_of.Given as goal

abbrev pub invariant-loop-left : goal.invariant-loop-left
invariant-loop-left l = named_in (map (λ row. (row.0.now, row.1)) l.left) l.tokens ≡ named_in (map (λ row. (row.0.now, row.1)) l.fn.table) l.tokens

abbrev pub decreases-loop-left : goal.decreases-loop-left
decreases-loop-left l = length l.left
