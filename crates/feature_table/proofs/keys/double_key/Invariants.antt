use Rattle.feature_table.proofs.KeyLemmas.{Searched}
use Rattle.feature_table.proofs.keys.double_key.Given as goal

abbrev pub invariant-loop-place : goal.invariant-loop-place
invariant-loop-place l = Searched l.seen l.keys l.place
