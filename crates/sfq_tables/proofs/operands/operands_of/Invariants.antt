use Rattle.std.proofs.Common.{◌≡◌, ◌++◌, drop}
use Rattle.std.specs.List.{enumerate_from, flat_map}
use Rattle.sfq_tables.specs.QueryForms.{operands_in}
use Rattle.sfq_tables.proofs.operands.operands_of.Given as goal

abbrev pub invariant-loop-conjunct : goal.invariant-loop-conjunct
invariant-loop-conjunct l =
    l.found.items ++ flat_map (λ c. operands_in c.0 c.1) (enumerate_from l.conjunct (drop l.conjunct l.conjuncts))
    ≡ flat_map (λ c. operands_in c.0 c.1) (enumerate_from 0 l.conjuncts)
