use Rattle.std.proofs.Common.{◌≡◌, ◌+◌, ◌*◌, ◌-◌}
use Rattle.table_model.specs.declared.faults.QueryFault.TheVariants as fault
use Rattle.table_model.specs.declared.tokens.TokenKind.TheVariants as k
use Rattle.table_model.specs.Parsers.{parts_from, parts}
use Rattle.table_model.specs.QueryReading.{conjunction, negation}
use Rattle.sql_text.proofs.condition.+conditions.Given as goal

abbrev pub decreases-negation : goal.decreases-negation
decreases-negation l = 7 * l.levels

abbrev pub decreases-conjuncts : goal.decreases-conjuncts
decreases-conjuncts l = 7 * l.levels + 1

abbrev pub decreases-conjunction : goal.decreases-conjunction
decreases-conjunction l = 7 * l.levels + 2

abbrev pub decreases-disjuncts : goal.decreases-disjuncts
decreases-disjuncts l = 7 * l.levels + 3

abbrev pub decreases-condition : goal.decreases-condition
decreases-condition l = 7 * l.levels + 4

abbrev pub decreases-group : goal.decreases-group
decreases-group l = 7 * l.levels + 5

abbrev pub decreases-opposite : goal.decreases-opposite
decreases-opposite l = 7 * l.levels + 6

abbrev pub invariant-conjuncts-loop-turn : goal.invariant-conjuncts-loop-turn
invariant-conjuncts-loop-turn l =
    parts fault.Syntax k.And (negation l.levels) l.initial.parts l.fn.tokens
    ≡ parts_from fault.Syntax k.And (negation l.levels) (l._turn-end - l._turn) l.parts l.tokens

abbrev pub invariant-disjuncts-loop-turn : goal.invariant-disjuncts-loop-turn
invariant-disjuncts-loop-turn l =
    parts fault.Syntax k.Or (conjunction (negation l.levels)) l.initial.parts l.fn.tokens
    ≡ parts_from fault.Syntax k.Or (conjunction (negation l.levels)) (l._turn-end - l._turn) l.parts l.tokens
